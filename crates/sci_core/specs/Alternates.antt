-- The transactions of a node about a line, as a schedule makes them: an ask, a Serve or Refuse that takes the request,
-- and an Accept that takes the answer.
use Rattle.std.specs.Prelude.{◌≡◌, ℕ, if◌then◌else◌, List, [], ◌∷◌, slice_get, Option, Some, None, option_map}
use Rattle.sci_words.specs.declared.event.Event.{Event}
use Rattle.sci_cache.specs.Cache.{Letter}
use Rattle.sci_core.specs.{declared.lane.LaneKind.TheVariants.{Requests, Answers}, Size.{Size}, Node.{node_asking}}
use Rattle.sci_core.specs.{Core.{Core, along, node_at, lane_of, stepping, opening}, Sharing.{is_about}}
use Rattle.sci_words.specs.declared.event.Event.TheVariants as event

-- what an event does for a transaction, with its control number
pub data Mark : Type 0 where
  Asked : (control : ℕ) → Mark
  Taken : (control : ℕ) → Mark
  Accepted : (control : ℕ) → Mark

-- the packet that an event sends or takes for a transaction, with what is done
abbrev pub mark_of : Core → Event → Option (Mark × Letter)
mark_of core (event.Ask n line kind) = option_map (λ sent. (Asked sent.1.control, sent.1)) (node_asking (node_at core n) line kind)
mark_of core (event.Serve from n) = option_map (λ letter. (Taken letter.control, letter)) (slice_get (lane_of core Requests from n) 0)
mark_of core (event.Refuse from n) = option_map (λ letter. (Taken letter.control, letter)) (slice_get (lane_of core Requests from n) 0)
mark_of core (event.Accept from n) = option_map (λ letter. (Accepted letter.control, letter)) (slice_get (lane_of core Answers from n) 0)
mark_of core _ = None

abbrev pub marks_about : ℕ → ℕ → Option (Mark × Letter) → List Mark
marks_about n line None = []
marks_about n line (Some mark) = if is_about n line mark.1 then mark.0 ∷ [] else []

-- the marks of an event on node n and a line: none if it is not enabled
abbrev pub marks_of : Core → Event → ℕ → ℕ → List Mark
marks_of core e n line = elim (stepping core e) [ None ↦ [] | Some next ↦ marks_about n line (mark_of core e) ]

-- those of a list of events, from a state on
abbrev pub trace : Core → List Event → ℕ → ℕ → List Mark
trace core events n line = along (λ at e. marks_of at e n line) core events

-- how far a transaction is
pub data Phase : Type 0 where
  Idle : Phase
  Sent : (control : ℕ) → Phase
  Served : (control : ℕ) → Phase

-- asks, takings and acceptances in turn, each three with one control number
abbrev pub IsAlternating : Phase → List Mark → Type 0
IsAlternating phase [] = Unit {0}
IsAlternating Idle (Asked c ∷ marks) = IsAlternating (Sent c) marks
IsAlternating (Sent c) (Taken d ∷ marks) = (d ≡ c) × IsAlternating (Served c) marks
IsAlternating (Served c) (Accepted d ∷ marks) = (d ≡ c) × IsAlternating Idle marks
IsAlternating phase (mark ∷ marks) = ⊥

abbrev pub Alternates : Size → List Event → ℕ → ℕ → Type 0
Alternates size schedule n line = IsAlternating Idle (trace (opening size) schedule n line)
