-- First come, first served: who waits before the authority of a line, whom the line's home lets in, and who becomes the
-- authority.
use Rattle.std.specs.Prelude.{◌≡◌, ℕ, Bool, true, false, not, ◌&&◌, ◌==◌, if◌then◌else◌, List, [], ◌∷◌, ◌++◌, filter, reverse, slice_get, Option, Some}
use Rattle.std.specs.{Prelude.{None, is_some}, List.{range_with_len}}
use Rattle.sci_words.specs.declared.event.Event.{Event}
use Rattle.sci_packets.specs.declared.body.Body.{Body, TheVariants.{Mread, Fread}}
use Rattle.sci_cache.specs.{Cache.{Letter}, Member.{contents_held}}
use Rattle.sci_core.specs.{declared.lane.LaneKind.TheVariants.{Requests}, Size.{Size}}
use Rattle.sci_core.specs.{Core.{Core, along, lane_of, opening, step, stepping}, Shape.{IsAuthority}}
use Rattle.sci_core.specs.{Sharing.{settled_at}, SharingList.{IsSharingList}}
use Rattle.sci_words.specs.declared.event.Event.TheVariants as event

-- The nodes that wait on a line, the next authority first: the members of its list before the authority,
-- from the one directly before it to the front. Nobody waits if the line has no list.
pub data AreWaiting (core : Core) (line : ℕ) (waiting : List ℕ) : Type 0 where
  Nobody : IsSharingList core line [] → waiting ≡ [] → AreWaiting core line waiting
  Before : (authority : ℕ) (after : List ℕ) → IsSharingList core line (reverse waiting ++ authority ∷ after) → IsAuthority core line authority
      → AreWaiting core line waiting

-- ---- who comes

-- the requests by which a node enters a list
abbrev pub enters : Body → Bool
enters Mread = true
enters Fread = true
enters _ = false

-- the node that such a request about a line is from
abbrev pub entrant_by : ℕ → Option Letter → List ℕ
entrant_by line None = []
entrant_by line (Some request) = if (request.line == line) && enters request.body then request.source ∷ [] else []

-- the node that the line's home serves so by an event: none if the event isn't an enabled Serve of such a request
abbrev pub entrants : Core → Event → ℕ → List ℕ
entrants core (event.Serve from n) line =
    elim (stepping core (event.Serve from n)) as (λ _. List ℕ) [ None ↦ [] | Some new ↦ entrant_by line (slice_get (lane_of core Requests from n) 0) ]
entrants core _ line = []

-- the nodes that the home serves so, in its order
abbrev pub entered : Core → List Event → ℕ → List ℕ
entered core events line = along (λ at e. entrants at e line) core events

-- ---- who is served

abbrev pub is_authority : Core → ℕ → ℕ → Bool
is_authority core line n = is_some (contents_held (settled_at core line n))

-- the nodes that are the authority in the second state, and were not in the first
abbrev pub successors : Core → Core → ℕ → List ℕ
successors core new line = filter (λ n. not (is_authority core line n) && is_authority new line n) (range_with_len 0 core.size.nodes)

-- the nodes that become the authority, in that order
abbrev pub succeeded : Core → List Event → ℕ → List ℕ
succeeded core events line = along (λ at e. successors at (step at e) line) core events

-- ---- first come, first served

-- The first of those who wait becomes the authority, if anyone does, and the node that is let in waits last: a queue.
abbrev pub IsInTurn : Core → Event → ℕ → List ℕ → List ℕ → Type 0
IsInTurn core e line waiting then_ = waiting ++ entrants core e line ≡ successors core (step core e) line ++ then_

-- of a whole schedule: the nodes become the authority in the order in which the home let them in, and those that have
-- not become it yet wait
abbrev pub AreInTurn : Size → List Event → ℕ → List ℕ → Type 0
AreInTurn size schedule line waiting = entered (opening size) schedule line ≡ succeeded (opening size) schedule line ++ waiting
