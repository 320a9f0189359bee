-- What a node does in a turn, and what is reported of it.
use Rattle.std.specs.Prelude.{◌≡◌, ℕ, ◌+◌, nat_lt, Bool, true, false, not, ◌&&◌, ◌||◌, ◌==◌, is_none, if◌then◌else◌, List, count_by, Option, Some, None}
use Rattle.std.specs.{Prelude.{IfSome, IsSome}, List.{list_any}}
use Rattle.sci_words.specs.declared.{event.Event.{Event}}
use Rattle.sci_core.specs.{Core.{node_of}, Node.{NodeOf, node_performing}}
use Rattle.sci_policy.specs.declared.decision.Decision.{Decision, TheVariants.{Keep, Refuse, Serve}}
use Rattle.sci_policy.specs.declared.progress.Progress.{Progress}
use Rattle.sci_words.specs.declared.event.Event.TheVariants as event

-- ---- the events of a turn

abbrev pub is_accept : Event → Bool
is_accept (event.Accept from n) = true
is_accept _ = false

-- a request is taken: served, or refused
abbrev pub is_service : Event → Bool
is_service (event.Serve from n) = true
is_service (event.Refuse from n) = true
is_service _ = false

abbrev pub is_reply : Event → Bool
is_reply (event.Reply n) = true
is_reply _ = false

abbrev pub is_ask : Event → Bool
is_ask (event.Ask n line kind) = true
is_ask _ = false

-- an event of this node that a turn may make: no Issue, and no Perform
pub record IsTurnEvent (n : ℕ) (e : Event) : Type 0 where
  pub own : node_of e ≡ n
  pub kind : (is_accept e || (is_service e || (is_reply e || is_ask e))) ≡ true

-- the event by which node n takes a request from another, or none if it is kept
abbrev pub decided_event : Decision → ℕ → ℕ → Option Event
decided_event Keep from n = None
decided_event Refuse from n = Some (event.Refuse from n)
decided_event Serve from n = Some (event.Serve from n)

-- a count that stays at the most that 32 bits hold
abbrev pub capped : ℕ → ℕ
capped n = if nat_lt n 4294967295 then n else 4294967295

-- the count with one more, if one is to be counted
abbrev pub more_if : Bool → ℕ → ℕ
more_if true n = capped (n + 1)
more_if false n = n

-- the report after one event more
abbrev pub counted : Progress → Event → Progress
counted progress e = record progress {
  accepted = more_if (is_accept e) progress.accepted;
  served = more_if (is_service e) progress.served;
  replied = progress.replied || is_reply e;
  asked = progress.asked || is_ask e;
}

-- the report of a turn counts its events
pub record Counts (events : List Event) (progress : Progress) : Type 0 where
  pub accepted : progress.accepted ≡ capped (count_by is_accept events)
  pub served : progress.served ≡ capped (count_by is_service events)
  pub replied : progress.replied ≡ list_any is_reply events
  pub asked : progress.asked ≡ list_any is_ask events

-- the report of a turn in which no event was made
pub record MadeNothing (progress : Progress) : Type 0 where
  pub accepted : progress.accepted ≡ 0
  pub served : progress.served ≡ 0
  pub replied : progress.replied ≡ false
  pub asked : progress.asked ≡ false

-- the line that is reported, if any, has an operation that can be performed
abbrev pub MayPerform : NodeOf → Option ℕ → Type 0
MayPerform node ready = IfSome ready (λ line. IsSome (node_performing node line))

-- ---- the report of a turn that found nothing to do

abbrev pub is_idle : Progress → Bool
is_idle progress = (progress.accepted == 0 && progress.served == 0) && ((not progress.replied && not progress.asked) && is_none progress.ready)
