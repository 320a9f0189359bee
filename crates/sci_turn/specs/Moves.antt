-- What a turn does to a node's post and to its policy.
use Rattle.std.specs.Prelude.{◌≡◌, ◌≢◌, ◌==◌, ◌⊎◌, ℕ, List, [], ◌∷◌, ◌++◌, slice_get, if◌then◌else◌, Option, Some, None, filter, is_some}
use Rattle.sci_words.specs.declared.event.Event.{Event}
use Rattle.sci_cache.specs.Cache.{Letter}
use Rattle.sci_core.specs.declared.lane.LaneKind.TheVariants.{Requests}
use Rattle.sci_core.specs.{Core.{Core, lane_of, node_at, node_of, stepping}, Node.{NodeOf}}
use Rattle.sci_policy.specs.declared.{progress.Progress.{Progress}, want.Want.TheVariants.{Ask}}
use Rattle.sci_policy.specs.Policy.{PolicyOf, decided, next_policy, next_wanted, turned}
use Rattle.sci_policy.specs.Turn.{Counts, IsTurnEvent, counted, decided_event}
use Rattle.sci_turn.specs.Posts.{IsFurther, IsMade, IsSamePost, PostOf, node_in}
use Rattle.sci_words.specs.declared.event.Event.TheVariants as event

-- ---- which request is taken, and how

-- the event that takes a request, if there is one, no answer waits, and the policy doesn't keep it
abbrev pub taking_event : PolicyOf → NodeOf → ℕ → ℕ → Option Letter → Option Event
taking_event policy node from n None = None
taking_event policy node from n (Some request) = if is_some node.waiting then None else decided_event (decided policy node request) from n

-- the event that takes the oldest request from one node to another
abbrev pub taken_next : PolicyOf → Core → ℕ → ℕ → Option Event
taken_next policy core from n = taking_event policy (node_at core n) from n (slice_get (lane_of core Requests from n) 0)

-- ---- a turn

-- Node n's policy before and after an event of its turn: a request is taken as the policy decides and its sender is noted,
-- and what is asked is what the policy wants next.
abbrev pub Decides : PolicyOf → Core → ℕ → Event → PolicyOf → Type 0
Decides old core n (event.Serve from m) new = (taken_next old core from n ≡ Some (event.Serve from n)) × (new ≡ record old { served = Some from })
Decides old core n (event.Refuse from m) new = (taken_next old core from n ≡ Some (event.Refuse from n)) × (new ≡ record old { served = Some from })
Decides old core n (event.Ask m line kind) new = (next_wanted old (node_at core n) ≡ Some (Ask line kind)) × (new ≡ next_policy old (node_at core n))
Decides old core n e new = new ≡ old

-- an event of the node's turn
pub record IsOwn (n : ℕ) (before : PolicyOf) (core : Core) (e : Event) (after : PolicyOf) : Type 0 where
  pub kind : IsTurnEvent n e
  pub decides : Decides before core n e after

-- an event of another node, by which this one's policy stays
pub record IsOther (n : ℕ) (before : PolicyOf) (e : Event) (after : PolicyOf) : Type 0 where
  pub apart : node_of e ≢ n
  pub policy : before ≡ after

-- events that lead from one state to another, each of them enabled when it comes; those of node n are of its turn, and
-- decided by the policy as it is then
abbrev pub Leads : ℕ → PolicyOf → Core → List Event → PolicyOf → Core → Type 0
Leads n before old [] after new = (before ≡ after) × (old ≡ new)
Leads n before old (e ∷ more) after new =
    (next : Core) × (policy : PolicyOf) × (stepping old e ≡ Some next) × (IsOwn n before old e policy ⊎ IsOther n before e policy)
    × Leads n policy next more after new

-- the events of a node among these
abbrev pub own_of : ℕ → List Event → List Event
own_of n events = filter (λ e. node_of e == n) events

-- A turn so far: what is known goes on by events, of which the node's own are those of its turn, none of them an Issue or a
-- Perform, and the report counts them.
pub record HasMoved (before : PolicyOf) (old : PostOf) (after : PolicyOf) (new : PostOf) (progress : Progress) : Type 0 where
  pub same : IsSamePost old new
  pub more : List Event
  pub leads : Leads old.me before old.core more after new.core
  pub further : IsFurther old.me old.schedule more new.schedule
  pub counts : Counts (own_of old.me more) progress

-- a turn that may have asked the policy once more what comes next, and done nothing
pub record HasEnded (before : PolicyOf) (old : PostOf) (after : PolicyOf) (new : PostOf) (progress : Progress) : Type 0 where
  pub policy : PolicyOf
  pub moved : HasMoved before old policy new progress
  pub asked : (after ≡ policy) ⊎ (after ≡ next_policy policy (node_in new))

-- a turn: it is counted first
abbrev pub IsTurn : PolicyOf → PostOf → PolicyOf → PostOf → Progress → Type 0
IsTurn before old after new progress = HasEnded (turned before) old after new progress

-- ---- steps of a turn

-- where a turn stands: what the policy remembers, the node's post, and the report so far
pub record Stage : Type 0 where
  pub policy : PolicyOf
  pub post : PostOf
  pub report : Progress

abbrev pub stage : PolicyOf → PostOf → Progress → Stage
stage policy post report = record { policy = policy; post = post; report = report }

-- what came so far of a turn that began with this policy at this post
abbrev pub HasCome : PolicyOf → PostOf → Stage → Type 0
HasCome before start now = HasMoved before start now.policy now.post now.report

-- whatever turn came so far goes on by it
pub record ContinuesTurn (old new : Stage) : Type 0 where
  pub same : IsSamePost old.post new.post
  pub ready : new.report.ready ≡ old.report.ready
  pub turn : (before : PolicyOf) (start : PostOf) → HasCome before start old → HasCome before start new

-- the last step of a turn: whatever turn came so far ends by it
abbrev pub EndsTurn : Stage → Stage → Type 0
EndsTurn old new = (before : PolicyOf) (start : PostOf) → HasCome before start old → HasEnded before start new.policy new.post new.report

-- the node asked this, and it is counted
pub record IsAsked (e : Event) (old new : PostOf) (told tells : Progress) : Type 0 where
  pub made : IsMade old e new
  pub counted : tells ≡ counted told e
  pub counts : (events : List Event) → Counts events told → Counts (events ++ e ∷ []) tells
