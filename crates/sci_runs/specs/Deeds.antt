-- What a node does of its own: it issues and performs operations, and takes turns.
use Rattle.std.specs.Prelude.{◌≡◌, ◌≤◌, ℕ, true, List, [], ◌∷◌, ◌++◌, length, Some}
use Rattle.std.specs.List.{AllByRecursion}
use Rattle.sci_words.specs.declared.{event.Event.{Event}, limits.TheConstants.{MAX_EVENTS}}
use Rattle.sci_core.specs.Core.{node_of, stepping}
use Rattle.sci_policy.specs.{declared.progress.Progress.{Progress}, Deeds.{Deed, DoesBy, Issues, Performs, Turns}, Policy.{PolicyOf}, Turn.{is_idle}}
use Rattle.sci_turn.specs.{Idle.{IsIdleTurn}, Moves.{IsTurn}, Posts.{PostOf}, Whole.{IsWholeTurn}}
use Rattle.sci_locked.specs.Lent.{KeepsRoom}
use Rattle.sci_runs.specs.Recorded.{Course}
use Rattle.sci_words.specs.declared.event.Event.TheVariants as event

-- the post of a node of a machine whose events are known
abbrev pub post_on : ℕ → Course → PostOf
post_on n course = record { me = n; core = course.core; schedule = Some course.events }

-- all events that were added are the node's
abbrev pub AddsOwn : ℕ → List Event → List Event → Type 0
AddsOwn n old new = (more : List Event) × (new ≡ old ++ more) × AllByRecursion (λ e. node_of e ≡ n) more

-- a turn of node n so far: it adds events of the node alone, which are those that the policy decides
pub record IsTurnSoFar (n : ℕ) (before : PolicyOf) (old : Course) (after : PolicyOf) (new : Course) (progress : Progress) : Type 0 where
  pub turn : IsTurn before (post_on n old) after (post_on n new) progress
  pub own : AddsOwn n old.events new.events

-- a turn of node n to its end, which leaves no lane longer than its cells; one that reports nothing has found nothing to do
pub record IsTurnDone (n : ℕ) (before : PolicyOf) (old : Course) (after : PolicyOf) (new : Course) (progress : Progress) : Type 0 where
  pub so_far : IsTurnSoFar n before old after new progress
  pub whole : IsWholeTurn before (post_on n old) after (post_on n new) progress
  pub room : KeepsRoom old.core new.core
  pub idle : is_idle progress ≡ true → IsIdleTurn before (post_on n old) after (post_on n new)

-- what a node's policy remembers, and the machine's state with the events so far
pub record Standing : Type 0 where
  pub policy : PolicyOf
  pub course : Course

abbrev pub standing : PolicyOf → Course → Standing
standing policy course = record { policy = policy; course = course }

-- the machine makes an event, which is enabled, and nothing else changes
pub record Works (e : Event) (old new : Standing) : Type 0 where
  pub stepped : stepping old.course.core e ≡ Some new.course.core
  pub more : new.course.events ≡ old.course.events ++ e ∷ []
  pub policy : new.policy ≡ old.policy

-- a deed of node n: it issues an operation, performs one, or takes a whole turn by its policy
abbrev pub IsDeed : ℕ → Deed → Standing → Standing → Type 0
IsDeed n (Issues op) old new = Works (event.Issue n op) old new
IsDeed n (Performs line entry) old new = Works (event.Perform n line) old new
IsDeed n (Turns progress) old new = IsTurnDone n old.policy old.course new.policy new.course progress

-- These deeds of node n, one after another, lead from one state and what its policy remembers to others. The events are
-- those of the deeds, in their order.
abbrev pub Does : ℕ → List Deed → PolicyOf → Course → PolicyOf → Course → Type 0
Does n deeds before old after new = DoesBy (IsDeed n) deeds (standing before old) (standing after new)

-- some of these deeds of node n, from the first on, make as many events as a schedule can have
pub record Fills (n : ℕ) (deeds : List Deed) (before : PolicyOf) (old : Course) : Type 0 where
  pub first : List Deed
  pub rest : List Deed
  pub are : deeds ≡ first ++ rest
  pub policy : PolicyOf
  pub full : Course
  pub does : Does n first before old policy full
  pub many : MAX_EVENTS ≤ length full.events

-- all of these deeds do, and a turn so far behind them
pub record FillsTurning (n : ℕ) (deeds : List Deed) (before : PolicyOf) (old : Course) : Type 0 where
  pub policy : PolicyOf
  pub mid : Course
  pub does : Does n deeds before old policy mid
  pub after : PolicyOf
  pub full : Course
  pub progress : Progress
  pub turn : IsTurnSoFar n policy mid after full progress
  pub many : MAX_EVENTS ≤ length full.events
