-- A turn to its end: what it does, in which order, and how far each step goes.
use Rattle.std.specs.Prelude.{◌≡◌, ◌⊎◌, ◌+◌, ◌%◌, ℕ, zero, suc, false, List, [], ◌∷◌, Option, Some, None, IfSome}
use Rattle.std.specs.List.{range_with_len}
use Rattle.sci_words.specs.declared.{limits.TheConstants.{LANE_CELLS}, event.{AskKind.{AskKind}, Event.{Event}}}
use Rattle.sci_core.specs.declared.lane.LaneKind.TheVariants.{Answers}
use Rattle.sci_policy.specs.declared.{progress.Progress.{Progress}, want.Want.{Want, TheVariants.{Perform}}}
use Rattle.sci_policy.specs.{Policy.{PolicyOf, first_sender, next_policy, next_wanted, turned}, Turn.{counted}}
use Rattle.sci_turn.specs.Posts.{IsMade, IsStill, PostOf, lane_to, node_in, nodes_in}
use Rattle.sci_turn.specs.{Moves.{Decides, Stage, stage, taken_next}, Idle.{IsHeldUp, IsReplyHeldUp}}
use Rattle.sci_words.specs.declared.event.Event.TheVariants as event

-- ---- one event, or none

-- the node has made this event, as its policy decides, and it is counted
pub record Makes (e : Event) (old new : Stage) : Type 0 where
  pub made : IsMade old.post e new.post
  pub decides : Decides old.policy made.mid.core old.post.me e new.policy
  pub counted : new.report ≡ counted old.report e

-- the node has made no event
pub record MakesNone (old new : Stage) : Type 0 where
  pub still : IsStill old.post new.post
  pub policy : new.policy ≡ old.policy
  pub report : new.report ≡ old.report

-- ---- the steps, and what ends them

-- the answer that waits, if one does, goes out or finds its lane full
abbrev pub Replies : Stage → Stage → Type 0
Replies old new = Makes (event.Reply old.post.me) old new ⊎ (MakesNone old new × IsReplyHeldUp new.post)

-- the oldest answer from a node is accepted
abbrev pub Accepts : ℕ → Stage → Stage → Type 0
Accepts from old new = Makes (event.Accept from old.post.me) old new

-- no answer from a node has come
abbrev pub FindsNoAnswer : ℕ → Stage → Stage → Type 0
FindsNoAnswer from old new = MakesNone old new × (lane_to new.post Answers from ≡ [])

-- the oldest request from a node is served or refused, and its answer goes out or finds its lane full
pub record Takes (from : ℕ) (old new : Stage) : Type 0 where
  pub taken : Stage
  pub takes : Makes (event.Serve from old.post.me) old taken ⊎ Makes (event.Refuse from old.post.me) old taken
  pub replies : Replies taken new

-- no request from a node is to be taken: none has come, it is kept, or an answer waits
abbrev pub FindsNoRequest : ℕ → Stage → Stage → Type 0
FindsNoRequest from old new = MakesNone old new × (taken_next new.policy new.post.core from new.post.me ≡ None)

-- something is asked
abbrev pub Asks : Stage → Stage → Type 0
Asks old new = (line : ℕ) × (kind : AskKind) × Makes (event.Ask old.post.me line kind) old new

-- a want that ends the turn: a line that can be performed, or an ask whose lane is full
abbrev pub EndsAt : PostOf → Want → Type 0
EndsAt post (Perform line) = Unit {0}
EndsAt post want = IsHeldUp post want

-- a line that can be performed is reported
abbrev pub reported : Progress → Option Want → Progress
reported report (Some (Perform line)) = record report { ready = Some line }
reported report _ = report

-- the policy was asked once more, and wants nothing, or what ends the turn
pub record AsksNoMore (old new : Stage) : Type 0 where
  pub still : IsStill old.post new.post
  pub policy : new.policy ≡ next_policy old.policy (node_in new.post)
  pub report : new.report ≡ reported old.report (next_wanted old.policy (node_in new.post))
  pub wants : IfSome (next_wanted old.policy (node_in new.post)) (EndsAt new.post)

-- ---- steps one after another

-- a step is made at most this many times, and fewer times only if what ends it comes next
abbrev pub UpTo : ℕ → (Stage → Stage → Type 0) → (Stage → Stage → Type 0) → Stage → Stage → Type 0
UpTo zero Step Ends old new = old ≡ new
UpTo (suc n) Step Ends old new = Ends old new ⊎ ((mid : Stage) × Step old mid × UpTo n Step Ends mid new)

-- a step for each of these nodes, one after another
abbrev pub InTurn : (ℕ → Stage → Stage → Type 0) → List ℕ → Stage → Stage → Type 0
InTurn Step [] old new = old ≡ new
InTurn Step (from ∷ others) old new = (mid : Stage) × Step from old mid × InTurn Step others mid new

-- this many nodes in a circle of them all, from one on
abbrev pub circle : ℕ → ℕ → ℕ → List ℕ
circle nodes from zero = []
circle nodes from (suc n) = from ∷ circle nodes ((from + 1) % nodes) n

abbrev pub AcceptsFrom : ℕ → Stage → Stage → Type 0
AcceptsFrom from = UpTo LANE_CELLS (Accepts from) (FindsNoAnswer from)

abbrev pub TakesFrom : ℕ → Stage → Stage → Type 0
TakesFrom from = UpTo LANE_CELLS (Takes from) (FindsNoRequest from)

-- up to four answers from each node are accepted
abbrev pub AcceptsAll : Stage → Stage → Type 0
AcceptsAll old = InTurn AcceptsFrom (range_with_len 0 (nodes_in old.post)) old

-- up to four requests from each node are taken, beginning behind the node noted last
abbrev pub TakesAll : Stage → Stage → Type 0
TakesAll old = InTurn TakesFrom (circle (nodes_in old.post) (first_sender old.policy (nodes_in old.post)) (nodes_in old.post)) old

-- up to four times something is asked
abbrev pub AsksSome : Stage → Stage → Type 0
AsksSome = UpTo LANE_CELLS Asks AsksNoMore

-- ---- the turn

-- the report at the start
abbrev pub no_progress : Progress
no_progress = record { accepted = 0; served = 0; replied = false; asked = false; ready = None }

-- A turn to its end: it is counted; the answer that waits goes out; answers are accepted, requests are taken, and the node asks
-- for what its policy wants.
pub record IsWholeTurn (before : PolicyOf) (old : PostOf) (after : PolicyOf) (new : PostOf) (progress : Progress) : Type 0 where
  pub replied : Stage
  pub accepted : Stage
  pub taken : Stage
  pub replies : Replies (stage (turned before) old no_progress) replied
  pub accepts : AcceptsAll replied accepted
  pub takes : TakesAll accepted taken
  pub asks : AsksSome taken (stage after new progress)
