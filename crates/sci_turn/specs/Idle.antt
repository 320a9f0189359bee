-- What a turn that reports nothing has found: nothing that it could do.
use Rattle.std.specs.Prelude.{◌≡◌, ◌<◌, ℕ, [], None, IfSome}
use Rattle.sci_core.specs.{declared.lane.LaneKind.{LaneKind, TheVariants.{Requests, Answers}}, Node.{node_asking}}
use Rattle.sci_words.specs.declared.event.AskKind.{AskKind}
use Rattle.sci_policy.specs.declared.{progress.Progress.{Progress}, want.Want.{Want, TheVariants.{Perform, Ask}}}
use Rattle.sci_policy.specs.{Policy.{PolicyOf, next_policy, next_wanted, turned}}
use Rattle.sci_turn.specs.{Posts.{IsFull, IsStill, PostOf, lane_to, node_in, nodes_in}, Moves.{taken_next}}

-- what the policy wants is an ask, and the lane to its target is full
abbrev pub IsHeldUp : PostOf → Want → Type 0
IsHeldUp post (Perform line) = ⊥
IsHeldUp post (Ask line kind) = IfSome (node_asking (node_in post) line kind) (λ sent. IsFull post Requests sent.1.target)

-- no answer waits, or the lane that it would go by is full
abbrev pub IsReplyHeldUp : PostOf → Type 0
IsReplyHeldUp post = IfSome (node_in post).waiting (λ answer. IsFull post Answers answer.target)

-- there was such a moment between two, in which no event of the node was made
pub record WasSo (P : PostOf → Type 0) (old new : PostOf) : Type 0 where
  pub mid : PostOf
  pub before : IsStill old mid
  pub after : IsStill mid new
  pub so : P mid

-- no packet was in the lane from a node when it was looked at
abbrev pub WasEmpty : LaneKind → ℕ → PostOf → PostOf → Type 0
WasEmpty kind from = WasSo (λ post. lane_to post kind from ≡ [])

-- no request from a node was to be taken when its lane was looked at: none had come, it was kept, or an answer waited
abbrev pub TookNone : PolicyOf → ℕ → PostOf → PostOf → Type 0
TookNone policy from = WasSo (λ post. taken_next policy post.core from post.me ≡ None)

-- a turn that reports nothing: it was counted, the policy was looked at once, and there was nothing to do
pub record IsIdleTurn (before : PolicyOf) (old : PostOf) (after : PolicyOf) (new : PostOf) : Type 0 where
  pub still : IsStill old new
  pub policy : after ≡ next_policy (turned before) (node_in new)
  pub reply : WasSo IsReplyHeldUp old new
  pub answers : (from : ℕ) → from < nodes_in old → WasEmpty Answers from old new
  pub requests : (from : ℕ) → from < nodes_in old → TookNone (turned before) from old new
  pub wants : IfSome (next_wanted (turned before) (node_in new)) (IsHeldUp new)

-- the lane of a request is full: nothing was asked
pub record WasHeldUp (line : ℕ) (kind : AskKind) (old new : PostOf) (told tells : Progress) : Type 0 where
  pub still : IsStill old new
  pub same : tells ≡ told
  pub full : IsHeldUp new (Ask line kind)
