-- A machine in which no turn does anything.
use Rattle.std.specs.Prelude.{◌≡◌, ◌<◌, ℕ, [], None, IfSome}
use Rattle.sci_core.specs.declared.lane.LaneKind.TheVariants.{Answers}
use Rattle.sci_core.specs.Core.{Core, lane_of, node_at}
use Rattle.sci_policy.specs.Policy.{PolicyOf, next_wanted}
use Rattle.sci_turn.specs.{Idle.{IsHeldUp, IsReplyHeldUp}, Moves.{taken_next}, Posts.{post_at}}

-- node n finds nothing to do in this state, in a turn in which it lets go the requests that it keeps in others
pub record FindsNothing (core : Core) (n : ℕ) : Type 0 where
  pub policy : PolicyOf
  pub let_go : policy.turns ≡ 0
  pub reply : IsReplyHeldUp (post_at n core)
  pub answers : (from : ℕ) → from < core.size.nodes → lane_of core Answers from n ≡ []
  pub requests : (from : ℕ) → from < core.size.nodes → taken_next policy core from n ≡ None
  pub wants : IfSome (next_wanted policy (node_at core n)) (IsHeldUp (post_at n core))

abbrev pub IsStuck : Core → Type 0
IsStuck core = (n : ℕ) → n < core.size.nodes → FindsNothing core n
