use Rattle.std.proofs.Common.{arith}
use Rattle.sci_locked.proofs.Lanes.{front_of}
use Rattle.sci_turn.proofs.Idling.{no_front}
use Rattle.sci_runs.proofs.post.LentPost.front.Goals as goal

pub unreachable-requires : goal.unreachable-requires
unreachable-requires c = grind (arith, no_front)

pub returns : goal.returns
returns c = grind (arith, front_of)
