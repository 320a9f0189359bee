-- The front of sixty-four zero lines is that many zero lines.
use Rattle.std.proofs.{Common.{arith}, lemmas.List.{take-replicate}}
use Rattle.sci_words.specs.Stamped.{zero_stamped}
use Rattle.sci_history.proofs.last.Last.zero.Goals as goal

pub returns : goal.returns
returns c = rw c.zero.ensures (take-replicate c.args.lines 64 zero_stamped (omega arith))
