-- The words of the memory run as the stamped lines do.
use Rattle.std.proofs.Common.{arith}
use Rattle.sci_history.proofs.Runs.{line_at-words_of_lines, words_of_lines-contents_after}
use Rattle.sci_history.proofs.memory.Memory.do_op.Goals as goal

pub returns-clause-run : goal.returns-clause-run
returns-clause-run c = grind (arith, line_at-words_of_lines, words_of_lines-contents_after)
