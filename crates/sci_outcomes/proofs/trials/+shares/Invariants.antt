use Rattle.std.proofs.Common.{◌+◌, ◌*◌}
use Rattle.sci_outcomes.proofs.trials.+shares.Given as goal

-- how many threads there are
abbrev pub decreases-counted_by_threads : goal.decreases-counted_by_threads
decreases-counted_by_threads g l = 2 * l.share.threads

abbrev pub decreases-front : goal.decreases-front
decreases-front g l = 2 * l.low.threads + 1

abbrev pub decreases-back : goal.decreases-back
decreases-back g l = 2 * l.high.threads + 1
