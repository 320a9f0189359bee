use Rattle.std.proofs.Common.{arith}
use Rattle.sci_judge.specs.declared.times.Ended.{Ended}
use Rattle.sci_judge.proofs.Timely.{most_more}
use Rattle.sci_judge.proofs.times.most.Goals as goal

abbrev no_end : Ended
no_end = record { end = 0; version = 0 }

pub loop-ended-preserved : goal.loop-ended-preserved
loop-ended-preserved c = grind (arith, most_more)
