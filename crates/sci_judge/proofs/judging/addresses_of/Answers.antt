use Rattle.std.proofs.{Common.{arith}, lemmas.{Bool.Decides.{nat_tests}, Grind.{common_steps}}}
use Rattle.sci_judge.proofs.Once.{any_more, no_access}
use Rattle.sci_judge.proofs.judging.addresses_of.Goals as goal

pub loop-access-preserved : goal.loop-access-preserved
loop-access-preserved c = grind (arith, any_more, no_access, common_steps, nat_tests)
