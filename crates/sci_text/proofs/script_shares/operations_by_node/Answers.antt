use Rattle.std.proofs.Common.{arith}
use Rattle.std.proofs.lemmas.List.{take_all}
use Rattle.sci_text.proofs.ScriptShares.{few_own}
use Rattle.sci_text.proofs.script_shares.operations_by_node.Goals as goal

pub returns-clause-few : goal.returns-clause-few
returns-clause-few c = grind (arith, take_all, few_own)
