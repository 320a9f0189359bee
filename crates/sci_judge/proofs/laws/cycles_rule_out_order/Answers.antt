use Rattle.sci_judge.proofs.Cycles.{rules_out_order}
use Rattle.sci_judge.proofs.laws.cycles_rule_out_order.Goals as goal

pub returns : goal.returns
returns c = rules_out_order
