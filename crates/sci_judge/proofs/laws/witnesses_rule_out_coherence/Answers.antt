use Rattle.sci_judge.proofs.Refuted.{rules_out}
use Rattle.sci_judge.proofs.laws.witnesses_rule_out_coherence.Goals as goal

pub returns : goal.returns
returns c = rules_out
