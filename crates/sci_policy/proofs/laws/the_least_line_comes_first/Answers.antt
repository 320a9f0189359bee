use Rattle.sci_policy.proofs.{Found.{least_fits}, Least.{least_first}}
use Rattle.sci_policy.proofs.laws.the_least_line_comes_first.Goals as goal

pub returns-clause-fits : goal.returns-clause-fits
returns-clause-fits c = least_fits

pub returns-clause-first : goal.returns-clause-first
returns-clause-first c = least_first
