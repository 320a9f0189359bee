use Rattle.sci_policy.proofs.Least.{oldest_least, oldest_meant}
use Rattle.sci_policy.proofs.laws.the_oldest_has_the_least_serial.Goals as goal

pub returns-clause-fits : goal.returns-clause-fits
returns-clause-fits c = oldest_meant

pub returns-clause-least : goal.returns-clause-least
returns-clause-least c = oldest_least
