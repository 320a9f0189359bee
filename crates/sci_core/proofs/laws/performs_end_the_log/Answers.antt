use Rattle.sci_core.proofs.History.Pendings.{perform_puts}
use Rattle.sci_core.proofs.laws.performs_end_the_log.Goals as goal

pub returns : goal.returns
returns c = perform_puts
