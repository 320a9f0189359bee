use Rattle.sci_text.proofs.LogLaws.{written_again}
use Rattle.sci_text.proofs.log_laws.written_again.Goals as goal

pub returns : goal.returns
returns c = written_again
