use Rattle.sci_text.proofs.{Scripts.{scripts}, Listings.{no_fault}}
use Rattle.sci_text.proofs.script_laws.no_fault.Goals as goal

pub returns : goal.returns
returns c = no_fault scripts
