use Rattle.sci_text.proofs.{Scripts.{scripts}, Listings.{one_fault}}
use Rattle.sci_text.proofs.script_laws.one_fault.Goals as goal

pub returns : goal.returns
returns c = one_fault scripts
