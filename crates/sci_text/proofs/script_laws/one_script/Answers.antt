use Rattle.sci_text.proofs.{Scripts.{scripts}, Listings.{one_value}}
use Rattle.sci_text.proofs.script_laws.one_script.Goals as goal

pub returns : goal.returns
returns c = one_value scripts
