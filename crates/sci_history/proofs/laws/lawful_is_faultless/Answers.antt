use Rattle.sci_history.proofs.Audits.{lawful_found, no_fault}
use Rattle.sci_history.proofs.laws.lawful_is_faultless.Goals as goal

pub returns-clause-lawful : goal.returns-clause-lawful
returns-clause-lawful c = λ logs line last own sixteen.
    (no_fault logs line last own sixteen, λ h. lawful_found logs line last own sixteen h.twice h.missing h.wrong h.disordered h.words h.version)
