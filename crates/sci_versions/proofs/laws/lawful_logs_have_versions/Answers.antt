use Rattle.std.proofs.Common.{refl}
use Rattle.sci_versions.proofs.laws.lawful_logs_have_versions.Goals as goal

pub returns : goal.returns
returns c logs last known own sixteen lawful agrees =
    (logs, last, record { own = own; sixteen = sixteen; same = refl; lawful = lawful; agrees = agrees })
