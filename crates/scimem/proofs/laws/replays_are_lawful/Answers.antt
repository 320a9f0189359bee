use Rattle.sci_core.specs.{Outcome.{logs_of}, Sharing.{last_of}}
use Rattle.scimem.specs.ReplayAnswer.{replayed}
use Rattle.scimem.proofs.Audited.{audited_lawful}
use Rattle.scimem.proofs.laws.replays_are_lawful.Goals as goal

pub returns : goal.returns
returns c = λ input text said outcome replay audit.
    let s = replay.schedule in
    audited_lawful c.one_log.ensures text said s.nodes (logs_of (replayed s)) (last_of (replayed s)) outcome replay.says replay.lawful audit
