use Rattle.scimem.proofs.Audited.{audited_lawful}
use Rattle.scimem.proofs.laws.runs_are_lawful.Goals as goal

pub returns : goal.returns
returns c = λ turns input text said ends outcome run audit.
    audited_lawful c.one_log.ensures text said run.script.nodes run.logs run.last outcome run.says run.lawful audit
