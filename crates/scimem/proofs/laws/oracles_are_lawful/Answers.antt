use Rattle.sci_history.specs.Oracle.{oracle_logs, oracle_last}
use Rattle.scimem.proofs.Audited.{audited_lawful}
use Rattle.scimem.proofs.laws.oracles_are_lawful.Goals as goal

pub returns : goal.returns
returns c = λ input text said outcome oracle audit.
    let s = oracle.script in
    audited_lawful c.one_log.ensures text said s.nodes (oracle_logs s.lines s.operations) (oracle_last s.lines s.operations) outcome oracle.says oracle.lawful
    audit
