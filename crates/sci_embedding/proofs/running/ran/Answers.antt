use Rattle.sci_embedding.proofs.running.ran.Goals as goal

pub returns-clause-lawful : goal.returns-clause-lawful
returns-clause-lawful c = rw c.last.ensures.last c.in_ok-logs.ensures.lawful
