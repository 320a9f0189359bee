-- Each command answers as its contract says.
use Rattle.sci_text.specs.{FirstFault.{IsTold}, LogFault.{IsLogFault}, ScheduleFault.{IsScheduleFault}}
use Rattle.sci_text.specs.ScriptFault.{IsScriptFault}
use Rattle.sci_command.specs.Answer.{answer_in}
use Rattle.sci_command.proofs.Finished.{carried_out_beside, dead_beside}
use Rattle.scimem.specs.{LogAnswer.{IsAuditAnswer, IsUpgradeAnswer}, OracleAnswer.{IsOracleAnswer}}
use Rattle.scimem.specs.{ReplayAnswer.{IsReplayAnswer}, ThreadsAnswer.{IsThreadsAnswer}}
use Rattle.scimem.proofs.carrying_out.carried_out.Goals as goal

pub returns-in-Oracle-clause-answer : goal.returns-in-Oracle-clause-answer
returns-in-Oracle-clause-answer g c =
    let ended = c.finish in
    rw c.in-Oracle.is (carried_out_beside IsOracleAnswer (IsTold IsScriptFault) c.oracle.result ended.result.refusal (λ text is. is)
    c.oracle.ensures ended.ensures.refusal ended.ensures.written ended.ensures.again)

pub returns-in-Replay-clause-answer : goal.returns-in-Replay-clause-answer
returns-in-Replay-clause-answer g c =
    let ended = c.finish-in-Replay in
    let parted = c.parted-answered.ensures in
    rw (c.in-Replay.is, c.beside.ensures.outcome, c.beside.ensures.refusal) (carried_out_beside IsReplayAnswer (IsTold IsScheduleFault)
    (answer_in c.replay.result) ended.result.refusal (λ text is. is) c.replay.ensures.answer (rw parted.answer at ended.ensures.refusal)
    (rw parted.answer at ended.ensures.written) ended.ensures.again)

pub returns-in-Replay-clause-dead : goal.returns-in-Replay-clause-dead
returns-in-Replay-clause-dead g c =
    let parted = c.parted-answered.ensures in
    let refusal = rw parted.answer at c.finish-in-Replay.ensures.refusal in
    rw (c.in-Replay.is, c.beside.ensures.refusal, c.beside.ensures.dead)
    (dead_beside _ _ c.replay.result c.replay.ensures.dead c.finish-in-Replay.result.refusal refusal c.parted-answered.result.1 parted.dead)

pub returns-in-Threads-clause-answer : goal.returns-in-Threads-clause-answer
returns-in-Threads-clause-answer g c =
    let ended = c.finish-in-Threads in
    rw c.in-Threads.is (carried_out_beside (IsThreadsAnswer c.in-Threads.turns) (IsTold IsScriptFault) c.threads.result
    ended.result.refusal (λ text is. is)
    c.threads.ensures ended.ensures.refusal ended.ensures.written ended.ensures.again)

pub returns-in-Decode-clause-answer : goal.returns-in-Decode-clause-answer
returns-in-Decode-clause-answer g c = rw c.in-Decode.is c.decode_bytes.ensures.answer

pub returns-in-Audit-clause-answer : goal.returns-in-Audit-clause-answer
returns-in-Audit-clause-answer g c =
    let ended = c.finish-in-Audit in
    rw c.in-Audit.is (carried_out_beside IsAuditAnswer (IsTold IsLogFault) c.audit_text.result ended.result.refusal (λ text is. is)
    c.audit_text.ensures ended.ensures.refusal ended.ensures.written ended.ensures.again)

pub returns-in-Upgrade-clause-answer : goal.returns-in-Upgrade-clause-answer
returns-in-Upgrade-clause-answer g c =
    let ended = c.finish-in-Upgrade in
    rw c.in-Upgrade.is (carried_out_beside IsUpgradeAnswer (IsTold IsLogFault) c.upgrade.result ended.result.refusal (λ text is. is)
    c.upgrade.ensures ended.ensures.refusal ended.ensures.written ended.ensures.again)
