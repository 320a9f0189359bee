-- What is written is the text of where the schedule leads, which says lawful logs.
use Rattle.std.proofs.Common.{rules}
use Rattle.sci_text.specs.ScheduleFault.{IsScheduleFault}
use Rattle.sci_command.proofs.Answers.{replay_refused}
use Rattle.scimem.specs.ReplayAnswer.{IsReplayAnswer}
use Rattle.scimem.proofs.ReplayLogs.{written_is}
use Rattle.scimem.proofs.replay.replay.Goals as goal

pub returns-clause-answer : goal.returns-clause-answer
returns-clause-answer g c =
    let input = c.in_ok-input.input.items in
    let machine = c.in_ok-machine.machine in
    let nodes = c.extent-nodes.result.nodes in
    let logs = c.finish-logs.result in
    let led = rw c.deref.ensures.value at c.in_ok-machine.ensures.led in
    let ends = c.finish-logs.ensures in (
      (
        λ is. cc,
        (
          c.in_ok-input.ensures.unfailed,
          (
            input,
            c.in_ok-input.ensures.read,
            written_is input c.in_ok-text.text.items machine c.in_ok-machine.dead nodes logs.0 logs.1 led c.extent-nodes.ensures.nodes ends.logs ends.last
                c.in_ok-text.ensures.text,
          ),
        ),
      ),
      c.read_input.ensures.again,
    )

pub returns-clause-dead : goal.returns-clause-dead
returns-clause-dead g c =
    let led = rw c.deref.ensures.value at c.in_ok-machine.ensures.led in (
      c.in_ok-input.ensures.unfailed,
      (
        c.in_ok-input.input.items,
        c.in_ok-input.ensures.read,
        record { schedule = led.schedule; good = led.good; read = led.read; are = led.are },
      ),
    )

pub returns-in_err-machine-clause-answer : goal.returns-in_err-machine-clause-answer
returns-in_err-machine-clause-answer g c =
    let refused = c.from_residual-in_err-machine in (
      replay_refused IsReplayAnswer IsScheduleFault _ _ c.deref.result.now refused.result c.in_ok-input.ensures.unfailed
          (rw c.deref.ensures.value c.in_ok-input.ensures.read) refused.ensures.0 (search rules),
      c.read_input.ensures.again,
    )
