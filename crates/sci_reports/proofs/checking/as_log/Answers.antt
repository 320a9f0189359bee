use Rattle.std.proofs.Common.{refl}
use Rattle.sci_text.specs.LogFault.{IsLogFault}
use Rattle.sci_reports.specs.CheckAnswer.{IsLogText, log_size}
use Rattle.sci_reports.proofs.Checked.{count_all, faulty_reading}
use Rattle.sci_reports.proofs.checking.as_log.Goals as goal

pub returns-in-Ok-clause-read : goal.returns-in-Ok-clause-read
returns-in-Ok-clause-read c =
    let counted = count_all c.in-Ok.logs c.nodes.result c.nodes.ensures.nodes in (
      (c.in-Ok.nodes, c.in-Ok.logs, c.in-Ok.last.value),
      c.in-Ok.ensures.ok,
      rw (c.lines.ensures.lines, c.deref.ensures, c.entries_before.ensures.count, counted) refl,
    )

pub returns-in-Err-clause-read : goal.returns-in-Err-clause-read
returns-in-Err-clause-read c =
    faulty_reading (IsLogText c.args.text.now) log_size IsLogFault c.args.text.now c.in-Err.fault c.faulty.result c.in-Err.ensures.fault c.faulty.ensures.read
