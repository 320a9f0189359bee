use Rattle.sci_command.specs.declared.text_lines.TextKind.TheVariants.{Script, Schedule, Log}
use Rattle.sci_reports.proofs.Checked.{last_of_three}
use Rattle.sci_reports.proofs.checking.last_fault.Goals as goal

pub returns : goal.returns
returns c =
    let machine = c.later-machine.ensures in
    let last = c.later.ensures in
    last_of_three c.args.text.now (Script, c.args.script) (Schedule, c.args.schedule) (Log, c.args.log) c.later-machine.result c.later.result c.requires.script
    c.requires.schedule c.requires.log machine.one machine.first machine.second last.one last.first last.second
