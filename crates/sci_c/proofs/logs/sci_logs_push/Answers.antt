use Rattle.std.proofs.Common.{rules}
use Rattle.sci_c.specs.Logs.{IsPushed}
use Rattle.sci_c.proofs.logs.sci_logs_push.Goals as goal

pub returns-in-Some-entry_in-clause-pushed : goal.returns-in-Some-entry_in-clause-pushed
returns-in-Some-entry_in-clause-pushed c = λ ok.
    let pushed : IsPushed c.args.entry.now c.in-Some.journal.now c.push.new.self =
    record { entry = c.in-Some-entry_in.said; says = c.in-Some-entry_in.ensures; fits = search rules; ends = c.push.ensures.done ok } in
    search rules
