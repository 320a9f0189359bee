use Rattle.std.proofs.Common.{◌-◌, sym, subst, arith}
use Rattle.sci_allowed.specs.{Allowed.{IsAllowed}, Outcome.{shown_of}, declared.outcome.Outcome.{Outcome}}
use Rattle.sci_allowed.proofs.allowed_report.shown_text.Goals as goal

pub schedule_to-requires-clause-allowed : goal.schedule_to-requires-clause-allowed
schedule_to-requires-clause-allowed c =
    subst (λ (o : Outcome). IsAllowed c.args.litmus.now.script c.args.window (shown_of o)) (sym c.index.ensures)
    (c.in_ok-outcomes.ensures.allowed.each (c.args.number - 1) c.index.result.now (let rows = c.len-rows.ensures in omega arith))
