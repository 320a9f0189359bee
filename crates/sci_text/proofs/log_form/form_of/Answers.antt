use Rattle.std.proofs.Common.{arith}
use Rattle.std.specs.Prelude.{codes}
use Rattle.std.proofs.lemmas.Result.{err_from_is_err_and}
use Rattle.sci_text.specs.Reading.{after}
use Rattle.sci_text.proofs.LogFaults.{gives_none, gives_some, begins_not, size_none, size_long, size_range, size_ok}
use Rattle.sci_text.proofs.log_form.form_of.Goals as goal

pub returns-then-is_none-clause-first : goal.returns-then-is_none-clause-first
returns-then-is_none-clause-first c =
    λ e. begins_not c.args.bytes.now (gives_none c.after.result (after (codes "log ") c.args.bytes.now) c.after.ensures c.if-is_none.ensures)

pub returns-in_default-clause-fault : goal.returns-in_default-clause-fault
returns-in_default-clause-fault c =
    size_none c.args.bytes.now (gives_some c.after.result (after (codes "log ") c.args.bytes.now) c.after.ensures c.if-is_none.ensures) c.in_default.ensures

pub returns-in_err-check_length-clause-fault : goal.returns-in_err-check_length-clause-fault
returns-in_err-check_length-clause-fault c = grind (arith, err_from_is_err_and, gives_some, size_long)

pub returns-in_default-log_size-clause-fault : goal.returns-in_default-log_size-clause-fault
returns-in_default-log_size-clause-fault c = grind (arith, size_range, gives_some)

pub returns-clause-text : goal.returns-clause-text
returns-clause-text c = grind (arith, size_ok)
