use Rattle.std.proofs.Common.{arith}
use Rattle.std.proofs.{Common.{inr}, lemmas.Result.{err_from_is_err_and}}
use Rattle.sci_text.proofs.{Lines.{said_is}, Listings.{line_unsaid, line_refused}, Scripts.{scripts}}
use Rattle.sci_text.proofs.script_lines.push_line.Goals as goal

pub returns-in_err-node-clause-fault : goal.returns-in_err-node-clause-fault
returns-in_err-node-clause-fault c =
    let e = err_from_is_err_and c.from_residual.result c.from_residual.ensures.1 in
    rw (e.1, e.2) (inr (line_unsaid scripts c.args.script.now c.args.bytes.now c.operation_line.result c.requires c.operation_line.ensures
    c.in_err-node.field-0.0 c.in_err-node.ensures.fault))

pub returns-in_err-push-clause-fault : goal.returns-in_err-push-clause-fault
returns-in_err-push-clause-fault c = grind (arith, err_from_is_err_and, line_refused, scripts)

pub returns-clause-ok : goal.returns-clause-ok
returns-clause-ok c = grind (arith, said_is, scripts)
