use Rattle.std.proofs.Common.{arith}
use Rattle.std.proofs.{Common.{◌≡◌, ◌++◌}, lemmas.{Result.{err_from_is_err_and}}}
use Rattle.sci_text.specs.Script.{machine_line}
use Rattle.sci_text.proofs.{LineLengths.{line_short}, Lines.{said_fault, said_is, says}}
use Rattle.sci_text.proofs.ScriptReads.{machine_format, is_size, limits_fit}
use Rattle.sci_text.proofs.script_lines.machine.Goals as goal

pub returns-in_err-nodes-clause-fault : goal.returns-in_err-nodes-clause-fault
returns-in_err-nodes-clause-fault c =
    let e = err_from_is_err_and c.from_residual.result c.from_residual.ensures.1 in
    rw (e.1, e.2) (said_fault machine_format is_size (λ s. ⊥) limits_fit c.args.bytes.now c.machine_line.result c.machine_line.ensures
    c.in_err-nodes.field-0.0 c.in_err-nodes.ensures.fault)

pub returns-in_default-clause-fault : goal.returns-in_default-clause-fault
returns-in_default-clause-fault c = grind (arith, says, machine_format)

parts : (c : goal.In-Some) → c.args.bytes.now ≡ machine_line c.in-Some.extent.nodes c.in-Some.extent.lines c.in-Some.extent.slots ++ c.in_ok-nodes.rest.now
parts c = grind (arith, said_is, machine_format)

pub returns-clause-ok : goal.returns-clause-ok
returns-clause-ok c = parts c

pub returns-clause-short : goal.returns-clause-short
returns-clause-short c = line_short c.args.bytes.now _ c.in_ok-nodes.rest.now (parts c) c.in_ok-nodes.ensures.short
