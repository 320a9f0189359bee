use Rattle.std.proofs.Common.{◌≡◌, subst, sym}
use Rattle.std.proofs.lemmas.Result.{err_from_is_err_and}
use Rattle.std.specs.Prelude.{Ok, Err}
use Rattle.sci_text.specs.LogValue.{IsLogs}
use Rattle.sci_text.proofs.LogOneFault.{log_read_as}
use Rattle.sci_text.proofs.log_reading.read_logs.Goals as goal

pub returns-clause-only : goal.returns-clause-only
returns-clause-only g c = λ input nodes logs last is few known.
    let bytes = c.in_ok-bytes.bytes.items in
    let read = c.in_ok-nodes in
    let text : bytes ≡ input = rw known at c.in_ok-bytes.ensures.read.same in
    log_read_as c.one_log.ensures c.no_log_fault.ensures input bytes nodes logs last (Ok (read.nodes, read.logs, c.into_inner.result)) is text
    (subst (IsLogs bytes read.nodes read.logs) (sym c.into_inner.ensures) read.ensures.ok) tt

pub returns-in_err-nodes-clause-only : goal.returns-in_err-nodes-clause-only
returns-in_err-nodes-clause-only g c = λ input nodes logs last is few known.
    let text : c.in_ok-bytes.bytes.items ≡ input = rw known at c.in_ok-bytes.ensures.read.same in
    let e = err_from_is_err_and c.from_residual-in_err-nodes.result c.from_residual-in_err-nodes.ensures.1 in
    rw (e.1, e.2)
    (log_read_as c.one_log.ensures c.no_log_fault.ensures input c.in_ok-bytes.bytes.items nodes logs last (Err c.in_err-nodes.field-0.0) is text tt
    c.in_err-nodes.ensures.fault)
