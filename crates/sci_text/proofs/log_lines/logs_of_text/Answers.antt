use Rattle.std.proofs.{Common.{◌≡◌, ℕ, List, sym, subst, ◌∙◌, arith}, lemmas.Result.{err_from_is_err_and}}
use Rattle.sci_text.specs.{FirstFault.{IsRefusal}, LogFault.{IsLogFault}, LogReading.{HasRead}, LogValue.{IsLogs}}
use Rattle.sci_text.proofs.LogReaders.{at_end}
use Rattle.sci_text.proofs.log_lines.logs_of_text.Goals.{In_ok-extend_from_slice}
use Rattle.sci_text.proofs.log_lines.logs_of_text.Goals as goal

-- the second half is read from a copy
copied : (c : In_ok-extend_from_slice) (bytes : List ℕ) → bytes ≡ c.extend_from_slice.new.self.items → HasRead c.deref.result.now c.read.new.self bytes
copied c bytes is =
    let same : c.extend_from_slice.new.self.items ≡ c.in_ok-rest.rest.now = grind arith in
    subst (λ (left : List ℕ). HasRead c.deref.result.now c.read.new.self left) (sym (is ∙ same))
    (c.in_ok-rest.ensures.ok c.deref.result.now c.in_ok-reader.ensures.ok)

pub read-requires-2 : goal.read-requires-2
read-requires-2 c = (c.deref.result.now, copied (goal.at.read-requires-2 c).In_ok-extend_from_slice c.deref-2.result.now c.deref-2.ensures.value)

pub returns-in_err-_end-clause-fault : goal.returns-in_err-_end-clause-fault
returns-in_err-_end-clause-fault c =
    let e = err_from_is_err_and c.from_residual-in_err-_end.result c.from_residual-in_err-_end.ensures.1 in
    let start = copied (goal.at.returns-in_err-_end-clause-fault c).In_ok-extend_from_slice c.deref-2.result.now c.deref-2.ensures.value in
    rw (e.1, e.2) (subst (λ (input : List ℕ). IsRefusal IsLogFault input c.in_err-_end.field-0.0) c.deref.ensures.value
    (c.in_err-_end.ensures.fault c.deref.result.now start))

pub finish-requires : goal.finish-requires
finish-requires c =
    let start = copied (goal.at.finish-requires c).In_ok-extend_from_slice c.deref-2.result.now c.deref-2.ensures.value in (
      c.deref.result.now,
      at_end c.deref.result.now c.in_ok-_end._end.now c.read-2.new.self (c.in_ok-_end.ensures.ok c.deref.result.now start)
          c.in_ok-_end.ensures.left,
    )

pub returns-clause-ok : goal.returns-clause-ok
returns-clause-ok c =
    let start = copied (goal.at.returns-clause-ok c).In_ok-extend_from_slice c.deref-2.result.now c.deref-2.ensures.value in
    subst (λ (input : List ℕ). IsLogs input c.in_ok-finish.field-0.0 c.in_ok-finish.field-0.1 c.in_ok-finish.field-0.2.value) c.deref.ensures.value
    (c.in_ok-finish.ensures.logs c.deref.result.now (at_end c.deref.result.now c.in_ok-_end._end.now c.read-2.new.self
    (c.in_ok-_end.ensures.ok c.deref.result.now start) c.in_ok-_end.ensures.left))
