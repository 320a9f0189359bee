use Rattle.std.proofs.{Common.{◌≡◌, ℕ, ◌+◌, sym, subst, arith, length}, lemmas.Result.{err_from_is_err_and}}
use Rattle.std.specs.Prelude.{codes}
use Rattle.sci_text.specs.{declared.fault.TextFaultKind.TheVariants.{Syntax}, FirstFault.{IsToldAt}}
use Rattle.sci_text.specs.{LogValue.{HasAllLines}, LogReading.{AddsLast}}
use Rattle.sci_text.proofs.{Results.{ok_then, err_then}, LogFaults.{gives_front, gives_no_front}}
use Rattle.sci_text.proofs.LogFronts.{last_shrinks, last_goes_on, last_front_more, last_refused, few_refused}
use Rattle.sci_text.proofs.log_lines.contents.Goals as goal

pub push_last-requires-clause-begins : goal.push_last-requires-clause-begins
push_last-requires-clause-begins c = gives_front (codes "last") c.loop-last.rest.now c.after.result c.after.ensures (sym c.loop-last-test.ensures)

adds : (c : goal.In_ok-rest) → AddsLast c.args.form.now c.loop-last.last.items c.push_last.new.last.items c.loop-last.rest.now c.in_ok-rest.rest.now
adds c = ok_then (c.first_lines.result + c.len.result + 1) c.push_last.result c.at_line.result _ c.in_ok-rest.rest c.at_line.ensures c.in_ok-rest.was
    c.push_last.ensures.ok

pub loop-last-smaller : goal.loop-last-smaller
loop-last-smaller c = last_shrinks c.args.form.now c.loop-last.last.items c.push_last.new.last.items c.loop-last.rest.now c.in_ok-rest.rest.now (adds c)

pub loop-last-preserved : goal.loop-last-preserved
loop-last-preserved c = record {
  good = last_front_more c.args.form.now c.loop-last.last.items c.push_last.new.last.items c.loop-last.rest.now c.in_ok-rest.rest.now c.loop-last.invariant.good
      (adds c);
  parts = last_goes_on c.args.form.now c.args.bytes.now c.loop-last.last.items c.push_last.new.last.items c.loop-last.rest.now c.in_ok-rest.rest.now
      c.loop-last.invariant.parts (adds c);
}

pub returns-in_err-rest-clause-fault : goal.returns-in_err-rest-clause-fault
returns-in_err-rest-clause-fault c =
    let e = err_from_is_err_and c.from_residual.result c.from_residual.ensures.1 in
    let last = c.loop-last.last.items in
    let line = c.first_lines.result + c.len.result + 1 in
    let len : c.len.result ≡ length last = omega (arith, c.len.ensures) in
    let f = err_then line c.push_last.result c.at_line.result _ c.in_err-rest.field-0.0 c.at_line.ensures c.in_err-rest.was c.push_last.ensures.fault in
    let begins = gives_front (codes "last") c.loop-last.rest.now c.after.result c.after.ensures (sym c.loop-last-test.ensures) in
    rw (e.1, e.2) (last_refused c.args.form.now last c.args.bytes.now c.loop-last.rest.now f.0 line c.in_err-rest.field-0.0 c.requires
    c.loop-last.invariant.good c.loop-last.invariant.parts begins f.2 f.1 (omega (arith, c.first_lines.ensures, len)))

pub returns-then-not-has_all_lines-clause-fault : goal.returns-then-not-has_all_lines-clause-fault
returns-then-not-has_all_lines-clause-fault c =
    let last = c.loop-last.last.items in
    let told = c.at in
    let line = c.first_lines-then-not-has_all_lines.result + c.len-then-not-has_all_lines.result + 1 in
    let at : IsToldAt line Syntax told.result = (told.ensures.kind, told.ensures.line) in
    let no_more = gives_no_front (codes "last") c.loop-last.rest.now c.after.result c.after.ensures (sym c.loop-last-test.ensures) in
    let len-2 : c.len-2.result ≡ length last = omega (arith, c.len-2.ensures) in
    let few = subst (λ (n : ℕ). HasAllLines c.args.form.now.lines n → ⊥) len-2 c.if-not-has_all_lines.ensures.no in
    few_refused c.args.form.now last c.args.bytes.now c.loop-last.rest.now line told.result c.requires c.loop-last.invariant.good c.loop-last.invariant.parts
    no_more few at (omega (arith, c.first_lines-then-not-has_all_lines.ensures, c.len-then-not-has_all_lines.ensures))

pub returns-clause-no_more : goal.returns-clause-no_more
returns-clause-no_more c = gives_no_front (codes "last") c.loop-last.rest.now c.after.result c.after.ensures (sym c.loop-last-test.ensures)
