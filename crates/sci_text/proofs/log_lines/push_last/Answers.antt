-- Each refusal is the fault of the line that was read.
use Rattle.std.proofs.Common.{◌≡◌, ℕ, ◌^◌, ◌<◌, length, Some, refl, ap, sym, subst, ◌∙◌, inl, inr, arith}
use Rattle.std.proofs.lemmas.Result.{err_from_is_err_and}
use Rattle.sci_text.specs.{LogReading.{no_logs}, LogValue.{HasRoom, front_of}}
use Rattle.sci_text.proofs.LogFaults.{neither, last_none, last_long, last_other, last_no_room, last_no_entry, last_range, last_ok}
use Rattle.sci_text.proofs.log_lines.push_last.Goals.{Else-not-has_room}
use Rattle.sci_text.proofs.log_lines.push_last.Goals as goal

pub returns-in_default-clause-fault : goal.returns-in_default-clause-fault
returns-in_default-clause-fault c =
    let front = front_of c.args.form.now c.args.last.now.items no_logs in
    inr (neither front c.args.bytes.now (last_none front c.args.bytes.now c.in_default.ensures) (last_no_entry front c.args.bytes.now c.requires.begins))

pub returns-in_err-check_length-clause-fault : goal.returns-in_err-check_length-clause-fault
returns-in_err-check_length-clause-fault c =
    let e = err_from_is_err_and c.from_residual.result c.from_residual.ensures.1 in
    let front = front_of c.args.form.now c.args.last.now.items no_logs in
    rw (e.1, e.2, c.in_err-check_length.ensures.fault)
    (inr (neither front c.args.bytes.now
    (last_long front c.args.bytes.now c.in-Some.said.line c.in-Some.said.stamped c.in-Some.rest.now c.in-Some.ensures c.in_err-check_length.ensures.long)
    (last_no_entry front c.args.bytes.now c.requires.begins)))

pub returns-then-not-is_number-clause-fault : goal.returns-then-not-is_number-clause-fault
returns-then-not-is_number-clause-fault c =
    let front = front_of c.args.form.now c.args.last.now.items no_logs in
    let few : length c.args.last.now.items < 2 ^ 64 = omega (arith, c.requires.few) in
    let len : c.len.result ≡ length c.args.last.now.items = omega (arith, c.len.ensures) in
    inr (neither front c.args.bytes.now
    (last_other front c.args.bytes.now c.in-Some.said.line c.in-Some.said.stamped c.in-Some.rest.now c.in-Some.ensures few
    (λ is. c.if-not-is_number.ensures.no (is ∙ ap (λ (n : ℕ). Some n) (sym len)))) (last_no_entry front c.args.bytes.now c.requires.begins))

pub returns-then-not-has_room-clause-fault : goal.returns-then-not-has_room-clause-fault
returns-then-not-has_room-clause-fault c =
    let front = front_of c.args.form.now c.args.last.now.items no_logs in
    let len : c.len-2.result ≡ length c.args.last.now.items = omega (arith, c.len-2.ensures) in
    inr (neither front c.args.bytes.now
    (last_no_room front c.args.bytes.now (subst (λ (n : ℕ). HasRoom c.args.form.now.lines n → ⊥) len c.if-not-has_room.ensures.no))
    (last_no_entry front c.args.bytes.now c.requires.begins))

-- the line stands at its place
next : (c : Else-not-has_room) → HasRoom c.args.form.now.lines (length c.args.last.now.items)
    × (c.in-Some.said.line ≡ Some (length c.args.last.now.items))
next c = grind arith

pub returns-then-len-clause-fault : goal.returns-then-len-clause-fault
returns-then-len-clause-fault c =
    let next = next (goal.at.returns-then-len-clause-fault c).Else-not-has_room in
    inr (last_range _ c.args.bytes.now c.in-Some.said.line c.in-Some.said.stamped c.in-Some.rest.now refl next.0 c.in-Some.ensures next.1
    c.in_ok-check_length.ensures.short (inl (omega (arith, c.len-3.ensures))))

pub returns-in_default-stamped-clause-fault : goal.returns-in_default-stamped-clause-fault
returns-in_default-stamped-clause-fault c =
    let next = next (goal.at.returns-in_default-stamped-clause-fault c).Else-not-has_room in
    inr (last_range _ c.args.bytes.now c.in-Some.said.line c.in-Some.said.stamped c.in-Some.rest.now refl next.0 c.in-Some.ensures next.1
    c.in_ok-check_length.ensures.short (inr c.in_default-stamped.is))

pub returns-in-Ok-clause-ok : goal.returns-in-Ok-clause-ok
returns-in-Ok-clause-ok c = grind (arith, last_ok)
