-- Each refusal is the fault of the line that was read.
use Rattle.std.proofs.{Common.{◌^◌, ◌<◌, length, ap, inr, arith}, lemmas.Result.{err_from_is_err_and}}
use Rattle.sci_text.specs.LogValue.{front_of}
use Rattle.sci_text.proofs.LogFaults.{neither, entry_none, entry_long, entry_lower, entry_unfit, IsSaid, is_said, entry_outside, entry_too_many, entry_ok}
use Rattle.sci_text.proofs.log_lines.push_entry.Goals.{In-Some-entry}
use Rattle.sci_text.proofs.log_lines.push_entry.Goals as goal

pub returns-in_default-clause-fault : goal.returns-in_default-clause-fault
returns-in_default-clause-fault c =
    let front = front_of c.args.form.now c.args.last.now c.args.logs.now in
    inr (neither front c.args.bytes.now c.requires.no_last (entry_none front c.args.bytes.now c.in_default.ensures))

pub returns-in_err-check_length-clause-fault : goal.returns-in_err-check_length-clause-fault
returns-in_err-check_length-clause-fault c =
    let e = err_from_is_err_and c.from_residual.result c.from_residual.ensures.1 in
    let front = front_of c.args.form.now c.args.last.now c.args.logs.now in
    rw (e.1, e.2, c.in_err-check_length.ensures.fault)
    (inr (neither front c.args.bytes.now c.requires.no_last
    (entry_long front c.args.bytes.now c.in-Some.node c.in-Some.entry c.in-Some.rest.now c.in-Some.ensures c.in_err-check_length.ensures.long)))

pub returns-then-is_below-clause-fault : goal.returns-then-is_below-clause-fault
returns-then-is_below-clause-fault c =
    let front = front_of c.args.form.now c.args.last.now c.args.logs.now in
    inr (neither front c.args.bytes.now c.requires.no_last
    (entry_lower front c.args.bytes.now c.in-Some.node c.in-Some.entry c.in-Some.rest.now c.args.latest c.requires.latest c.in-Some.ensures
    c.if-is_below.ensures.yes))

pub returns-in_default-entry-clause-fault : goal.returns-in_default-entry-clause-fault
returns-in_default-entry-clause-fault c =
    let front = front_of c.args.form.now c.args.last.now c.args.logs.now in
    let small : c.args.latest < 2 ^ 64 = omega arith in
    inr (entry_unfit front c.args.bytes.now c.in-Some.node c.in-Some.entry c.in-Some.rest.now c.args.latest c.requires.good.form c.requires.good.few_lines
    c.requires.whole c.requires.latest small c.in-Some.ensures c.in_ok-check_length.ensures.short c.if-is_below.ensures.no c.in_default-entry.is)

-- the entry of the line, behind that of `latest`
said : (c : In-Some-entry) → IsSaid (front_of c.args.form.now c.args.last.now c.args.logs.now) c.args.bytes.now c.in-Some-entry.entry c.in-Some.rest.now
    c.args.latest
said c =
    is_said (front_of c.args.form.now c.args.last.now c.args.logs.now) c.args.bytes.now c.in-Some.node c.in-Some.entry c.in-Some-entry.entry c.in-Some.rest.now
    c.args.latest c.requires.whole c.requires.latest (omega arith) c.in-Some.ensures c.in-Some-entry.is c.in_ok-check_length.ensures.short
    c.if-is_below.ensures.no

pub returns-then-not-admits-clause-fault : goal.returns-then-not-admits-clause-fault
returns-then-not-admits-clause-fault c =
    inr (entry_outside _ c.args.bytes.now _ c.in-Some.rest.now c.args.latest (said (goal.at.returns-then-not-admits-clause-fault c).In-Some-entry)
    c.if-not-admits.ensures.no)

pub returns-then-of-form-clause-fault : goal.returns-then-of-form-clause-fault
returns-then-of-form-clause-fault c =
    inr (entry_too_many _ c.args.bytes.now _ c.in-Some.rest.now c.args.latest (said (goal.at.returns-then-of-form-clause-fault c).In-Some-entry)
    c.if-not-admits.ensures.yes (omega (arith, ap length c.of.ensures.log)))

pub returns-in-Ok-clause-ok : goal.returns-in-Ok-clause-ok
returns-in-Ok-clause-ok c =
    entry_ok _ c.args.bytes.now _ c.in-Some.rest.now c.args.latest (said (goal.at.returns-in-Ok-clause-ok c).In-Some-entry) c.if-not-admits.ensures.yes
    (omega (arith, ap length c.of.ensures.log)) c.push.new.self c.in-Ok.ensures.ok
