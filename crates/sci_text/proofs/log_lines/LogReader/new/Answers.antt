use Rattle.std.proofs.{Common.{◌+◌, ◌<◌, ◌^◌, ap, arith, length, refl}, lemmas.List.{length-append}}
use Rattle.sci_text.specs.declared.log_lines.LogReader.{LogReader}
use Rattle.sci_text.specs.{Log.{last_lines}, LogValue.{first_line}}
use Rattle.sci_text.proofs.{Results.{ok_then}, LogReaders.{started}}
use Rattle.sci_text.proofs.log_lines.LogReader.new.Goals as goal

pub returns-clause-ok : goal.returns-clause-ok
returns-clause-ok c =
    let form = c.in_ok-form.form in
    let after = c.in_ok-form.rest in
    let last = c.in_ok-last.last in
    let rest = c.in_ok-last.rest in
    let text = ok_then 1 c.form_of.result c.at_line.result _ (form, after) c.at_line.ensures c.in_ok-form.was c.form_of.ensures.text in
    let first = ok_then 1 c.form_of.result c.at_line.result _ (form, after) c.at_line.ensures c.in_ok-form.was c.form_of.ensures.first in
    let parts = c.in_ok-last.ensures.ok in
    let few : length rest.now < 2 ^ 63 = omega (
      arith,
      ap length text,
      ap length parts,
      length-append (first_line form) after.now,
      length-append (last_lines 0 last.items) rest.now,
    ) in
    let reader : LogReader = record { form = form; last = last; logs = c.new.result; latest = 0; line = c.first_lines.result + c.len.result + 1 } in
    started c.args.input.now after.now rest.now reader text first parts c.in_ok-last.ensures.good c.in_ok-last.ensures.whole c.in_ok-last.ensures.no_more
    c.new.ensures refl (omega (arith, c.first_lines.ensures, c.len.ensures)) few
