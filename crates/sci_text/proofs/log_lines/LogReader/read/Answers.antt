use Rattle.std.proofs.{Common.{◌<◌, List, length, sym, subst, arith}, lemmas.{Bool.Decides.{nat_tests}, Result.{err_from_is_err_and}}}
use Rattle.sci_words.specs.declared.stamped.Stamped.{Stamped}
use Rattle.sci_text.specs.LogValue.{IsFront, front_of}
use Rattle.sci_text.proofs.{Results.{ok_then, err_then}, LogFronts.{entry_shrinks}, LogReaders.{grows, refused}}
use Rattle.sci_text.proofs.log_lines.LogReader.read.Goals as goal

pub push_entry-read-requires-clause-good : goal.push_entry-read-requires-clause-good
push_entry-read-requires-clause-good c =
    let now = c.loop-rest.invariant.so_far c.requires.0 c.requires.1 in
    subst (λ (last : List Stamped). IsFront (front_of c.loop-rest.self.form last c.loop-rest.self.logs)) (sym c.deref.ensures.value) now.begins.good

pub returns-in_err-self-clause-fault : goal.returns-in_err-self-clause-fault
returns-in_err-self-clause-fault c = λ input h.
    let e = err_from_is_err_and c.from_residual.result c.from_residual.ensures.1 in
    let now = c.loop-rest.invariant.so_far input h in
    let f = err_then c.loop-rest.self.line c.push_entry-read.result c.at_line.result _ c.in_err-self.field-0.0 c.at_line.ensures c.in_err-self.was
    c.push_entry-read.ensures.fault in
    let some : 0 < length c.loop-rest.rest.now = grind (arith, nat_tests) in
    rw (e.1, e.2) (refused input c.loop-rest.rest.now c.loop-rest.self c.deref.result.now f.0 c.in_err-self.field-0.0 c.deref.ensures.value now some f.2 f.1)

pub loop-rest-smaller : goal.loop-rest-smaller
loop-rest-smaller c = grind (arith, entry_shrinks, ok_then)

pub loop-rest-preserved : goal.loop-rest-preserved
loop-rest-preserved c = record {
  so_far = λ input h. grows input c.loop-rest.rest.now c.in_ok-self.field-0-1.now c.loop-rest.self c.deref.result.now c.push_entry-read.new.logs
      c.in_ok-self.field-0-0 c.deref.ensures.value (c.loop-rest.invariant.so_far input h)
      (ok_then c.loop-rest.self.line c.push_entry-read.result c.at_line.result _ (c.in_ok-self.field-0-0, c.in_ok-self.field-0-1) c.at_line.ensures
      c.in_ok-self.was c.push_entry-read.ensures.ok);
}
