use Rattle.std.proofs.Common.{List, length, length-set, ap, ◌∙◌, arith}
use Rattle.std.proofs.lemmas.List.{ext_get_or}
use Rattle.sci_words.specs.{declared.stamped.Stamped.{Stamped}, Stamped.{zero_stamped}}
use Rattle.sci_history.specs.Memory.{stamped_at}
use Rattle.sci_c.proofs.Begun.{copied_next}
use Rattle.sci_c.proofs.journal.put_same.Goals as goal

pub loop-line-preserved : goal.loop-line-preserved
loop-line-preserved c =
    let lines = c.lines-line-end.ensures.lines in
    record {
      long = ap length c.set.ensures ∙ length-set c.loop-line.copy c.loop-line.line c.get.result ∙ c.loop-line.invariant.long;
      same = λ k lt.
          ap (λ (xs : List Stamped). stamped_at xs k) c.set.ensures
          ∙ copied_next c.args.contents.now c.loop-line.copy c.loop-line.line c.get.result (omega arith) c.get.ensures c.loop-line.invariant.same k lt;
    }

pub returns : goal.returns
returns c =
    let lines = c.lines-line-end.ensures.lines in
    let long = c.loop-line.invariant.long in
    ext_get_or zero_stamped c.loop-line.copy c.args.contents.now long (λ k lt. c.loop-line.invariant.same k (omega arith))
