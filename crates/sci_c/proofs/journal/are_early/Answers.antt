use Rattle.std.proofs.Common.{ap, arith, refl}
use Rattle.sci_words.specs.declared.stamped.Stamped.{Stamped}
use Rattle.sci_c.proofs.Begun.{early_all, early_next}
use Rattle.sci_c.proofs.journal.are_early.Goals as goal

pub loop-line-preserved : goal.loop-line-preserved
loop-line-preserved c =
    early_next c.args.contents.now c.loop-line.line c.get.result.version (ap (λ (s : Stamped). s.version) c.get.ensures)
    c.if-get-gt-MAX_FIRST_VERSION.false c.loop-line.invariant

pub returns : goal.returns
returns c = (
  (λ yes_. early_all c.args.contents.now c.lines-line-end.result c.lines-line-end.ensures.lines (λ k lt. c.loop-line.invariant k (omega arith))),
  (λ early. refl),
)
