use Rattle.std.proofs.Common.{◌≡◌, ℕ, List, length, length-set, ◌∙◌, ap, sym, arith}
use Rattle.sci_words.specs.{declared.{limits.TheConstants.{WORDS_PER_LINE}, stamped.Stamped.{Stamped}}, Stamped.{zero_stamped}}
use Rattle.sci_history.specs.Memory.{stamped_at}
use Rattle.sci_windows.specs.Relative.{relative_stamped}
use Rattle.sci_windows.proofs.Loops.{contents_are, holds_next, lines_are, set_next}
use Rattle.sci_windows.proofs.relative.put_relative.Goals as goal

pub loop-line-preserved : goal.loop-line-preserved
loop-line-preserved c =
    let first = c.args.first.now in
    let contents = c.args.contents.now in
    let at = c.loop-line.line in
    let lines = c.lines-line-end.ensures.lines in
    let is : c.relative_stamped.result ≡ relative_stamped (stamped_at first at) (stamped_at contents at) =
    c.relative_stamped.ensures.contents ∙ ap (λ (s : Stamped). relative_stamped s c.get-in-loop-line.result) c.get.ensures
    ∙ ap (relative_stamped (stamped_at first at)) c.get-in-loop-line.ensures in
    record {
      long = ap length c.set.ensures ∙ length-set c.loop-line.made at c.relative_stamped.result ∙ c.loop-line.invariant.long;
      made = λ k lt. ap (λ (xs : List Stamped). stamped_at xs k) c.set.ensures
          ∙ set_next c.loop-line.made at c.relative_stamped.result zero_stamped (λ (n : ℕ). relative_stamped (stamped_at first n) (stamped_at contents n))
          (omega arith) is c.loop-line.invariant.made k lt;
      first = holds_next (λ (n : ℕ). length (stamped_at first n).line ≡ WORDS_PER_LINE) at
          (ap (λ (s : Stamped). length s.line) (sym c.get.ensures) ∙ c.relative_stamped.ensures.first) c.loop-line.invariant.first;
      lines = holds_next (λ (n : ℕ). length (stamped_at contents n).line ≡ WORDS_PER_LINE) at
          (ap (λ (s : Stamped). length s.line) (sym c.get-in-loop-line.ensures) ∙ c.relative_stamped.ensures.line) c.loop-line.invariant.lines;
    }

pub returns-clause-contents : goal.returns-clause-contents
returns-clause-contents c = grind (arith, contents_are)

pub returns-clause-first : goal.returns-clause-first
returns-clause-first c = grind (arith, lines_are)

pub returns-clause-lines : goal.returns-clause-lines
returns-clause-lines c =
    lines_are c.args.contents.now c.lines-line-end.result c.lines-line-end.ensures.lines (λ k lt. c.loop-line.invariant.lines k (omega arith))
