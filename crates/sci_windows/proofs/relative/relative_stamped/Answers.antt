use Rattle.std.proofs.Common.{◌≡◌, ℕ, List, length, get_or, length-set, ◌∙◌, ap, arith}
use Rattle.sci_history.proofs.Runs.{same_stamped}
use Rattle.sci_windows.specs.Relative.{swapped}
use Rattle.sci_windows.proofs.Loops.{line_is, set_next}
use Rattle.sci_windows.proofs.relative.relative_stamped.Goals as goal

pub loop-word-preserved : goal.loop-word-preserved
loop-word-preserved c =
    let first = c.args.first.line in
    let words = c.args.stamped.line in
    let made = c.loop-word.line in
    let at = c.loop-word.word in
    let wide = c.word.ensures.width in
    let is : c.swapped.result ≡ swapped (get_or first at 0) (get_or words at 0) =
    c.swapped.ensures ∙ ap (λ (x : ℕ). swapped x c.word-in-loop-word.result) c.word.ensures.word
    ∙ ap (swapped (get_or first at 0)) c.word-in-loop-word.ensures.word in
    record {
      long = ap length c.with-line.ensures.changed ∙ length-set made at c.swapped.result ∙ c.loop-word.invariant.long;
      made = λ k lt. ap (λ (xs : List ℕ). get_or xs k 0) c.with-line.ensures.changed
          ∙ set_next made at c.swapped.result 0 (λ (n : ℕ). swapped (get_or first n 0) (get_or words n 0)) (omega arith) is c.loop-word.invariant.made k lt;
    }

pub returns-clause-contents : goal.returns-clause-contents
returns-clause-contents c = grind (arith, same_stamped, line_is)
