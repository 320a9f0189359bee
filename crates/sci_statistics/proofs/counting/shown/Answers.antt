use Rattle.std.proofs.Common.{◌++◌, ◌∷◌, [], ap, sym, ◌∙◌, List, ℕ}
use Rattle.sci_statistics.proofs.FigureTexts.{range_more}
use Rattle.sci_statistics.proofs.counting.shown.Goals as goal

pub loop-n-preserved : goal.loop-n-preserved
loop-n-preserved c = c.in_ok-push-2.ensures.items ∙ (ap (λ (l : List ℕ). l ++ c.loop-n.n ∷ []) c.loop-n.invariant ∙ sym (range_more c.loop-n.n))
