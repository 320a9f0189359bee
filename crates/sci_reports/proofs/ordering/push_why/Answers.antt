-- The pieces of a line stand one behind another.
use Rattle.std.proofs.Common.{◌≡◌, ℕ, List, ◌++◌, ap, ◌∙◌, append_assoc, arith}
use Rattle.sci_reports.specs.OrderAnswer.{why_text}
use Rattle.sci_reports.proofs.ordering.push_why.Goals as goal

joined : (old between reason end n1 n2 n3 : List ℕ) → n1 ≡ old ++ between → n2 ≡ n1 ++ reason → n3 ≡ n2 ++ end → n3 ≡ old ++ (between ++ (reason ++ end))
joined old between reason end n1 n2 n3 e1 e2 e3 = grind (arith, append_assoc)

pub returns : goal.returns
unfolding why_text
returns c =
    joined _ _ _ _ _ _ _ c.in_ok-push_text.ensures.text
    (c.in_ok-push_text-2.ensures.text ∙ ap (λ (l : List ℕ). c.push_text.new.out.items ++ l) c.reason_words.ensures)
    c.in_ok-push_text-3.ensures.text
