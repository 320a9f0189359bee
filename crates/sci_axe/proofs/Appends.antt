-- Texts that are appended one behind another.
use Rattle.std.proofs.Common.{◌≡◌, ℕ, List, ◌++◌, Result, Ok, Err, ap, ◌∙◌, append_assoc}
use Rattle.std.specs.Prelude.{OnOk}

two : (old first end mid new : List ℕ) → mid ≡ old ++ first → new ≡ mid ++ end → new ≡ old ++ (first ++ end)
two old first end mid new a b = b ∙ (ap (λ (l : List ℕ). l ++ end) a ∙ append_assoc old first end)

-- two texts, if the second one is appended
pub both : {T E : Type 0} (r : Result T E) (old first end mid new : List ℕ) → mid ≡ old ++ first → OnOk r (new ≡ mid ++ end)
    → OnOk r (new ≡ old ++ (first ++ end))
both (Ok t) old first end mid new a b = two old first end mid new a b
both (Err e) old first end mid new a b = b
