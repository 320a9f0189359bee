-- Texts without their last byte.
use Rattle.std.proofs.Common.{◌≡◌, ◌-◌, ℕ, List, [], ◌∷◌, ◌++◌, length, take, arith, ap, ◌∙◌, length-append}
use Rattle.std.proofs.Math.Seq.{take-append_seam}

pub without_last : (xs whole new : List ℕ) (last : ℕ) → whole ≡ xs ++ last ∷ [] → new ≡ take (length whole - 1) whole → new ≡ xs
without_last xs whole new last is rest =
    let long = length-append xs (last ∷ []) in
    let count : length (xs ++ last ∷ []) - 1 ≡ length xs = omega (arith, long) in
    rest ∙ (ap (λ (l : List ℕ). take (length l - 1) l) is ∙ (ap (λ (n : ℕ). take n (xs ++ last ∷ [])) count ∙ take-append_seam xs (last ∷ [])))
