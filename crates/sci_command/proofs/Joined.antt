-- Pieces of a text that were appended one behind another.
use Rattle.std.proofs.Common.{◌≡◌, ℕ, List, ◌++◌, ap, ◌∙◌, append_assoc}

pub joined : (old a b n1 n2 : List ℕ) → n1 ≡ old ++ a → n2 ≡ n1 ++ b → n2 ≡ old ++ (a ++ b)
joined old a b n1 n2 e1 e2 = e2 ∙ ap (λ (l : List ℕ). l ++ b) e1 ∙ append_assoc old a b

pub joined3 : (old a b c n1 n2 n3 : List ℕ) → n1 ≡ old ++ a → n2 ≡ n1 ++ b → n3 ≡ n2 ++ c → n3 ≡ old ++ (a ++ (b ++ c))
joined3 old a b c n1 n2 n3 e1 e2 e3 = joined old a (b ++ c) n1 n3 e1 (joined n1 b c n2 n3 e2 e3)

pub joined4 : (old a b c d n1 n2 n3 n4 : List ℕ) → n1 ≡ old ++ a → n2 ≡ n1 ++ b → n3 ≡ n2 ++ c → n4 ≡ n3 ++ d → n4 ≡ old ++ (a ++ (b ++ (c ++ d)))
joined4 old a b c d n1 n2 n3 n4 e1 e2 e3 e4 = joined old a (b ++ (c ++ d)) n1 n4 e1 (joined3 n1 b c d n2 n3 n4 e2 e3 e4)

pub joined5 : (old a b c d e n1 n2 n3 n4 n5 : List ℕ) → n1 ≡ old ++ a → n2 ≡ n1 ++ b → n3 ≡ n2 ++ c → n4 ≡ n3 ++ d → n5 ≡ n4 ++ e
    → n5 ≡ old ++ (a ++ (b ++ (c ++ (d ++ e))))
joined5 old a b c d e n1 n2 n3 n4 n5 e1 e2 e3 e4 e5 = joined old a (b ++ (c ++ (d ++ e))) n1 n5 e1 (joined4 n1 b c d e n2 n3 n4 n5 e2 e3 e4 e5)
