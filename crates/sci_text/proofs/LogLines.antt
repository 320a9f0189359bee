-- The lines of logs, one more at a time, and writes that go on.
use Rattle.std.proofs.Common.{◌≡◌, ℕ, zero, suc, ◌+◌, ◌<◌, List, [], ◌∷◌, ◌++◌, length, get_or, take, drop, Option, Some, None, refl, sym, ap, ◌∙◌}
use Rattle.std.proofs.{Common.{append_assoc, arith}, lemmas.List.{append-nil}}
use Rattle.std.specs.Io.KnownBytes.{Appends}
use Rattle.sci_words.specs.declared.stamped.Stamped.{Stamped}
use Rattle.sci_text.specs.Log.{last_line, last_lines}

pub last_lines_more : (first i : ℕ) (last : List Stamped) (d : Stamped) → i < length last
    → last_lines first (take (i + 1) last) ≡ last_lines first (take i last) ++ last_line (first + i) (get_or last i d)
last_lines_more first i [] d lt = absurd (omega arith)
last_lines_more first zero (stamped ∷ last) d lt = ap (λ (n : ℕ). last_line n stamped ++ []) (omega arith) ∙ append-nil (last_line (first + 0) stamped)
last_lines_more first (suc i) (stamped ∷ last) d lt =
    let here : first + 1 + i ≡ first + suc i = omega arith in
    let more : suc i + 1 ≡ suc (i + 1) = omega arith in
    rw more (
    ap (λ (rest : List ℕ). last_line first stamped ++ rest) (last_lines_more (first + 1) i last d (omega arith))
    ∙ sym (append_assoc (last_line first stamped) (last_lines (first + 1) (take i last)) (last_line (first + 1 + i) (get_or last i d)))
    ∙ ap (λ (n : ℕ). (last_line first stamped ++ last_lines (first + 1) (take i last)) ++ last_line n (get_or last i d)) here)

take_none : (n : ℕ) → take {A = ℕ} n [] ≡ []
take_none zero = refl
take_none (suc n) = refl

take_then : (i n : ℕ) (text : List ℕ) → take i text ++ take n (drop i text) ≡ take (i + n) text
take_then zero n text = ap (λ (k : ℕ). take k text) (omega arith)
take_then (suc i) n [] = take_none n ∙ sym (take_none (suc i + n))
take_then (suc i) n (b ∷ text) = let more : suc i + n ≡ suc (i + n) = omega arith in rw more (ap (λ (rest : List ℕ). b ∷ rest) (take_then i n text))

pub appends_on : (old mid new : Option (List ℕ)) (i n : ℕ) (text : List ℕ) → Appends old mid (take i text) → Appends mid new (take n (drop i text))
    → Appends old new (take (i + n) text)
appends_on None mid new i n text h k = tt
appends_on (Some xs) None new i n text h k = absurd h
appends_on (Some xs) (Some ys) None i n text h k = absurd k
appends_on (Some xs) (Some ys) (Some zs) i n text h k = grind (arith, append_assoc, take_then)
