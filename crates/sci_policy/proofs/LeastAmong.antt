-- The least number that passes a test, among more and more of them.
use Rattle.std.proofs.Common.{◌≡◌, ℕ, zero, suc, ◌+◌, ◌-◌, ◌<◌, ◌≤◌, ◌&&◌, Bool, true, false, cond, List, [], ◌∷◌, ◌++◌, Option, Some, None, refl, sym, ap, ◌∙◌}
use Rattle.std.proofs.{Common.{arith}, lemmas.{Bool.{and_parts}, List.Folds.{find-append}, Option.{IfSome_then}}}
use Rattle.std.specs.{Prelude.{IfSome}, Bool.{then_some}, Option.{option_or}, List.{find, range_with_len}}
use Rattle.sci_words.specs.declared.limits.TheConstants.{MAX_LINES}
use Rattle.sci_cache.specs.LineSet.{IsBefore, is_in}
use Rattle.sci_core.specs.Node.{NodeOf, lines_of}
use Rattle.sci_policy.specs.Lines.{least}

-- numbers up to a place, and those from it on
pub range_parts : (a n m : ℕ) → range_with_len a (n + m) ≡ range_with_len a n ++ range_with_len (a + n) m
range_parts a zero m = rw ((let e : 0 + m ≡ m = omega arith in e), (let e : a + 0 ≡ a = omega arith in e)) refl
range_parts a (suc n) m =
    let more : suc n + m ≡ suc (n + m) = omega arith in
    let from : a + suc n ≡ (a + 1) + n = omega arith in
    rw (more, from) (ap (λ (xs : List ℕ). a ∷ xs) (range_parts (a + 1) n m))

pub range_more : (n : ℕ) → range_with_len 0 (n + 1) ≡ range_with_len 0 n ++ n ∷ []
range_more n = let same : 0 + n ≡ n = omega arith in range_parts 0 n 1 ∙ ap (λ (k : ℕ). range_with_len 0 n ++ k ∷ []) same

one_found : (b : Bool) (k : ℕ) → cond {A = Option ℕ} b (Some k) None ≡ then_some b k
one_found true k = refl
one_found false k = refl

-- what was found stays; else the next number is found, if it passes
pub find_more : (p : ℕ → Bool) (k : ℕ) → find p (range_with_len 0 (k + 1)) ≡ option_or (find p (range_with_len 0 k)) (then_some (p k) k)
find_more p k = ap (find p) (range_more k) ∙ (find-append p (range_with_len 0 k) (k ∷ []) ∙ ap (option_or (find p (range_with_len 0 k))) (one_found (p k) k))

or_none : (o : Option ℕ) → option_or o None ≡ o
or_none None = refl
or_none (Some x) = refl

-- numbers that don't pass change nothing
find_between : (p : ℕ → Bool) (k d : ℕ) → ((j : ℕ) → k ≤ j → j < k + d → p j ≡ false) → find p (range_with_len 0 (k + d)) ≡ find p (range_with_len 0 k)
find_between p k zero fails = let same : k + 0 ≡ k = omega arith in ap (λ (n : ℕ). find p (range_with_len 0 n)) same
find_between p k (suc d) fails =
    let same : k + suc d ≡ (k + d) + 1 = omega arith in
    ap (λ (n : ℕ). find p (range_with_len 0 n)) same
    ∙ (find_more p (k + d)
    ∙ (ap (λ (b : Bool). option_or (find p (range_with_len 0 (k + d))) (then_some b (k + d))) (fails (k + d) (omega arith) (omega arith))
    ∙ (or_none (find p (range_with_len 0 (k + d))) ∙ find_between p k d (λ j from below. (let lt : j < k + suc d = omega arith in fails j from lt)))))

pub find_up_to : (p : ℕ → Bool) (k n : ℕ) → k ≤ n → ((j : ℕ) → k ≤ j → j < n → p j ≡ false) → find p (range_with_len 0 k) ≡ find p (range_with_len 0 n)
find_up_to p k n le fails =
    let whole : k + (n - k) ≡ n = omega arith in
    sym (find_between p k (n - k) (λ j from below. fails j from (omega arith))) ∙ ap (λ (m : ℕ). find p (range_with_len 0 m)) whole

-- what was found among the first numbers is found among more of them
longer : (p : ℕ → Bool) (k n x : ℕ) → k ≤ n → find p (range_with_len 0 k) ≡ Some x → find p (range_with_len 0 n) ≡ Some x
longer p k n x le is =
    let whole : k + (n - k) ≡ n = omega arith in
    ap (λ (m : ℕ). find p (range_with_len 0 m)) (sym whole)
    ∙ (ap (find p) (range_parts 0 k (n - k))
    ∙ (find-append p (range_with_len 0 k) (range_with_len (0 + k) (n - k)) ∙ ap (λ (o : Option ℕ). option_or o (find p (range_with_len (0 + k) (n - k)))) is))

-- a number that passes, and before which none does, is the least that passes; and there is none if none passes
pub found_at : (p : ℕ → Bool) (n : ℕ) (found : Option ℕ) → IfSome found (λ k. k < n) → IfSome found (λ k. p k ≡ true)
    → ((j : ℕ) → j < n → IsBefore j found → p j ≡ false) → found ≡ find p (range_with_len 0 n)
found_at p n None here passes none = find_up_to p 0 n (omega arith) (λ j from below. none j below tt)
found_at p n (Some k) here passes none =
    let before : None ≡ find p (range_with_len 0 k) = find_up_to p 0 k (omega arith) (λ j from below. (let lt : j < n = omega arith in none j lt below)) in
    let least : find p (range_with_len 0 (k + 1)) ≡ Some k =
    find_more p k ∙ (ap (λ (o : Option ℕ). option_or o (then_some (p k) k)) (sym before) ∙ ap (λ (b : Bool). option_or None (then_some b k)) passes) in
    sym (longer p (k + 1) n k (omega arith) least)

-- the least line of a set is the least that passes, if the set has those that pass
pub least_is : (node : NodeOf) (set : ℕ) (test : ℕ → Bool) (found : Option ℕ) → ((line : ℕ) → is_in set line ≡ test line)
    → ((line : ℕ) → is_in set line ≡ true → line < lines_of node) → IfSome found (λ line. is_in set line ≡ true)
    → ((line : ℕ) → 0 ≤ line → IsBefore line found → is_in set line ≡ false) → found ≡ least node test
least_is node set test found same here is before =
    found_at test (lines_of node) found (IfSome_then found is here) (IfSome_then found is (λ line i. sym (same line) ∙ i))
    (λ line below first. sym (same line) ∙ before line (omega arith) first)

-- what two tests say together, where the second matters only if the first passes
both_say : (a b p q : Bool) → a ≡ p → (a ≡ true → b ≡ q) → (a && b) ≡ (p && q)
both_say true b p q first second = ap (λ (x : Bool). x && b) first ∙ ap (λ (x : Bool). p && x) (second refl)
both_say false b p q first second = ap (λ (x : Bool). x && q) first

-- the least line of what two sets have in common is the least that passes the tests of both
pub least_of_both : (node : NodeOf) (one other both : ℕ) (p q : ℕ → Bool) (result : Option ℕ) → ((line : ℕ) → is_in one line ≡ p line)
    → ((line : ℕ) → is_in one line ≡ true → line < lines_of node) → ((line : ℕ) → is_in one line ≡ true → line < MAX_LINES)
    → ((line : ℕ) → is_in both line ≡ (is_in one line && is_in other line)) → ((line : ℕ) → line < MAX_LINES → is_in other line ≡ q line)
    → IfSome result (λ line. is_in both line ≡ true) → ((line : ℕ) → 0 ≤ line → IsBefore line result → is_in both line ≡ false)
    → result ≡ least node (λ line. p line && q line)
least_of_both node one other both p q result each here small cut second is before = grind (arith, least_is, both_say, and_parts)
