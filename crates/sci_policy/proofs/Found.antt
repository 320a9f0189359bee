-- What the least and the oldest of some lines are, and when there is one.
use Rattle.std.proofs.Common.{◌≡◌, ℕ, zero, suc, ◌+◌, ◌<◌, ◌≤◌, ◌&&◌, nat_le, Bool, true, false, cond, if◌then◌else◌, List, [], ◌∷◌, filter, Option, Some}
use Rattle.std.proofs.{Common.{None, refl, sym, subst, ◌∙◌, arith, inl, inr}, lemmas.Bool.{cases_Bool, cases_eq}}
use Rattle.std.specs.{Prelude.{IfSome, is_some}, List.{find, range_with_len, AllByRecursion}}
use Rattle.sci_core.specs.Node.{NodeOf, lines_of}
use Rattle.sci_policy.specs.Lines.{all_lines, has_pending, least, oldest, oldest_of, older, serial_on, some_line}

-- ---- the first number of a range that passes

found_by : (p : ℕ → Bool) (a n : ℕ) (b : Bool) → p a ≡ b → IfSome (find p (range_with_len (a + 1) n)) (λ x. (x < a + suc n) × (p x ≡ true))
    → IfSome (cond b (Some a) (find p (range_with_len (a + 1) n))) (λ x. (x < a + suc n) × (p x ≡ true))
found_by p a n true e rest = (omega arith, e)
found_by p a n false e rest = rest

pub found_fits : (p : ℕ → Bool) (a n : ℕ) → IfSome (find p (range_with_len a n)) (λ x. (x < a + n) × (p x ≡ true))
found_fits p a zero = tt
found_fits p a (suc n) =
    let same : (a + 1) + n ≡ a + suc n = omega arith in
    found_by p a n (p a) refl (subst (λ (end : ℕ). IfSome (find p (range_with_len (a + 1) n)) (λ x. (x < end) × (p x ≡ true))) same (found_fits p (a + 1) n))

-- a number that passes stands further on if the first doesn't
pub further : (p : ℕ → Bool) (a x : ℕ) → a ≤ x → p x ≡ true → p a ≡ false → a + 1 ≤ x
further p a x from passes fails = grind (arith, cases_eq)

some_found_by : (p : ℕ → Bool) (a n : ℕ) (b : Bool) → p a ≡ b → (p a ≡ false → is_some (find p (range_with_len (a + 1) n)) ≡ true)
    → is_some (cond b (Some a) (find p (range_with_len (a + 1) n))) ≡ true
some_found_by p a n true e rest = refl
some_found_by p a n false e rest = rest e

pub some_found : (p : ℕ → Bool) (a n x : ℕ) → a ≤ x → x < a + n → p x ≡ true → is_some (find p (range_with_len a n)) ≡ true
some_found p a zero x from below passes = absurd (omega arith)
some_found p a (suc n) x from below passes =
    some_found_by p a n (p a) refl (λ fails. (let end : x < (a + 1) + n = omega arith in some_found p (a + 1) n x (further p a x from passes fails) end passes))

-- ---- the least line

pub least_fits : (node : NodeOf) (test : ℕ → Bool) → IfSome (least node test) (λ line. (line < lines_of node) × (test line ≡ true))
least_fits node test =
    let same : 0 + lines_of node ≡ lines_of node = omega arith in
    subst (λ (end : ℕ). IfSome (least node test) (λ x. (x < end) × (test x ≡ true))) same (found_fits test 0 (lines_of node))

pub least_some : (node : NodeOf) (test : ℕ → Bool) (line : ℕ) → line < lines_of node → test line ≡ true → some_line node test ≡ true
least_some node test line below passes = some_found test 0 (lines_of node) line (omega arith) (omega arith) passes

pub least_none : (node : NodeOf) (test : ℕ → Bool) → some_line node test ≡ false → (line : ℕ) → line < lines_of node → test line ≡ false
least_none node test none line below =
    elim (cases_Bool (test line)) [
      | inl passes ↦ (let clash : true ≡ false = sym (least_some node test line below passes) ∙ none in cc)
      | inr fails ↦ fails
    ]

none_of : (o : Option ℕ) (P B : ℕ → Type 0) → IfSome o (λ x. B x × P x) → ((x : ℕ) → B x → P x → ⊥) → is_some o ≡ false
none_of None P B h fails = refl
none_of (Some x) P B h fails = absurd (fails x h.0 h.1)

-- if no line passes, there is none
pub none_passes : (node : NodeOf) (test : ℕ → Bool) → ((line : ℕ) → line < lines_of node → test line ≡ false) → some_line node test ≡ false
none_passes node test fails = none_of (least node test) (λ line. test line ≡ true) (λ line. line < lines_of node) (least_fits node test)
    (λ line below passes. (let clash : true ≡ false = sym passes ∙ fails line below in cc))

-- ---- the oldest operation

filtered_by : (p : ℕ → Bool) (a n : ℕ) (b : Bool) → p a ≡ b → AllByRecursion (λ x. (x < a + suc n) × (p x ≡ true)) (filter p (range_with_len (a + 1) n))
    → AllByRecursion (λ x. (x < a + suc n) × (p x ≡ true)) (cond b (a ∷ filter p (range_with_len (a + 1) n)) (filter p (range_with_len (a + 1) n)))
filtered_by p a n true e rest = ((omega arith, e), rest)
filtered_by p a n false e rest = rest

filtered_fit : (p : ℕ → Bool) (a n : ℕ) → AllByRecursion (λ x. (x < a + n) × (p x ≡ true)) (filter p (range_with_len a n))
filtered_fit p a zero = tt
filtered_fit p a (suc n) =
    let same : (a + 1) + n ≡ a + suc n = omega arith in
    let rest = subst (λ (end : ℕ). AllByRecursion (λ x. (x < end) × (p x ≡ true)) (filter p (range_with_len (a + 1) n))) same (filtered_fit p (a + 1) n) in
    filtered_by p a n (p a) refl rest

older_by : (P : ℕ → Type 0) (line other : ℕ) (b : Bool) → P line → P other → P (if b then line else other)
older_by P line other true h k = h
older_by P line other false h k = k

older_fits : (P : ℕ → Type 0) (node : NodeOf) (line : ℕ) (rest : Option ℕ) → P line → IfSome rest P → P (older node line rest)
older_fits P node line None h k = h
older_fits P node line (Some other) h k = older_by P line other (nat_le (serial_on node line) (serial_on node other)) h k

oldest_in : (P : ℕ → Type 0) (node : NodeOf) (lines : List ℕ) → AllByRecursion P lines → IfSome (oldest_of node lines) P
oldest_in P node [] all = tt
oldest_in P node (line ∷ lines) all = older_fits P node line (oldest_of node lines) all.0 (oldest_in P node lines all.1)

pub oldest_fits : (node : NodeOf) (test : ℕ → Bool) → IfSome (oldest node test) (λ line. (line < lines_of node) × ((has_pending node line && test line) ≡ true))
oldest_fits node test =
    let same : 0 + lines_of node ≡ lines_of node = omega arith in
    let all = filtered_fit (λ line. has_pending node line && test line) 0 (lines_of node) in
    oldest_in (λ line. (line < lines_of node) × ((has_pending node line && test line) ≡ true)) node _
    (subst (λ (end : ℕ). AllByRecursion (λ x. (x < end) × ((has_pending node x && test x) ≡ true))
    (filter (λ line. has_pending node line && test line) (all_lines node))) same all)

oldest_of_some : (node : NodeOf) (lines : List ℕ) → (lines ≡ [] → ⊥) → is_some (oldest_of node lines) ≡ true
oldest_of_some node [] some = absurd (some refl)
oldest_of_some node (line ∷ lines) some = refl

filtered_some_by : (p : ℕ → Bool) (a n : ℕ) (b : Bool) → p a ≡ b → (p a ≡ false → filter p (range_with_len (a + 1) n) ≡ [] → ⊥)
    → cond b (a ∷ filter p (range_with_len (a + 1) n)) (filter p (range_with_len (a + 1) n)) ≡ [] → ⊥
filtered_some_by p a n true e rest none = cc
filtered_some_by p a n false e rest none = rest e none

filtered_some : (p : ℕ → Bool) (a n x : ℕ) → a ≤ x → x < a + n → p x ≡ true → filter p (range_with_len a n) ≡ [] → ⊥
filtered_some p a zero x from below passes none = absurd (omega arith)
filtered_some p a (suc n) x from below passes none =
    filtered_some_by p a n (p a) refl
    (λ fails. (let end : x < (a + 1) + n = omega arith in filtered_some p (a + 1) n x (further p a x from passes fails) end passes)) none

pub oldest_some : (node : NodeOf) (test : ℕ → Bool) (line : ℕ) → line < lines_of node → has_pending node line ≡ true → test line ≡ true
    → is_some (oldest node test) ≡ true
oldest_some node test line below pending passes =
    let both : (has_pending node line && test line) ≡ true = rw (pending, passes) refl in
    oldest_of_some node _ (filtered_some (λ l. has_pending node l && test l) 0 (lines_of node) line (omega arith) (omega arith) both)
