-- A set of lines that is marked line by line, from the least on.
use Rattle.std.proofs.Common.{◌≡◌, ◌≢◌, ◌⊎◌, ℕ, ◌+◌, ◌<◌, ◌≤◌, Bool, true, false, List, length, get_or, set, replicate, refl, sym, ap, ◌∙◌, arith}
use Rattle.std.proofs.{Common.{inl, inr}, lemmas.Bool.{cases_eq, cases_lt}}
use Rattle.std.proofs.lemmas.List.{ext_get_or, get_or_past, get_or-replicate, get_or-set_other, get_or-set_same, length-replicate, length-set}
use Rattle.std.proofs.lemmas.List.FromFn.{get_or-map-range_with_len, length-map-range_with_len}
use Rattle.sci_words.specs.declared.limits.TheConstants.{MAX_LINES}
use Rattle.sci_cache.specs.LineSet.{is_in}
use Rattle.sci_policy.specs.Policy.{has, set_of}

-- up to a line the marks are those of a test, and from it on there are none
pub record AreMarked (tested : ℕ → Bool) (from : ℕ) (marks : List Bool) : Type 0 where
  pub long : length marks ≡ MAX_LINES
  pub below : (k : ℕ) → k < from → get_or marks k false ≡ tested k
  pub above : (k : ℕ) → from ≤ k → get_or marks k false ≡ false

length_of : (tested : ℕ → Bool) → length (set_of tested) ≡ MAX_LINES
length_of tested = length-map-range_with_len tested 0 MAX_LINES

-- whether a line is in a set
pub in_set : (tested : ℕ → Bool) (k : ℕ) → k < MAX_LINES → get_or (set_of tested) k false ≡ tested k
in_set tested k small = get_or-map-range_with_len tested 0 MAX_LINES k k false small (omega arith)

-- a line of no machine is in no set
pub past_set : (tested : ℕ → Bool) (k : ℕ) → MAX_LINES ≤ k → get_or (set_of tested) k false ≡ false
past_set tested k past = get_or_past (set_of tested) k false (let long = length_of tested in omega arith)

is_set_of : (tested : ℕ → Bool) (marks : List Bool) → length marks ≡ MAX_LINES → ((k : ℕ) → k < MAX_LINES → get_or marks k false ≡ tested k)
    → marks ≡ set_of tested
is_set_of tested marks long at =
    ext_get_or false marks (set_of tested) (long ∙ sym (length_of tested))
    (λ k lt. (let small : k < MAX_LINES = omega arith in at k small ∙ sym (in_set tested k small)))

unmarked : (k : ℕ) → get_or (replicate MAX_LINES false) k false ≡ false
unmarked k = elim (cases_lt k MAX_LINES) [
  | inl lt ↦ get_or-replicate MAX_LINES k false false lt
  | inr past ↦ get_or_past (replicate MAX_LINES false) k false (let long = length-replicate MAX_LINES false in omega arith)
]

pub none_marked : (tested : ℕ → Bool) → AreMarked tested 0 (replicate MAX_LINES false)
none_marked tested = record { long = length-replicate MAX_LINES false; below = λ k lt. absurd (omega arith); above = λ k le. unmarked k }

pub mark : (tested : ℕ → Bool) (from line : ℕ) (b : Bool) (marks : List Bool) → from ≤ line → line < MAX_LINES
    → ((k : ℕ) → from ≤ k → k < line → tested k ≡ false) → b ≡ tested line → AreMarked tested from marks → AreMarked tested (line + 1) (set marks line b)
mark tested from line b marks le lt none is was = record {
  long = length-set marks line b ∙ was.long;
  below = λ k below. below_at k below (cases_eq k line) (cases_lt k from);
  above = λ k above. (let ne : k ≢ line = (λ same. omega arith) in get_or-set_other marks line k b false ne ∙ was.above k (omega arith));
}
  where
    below_at : (k : ℕ) → k < line + 1 → (k ≡ line) ⊎ (k ≢ line) → (k < from) ⊎ (from ≤ k) → get_or (set marks line b) k false ≡ tested k
    below_at k below (inl same) _ =
        let long = was.long in
        let here : line < length marks = omega arith in
        ap (λ (n : ℕ). get_or (set marks line b) n false) same ∙ (get_or-set_same marks line b false here ∙ (is ∙ ap tested (sym same)))
    below_at k below (inr ne) (inl before) = get_or-set_other marks line k b false ne ∙ was.below k before
    below_at k below (inr ne) (inr after) = get_or-set_other marks line k b false ne ∙ (was.above k after ∙ sym (none k after (omega arith)))

pub marked : (tested : ℕ → Bool) (from : ℕ) (marks : List Bool) → ((k : ℕ) → from ≤ k → k < MAX_LINES → tested k ≡ false)
    → AreMarked tested from marks → marks ≡ set_of tested
marked tested from marks none was = is_set_of tested marks was.long (λ k small. at k small (cases_lt k from))
  where
    at : (k : ℕ) → k < MAX_LINES → (k < from) ⊎ (from ≤ k) → get_or marks k false ≡ tested k
    at k small (inl lower) = was.below k lower
    at k small (inr higher) = was.above k higher ∙ sym (none k higher small)

-- ---- a set of lines by bits, as a list

-- no line is in the set of none
pub none_in : (set : ℕ) → ((line : ℕ) → is_in set line ≡ false) → set_of (is_in set) ≡ replicate MAX_LINES false
none_in set none = sym (is_set_of (is_in set) (replicate MAX_LINES false) (length-replicate MAX_LINES false) (λ k small. unmarked k ∙ sym (none k)))

-- whether a set has a line is whether the list says so, if no set has a line of no machine
pub has_bit : (bits line : ℕ) (b : Bool) → b ≡ is_in bits line → (b ≡ true → line < MAX_LINES) → b ≡ has (set_of (is_in bits)) line
has_bit bits line true is small = is ∙ sym (in_set (is_in bits) line (small refl))
has_bit bits line false is small = elim (cases_lt line MAX_LINES) [
  | inl below ↦ is ∙ sym (in_set (is_in bits) line below)
  | inr past ↦ sym (past_set (is_in bits) line past)
]

-- sets of the same lines are the same list
pub set_same : (p q : ℕ → Bool) → ((line : ℕ) → line < MAX_LINES → p line ≡ q line) → set_of p ≡ set_of q
set_same p q same = is_set_of q (set_of p) (length_of p) (λ line small. in_set p line small ∙ same line small)

-- one line is put in or taken out
pub put_in : (old new line : ℕ) (b : Bool) → line < MAX_LINES → is_in new line ≡ b → ((other : ℕ) → other ≢ line → is_in new other ≡ is_in old other)
    → set_of (is_in new) ≡ set (set_of (is_in old)) line b
put_in old new line b small here others =
    sym (is_set_of (is_in new) (set (set_of (is_in old)) line b) (length-set (set_of (is_in old)) line b ∙ length_of (is_in old))
    (λ k lt. at k lt (cases_eq k line)))
  where
    at : (k : ℕ) → k < MAX_LINES → (k ≡ line) ⊎ (k ≢ line) → get_or (set (set_of (is_in old)) line b) k false ≡ is_in new k
    at k lt (inl same) =
        let long = length_of (is_in old) in
        let inside : line < length (set_of (is_in old)) = omega arith in
        ap (λ (n : ℕ). get_or (set (set_of (is_in old)) line b) n false) same
        ∙ (get_or-set_same (set_of (is_in old)) line b false inside ∙ (sym here ∙ ap (is_in new) (sym same)))
    at k lt (inr ne) = get_or-set_other (set_of (is_in old)) line k b false ne ∙ (in_set (is_in old) k lt ∙ sym (others k ne))
