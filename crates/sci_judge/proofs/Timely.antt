-- Versions that respect times, one operation after another.
use Rattle.std.proofs.Common.{◌≡◌, ℕ, zero, suc, ◌+◌, ◌<◌, ◌≤◌, true, List, [], ◌∷◌, ◌++◌, length, get_or, Some, refl, sym, ap, subst, ◌∙◌, arith, inl, inr}
use Rattle.std.proofs.lemmas.{Bool.{cases_eq, cases_lt, cases_order, eq-eqb, le-ltb, lt-ltb, ne_eqb}}
use Rattle.std.proofs.lemmas.{List.{get_or_append_left, length-append}, Option.{get_or_from_slice_get, slice_get_within}}
use Rattle.std.proofs.Math.Seq.{get_or-append_seam}
use Rattle.std.specs.{Prelude.{slice_get}, Ordering.{nat_cmp, ord_max}}
use Rattle.sci_judge.specs.{Access.{is_making}, declared.{access.Access.{Access}, times.Ended.{Ended}}, Stamped.{AreTimely}, Times.{AreMost, HasEnds, IsBehind}}

-- for the operations before a place
abbrev pub AreTimelyTo : List Access → List ℕ → ℕ → Type 0
AreTimelyTo accesses versions place =
    (i j v w : ℕ) (a b : Access) → j < place → slice_get accesses i ≡ Some a → slice_get accesses j ≡ Some b → slice_get versions i ≡ Some v
    → slice_get versions j ≡ Some w → a.end < b.begin → (v ≤ w) × (is_making b.kind ≡ true → v < w)

one_of : (accesses : List Access) (versions : List ℕ) (ends : List Ended) (i v w : ℕ) (a b : Access) → HasEnds accesses versions ends → IsBehind ends b w
    → slice_get accesses i ≡ Some a → slice_get versions i ≡ Some v → a.end < b.begin → (v ≤ w) × (is_making b.kind ≡ true → v < w)
one_of accesses versions ends i v w a b has behind at_a at_v less = grind arith

pub timely_more : (accesses : List Access) (versions : List ℕ) (ends : List Ended) (place : ℕ) (d : Access) → HasEnds accesses versions ends
    → place < length versions → IsBehind ends (get_or accesses place d) (get_or versions place 0) → AreTimelyTo accesses versions place
    → AreTimelyTo accesses versions (place + 1)
timely_more accesses versions ends place d has inside behind before i j v w a b lt at_a at_b at_v at_w less = elim (cases_lt j place) [
  | inl old ↦ before i j v w a b old at_a at_b at_v at_w less
  | inr past ↦
      let here : j ≡ place = omega arith in
      let is : get_or accesses place d ≡ b = ap (λ (k : ℕ). get_or accesses k d) (sym here) ∙ get_or_from_slice_get accesses j b d at_b in
      let word : get_or versions place 0 ≡ w = ap (λ (k : ℕ). get_or versions k 0) (sym here) ∙ get_or_from_slice_get versions j w 0 at_w in
      one_of accesses versions ends i v w a b has (subst (λ (x : Access). IsBehind ends x w) is (subst (IsBehind ends (get_or accesses place d)) word behind))
      at_a at_v less
]

pub timely_past : (accesses : List Access) (versions : List ℕ) (place : ℕ) → length versions ≤ place → AreTimelyTo accesses versions place
    → AreTimelyTo accesses versions (place + 1)
timely_past accesses versions place past before i j v w a b lt at_a at_b at_v at_w less = elim (cases_lt j place) [
  | inl old ↦ before i j v w a b old at_a at_b at_v at_w less
  | inr not_ ↦ let inside = slice_get_within versions j w at_w in absurd (omega arith)
]

pub timely_all : (accesses : List Access) (versions : List ℕ) (place : ℕ) → length accesses ≤ place → AreTimelyTo accesses versions place
    → AreTimely accesses versions
timely_all accesses versions place past before i j v w a b at_a at_b at_v at_w less =
    let inside = slice_get_within accesses j b at_b in before i j v w a b (omega arith) at_a at_b at_v at_w less

-- the greatest versions
pub behind_most : (ends : List Ended) (most : List ℕ) (access : Access) (count version : ℕ) → AreMost ends most → count ≤ length ends
    → ((place : ℕ) (d : Ended) → place < length ends → (get_or ends place d).end < access.begin → place < count)
    → (get_or most count 0 ≤ version) × (is_making access.kind ≡ true → get_or most count 0 < version) → IsBehind ends access version
behind_most ends most access count version are within before follows place d inside less = grind arith

any_end : (ends : List Ended) (i : ℕ) (d e : Ended) → i < length ends → get_or ends i d ≡ get_or ends i e
any_end [] i d e lt = absurd (omega arith)
any_end (x ∷ ends) zero d e lt = refl
any_end (x ∷ ends) (suc i) d e lt = any_end ends i d e (omega arith)

max_left : (a b : ℕ) → a ≤ ord_max nat_cmp a b
max_left a b = grind (arith, cases_order, le-ltb, lt-ltb, eq-eqb, ne_eqb)

max_right : (a b : ℕ) → b ≤ ord_max nat_cmp a b
max_right a b = grind (arith, cases_order, le-ltb, lt-ltb, eq-eqb, ne_eqb)

-- the greatest versions of one front more
pub record IsMostTo (ends : List Ended) (most : List ℕ) (index version : ℕ) : Type 0 where
  pub long : length most ≡ index + 1
  pub last : get_or most index 0 ≡ version
  pub each : (place count : ℕ) (d : Ended) → place < count → count ≤ index → (get_or ends place d).version ≤ get_or most count 0

pub most_more : (ends : List Ended) (most new : List ℕ) (index version next : ℕ) (d : Ended) → IsMostTo ends most index version → index < length ends
    → next ≡ ord_max nat_cmp version (get_or ends index d).version → new ≡ most ++ next ∷ [] → IsMostTo ends new (index + 1) next
most_more ends most new index version next d is inside max pushed =
    let long : length new ≡ length most + 1 = ap length pushed ∙ length-append most (next ∷ []) in
    let before = is.long in
    let at : (k : ℕ) → k < length most → get_or new k 0 ≡ get_or most k 0 =
    λ k lt. ap (λ (xs : List ℕ). get_or xs k 0) pushed ∙ get_or_append_left most (next ∷ []) 0 k lt in
    let end : get_or new (index + 1) 0 ≡ next =
    ap (λ (xs : List ℕ). get_or xs (index + 1) 0) pushed ∙ (ap (λ (k : ℕ). get_or (most ++ next ∷ []) k 0) (sym before) ∙ get_or-append_seam most next [] 0) in
    record {
      long = omega arith;
      last = end;
      each = λ place count e lt le. elim (cases_eq count (index + 1)) [
        | inl whole ↦
            let value : get_or new count 0 ≡ next = ap (λ (k : ℕ). get_or new k 0) whole ∙ end in
            elim (cases_eq place index) [
              | inl this ↦
                  let here : (get_or ends place e).version ≡ (get_or ends index d).version =
                  ap (λ (k : ℕ). (get_or ends k e).version) this ∙ ap (λ (x : Ended). x.version) (any_end ends index e d inside) in
                  let high = max_right version (get_or ends index d).version in
                  omega arith
              | inr other ↦
                  let low = is.each place index e (omega arith) (omega arith) in
                  let last = is.last in
                  let high = max_left version (get_or ends index d).version in
                  omega arith
            ]
        | inr part ↦
            let low = is.each place count e lt (omega arith) in
            let same = at count (omega arith) in
            omega arith
      ];
    }
