-- Operations in the order of their addresses: those of one address stand together.
use Rattle.std.proofs.Common.{◌≡◌, ℕ, ◌+◌, ◌-◌, ◌<◌, ◌≤◌, Bool, true, false, not, ◌&&◌, eqb, leb, ltb, List}
use Rattle.std.proofs.Common.{◌++◌, length, get_or, take, drop, sym, ap, subst, ◌∙◌, arith, inl, inr}
use Rattle.std.proofs.lemmas.Bool.{cases_lt, cases_order, eq-eqb, le-ltb, lt-ltb, ne_eqb}
use Rattle.std.proofs.lemmas.Bool.Decides.{nat_tests}
use Rattle.std.proofs.lemmas.List.{append-nil, get_or-drop, get_or-take, length-drop, length-take-le, take-append-drop}
use Rattle.std.proofs.lemmas.List.Elements.{All-filter, filter-append, filter_agree, recursion_from_All}
use Rattle.std.specs.{List.{AllByRecursion, filter}, Ordering.{is_lt, nat_cmp}}
use Rattle.std.specs.List.Sorted.{IsPartitionPoint, IsStableBy, ties}
use Rattle.sci_history.proofs.Order.{filter_all, filter_none}
use Rattle.sci_judge.specs.declared.access.{Access.{Access}, Kind.TheVariants.{Load}}
use Rattle.sci_words.specs.declared.limits.TheConstants.{MAX_NODES}
use Rattle.sci_judge.specs.{Access.{AreKnown}, Judgement.{at_address, is_at}}
use Rattle.sci_judge.proofs.Once.{no_access}

-- ---- a stable sort

is_lt-nat_cmp : (a b : ℕ) → is_lt (nat_cmp a b) ≡ ltb a b
is_lt-nat_cmp a b = grind (arith, cases_order, le-ltb, eq-eqb, lt-ltb, ne_eqb)

tie_is : (a b : ℕ) → (not (ltb a b) && not (ltb b a)) ≡ eqb b a
tie_is a b = grind (arith, cases_order, le-ltb, eq-eqb, lt-ltb, ne_eqb)

abbrev pub by_address : Access → Access → Bool
by_address x y = is_lt (nat_cmp x.address y.address)

with_address : ℕ → Access
with_address address = record { processor = 0; address = address; kind = Load 0; begin = 0; end = 0; line = 0 }

tied : (address : ℕ) (y : Access) → ties by_address (with_address address) y ≡ is_at address y
unfolding with_address
tied address y = rw (is_lt-nat_cmp address y.address, is_lt-nat_cmp y.address address) (tie_is address y.address)

pub same_at : (xs ys : List Access) → IsStableBy by_address xs ys → (address : ℕ) → filter (is_at address) ys ≡ filter (is_at address) xs
same_at xs ys stable address =
    sym (filter_agree (ties by_address (with_address address)) (is_at address) (tied address) ys)
    ∙ (stable (with_address address) ∙ filter_agree (ties by_address (with_address address)) (is_at address) (tied address) xs)

-- ---- the operations at an address

all_by_places : (P : Access → Type 0) (xs : List Access) → ((i : ℕ) (d : Access) → i < length xs → P (get_or xs i d)) → AllByRecursion P xs
all_by_places P xs each = recursion_from_All P xs each

cut_in_three : (xs : List Access) (start end : ℕ) → start ≤ end
    → xs ≡ take start xs ++ (take (end - start) (drop start xs) ++ drop (end - start) (drop start xs))
cut_in_three xs start end le =
    sym (take-append-drop start xs) ∙ ap (λ (ys : List Access). take start xs ++ ys) (sym (take-append-drop (end - start) (drop start xs)))

-- the places from one up to another have the operations at an address
pub record IsPart (xs : List Access) (address start end : ℕ) : Type 0 where
  pub rises : start ≤ end
  pub within : end ≤ length xs
  pub before : (i : ℕ) (d : Access) → i < start → (get_or xs i d).address < address
  pub at : (i : ℕ) (d : Access) → start ≤ i → i < end → (get_or xs i d).address ≡ address
  pub behind : (i : ℕ) (d : Access) → end ≤ i → i < length xs → address < (get_or xs i d).address

lower : (a b : ℕ) → ltb a b ≡ true → a < b
lower a b is = grind (arith, nat_tests)

not_lower : (a b : ℕ) → ltb a b ≡ false → b ≤ a
not_lower a b is = grind (arith, nat_tests)

at_most : (a b : ℕ) → leb a b ≡ true → a ≤ b
at_most a b is = grind (arith, nat_tests)

higher : (a b : ℕ) → leb a b ≡ false → b < a
higher a b is = grind (arith, nat_tests)

abbrev pub is_below : ℕ → Access → Bool
is_below address x = ltb x.address address

abbrev pub is_up_to : ℕ → Access → Bool
is_up_to address x = leb x.address address

-- a test holds of what stands before a place, and of nothing from there on
abbrev pub Parts : (Access → Bool) → List Access → ℕ → Type 0
Parts p xs place = IsPartitionPoint (λ x. p x ≡ true) (λ x. p x ≡ false) xs place

part_rises : (xs : List Access) (address start end : ℕ) (d : Access) → start ≤ length xs → Parts (is_below address) xs start
    → Parts (is_up_to address) xs end → start ≤ end
part_rises xs address start end d within low high = elim (cases_lt end start) [
  | inl less ↦
      let below = lower (get_or xs end d).address address (low.0 end d (omega arith) less) in
      let above = higher (get_or xs end d).address address (high.1 end d (omega arith) (omega arith)) in
      absurd (omega arith)
  | inr past ↦ past
]

pub part_from : (xs : List Access) (address start end : ℕ) → start ≤ length xs → end ≤ length xs → Parts (is_below address) xs start
    → Parts (is_up_to address) xs end → IsPart xs address start end
part_from xs address start end within ends low high = record {
  rises = part_rises xs address start end no_access within low high;
  within = ends;
  before = λ i d lt. lower (get_or xs i d).address address (low.0 i d (omega arith) lt);
  at = λ i d from to.
      let below = not_lower (get_or xs i d).address address (low.1 i d from (omega arith)) in
      let above = at_most (get_or xs i d).address address (high.0 i d (omega arith) to) in
      omega arith;
  behind = λ i d from to. higher (get_or xs i d).address address (high.1 i d from to);
}

pub part_is : (xs : List Access) (address start end : ℕ) → IsPart xs address start end → take (end - start) (drop start xs) ≡ at_address address xs
part_is xs address start end part =
    let p = is_at address in
    let rises = part.rises in
    let within = part.within in
    let first : AllByRecursion (λ x. p x ≡ false) (take start xs) =
    all_by_places (λ x. p x ≡ false) (take start xs) (λ i e lt.
    let short : length (take start xs) ≡ start = length-take-le start xs (omega arith) in
    let here : get_or (take start xs) i e ≡ get_or xs i e = get_or-take start xs i e (omega arith) in
    let less = part.before i e (omega arith) in
    ap p here ∙ ne_eqb (get_or xs i e).address address (λ eq. absurd (omega arith))) in
    let middle : AllByRecursion (λ x. p x ≡ true) (take (end - start) (drop start xs)) =
    all_by_places (λ x. p x ≡ true) (take (end - start) (drop start xs)) (λ i e lt.
    let rest : length (drop start xs) ≡ length xs - start = length-drop start xs in
    let short : length (take (end - start) (drop start xs)) ≡ end - start = length-take-le (end - start) (drop start xs) (omega arith) in
    let here : get_or (take (end - start) (drop start xs)) i e ≡ get_or xs (start + i) e =
    get_or-take (end - start) (drop start xs) i e (omega arith) ∙ get_or-drop start xs i e in
    ap p here ∙ eq-eqb (get_or xs (start + i) e).address address (part.at (start + i) e (omega arith) (omega arith))) in
    let last : AllByRecursion (λ x. p x ≡ false) (drop (end - start) (drop start xs)) =
    all_by_places (λ x. p x ≡ false) (drop (end - start) (drop start xs)) (λ i e lt.
    let rest : length (drop start xs) ≡ length xs - start = length-drop start xs in
    let left : length (drop (end - start) (drop start xs)) ≡ length (drop start xs) - (end - start) = length-drop (end - start) (drop start xs) in
    let place : start + (end - start + i) ≡ end + i = omega arith in
    let here : get_or (drop (end - start) (drop start xs)) i e ≡ get_or xs (end + i) e =
    get_or-drop (end - start) (drop start xs) i e ∙ (get_or-drop start xs (end - start + i) e ∙ ap (λ (k : ℕ). get_or xs k e) place) in
    let above = part.behind (end + i) e (omega arith) (omega arith) in
    ap p here ∙ ne_eqb (get_or xs (end + i) e).address address (λ eq. absurd (omega arith))) in
    sym (ap (filter p) (cut_in_three xs start end (omega arith))
    ∙ (filter-append p (take start xs) (take (end - start) (drop start xs) ++ drop (end - start) (drop start xs))
    ∙ (ap (λ (ys : List Access). ys ++ filter p (take (end - start) (drop start xs) ++ drop (end - start) (drop start xs)))
    (filter_none p (take start xs) first)
    ∙ (filter-append p (take (end - start) (drop start xs)) (drop (end - start) (drop start xs))
    ∙ (ap (λ (ys : List Access). ys ++ filter p (drop (end - start) (drop start xs))) (filter_all p (take (end - start) (drop start xs)) middle)
    ∙ (ap (λ (ys : List Access). take (end - start) (drop start xs) ++ ys) (filter_none p (drop (end - start) (drop start xs)) last)
    ∙ append-nil (take (end - start) (drop start xs))))))))

pub site_known : (accesses part : List Access) (address : ℕ) → AreKnown accesses → part ≡ at_address address accesses → AreKnown part
site_known accesses part address known is =
    subst AreKnown (sym is) (All-filter (is_at address) (λ x. x.processor < MAX_NODES) accesses known)
