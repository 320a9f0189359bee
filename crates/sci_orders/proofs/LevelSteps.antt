-- What one step from a level leads to, sorted and each once.
use Rattle.std.proofs.Common.{◌≡◌, ℕ, suc, ◌+◌, Bool, true, List, [], ◌∷◌, ◌++◌, length, map, refl, sym, ap, subst, ◌∙◌, arith, add-one, inl, inr}
use Rattle.std.specs.{Ordering.{eq_by_cmp}, declared.cmp.Ordering.{Ordering, TheVariants.{Less}}, List.{AllByRecursion, Sorted.{IsStrictlySortedBy}}}
use Rattle.std.proofs.lemmas.Map.Keys.{sorted_head, sorted_tail}
use Rattle.std.proofs.lemmas.List.Elements.{All-append, All-cons, All-contains, All-contains_itself, All-nil, All-weaker, Contains-append_cases}
use Rattle.std.proofs.lemmas.List.{Elements.{Contains-append_left, Contains-append_right}, Sorted.{Contains-permutation, IsPermutation-map, IsPermutation-sym}}
use Rattle.std.specs.{Cmp.{IsEquivalence}, List.{All, Contains, dedup, flat_map, range_with_len, Sorted.{IsPermutation}}}
use Rattle.sci_orders.proofs.Changes.{list_below, waiting_below}
use Rattle.sci_orders.proofs.{Eager.{issue_step, step_is}, Finding.{first_same, found_reached}}
use Rattle.sci_orders.proofs.Keeping.{contains_cases, contains_flat, contains_here, contains_none, flat_contains, kept, left}
use Rattle.sci_orders.proofs.Reaching.{below_place, given, gives, place_below, reached_fits}
use Rattle.sci_orders.specs.Eager.{AddsSteps, AreFoundIn, AreStepsFrom, IsEagerStep, IsFirstClosed, IsFirstIssue, IsFoundIn, IsChosen, MayIssue}
use Rattle.sci_orders.specs.{Positions.{AreOnce, AreWithin, Fits, IsStep, Operations, Position, position_of}, declared.standing.Standing.{Standing}}
use Rattle.sci_orders.specs.Positions.{is_on, operation_at, own_of, step_at, step_on, steps_on}
use Rattle.sci_words.specs.declared.operation.Op.{Op}
use Rattle.std.proofs.lemmas.Bool.{eq-eqb, eqb-true}
use Rattle.std.specs.Prelude.{false, if◌then◌else◌, Option, None, Some}

-- ---- the steps from a position

-- each step of a node, of an operation on a line or of any
abbrev all_steps : Operations → ℕ → Position → Option ℕ → List Position
all_steps operations window p line = flat_map (steps_on operations window p line) (range_with_len 0 (length operations))

-- a step that is taken is one of an operation that is looked at
step_taken : (operations : Operations) (window : ℕ) (p q : Position) (line : Option ℕ) (n i : ℕ) → step_on operations window p line n i ≡ Some q
    → (step_at operations window p n i ≡ Some q) × (is_on line (operation_at operations n i) ≡ true)
step_taken operations window p q line n i is = grind arith

-- each of them is a step of an operation that is looked at
from_step : (operations : Operations) (window : ℕ) (p q : Position) (line : Option ℕ) → Contains (all_steps operations window p line) q
    → (s : IsStep operations window p q) × (is_on line (operation_at operations s.node s.place) ≡ true)
from_step operations window p q line has =
    let at = flat_contains (steps_on operations window p line) (range_with_len 0 (length operations)) q has in
    let step = given (step_on operations window p line at.0) (range_with_len 0 (length (own_of operations at.0))) q at.2 in
    let taken = step_taken operations window p q line at.0 step.0 step.2 in
    (record { node = at.0; place = step.0; below = place_below (length (own_of operations at.0)) step.0 step.1; step = taken.0 }, taken.1)

to_step : (operations : Operations) (window : ℕ) (p q : Position) (line : Option ℕ) (s : IsStep operations window p q)
    → is_on line (operation_at operations s.node s.place) ≡ true → Contains (all_steps operations window p line) q
to_step operations window p q line s on =
    contains_flat (steps_on operations window p line) (range_with_len 0 (length operations)) s.node q
    (below_place (length operations) s.node (list_below operations s.node s.place s.below))
    (gives (step_on operations window p line s.node) (range_with_len 0 (length (own_of operations s.node))) s.place q
    (below_place (length (own_of operations s.node)) s.place s.below)
    (ap (λ (b : Bool). if b then step_at operations window p s.node s.place else None) on ∙ s.step))

-- an operation that is looked at is on the first closed line
on_first : (operations : Operations) (p : Position) (line : Option ℕ) (op : Op) (first : ℕ) → IsChosen operations p line → is_on line op ≡ true
    → IsFirstClosed operations p first → op.line ≡ first
on_first operations p None op first none on is = absurd (let clash : true ≡ false = sym is.closed ∙ none first in cc)
on_first operations p (Some line) op first closed on is = eqb-true op.line line on ∙ first_same operations p line first closed is

-- where no node may issue, a step of the search is one of an operation that is looked at
looked_at : (operations : Operations) (window : ℕ) (p q : Position) (line : Option ℕ) (eager : IsEagerStep operations window p q)
    → ((m : ℕ) → MayIssue operations window p m → ⊥) → IsChosen operations p line
    → is_on line (operation_at operations eager.taken.node eager.taken.place) ≡ true
looked_at operations window p q None eager none closed = refl
looked_at operations window p q (Some line) eager none closed = grind (arith, step_is, waiting_below, eq-eqb)

-- where no node may issue, each step of an operation that is looked at is taken
pub all_add : (operations : Operations) (window : ℕ) (p : Position) (line : Option ℕ) (old new : List Position)
    → ((m : ℕ) → MayIssue operations window p m → ⊥) → IsChosen operations p line
    → new ≡ old ++ flat_map (steps_on operations window p line) (range_with_len 0 (length operations)) → AddsSteps operations window p old new
all_add operations window p line old new none closed is = record {
  steps = all_steps operations window p line;
  are = is;
  each = All-weaker (Contains (all_steps operations window p line)) (IsEagerStep operations window p)
      (λ q has. (let step = from_step operations window p q line has in record {
        taken = step.0;
        issues = λ m may. absurd (none m may);
        performs = λ first is. inr (on_first operations p line (operation_at operations step.0.node step.0.place) first closed step.1 is);
      })) (all_steps operations window p line)
      (All-contains_itself (all_steps operations window p line));
  all = λ q eager. to_step operations window p q line eager.taken (looked_at operations window p q line eager none closed);
}

-- a step that is looked at is the Issue of the first node that may issue
only_step : (operations : Operations) (window : ℕ) (p q r : Position) → IsFirstIssue operations window p q → IsEagerStep operations window p r → q ≡ r
only_step operations window p q r first eager = grind (arith, step_is, waiting_below)

pub first_adds : (operations : Operations) (window : ℕ) (p q : Position) (old new : List Position) → IsFirstIssue operations window p q
    → new ≡ old ++ q ∷ [] → AddsSteps operations window p old new
first_adds operations window p q old new first is = record {
  steps = q ∷ [];
  are = is;
  each = All-cons (IsEagerStep operations window p) q [] (subst (IsEagerStep operations window p) (sym first.is) (record {
    taken = issue_step operations window p first.node first.may;
    issues = λ m may. (refl, first.first m may);
    performs = λ line closed. inl refl;
  })) (All-nil (IsEagerStep operations window p));
  all = λ r eager. subst (Contains (q ∷ [])) (only_step operations window p q r first eager) (contains_here q []);
}

-- ---- the steps from a level

-- from none there is none
pub none_from : (operations : Operations) (window : ℕ) → AreStepsFrom operations window [] []
none_from operations window = grind (arith, contains_none)

-- those from one position more
pub more_from : (operations : Operations) (window : ℕ) (p : Position) (old level new next : List Position) → AreStepsFrom operations window old level
    → AddsSteps operations window p level next → new ≡ old ++ p ∷ [] → AreStepsFrom operations window new next
more_from operations window p old level new next from adds is =
    let longer = old ++ p ∷ [] in
    let comes = λ (r : Position). (q : Position) × Contains longer q × IsEagerStep operations window q r in
    subst (λ (ps : List Position). AreStepsFrom operations window ps next) (sym is)
    (subst (AreStepsFrom operations window longer) (sym adds.are) (record {
      each = All-append comes level adds.steps
          (All-weaker (λ r. (q : Position) × Contains old q × IsEagerStep operations window q r) comes
          (λ r was. (was.0, Contains-append_left old (p ∷ []) was.0 was.1, was.2)) level from.each)
          (All-weaker (IsEagerStep operations window p) comes
          (λ r step. (p, Contains-append_right old (p ∷ []) p (contains_here p []), step)) adds.steps adds.each);
      all = λ r q has step. elim (Contains-append_cases old (p ∷ []) q has) [
        | inl was ↦ Contains-append_left level adds.steps r (from.all r q was step)
        | inr here ↦ elim (contains_cases p q [] here) [
          | inl same ↦ Contains-append_right level adds.steps r (adds.all r (subst (λ (x : Position). IsEagerStep operations window x r) (sym same) step))
          | inr none ↦ contains_none q none
        ]
      ];
    }))

-- what is collected stays when it is sorted and each is kept once
pub steps_kept : (operations : Operations) (window : ℕ) (E : Standing → Standing → Bool) (old : List Position) (next sorted final : List Standing)
    → IsEquivalence E → ((a b : Standing) → E a b ≡ true → position_of a ≡ position_of b) → AreStepsFrom operations window old (map position_of next)
    → IsPermutation next sorted → final ≡ dedup E sorted → AreStepsFrom operations window old (map position_of final)
steps_kept operations window E old next sorted final e same from moved is =
    let over : IsPermutation (map position_of next) (map position_of sorted) = IsPermutation-map position_of next sorted moved in
    let back : (p : Position) → Contains (map position_of final) p → Contains (map position_of next) p = λ p has.
    Contains-permutation (map position_of sorted) (map position_of next) p (IsPermutation-sym (map position_of next) (map position_of sorted) over)
    (left E position_of sorted p (subst (λ (ss : List Standing). Contains (map position_of ss) p) is has)) in
    record {
      each = All-weaker (Contains (map position_of final)) (λ p. (q : Position) × Contains old q × IsEagerStep operations window q p)
          (λ p has. All-contains (λ r. (q : Position) × Contains old q × IsEagerStep operations window q r) (map position_of next) p from.each (back p has))
          (map position_of final) (All-contains_itself (map position_of final));
      all = λ p q has step.
          subst (λ (ss : List Standing). Contains (map position_of ss) p) (sym is) (kept E position_of e same sorted p
          (Contains-permutation (map position_of next) (map position_of sorted) p over (from.all p q has step)));
    }

-- ---- one level more

pub found_more : (lines : ℕ) (operations : Operations) (window count more : ℕ) (old new : List Position) → more ≡ count + 1
    → AreFoundIn lines operations window count old → AreStepsFrom operations window old new → AreFoundIn lines operations window more new
found_more lines operations window count more old new is so steps =
    let next : more ≡ suc count = is ∙ add-one count in
    subst (λ (k : ℕ). AreFoundIn lines operations window k new) (sym next) (record {
      each = All-weaker (λ p. (q : Position) × Contains old q × IsEagerStep operations window q p) (IsFoundIn lines operations window (suc count))
          (λ p from. (from.0, All-contains (IsFoundIn lines operations window count) old from.0 so.each from.1, from.2)) new steps.each;
      all = λ p way. steps.all p way.0 (so.all way.0 way.1) way.2;
    })

-- what is found fits the script
pub found_fit : (lines : ℕ) (operations : Operations) (window count : ℕ) (positions : List Position) → AreWithin lines operations
    → AreFoundIn lines operations window count positions → All (Fits operations) positions
found_fit lines operations window count positions within so =
    All-weaker (IsFoundIn lines operations window count) (Fits operations)
    (λ p found. reached_fits lines operations window count p within (found_reached lines operations window count p found)) positions so.each

-- ---- of standings in order no two are one position

module _ (R : Standing → Standing → Ordering) (E : Standing → Standing → Bool) (ties : (x y : Standing) → E x y ≡ eq_by_cmp R x y)
    (equal : (x y : Standing) → position_of x ≡ position_of y → E x y ≡ true) where
  not_among : (x : Standing) (ys : List Standing) → AllByRecursion (λ y. R x y ≡ Less) ys → Contains (map position_of ys) (position_of x) → ⊥
  not_among x [] below has = contains_none (position_of x) has
  not_among x (y ∷ ys) below has = elim (contains_cases (position_of y) (position_of x) (map position_of ys) has) [
    | inl is ↦ (let tie = ties x y in let less = below.0 in let same = equal x y (sym is) in cc)
    | inr later ↦ not_among x ys below.1 later
  ]

  pub once : (xs : List Standing) → IsStrictlySortedBy R xs → AreOnce (map position_of xs)
  once [] sorted = tt
  once (x ∷ xs) sorted = (not_among x xs (sorted_head R x xs sorted), once xs (sorted_tail R x xs sorted))
