-- What is reached fits the script.
use Rattle.std.proofs.Common.{◌≡◌, ℕ, zero, suc, ◌+◌, ◌<◌, Bool, true, false, if◌then◌else◌, List, [], ◌∷◌, length, Option, Some, None, refl, sym, ap, subst}
use Rattle.std.proofs.Common.{◌∙◌, arith, inl, inr}
use Rattle.std.proofs.lemmas.{Bool.{and_parts, eqb-true}, List.{FromFn.{get_or-range_with_len, length-range_with_len}}}
use Rattle.std.specs.{List.{All, Contains, cons_option, filter_map, range_with_len}, Prelude.{IfSome, ◌==◌, slice_get}}
use Rattle.sci_core.proofs.Basics.Options.{of_some}
use Rattle.sci_orders.proofs.Changes.{issued_fits, list_below, performed_fits}
use Rattle.sci_orders.proofs.{Keeping.{contains_here, contains_there, contains_cases, contains_none}, Stands.{opening_fits}}
use Rattle.sci_orders.specs.Positions.{AreReachedIn, AreWithin, Fits, IsReachedIn, Operations, Position, answers_of, may_issue_next}
use Rattle.sci_orders.specs.Positions.{operation_at, own_of, step_as, step_at, with_issued_at}
use Rattle.sci_orders.specs.declared.standing.Answer.{Answer}
use Rattle.sci_orders.specs.declared.standing.Answer.TheVariants as answer

-- ---- what a function gives of some element

given_if : {X Y : Type 0} (f : X → Option Y) (x : X) (xs : List X) (y : Y) (o : Option Y) → f x ≡ o → Contains (cons_option o (filter_map f xs)) y
    → (Contains (filter_map f xs) y → (z : X) × Contains xs z × (f z ≡ Some y)) → (z : X) × Contains (x ∷ xs) z × (f z ≡ Some y)
given_if f x xs y None is has rest = (let found = rest has in (found.0, contains_there x found.0 xs found.1, found.2))
given_if f x xs y (Some w) is has rest = grind (arith, contains_cases, contains_here, contains_there)

pub given : {X Y : Type 0} (f : X → Option Y) (xs : List X) (y : Y) → Contains (filter_map f xs) y → (x : X) × Contains xs x × (f x ≡ Some y)
given f [] y has = contains_none y has
given f (x ∷ xs) y has = given_if f x xs y (f x) refl has (λ h. given f xs y h)

gives_if : {Y : Type 0} (o : Option Y) (ys : List Y) (y : Y) → Contains ys y → Contains (cons_option o ys) y
gives_if None ys y has = has
gives_if (Some x) ys y has = contains_there x y ys has

pub gives : {X Y : Type 0} (f : X → Option Y) (xs : List X) (x : X) (y : Y) → Contains xs x → f x ≡ Some y → Contains (filter_map f xs) y
gives f [] x y has is = contains_none x has
gives f (z ∷ xs) x y has is = elim (contains_cases z x xs has) [
  | inl here ↦ subst (λ (o : Option _). Contains (cons_option o (filter_map f xs)) y) (sym (ap f here ∙ is)) (contains_here y (filter_map f xs))
  | inr later ↦ gives_if (f z) (filter_map f xs) y (gives f xs x y later is)
]

pub place_below : (n i : ℕ) → Contains (range_with_len 0 n) i → i < n
place_below n i (k, below, at) = grind (arith, length-range_with_len, get_or-range_with_len)

pub below_place : (n i : ℕ) → i < n → Contains (range_with_len 0 n) i
below_place n i below =
    let long = length-range_with_len 0 n in
    (i, (omega arith), get_or-range_with_len 0 n i i below ∙ (let same : 0 + i ≡ i = omega arith in same))

-- ---- each position that is reached fits

if_fits : (operations : Operations) (b : Bool) (q : Position) → (b ≡ true → Fits operations q) → IfSome (if b then Some q else None) (Fits operations)
if_fits operations true q fits = fits refl
if_fits operations false q fits = tt

as_fits : (operations : Operations) (window : ℕ) (p : Position) (n i : ℕ) (o : Option Answer) → Fits operations p → i < length (own_of operations n)
    → IfSome (step_as operations window p n i o) (Fits operations)
as_fits operations window p n i None fits below =
    if_fits operations (may_issue_next (own_of operations n) (answers_of p n) window i) (with_issued_at p n) (λ may. (
    let parts = and_parts (length (answers_of p n) == i) _ may in
    let next : length (answers_of p n) ≡ i = eqb-true (length (answers_of p n)) i parts.0 in
    issued_fits operations p n fits (omega arith)))
as_fits operations window p n i (Some answer.Waiting) fits below =
    performed_fits operations (operation_at operations n i) p n i fits (
    let nodes = fits.nodes in let known = list_below operations n i below in omega arith)
as_fits operations window p n i (Some answer.Stored) fits below = tt
as_fits operations window p n i (Some (answer.Got x)) fits below = tt

pub step_fits : (operations : Operations) (window : ℕ) (p q : Position) (n i : ℕ) → Fits operations p → i < length (own_of operations n)
    → step_at operations window p n i ≡ Some q → Fits operations q
unfolding step_at
step_fits operations window p q n i fits below is =
    of_some (Fits operations) (step_as operations window p n i (slice_get (answers_of p n) i)) q is
    (as_fits operations window p n i (slice_get (answers_of p n) i) fits below)

pub reached_fits : (lines : ℕ) (operations : Operations) (window count : ℕ) (p : Position) → AreWithin lines operations
    → IsReachedIn lines operations window count p → Fits operations p
reached_fits lines operations window zero p within is = subst (Fits operations) (sym is) (opening_fits lines operations within)
reached_fits lines operations window (suc count) p within (q, reached, s) =
    step_fits operations window q p s.node s.place (reached_fits lines operations window count q within reached) s.below s.step

pub all_fit : (lines : ℕ) (operations : Operations) (window count : ℕ) (positions : List Position) → AreWithin lines operations
    → AreReachedIn lines operations window count positions → All (Fits operations) positions
all_fit lines operations window count positions within so = grind (arith, reached_fits)
