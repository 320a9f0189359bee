-- Tests of the numbers below a bound, one after another.
use Rattle.std.proofs.Common.{◌≡◌, ℕ, zero, suc, ◌+◌, ◌<◌, ◌&&◌, ◌||◌, Bool, true, false, List, [], ◌∷◌, ◌++◌, map, refl, sym, ap, ◌∙◌, arith, Option, Some}
use Rattle.std.proofs.Common.{None}
use Rattle.std.proofs.Common.{append_assoc}
use Rattle.std.proofs.lemmas.Grind.{flat_map-append}
use Rattle.std.proofs.lemmas.List.{append-nil, map-append}
use Rattle.std.proofs.lemmas.List.{Elements.{filter_map-append}, Folds.{list_all-append, list_all_at, list_any-append, list_any_at}}
use Rattle.std.proofs.lemmas.List.FromFn.{get_or-range_with_len, length-range_with_len}
use Rattle.std.specs.List.{filter_map, flat_map, list_all, list_any, range_with_len}

from_more : (a n : ℕ) → range_with_len a (n + 1) ≡ range_with_len a n ++ (a + n) ∷ []
from_more a zero = ap (λ (k : ℕ). k ∷ []) (omega arith)
from_more a (suc n) =
    let rest = from_more (a + 1) n in
    let same : a + 1 + n ≡ a + suc n = omega arith in
    let count : suc n + 1 ≡ suc (n + 1) = omega arith in
    ap (range_with_len a) count ∙ (ap (λ (ks : List ℕ). a ∷ ks) rest ∙ ap (λ (k : ℕ). a ∷ range_with_len (a + 1) n ++ k ∷ []) same)

pub places_more : (n : ℕ) → range_with_len 0 (n + 1) ≡ range_with_len 0 n ++ n ∷ []
places_more n = from_more 0 n ∙ ap (λ (k : ℕ). range_with_len 0 n ++ k ∷ []) (omega arith)

or_false : (b : Bool) → (b || false) ≡ b
or_false true = refl
or_false false = refl

pub any_more : (p : ℕ → Bool) (n : ℕ) → list_any p (range_with_len 0 n) ≡ false → p n ≡ false → list_any p (range_with_len 0 (n + 1)) ≡ false
any_more p n none here = grind (arith, places_more, list_any-append)

pub any_found : (p : ℕ → Bool) (n j : ℕ) → j < n → p j ≡ true → list_any p (range_with_len 0 n) ≡ true
any_found p n j below here =
    list_any_at p (range_with_len 0 n) j 0 (let long = length-range_with_len 0 n in omega arith)
    (ap p (get_or-range_with_len 0 n j 0 below ∙ (let same : 0 + j ≡ j = omega arith in same)) ∙ here)

pub none_any : (p : ℕ → Bool) (n : ℕ) → ((j : ℕ) → j < n → p j ≡ false) → list_any p (range_with_len 0 n) ≡ false
none_any p zero none = refl
none_any p (suc n) none =
    let one : n + 1 ≡ suc n = omega arith in
    ap (λ (k : ℕ). list_any p (range_with_len 0 k)) (sym one) ∙ any_more p n (none_any p n (λ j low. none j (omega arith))) (none n (omega arith))

-- one number more
pub any_next : (p : ℕ → Bool) (n : ℕ) → list_any p (range_with_len 0 (n + 1)) ≡ (list_any p (range_with_len 0 n) || p n)
any_next p n = grind (arith, places_more, list_any-append, or_false)

pub all_pass : (p : ℕ → Bool) (n : ℕ) → ((j : ℕ) → j < n → p j ≡ true) → list_all p (range_with_len 0 n) ≡ true
all_pass p zero all = refl
all_pass p (suc n) all =
    let one : n + 1 ≡ suc n = omega arith in
    ap (λ (k : ℕ). list_all p (range_with_len 0 k)) (sym one)
    ∙ (ap (list_all p) (places_more n) ∙ (list_all-append p (range_with_len 0 n) (n ∷ [])
    ∙ (ap (λ (b : Bool). b && list_all p (n ∷ [])) (all_pass p n (λ j low. all j (omega arith))) ∙ ap (λ (b : Bool). b && true) (all n (omega arith)))))

pub one_fails : (p : ℕ → Bool) (n j : ℕ) → j < n → p j ≡ false → list_all p (range_with_len 0 n) ≡ false
one_fails p n j below here =
    list_all_at p (range_with_len 0 n) j 0 (let long = length-range_with_len 0 n in omega arith)
    (ap p (get_or-range_with_len 0 n j 0 below ∙ (let same : 0 + j ≡ j = omega arith in same)) ∙ here)

-- what f gives of one number more
pub gives_more : {Y : Type 0} (f : ℕ → Option Y) (n : ℕ) → filter_map f (range_with_len 0 (n + 1)) ≡ filter_map f (range_with_len 0 n) ++ filter_map f (n ∷ [])
gives_more f n = ap (filter_map f) (places_more n) ∙ filter_map-append f (range_with_len 0 n) (n ∷ [])

pub gives_some : {X Y : Type 0} (f : ℕ → Option Y) (g : X → Y) (n : ℕ) (before old : List X) (first : List Y) (x : X) → f n ≡ Some (g x)
    → map g before ≡ first ++ filter_map f (range_with_len 0 n) → old ≡ before ++ x ∷ [] → map g old ≡ first ++ filter_map f (range_with_len 0 (n + 1))
gives_some {Y = Y} f g n before old first x is so then_ = grind (arith, map-append, append_assoc, gives_more)

pub gives_none : {X Y : Type 0} (f : ℕ → Option Y) (g : X → Y) (n : ℕ) (before : List X) (first : List Y) → f n ≡ None
    → map g before ≡ first ++ filter_map f (range_with_len 0 n) → map g before ≡ first ++ filter_map f (range_with_len 0 (n + 1))
gives_none {Y = Y} f g n before first is so = grind (arith, append-nil, gives_more)

-- the lists that f gives of one number more
pub flat_more : {X : Type 0} (f : ℕ → List X) (n : ℕ) → flat_map f (range_with_len 0 (n + 1)) ≡ flat_map f (range_with_len 0 n) ++ f n
flat_more {X = X} f n = grind (arith, places_more, flat_map-append, append-nil)
