-- What a list of parts gives if one part is another.
use Rattle.std.proofs.Common.{◌≡◌, ℕ, zero, suc, ◌<◌, List, [], ◌∷◌, ◌++◌, length, get_or, set, refl, sym, ap, ◌∙◌, append_assoc, append-nil, arith}
use Rattle.std.specs.List.{flat_map}

-- all that stands before and after the i-th part, which is the same whatever the i-th part is
pub record Around {X Y : Type 0} (f : X → List Y) (xs : List X) (i : ℕ) (d : X) : Type 0 where
  pub before : List Y
  pub after : List Y
  pub now : flat_map f xs ≡ before ++ (f (get_or xs i d) ++ after)
  pub then_ : (v : X) → flat_map f (set xs i v) ≡ before ++ (f v ++ after)

pub around : {X Y : Type 0} (f : X → List Y) (xs : List X) (i : ℕ) (d : X) → i < length xs → Around f xs i d
around f [] i d below = absurd (omega arith)
around f (x ∷ xs) zero d below = record { before = []; after = flat_map f xs; now = refl; then_ = λ v. refl }
around f (x ∷ xs) (suc i) d below =
    let rest = around f xs i d (omega arith) in
    record {
      before = f x ++ rest.before;
      after = rest.after;
      now = ap (λ ys. f x ++ ys) rest.now ∙ sym (append_assoc (f x) rest.before _);
      then_ = λ v. ap (λ ys. f x ++ ys) (rest.then_ v) ∙ sym (append_assoc (f x) rest.before _);
    }

-- a part that gives the same leaves all as it was
pub flat_same : {X Y : Type 0} (f : X → List Y) (xs : List X) (i : ℕ) (d v : X) → i < length xs → f v ≡ f (get_or xs i d)
    → flat_map f (set xs i v) ≡ flat_map f xs
flat_same f xs i d v below same =
    let a = around f xs i d below in
    a.then_ v ∙ (ap (λ ys. a.before ++ (ys ++ a.after)) same ∙ sym a.now)

pub nothing_before : {Y : Type 0} (xs ys : List Y) → xs ++ ys ≡ [] → xs ≡ []
nothing_before [] ys e = refl
nothing_before (x ∷ xs) ys e = cc

pub nothing_after : {Y : Type 0} (xs ys : List Y) → xs ++ ys ≡ [] → ys ≡ []
nothing_after [] ys e = e
nothing_after (x ∷ xs) ys e = cc

-- if nothing is given, all that is given is what the new part gives
pub flat_from_none : {X Y : Type 0} (f : X → List Y) (xs : List X) (i : ℕ) (d v : X) → i < length xs → flat_map f xs ≡ [] → flat_map f (set xs i v) ≡ f v
flat_from_none f xs i d v below none =
    let a = around f xs i d below in
    let all = sym a.now ∙ none in
    let before = nothing_before a.before _ all in
    let after = nothing_after (f (get_or xs i d)) a.after (nothing_after a.before _ all) in
    a.then_ v ∙ (ap (λ ys. ys ++ (f v ++ a.after)) before ∙ (ap (λ ys. f v ++ ys) after ∙ append-nil (f v)))

alone_before : {Y : Type 0} (xs ys : List Y) (y z : Y) (zs : List Y) → xs ++ (z ∷ zs ++ ys) ≡ y ∷ [] → xs ≡ []
alone_before [] ys y z zs e = refl
alone_before (x ∷ xs) ys y z zs e = grind (arith, nothing_after)

alone_after : {Y : Type 0} (ys : List Y) (y z : Y) (zs : List Y) → z ∷ zs ++ ys ≡ y ∷ [] → (zs ≡ []) × (ys ≡ []) × (z ≡ y)
alone_after ys y z zs e = grind (arith, nothing_before, nothing_after)

-- if one thing is given, by this part, all that is given then is what the new part gives
pub flat_from_one : {X Y : Type 0} (f : X → List Y) (xs : List X) (i : ℕ) (d v : X) (y z : Y) (zs : List Y) → i < length xs → flat_map f xs ≡ y ∷ []
    → f (get_or xs i d) ≡ z ∷ zs
    → (flat_map f (set xs i v) ≡ f v) × (zs ≡ []) × (z ≡ y)
flat_from_one f xs i d v y z zs below one this =
    let a = around f xs i d below in
    let all : a.before ++ (z ∷ zs ++ a.after) ≡ y ∷ [] = ap (λ ys. a.before ++ (ys ++ a.after)) (sym this) ∙ (sym a.now ∙ one) in
    let before = alone_before a.before a.after y z zs all in
    let here = alone_after a.after y z zs (ap (λ ys. ys ++ (z ∷ zs ++ a.after)) (sym before) ∙ all) in
    (a.then_ v ∙ (ap (λ ys. ys ++ (f v ++ a.after)) before ∙ (ap (λ ys. f v ++ ys) here.1 ∙ append-nil (f v))), here.0, here.2)
