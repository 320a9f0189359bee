-- The pairs of one thing that is met after another.
use Rattle.std.proofs.Common.{◌≡◌, ◌<◌, ℕ, ◌+◌, List, [], ◌∷◌, ◌++◌, Bool, length, take, get_or, sym, ap, ◌∙◌, append_assoc}
use Rattle.std.proofs.lemmas.List.{append-nil, take_more, Elements.{filter-append}, Concat.{flat_map-append}}
use Rattle.std.specs.{Prelude.{filter}, List.{flat_map}}

-- what one more gives, of which some are kept
pub kept_more : {X Y : Type 0} (f : X → List Y) (keep : Y → Bool) (xs : List X) (i : ℕ) (d : X) (old now new : List Y) → i < length xs
    → now ≡ old ++ filter keep (flat_map f (take i xs)) → new ≡ now ++ filter keep (f (get_or xs i d))
    → new ≡ old ++ filter keep (flat_map f (take (i + 1) xs))
kept_more {X} {Y} f keep xs i d old now new less was is =
    let before : List Y = filter keep (flat_map f (take i xs)) in
    let last : List Y = filter keep (f (get_or xs i d)) in
    let whole : filter keep (flat_map f (take (i + 1) xs)) ≡ before ++ last =
    ap (λ (l : List X). filter keep (flat_map f l)) (take_more xs i d less)
    ∙ (ap (filter keep) (flat_map-append f (take i xs) (get_or xs i d ∷ []))
    ∙ (ap (λ (l : List Y). filter keep (flat_map f (take i xs) ++ l)) (append-nil (f (get_or xs i d)))
    ∙ filter-append keep (flat_map f (take i xs)) (f (get_or xs i d)))) in
    is ∙ (ap (λ (l : List Y). l ++ last) was ∙ (append_assoc old before last ∙ ap (λ (l : List Y). old ++ l) (sym whole)))

-- what is appended to nothing
pub from_nothing : {Y : Type 0} (old new rest : List Y) → old ≡ [] → new ≡ old ++ rest → new ≡ rest
from_nothing {Y} old new rest none is = is ∙ ap (λ (l : List Y). l ++ rest) none
