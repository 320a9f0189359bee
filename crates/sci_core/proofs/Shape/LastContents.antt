-- The last contents of a line, found step by step.
use Rattle.std.proofs.Common.{◌≡◌, ℕ, ◌+◌, ◌<◌, List, [], ◌∷◌, ◌++◌, length, get_or, take, drop, Option, Some, None, refl, sym, ap, ◌∙◌, arith}
use Rattle.std.proofs.lemmas.List.{take_more, take_all, take-append-drop}
use Rattle.std.proofs.lemmas.List.FromFn.{length-map-range_with_len, get_or-map-range_with_len}
use Rattle.std.specs.{Prelude.{unwrap_or}, Option.{option_or}}
use Rattle.sci_core.proofs.Basics.Options.{after_none, found_first}
use Rattle.sci_words.specs.{declared.stamped.Stamped.{Stamped}, Stamped.{zero_stamped}}
use Rattle.sci_home.specs.Serving.{current_of}
use Rattle.sci_core.specs.Core.{Core}
use Rattle.sci_core.specs.Sharing.{settled_at, all_settled, home_at, first_authority, last_at}
use Rattle.sci_cache.specs.Member.{contents_held}
use Rattle.sci_cache.specs.State.{CacheState}

-- ---- the authority

or_assoc : (x y z : Option Stamped) → option_or x (option_or y z) ≡ option_or (option_or x y) z
or_assoc None y z = refl
or_assoc (Some x) y z = refl

authority_append : (xs ys : List CacheState) → first_authority (xs ++ ys) ≡ option_or (first_authority xs) (first_authority ys)
authority_append [] ys = refl
authority_append (x ∷ xs) ys =
    ap (option_or (contents_held x)) (authority_append xs ys) ∙ or_assoc (contents_held x) (first_authority xs) (first_authority ys)

or_none : (x : Option Stamped) → option_or x None ≡ x
or_none None = refl
or_none (Some x) = refl

pub authority_more : (core : Core) (line i : ℕ) → i < core.size.nodes → first_authority (take i (all_settled core line)) ≡ None
    → first_authority (take (i + 1) (all_settled core line)) ≡ contents_held (settled_at core line i)
authority_more core line i below none =
    let d = settled_at core line i in
    let long : i < length (all_settled core line) = let all = length-map-range_with_len (settled_at core line) 0 core.size.nodes in omega arith in
    let at : get_or (all_settled core line) i d ≡ settled_at core line i =
    get_or-map-range_with_len (settled_at core line) 0 core.size.nodes i i d below (omega arith) in
    ap first_authority (take_more (all_settled core line) i d long) ∙
    (authority_append (take i (all_settled core line)) (get_or (all_settled core line) i d ∷ []) ∙
    (after_none (first_authority (take i (all_settled core line))) _ none ∙
    (or_none (contents_held (get_or (all_settled core line) i d)) ∙ ap contents_held at)))

authority_whole : (core : Core) (line i : ℕ) (c : Stamped) → first_authority (take i (all_settled core line)) ≡ Some c
    → first_authority (all_settled core line) ≡ Some c
authority_whole core line i c e =
    ap first_authority (sym (take-append-drop i (all_settled core line))) ∙
    (authority_append (take i (all_settled core line)) (drop i (all_settled core line)) ∙ found_first (first_authority (take i (all_settled core line))) _ c e)

-- ---- the last contents

pub last_home : (core : Core) (line : ℕ) (c : Stamped) → current_of (home_at core line) ≡ Some c → c ≡ last_at core line
last_home core line c e = ap (λ (o : Option Stamped). unwrap_or (option_or o (first_authority (all_settled core line))) zero_stamped) (sym e)

pub last_authority : (core : Core) (line i : ℕ) (c : Stamped) → i < core.size.nodes → current_of (home_at core line) ≡ None
    → first_authority (take i (all_settled core line)) ≡ None → contents_held (settled_at core line i) ≡ Some c → c ≡ last_at core line
last_authority core line i c below home none here =
    let found = authority_whole core line (i + 1) c (authority_more core line i below none ∙ here) in
    sym (ap (λ (o : Option Stamped). unwrap_or (option_or o (first_authority (all_settled core line))) zero_stamped) home
    ∙ ap (λ (o : Option Stamped). unwrap_or o zero_stamped) found)

pub last_nowhere : (core : Core) (line i : ℕ) → i ≡ core.size.nodes → current_of (home_at core line) ≡ None
    → first_authority (take i (all_settled core line)) ≡ None → zero_stamped ≡ last_at core line
last_nowhere core line i all home none = grind (arith, length-map-range_with_len, take_all)
