-- The parts of a text of figures, one after another.
use Rattle.std.proofs.Common.{◌≡◌, ◌+◌, ℕ, arith, List, [], ◌∷◌, ◌++◌, append_assoc, sym, ap, ◌∙◌}
use Rattle.std.proofs.lemmas.List.{append-nil, map-id, Concat.{flat_map-append}, FromFn.{map-range_with_len_more}}
use Rattle.std.specs.List.{flat_map, range_with_len}

pub range_more : (n : ℕ) → range_with_len 0 (n + 1) ≡ range_with_len 0 n ++ n ∷ []
range_more n = sym (map-id (range_with_len 0 (n + 1)))
    ∙ (map-range_with_len_more (λ x. x) 0 n n (omega arith) ∙ ap (λ (l : List ℕ). l ++ n ∷ []) (map-id (range_with_len 0 n)))
