-- Going round a circle once comes by every place.
use Rattle.std.proofs.{Common.{◌≡◌, ◌<◌, ◌+◌, ◌-◌, ◌*◌, ◌%◌, ℕ, arith, ap, ◌∙◌, inl, inr}, lemmas.Bool.{cases_lt}}
use Rattle.std.proofs.lemmas.Nat.{mod-mul-add}

pub record ComesBy (nodes first from : ℕ) : Type 0 where
  pub place : ℕ
  pub below : place < nodes
  pub there : (first + place) % nodes ≡ from

comes_at : (nodes first from place rounds : ℕ) → place < nodes → from < nodes → first + place ≡ rounds * nodes + from → ComesBy nodes first from
comes_at nodes first from place rounds below f is =
    record { place = place; below = below; there = ap (λ (k : ℕ). k % nodes) is ∙ mod-mul-add rounds nodes from f }

pub comes_by : (nodes first from : ℕ) → first < nodes → from < nodes → ComesBy nodes first from
comes_by nodes first from start f =
    elim (cases_lt from first) [
      | inl before ↦ comes_at nodes first from (from + (nodes - first)) 1 (omega arith) f (omega arith)
      | inr after ↦ comes_at nodes first from (from - first) 0 (omega arith) f (omega arith)
    ]
