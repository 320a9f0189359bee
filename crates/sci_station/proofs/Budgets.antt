-- Budgets over several steps.
use Rattle.std.proofs.Common.{◌≡◌, ◌+◌, ℕ, arith, Option, Some, None, refl, ◌∙◌}
use Rattle.sci_station.specs.Budgets.{HasLess, HasNoMore}

pub no_more_itself : (left : Option ℕ) → HasNoMore left left
no_more_itself left = record { limit = refl; fewer = omega arith }

pub no_more_then : (old mid new : Option ℕ) → HasNoMore old mid → HasNoMore mid new → HasNoMore old new
no_more_then old mid new one two = record { limit = two.limit ∙ one.limit; fewer = let earlier = one.fewer in let later = two.fewer in omega arith }

pub no_more_less : (steps : ℕ) (old new : Option ℕ) → HasLess steps old new → HasNoMore old new
no_more_less steps None None less = no_more_itself None
no_more_less steps None (Some new) less = absurd less
no_more_less steps (Some old) None less = absurd less
no_more_less steps (Some old) (Some new) less = record { limit = refl; fewer = let e : new + steps ≡ old = less in omega arith }
