-- What depends on whether a node is the head of a list, or the next in it.
use Rattle.std.proofs.{Common.{◌≡◌, ℕ, if◌then◌else◌, Option, Some, None, ap}, lemmas.Bool.{eqb-true}}
use Rattle.std.specs.Prelude.{◌==◌}
use Rattle.sci_cache.specs.Serving.{is_next}
use Rattle.sci_core.proofs.Basics.Lists.{if_cases}

pub if_head : {X : Type 0} (P : X → Type 0) (p a : ℕ) (yes_ no_ : X) → (p ≡ a → P yes_) → P no_ → P (if p == a then yes_ else no_)
if_head P p a yes_ no_ h k = if_cases P (p == a) yes_ no_ (λ same. h (eqb-true p a same)) (λ other. k)

pub next_either : {X : Type 0} (P : X → Type 0) (f : Option ℕ) (a : ℕ) (yes_ no_ : X) → (f ≡ Some a → P yes_) → P no_ → P (if is_next f a then yes_ else no_)
next_either P None a yes_ no_ h k = k
next_either P (Some p) a yes_ no_ h k = if_head P p a yes_ no_ (λ same. h (ap Some same)) k
