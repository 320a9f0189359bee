-- What an object's parts say of each other.
use Rattle.std.proofs.Common.{◌≡◌, ℕ, ◌<◌, ◌^◌, [], ◌∷◌, refl, lit<, subst, sym}
use seplogic.Ra.Ura.{Ura}
use base.Logic.{ent, sep}
use contract.Monad.{fact, fact_i}
use types.Logic.{Logic, sem}
use types.Kit.{‵, raw, ◌$◌, ◌∵◌, !, qed, use0, move, fsplit, fjoin, feq_l, feq_i, join, done}
use denote.RawPtr.{Ptr}
use Rattle.std.specs.Prelude.{Option, Some, None, IsSome}
use Rattle.sci_c.specs.{Object.{live_of, object_owns}, declared.thing.Thing.{Thing}}
use base.Logic.{emp}

none_is_not : IsSome {T = Thing} None → ⊥
none_is_not h = cc

pub the_thing : (v : Option Thing) → IsSome v → Thing
the_thing (Some x) h = x
the_thing None h = absurd (none_is_not h)

pub is_the_thing : (v : Option Thing) (h : IsSome v) → v ≡ Some (the_thing v h)
unfolding the_thing
is_the_thing (Some x) h = refl
is_the_thing None h = absurd (none_is_not h)

pub live_is_low : (n : ℕ) (v : Option Thing) → n ≡ live_of v → n < 2 ^ 32
live_is_low n None e = subst (λ (k : ℕ). k < 2 ^ 32) (sym e) (lit< tt)
live_is_low n (Some x) e = subst (λ (k : ℕ). k < 2 ^ 32) (sym e) (lit< tt)

-- the live mark is that of the thing
pub tells : {M : Type 1} {𝓤 : Ura M} (𝓛 : Logic 𝓤) (p : Ptr) (n : ℕ) (v : Option Thing)
    → ent 𝓤 (sem 𝓛 (object_owns p n v)) (sep 𝓤 (sem 𝓛 (object_owns p n v)) (fact 𝓤 (n ≡ live_of v)))
tells {𝓤 = 𝓤} 𝓛 p n None =
    qed 𝓛 (‵ (object_owns p n None) ∷ []) ∵ feq_l ! (λ e. use0 𝓛 (raw (fact 𝓤 (n ≡ 0))) (fact_i 𝓤 (n ≡ 0) (emp 𝓤) e) $ feq_i ! ℕ n 0 e $ join ! $ done !)
tells {𝓤 = 𝓤} 𝓛 p n (Some x) =
    qed 𝓛 (‵ (object_owns p n (Some x)) ∷ []) ∵ fsplit ! $ feq_l ! (λ e. use0 𝓛 (raw (fact 𝓤 (n ≡ 1))) (fact_i 𝓤 (n ≡ 1) (emp 𝓤) e) $
    move ! (1 ∷ []) $ feq_i ! ℕ n 1 e $ fjoin ! $ join ! $ done !)
