-- A node at rest wants nothing, and none of its lines drains.
use Rattle.std.proofs.Common.{◌≡◌, ℕ, Bool, true, false, Option, Some, None, refl, sym, ap, ◌∙◌, arith}
use Rattle.std.proofs.lemmas.Bool.{and_parts}
use Rattle.std.specs.{Prelude.{IfSome, is_some}, Option.{option_or}}
use Rattle.sci_cache.specs.{State.{CacheState, Out, is_out}}
use Rattle.sci_core.specs.Node.{IsAtRest, NodeOf}
use Rattle.sci_policy.specs.Lines.{has_pending, least, oldest, state_on}
use Rattle.sci_policy.specs.Policy.{PolicyOf}
use Rattle.sci_policy.specs.Policy.{wanted}
use Rattle.sci_policy.proofs.Found.{least_fits, oldest_fits}

out_is : (state : CacheState) → is_out state ≡ true → state ≡ Out
out_is Out e = refl
out_is _ e = cc

all_out : (node : NodeOf) → IsAtRest node → (line : ℕ) → state_on node line ≡ Out
all_out node rest line = out_is (state_on node line) (rest.none_held line)

absent : (o : Option ℕ) (P : ℕ → Type 0) → IfSome o P → ((line : ℕ) → P line → ⊥) → o ≡ None
absent None P h never = refl
absent (Some line) P h never = absurd (never line h)

no_oldest : (node : NodeOf) (test : ℕ → Bool) → IsAtRest node → oldest node test ≡ None
no_oldest node test rest =
    absent (oldest node test) _ (oldest_fits node test)
    (λ line fits. (let clash : true ≡ false = sym (and_parts (has_pending node line) (test line) fits.1).0 ∙ ap is_some (rest.none_pending line) in cc))

no_least : (node : NodeOf) (test : ℕ → Bool) → ((line : ℕ) → test line ≡ false) → least node test ≡ None
no_least node test fails = absent (least node test) _ (least_fits node test) (λ line fits. (let clash : true ≡ false = sym fits.1 ∙ fails line in cc))

neither : {A : Type 0} (a b : Option A) → a ≡ None → b ≡ None → option_or a b ≡ None
neither None b e f = f
neither (Some x) b e f = cc

pub rest_wants_none : (policy : PolicyOf) (node : NodeOf) → IsAtRest node → wanted policy node ≡ None
rest_wants_none policy node rest = grind (arith, all_out, no_oldest, no_least, neither)
