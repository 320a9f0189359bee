-- What is told of a turn with one event more, and of one that did nothing.
use Rattle.std.proofs.Common.{◌≡◌, ◌≤◌, ◌+◌, ℕ, Bool, true, false, arith, Option, Some, None, refl, sym, ap, ◌∙◌}
use Rattle.std.proofs.lemmas.Bool.{and_parts, eqb-true, not-true}
use Rattle.std.specs.Prelude.{◌||◌, if◌then◌else◌, is_none, nat_lt}
use Rattle.sci_words.specs.declared.event.Event.{Event}
use Rattle.sci_core.specs.Draining.{one_if}
use Rattle.sci_policy.specs.declared.progress.Progress.{Progress}
use Rattle.sci_policy.specs.Turn.{IsTurnEvent, MadeNothing, capped, counted, is_idle}
use Rattle.sci_words.specs.declared.event.Event.TheVariants as event

pub one : (b : Bool) → one_if b ≤ 1
one true = omega arith
one false = omega arith

or_true : (b : Bool) → (b || true) ≡ false → ⊥
or_true true e = cc
or_true false e = cc

never_by : (b : Bool) (n : ℕ) → (if b then n + 1 else 4294967295) ≡ 0 → ⊥
never_by true n e = omega arith
never_by false n e = omega arith

never_none : (n : ℕ) → capped (n + 1) ≡ 0 → ⊥
never_none n e = never_by (nat_lt (n + 1) 4294967295) n e

-- what is told of an event isn't nothing
pub tells_something : (n : ℕ) (e : Event) (told tells : Progress) → IsTurnEvent n e → tells ≡ counted told e → MadeNothing tells → ⊥
tells_something n (event.Issue m op) told tells own is nothing = let kind = own.kind in cc
tells_something n (event.Perform m line) told tells own is nothing = let kind = own.kind in cc
tells_something n (event.Ask m line kind) told tells own is nothing = or_true told.asked (sym (ap (λ (p : Progress). p.asked) is) ∙ nothing.asked)
tells_something n (event.Serve from m) told tells own is nothing = let more : tells.served ≡ capped (told.served + 1) = ap (λ (p : Progress). p.served) is in
    never_none told.served (sym more ∙ nothing.served)
tells_something n (event.Refuse from m) told tells own is nothing = let more : tells.served ≡ capped (told.served + 1) = ap (λ (p : Progress). p.served) is in
    never_none told.served (sym more ∙ nothing.served)
tells_something n (event.Reply m) told tells own is nothing = or_true told.replied (sym (ap (λ (p : Progress). p.replied) is) ∙ nothing.replied)
tells_something n (event.Accept from m) told tells own is nothing = let more : tells.accepted ≡ capped (told.accepted + 1) =
    ap (λ (p : Progress). p.accepted) is in never_none told.accepted (sym more ∙ nothing.accepted)

no_value : {A : Type 0} (o : Option A) → is_none o ≡ true → o ≡ None
no_value None e = refl
no_value (Some x) e = cc

pub idle_tells : (progress : Progress) → is_idle progress ≡ true → MadeNothing progress × (progress.ready ≡ None)
idle_tells progress idle = grind (arith, and_parts, eqb-true, not-true, no_value)
