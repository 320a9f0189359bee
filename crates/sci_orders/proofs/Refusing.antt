-- A search is refused as too many if one of its levels is.
use Rattle.std.proofs.Common.{◌≡◌, ℕ, ◌+◌, List, refl, sym, ◌∙◌}
use Rattle.std.specs.{Prelude.{IfErr, Result, Ok, Err}, Result.{IsErrAnd}}
use Rattle.sci_orders.proofs.LevelSteps.{found_more}
use Rattle.sci_orders.specs.declared.fault.OrdersFault.{OrdersFault, TheVariants.{TooMany}}
use Rattle.sci_orders.specs.{Eager.{AreFoundIn, AreTooMany, AreTooManyFrom}, Positions.{Operations, Position}}

-- one level more has too many
pub too_many : (lines : ℕ) (operations : Operations) (window count : ℕ) (level : List Position) → AreFoundIn lines operations window count level
    → AreTooManyFrom operations window level → AreTooMany lines operations window
too_many lines operations window count level is more = record {
  count = count + 1;
  positions = more.positions;
  found = found_more lines operations window count (count + 1) level more.positions refl is more.steps;
  once = more.once;
  many = more.many;
}

-- a fault that is handed on
pub raised : {T : Type 0} (X : Type 0) (r : Result T OrdersFault) (fault : OrdersFault) → IsErrAnd r (λ e. e ≡ fault) → (fault ≡ TooMany → X)
    → IfErr r (λ e. e ≡ TooMany → X)
raised X (Ok level) fault is so = tt
raised X (Err e) fault is so = λ many. so (sym is ∙ many)
