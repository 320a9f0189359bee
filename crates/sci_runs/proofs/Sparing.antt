-- What an event of a node leaves as it was.
use Rattle.std.proofs.Common.{◌≡◌, ℕ, Some, Result, Ok, Err, IfOk, refl, sym, ap, ◌∙◌}
use Rattle.std.specs.Prelude.{IsErr}
use Rattle.sci_words.specs.declared.event.Event.{Event}
use Rattle.sci_core.specs.Core.{Core, node_at, node_of, stepping}
use Rattle.sci_turn.proofs.Working.{other_stays}
use Rattle.sci_runs.specs.Recorded.{SparesOthers}

-- an event of the node's own
pub spares_step : (n : ℕ) (old new : Core) (e : Event) → node_of e ≡ n → stepping old e ≡ Some new → new.size ≡ old.size → SparesOthers n old new
spares_step n old new e own steps size = record { size = size; others = λ m apart. other_stays old new e m (λ is. apart (sym is ∙ own)) steps }

-- the same if nothing was done where it was refused
pub spares_either : {T E : Type 0} (result : Result T E) (n : ℕ) (old new : Core) (e : Event) → node_of e ≡ n → IfOk result (λ _. stepping old e ≡ Some new)
    → (IsErr result → new ≡ old) → new.size ≡ old.size → SparesOthers n old new
spares_either (Ok x) n old new e own done same size = spares_step n old new e own done size
spares_either (Err x) n old new e own done same size = record { size = size; others = λ m apart. ap (λ (core : Core). node_at core m) (same refl) }
