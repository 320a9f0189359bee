-- Events that are not enabled.
use Rattle.std.proofs.Common.{◌≡◌, Option, Some, None, sym, ap}
use Rattle.sci_words.specs.declared.event.Event.{Event}
use Rattle.sci_history.specs.declared.entry.Entry.{Entry}
use Rattle.sci_core.specs.{Core.{Core, stepping}, Done.{made_by, performed}}

-- an event that isn't enabled makes no entry
pub nobody_made : (core : Core) (e : Event) → stepping core e ≡ None → None ≡ made_by core e
nobody_made core e idle = sym (ap (λ (next : Option Core). elim next as (λ _. Option Entry) [ None ↦ None | Some new ↦ performed core e ]) idle)
