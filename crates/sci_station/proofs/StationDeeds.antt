-- One deed of a station.
use Rattle.std.proofs.Common.{◌≡◌, ℕ, [], ◌∷◌, Option, Some, None, Result, Ok, Err, IfOk}
use Rattle.std.specs.Prelude.{IfSome}
use Rattle.sci_words.specs.declared.operation.Op.{Op}
use Rattle.sci_history.specs.declared.entry.Entry.{Entry}
use Rattle.sci_core.specs.Node.{node_issuing, node_performing}
use Rattle.sci_lanes.specs.{Shown.{me_of}, Telling.{IsMade}}
use Rattle.sci_policy.specs.Deeds.{Issues, Performs}
use Rattle.sci_policy.proofs.Deeds.{one_deed}
use Rattle.sci_station.specs.{Deeds.{Does, IsDeed}, Station.{StationOf, beaten_to, node_in, schedule_in}}
use Rattle.sci_words.specs.declared.event.Event.TheVariants as event

pub issued : {T E : Type 0} (result : Result T E) (op : Op) (old new : StationOf)
    → IfOk result (λ _. node_issuing (node_in old) op ≡ Some (node_in new))
    → IfOk result (λ _. IsMade old.end.part (event.Issue (me_of old.end.part) op) (schedule_in new))
    → new ≡ beaten_to (schedule_in new) (node_in new) old → IfOk result (λ _. Does (Issues op ∷ []) old new)
issued (Ok serial) op old new issues made rest = one_deed IsDeed (Issues op) old new (record { made = made; rest = rest }, issues)
issued (Err fault) op old new issues made rest = tt

pub performed : (result : Option Entry) (line : ℕ) (old new : StationOf)
    → IfSome result (λ entry. node_performing (node_in old) line ≡ Some (node_in new, entry))
    → IfSome result (λ _. IsMade old.end.part (event.Perform (me_of old.end.part) line) (schedule_in new))
    → new ≡ beaten_to (schedule_in new) (node_in new) old → IfSome result (λ entry. Does (Performs line entry ∷ []) old new)
performed (Some entry) line old new performs made rest =
    one_deed IsDeed (Performs line entry) old new (record { made = made; rest = rest }, performs)
performed None line old new performs made rest = tt
