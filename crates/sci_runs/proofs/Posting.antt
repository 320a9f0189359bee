-- A node's post on a machine whose events are recorded.
use Rattle.std.proofs.Common.{◌≡◌, ℕ, List, [], ◌∷◌, ◌++◌, Some, Result, Ok, Err, IfOk, refl, sym, subst, arith}
use Rattle.std.specs.Prelude.{IsErr}
use Rattle.sci_words.specs.declared.event.Event.{Event}
use Rattle.sci_core.specs.{declared.lane.LaneKind.{LaneKind}, Core.{Core, node_of, stepping}}
use Rattle.sci_locked.specs.Lent.{KeepsRoom}
use Rattle.sci_turn.specs.Posts.{HasTakenFront, IsMade, MayTakeFront}
use Rattle.sci_turn.proofs.Stills.{still_itself}
use Rattle.sci_runs.specs.{Deeds.{AddsOwn, post_on}, Goings.{adds_itself}, Recorded.{Course}}

-- it makes an event
pub made_on : (n : ℕ) (old new : Course) (e : Event) → node_of e ≡ n → stepping old.core e ≡ Some new.core → new.events ≡ old.events ++ e ∷ []
    → new.core.size ≡ old.core.size → IsMade (post_on n old) e (post_on n new)
made_on n old new e own steps more size =
    record { mid = post_on n old; still = still_itself (post_on n old); made = steps; same = record { me = refl; size = size }; further = more }

-- it takes the packet at the front of a lane, unless that is refused
pub takes_front : {T E : Type 0} (result : Result T E) (n : ℕ) (old new : Course) (kind : LaneKind) (from : ℕ) (e : Event)
    → MayTakeFront (post_on n old) kind from e → IfOk result (λ _. stepping old.core e ≡ Some new.core)
    → IfOk result (λ _. new.events ≡ old.events ++ e ∷ []) → new.core.size ≡ old.core.size
    → IfOk result (λ _. HasTakenFront (post_on n old) kind from e (post_on n new))
unfolding made_on
takes_front (Ok x) n old new kind from e may steps more size = λ letter front. record { made = made_on n old new e may.1.own steps more size; front = front }
takes_front (Err x) n old new kind from e may steps more size = tt

-- an event of its own is added
pub adds_one : (n : ℕ) (old new : List Event) (e : Event) → node_of e ≡ n → new ≡ old ++ e ∷ [] → AddsOwn n old new
adds_one n old new e own more = (e ∷ [], more, (own, tt))

-- or nothing, where that was refused
pub adds_either : {T E : Type 0} (result : Result T E) (n : ℕ) (old new : List Event) (e : Event) → node_of e ≡ n
    → IfOk result (λ _. new ≡ old ++ e ∷ []) → (IsErr result → new ≡ old) → AddsOwn n old new
adds_either (Ok x) n old new e own more same = adds_one n old new e own more
adds_either (Err x) n old new e own more same = subst (AddsOwn n old) (sym (same refl)) (adds_itself n old)

-- no lane grows beyond its cells by an event, nor where it was refused
pub room_either : {T E : Type 0} (result : Result T E) (old new : Core) → (e : Event) → (stepping old e ≡ Some new → KeepsRoom old new)
    → (IsErr result → new ≡ old) → IfOk result (λ _. stepping old e ≡ Some new) → KeepsRoom old new
room_either (Ok x) old new e room same steps = room steps
room_either (Err x) old new e room same steps = subst (KeepsRoom old) (sym (same refl)) (λ place many. omega arith)
