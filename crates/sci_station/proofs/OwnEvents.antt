-- The events of one node in a schedule that goes on.
use Rattle.std.proofs.{Common.{◌≡◌, ℕ, Bool, List, [], ◌∷◌, ◌++◌, refl, ap, ◌∙◌, arith}, lemmas.Bool.{ne_eqb}}
use Rattle.std.proofs.lemmas.List.{append-nil}
use Rattle.std.specs.Prelude.{cond}
use Rattle.sci_words.specs.declared.event.Event.{Event}
use Rattle.sci_core.specs.Core.{node_of}
use Rattle.sci_lanes.specs.{declared.view.Part.{Part}, Shown.{AreOfOthers, IsSeen, me_of}, Telling.{IsMade}}
use Rattle.sci_turn.specs.Moves.{own_of}
use Rattle.sci_turn.proofs.LongerTurns.{own_one, own_join}

-- the own events among these and others' are those among these
own_others : (n : ℕ) (others : List Event) → AreOfOthers n others → own_of n others ≡ []
own_others n [] apart = refl
own_others n (e ∷ others) apart = ap (λ (b : Bool). cond b (e ∷ own_of n others) (own_of n others)) (ne_eqb (node_of e) n apart.0) ∙ own_others n others apart.1

own_seen : (n : ℕ) (more others : List Event) → AreOfOthers n others → own_of n (more ++ others) ≡ own_of n more
own_seen n more others apart = own_join n more others ∙ (ap (λ (es : List Event). own_of n more ++ es) (own_others n others apart) ∙ append-nil (own_of n more))

pub own_known : (part : Part) (schedule : List Event) → IsSeen part schedule → own_of (me_of part) schedule ≡ own_of (me_of part) part.schedule
own_known part schedule seen = ap (own_of (me_of part)) seen.further ∙ own_seen (me_of part) part.schedule seen.others seen.apart

pub own_added : (part : Part) (e : Event) (schedule : List Event) → node_of e ≡ me_of part → IsMade part e schedule
    → own_of (me_of part) schedule ≡ own_of (me_of part) part.schedule ++ e ∷ []
own_added part e schedule own made = grind (arith, own_join, own_seen, own_one)
