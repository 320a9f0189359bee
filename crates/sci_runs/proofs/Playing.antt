-- What a node does, one deed after another.
use Rattle.std.proofs.Common.{◌≡◌, ◌⊎◌, ℕ, List, [], ◌∷◌, ◌++◌, Option, Some, None, Result, Ok, Err, IfOk, length, ◌≤◌, inl, inr, refl, sym, subst, ◌∙◌, arith}
use Rattle.std.specs.{Prelude.{IfSome, IsErr}, declared.alloc.AllocError.{AllocError}}
use Rattle.sci_words.specs.declared.{limits.TheConstants.{MAX_EVENTS}, operation.Op.{Op}}
use Rattle.sci_history.specs.declared.entry.Entry.{Entry}
use Rattle.sci_text.specs.Schedule.{ScheduleValue}
use Rattle.sci_core.specs.Core.{stepping}
use Rattle.sci_policy.specs.{declared.progress.Progress.{Progress}, Deeds.{Deed, Issues, Performs, Turns}, Policy.{PolicyOf}}
use Rattle.sci_policy.proofs.Deeds.{one_deed}
use Rattle.sci_drive.specs.{declared.driver.Round.{Round}, Rounds.{HasDone}}
use Rattle.sci_runs.specs.declared.fault.RunFault.{RunFault, TheVariants.{TooMany}}
use Rattle.sci_runs.specs.Deeds.{Does, Fills, FillsTurning, IsDeed, IsTurnDone, standing}
use Rattle.sci_runs.specs.Goings.{DoesDeeds, DoesDeedsAt, Place, Stops, StopsAt, goes_itself, place}
use Rattle.sci_runs.specs.Recorded.{KeepsLoss, RecorderOf, course_of}
use Rattle.sci_words.specs.declared.event.Event.TheVariants as event

-- ---- deeds

-- an event that was lost stays lost
abbrev StaysLost : RecorderOf → RecorderOf → Type 0
StaysLost x y = (fault : RunFault) → x.lost ≡ Some fault → y.lost ≡ Some fault

-- what either does to a recorder that is issued or performed
goes_working : (n : ℕ) (deeds : List Deed) (p : PolicyOf) (x y : RecorderOf) → StaysLost x y
    → ((fault : RunFault) → y.lost ≡ Some fault → y.schedule ≡ x.schedule) → (y.lost ≡ None → Does n deeds p (course_of x) p (course_of y))
    → DoesDeeds n deeds p x p y
goes_working n deeds p x y keeps stands does = record {
  keeps = λ fault is. (keeps fault is, stands fault (keeps fault is));
  does = does;
  fills = λ none many full. record {
    first = [];
    rest = deeds;
    are = refl;
    policy = p;
    full = course_of x;
    does = refl;
    many = subst (λ (s : ScheduleValue). MAX_EVENTS ≤ length s.events) (stands TooMany many) full;
  };
}

-- an operation that was issued
pub issued : {T E : Type 0} (result : Result T E) (n : ℕ) (op : Op) (p : PolicyOf) (x y : RecorderOf) → StaysLost x y
    → ((fault : RunFault) → y.lost ≡ Some fault → y.schedule ≡ x.schedule) → IfOk result (λ _. stepping x.core (event.Issue n op) ≡ Some y.core)
    → IfOk result (λ _. y.lost ≡ None → y.schedule.events ≡ x.schedule.events ++ event.Issue n op ∷ [])
    → IfOk result (λ _. (n ≡ n) × DoesDeeds n (Issues op ∷ []) p x p y)
issued (Ok serial) n op p x y keeps stands steps more = grind (arith, goes_working, one_deed)
issued (Err fault) n op p x y keeps stands steps more = tt

-- one that was performed
pub performed : (result : Option Entry) (n line : ℕ) (p : PolicyOf) (x y : RecorderOf) → StaysLost x y
    → ((fault : RunFault) → y.lost ≡ Some fault → y.schedule ≡ x.schedule) → IfSome result (λ _. stepping x.core (event.Perform n line) ≡ Some y.core)
    → IfSome result (λ _. y.lost ≡ None → y.schedule.events ≡ x.schedule.events ++ event.Perform n line ∷ [])
    → IfSome result (λ entry. (n ≡ n) × DoesDeeds n (Performs line entry ∷ []) p x p y)
performed (Some entry) n line p x y keeps stands steps more = grind (arith, goes_working, one_deed)
performed None n line p x y keeps stands steps more = tt

-- and none
pub idles : (n : ℕ) (p : PolicyOf) (x y : RecorderOf) → y ≡ x → (n ≡ n) × DoesDeeds n [] p x p y
idles n p x y same = (refl, subst (DoesDeeds n [] p x p) (sym same) (goes_itself n p x))

-- a whole turn
pub turns : (n : ℕ) (p q : PolicyOf) (x y : RecorderOf) (progress : Progress) → KeepsLoss x y → IsTurnDone n p (course_of x) q (course_of y) progress
    → DoesDeeds n (Turns progress ∷ []) p x q y
turns n p q x y progress keeps turn =
    let does = one_deed (IsDeed n) (Turns progress) (standing p (course_of x)) (standing q (course_of y)) turn in record {
      keeps = keeps;
      does = λ none. does;
      fills = λ none many full.
          record { first = Turns progress ∷ []; rest = []; are = refl; policy = q; full = course_of y; does = does; many = full };
    }

-- what a worker with a node, a policy and a recorder of its own has done in a round of node n, from this policy and recorder on
abbrev HasDoneBy : {W : Type 0} → (W → ℕ) → (W → PolicyOf) → (W → RecorderOf) → ℕ → List Deed → PolicyOf → RecorderOf → W → Result Round AllocError → Type 0
HasDoneBy node policy recorder n deeds p x new (Ok round) = (node new ≡ n) × DoesDeeds n deeds p x (policy new) (recorder new)
HasDoneBy node policy recorder n deeds p x new (Err refused) =
    (mid : _) × ((node mid ≡ n) × DoesDeeds n deeds p x (policy mid) (recorder mid))
    × ((node new ≡ node mid) × Stops (node mid) (policy mid) (recorder mid) (policy new) (recorder new))

pub at_node : {W : Type 0} (node : W → ℕ) (policy : W → PolicyOf) (recorder : W → RecorderOf) (n : ℕ) (deeds : List Deed) (p : PolicyOf) (x : RecorderOf)
    (new : W) (result : Result Round AllocError) → HasDoneBy node policy recorder n deeds p x new result
    → HasDone (DoesDeedsAt n) (StopsAt n) deeds (place p x) (place (policy new) (recorder new)) result
at_node node policy recorder n deeds p x new (Ok round) did = did.1
at_node node policy recorder n deeds p x new (Err refused) did =
    let mid = did.0 in (
      place (policy mid) (recorder mid),
      did.1.1,
      subst (λ (k : ℕ). Stops k (policy mid) (recorder mid) (policy new) (recorder new)) did.1.0 did.2.1,
    )

-- ---- a schedule that is filled

-- a round fills it by some of its deeds, or by all of them and the turn that is refused
pub fills_round : (result : Result Round AllocError) (n : ℕ) (deeds : List Deed) (old new : Place) → HasDone (DoesDeedsAt n) (StopsAt n) deeds old new result
    → old.recorder.lost ≡ None → new.recorder.lost ≡ Some TooMany → MAX_EVENTS ≤ length new.recorder.schedule.events
    → Fills n deeds old.policy (course_of old.recorder) ⊎ (IsErr result × FillsTurning n deeds old.policy (course_of old.recorder))
fills_round (Ok round) n deeds old new goes none many full = inl (goes.fills none many full)
fills_round (Err refused) n deeds old new goes none many full = elim (by_then goes.0.recorder.lost refl) [
  | inl some ↦ inl some
  | inr all ↦ inr (refl, all)
]
  where
    by_then : (lost : Option RunFault) → goes.0.recorder.lost ≡ lost
        → Fills n deeds old.policy (course_of old.recorder) ⊎ FillsTurning n deeds old.policy (course_of old.recorder)
    by_then None is = inr (record {
      policy = goes.0.policy;
      mid = course_of goes.0.recorder;
      does = goes.1.does is;
      after = new.policy;
      full = course_of new.recorder;
      progress = goes.2.turn.0;
      turn = goes.2.turn.1;
      many = full;
    })
    by_then (Some fault) is =
        let kept = goes.2.keeps fault is in
        inl (goes.1.fills none (is ∙ (sym kept.0 ∙ many)) (subst (λ (s : ScheduleValue). MAX_EVENTS ≤ length s.events) kept.1 full))
