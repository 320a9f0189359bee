-- When a gate rests.
use Rattle.std.specs.Prelude.{◌≡◌, ◌⊎◌, ℕ, ◌+◌, ◌*◌, ◌≤◌, nat_le, Bool, true, false, ◌&&◌, ◌||◌, not, if◌then◌else◌, List, [], ◌∷◌, length}
use Rattle.sci_policy.specs.Turn.{is_idle}
use Rattle.sci_drive.specs.{Calls.{AllDone, Call, Rest, times_rested, told}, Driving.{DriverOf}, declared.driver.Round.{Round}}
use Rattle.sci_drive.specs.declared.running.TheConstants.{RESTLESS_TURNS}

-- how many turns there are in a row without an entry or a rest, after this round
abbrev pub in_a_row : Round → ℕ → ℕ
in_a_row round restless = if round.answered then 0 else restless + 1

-- nothing moved, or there are too many in a row
abbrev pub is_rest_due : Round → ℕ → Bool
is_rest_due round restless = (not round.answered && is_idle round.progress) || nat_le RESTLESS_TURNS (in_a_row round restless)

-- and after the rest that comes then, if one is due
abbrev pub row_after : Round → ℕ → ℕ
row_after round restless = if is_rest_due round restless then 0 else in_a_row round restless

abbrev pub rests_if : Bool → List Call
rests_if due = if due then Rest ∷ [] else []

-- A driver asks its gate whether all are done, and this is the answer. It asks exactly if the gate has heard that the whole
-- script is answered; and else all aren't done.
abbrev pub IsAsked : {G : Type 0} → (G → List Call → G → Type 0) → DriverOf → G → G → Bool → Type 0
IsAsked hears driver gate later all =
    ((driver.was_done ≡ false) × hears gate [] later × (all ≡ false)) ⊎ ((driver.was_done ≡ true) × hears gate (AllDone all ∷ []) later)

-- The calls of the gate behind a round of a driver, and whether it has finished with it: it asks whether all are done exactly if
-- the gate has heard that the whole script is answered; and unless they are, the gate rests exactly if a rest is due.
pub data AreBehind (driver : DriverOf) (round : Round) (restless next : ℕ) (calls : List Call) (finished : Bool) : Type 0 where
  NotAsked : driver.was_done ≡ false → calls ≡ rests_if (is_rest_due round restless) → next ≡ row_after round restless → finished ≡ false
      → AreBehind driver round restless next calls finished
  NotYet : driver.was_done ≡ true → calls ≡ AllDone false ∷ rests_if (is_rest_due round restless) → next ≡ row_after round restless → finished ≡ false
      → AreBehind driver round restless next calls finished
  AllAreDone : driver.was_done ≡ true → calls ≡ AllDone true ∷ [] → next ≡ in_a_row round restless → finished ≡ true
      → AreBehind driver round restless next calls finished

-- This many turns with these calls of the gate are at most 16 for each entry and each rest, and 16 more.
abbrev pub RestsInTime : ℕ → List Call → Type 0
RestsInTime turns calls = turns ≤ RESTLESS_TURNS * (times_rested calls + length (told calls) + 1)
