-- How often a gate rests in this many turns.
use Rattle.std.proofs.Common.{◌≡◌, ◌≤◌, ◌<◌, ◌+◌, ◌*◌, ℕ, arith, true, false, Bool, List, [], ◌∷◌, ◌++◌, length, cond, if◌then◌else◌, length-append, refl}
use Rattle.std.proofs.{Common.{ap, ◌∙◌, inl, inr}, lemmas.List.{Elements.{filter_map-append}, Sums.{sum_by-append}}}
use Rattle.sci_history.specs.declared.entry.Entry.{Entry}
use Rattle.sci_core.specs.Node.{NodeOf}
use Rattle.sci_drive.specs.declared.driver.Round.{Round}
use Rattle.sci_drive.specs.Calls.{AllDone, AreCalls, Call, EndWithAllDone, IsHeard, Rest, entry_told, is_rest, times_rested, told}
use Rattle.sci_drive.specs.{Driving.{DriverOf}, Resting.{IsAsked, RestsInTime, in_a_row}}
use Rattle.sci_drive.proofs.GateCalls.{calls_on, no_calls, one_call}

rests_append : (first second : List Call) → times_rested (first ++ second) ≡ times_rested first + times_rested second
rests_append first second = sum_by-append (λ (c : Call). cond (is_rest c) 1 0) first second

told_both : (first second : List Call) → length (told (first ++ second)) ≡ length (told first) + length (told second)
told_both first second = ap (λ (l : List Entry). length l) (filter_map-append entry_told first second) ∙ length-append (told first) (told second)

pub row_is_short : (round : Round) (restless : ℕ) → restless ≤ 15 → in_a_row round restless ≤ 16
row_is_short round restless few = grind arith

-- A gate has heard these calls in this many turns, of which the last ones in a row had neither an entry nor a rest.
pub record HasGone {G : Type 0} (hears : G → List Call → G → Type 0) (gate later : G) (old new : DriverOf) (before after : NodeOf) (turns restless : ℕ) : Type
    0 where
  pub calls : List Call
  pub heard : hears gate calls later
  pub are : AreCalls old new before after calls
  pub rests : turns ≤ 16 * (times_rested calls + length (told calls)) + restless

module _ {G : Type 0} (hears : G → List Call → G → Type 0) (hears_nothing : (g : G) → hears g [] g) (hears_on : (g h k : G) (calls more : List Call)
    → hears g calls h → hears h more k → hears g (calls ++ more) k) where
  pub has_not_gone : (g : G) (a : DriverOf) (x : NodeOf) → HasGone hears g g a a x x 0 0
  has_not_gone g a x = record { calls = []; heard = hears_nothing g; are = no_calls a a x x refl refl refl; rests = omega arith }

  -- some calls more, in a turn that doesn't count yet
  pub gone_on : (g h k : G) (a b c : DriverOf) (x y z : NodeOf) (turns restless : ℕ) (more : List Call) → HasGone hears g h a b x y turns restless
      → hears h more k → AreCalls b c y z more → HasGone hears g k a c x z turns restless
  gone_on g h k a b c x y z turns restless more was heard are = record {
    calls = was.calls ++ more;
    heard = hears_on g h k was.calls more was.heard heard;
    are = calls_on a b c x y z was.calls more was.are are;
    rests = let was_rests = was.rests in omega (arith, rests_append was.calls more, told_both was.calls more);
  }

  -- the round counts: an entry ends the row, or it is longer
  pub after_round : (g h k : G) (a b c : DriverOf) (x y z : NodeOf) (turns restless : ℕ) (round : Round) → restless ≤ 15
      → HasGone hears g h a b x y turns restless → IsHeard hears h k b c y z
      → (round.answered ≡ true → length y.log < length z.log) → HasGone hears g k a c x z (turns + 1) (in_a_row round restless)
  after_round g h k a b c x y z turns restless round few was heard longer = record {
    calls = was.calls ++ heard.calls;
    heard = hears_on g h k was.calls heard.calls was.heard heard.heard;
    are = calls_on a b c x y z was.calls heard.calls was.are heard.are;
    rests =
        let more = rests_append was.calls heard.calls in
        let all = told_both was.calls heard.calls in
        let log : length z.log ≡ length y.log + length (told heard.calls) =
        ap (λ (l : List Entry). length l) heard.are.told_all ∙ length-append y.log (told heard.calls) in
        counts round.answered (times_rested was.calls + length (told was.calls))
        (times_rested (was.calls ++ heard.calls) + length (told (was.calls ++ heard.calls))) (length (told heard.calls)) was.rests (omega arith)
        (λ is. let lt = longer is in omega arith);
  }
    where
      counts : (answered : Bool) (earlier now told_now : ℕ) → turns ≤ 16 * earlier + restless → earlier + told_now ≤ now → (answered ≡ true → 0 < told_now)
          → turns + 1 ≤ 16 * now + (if answered then 0 else restless + 1)
      counts true earlier now told_now le grows some = let one = some refl in omega arith
      counts false earlier now told_now le grows some = omega arith

  -- the gate is asked whether all are done, or not asked
  pub after_asked : (g h k : G) (a b : DriverOf) (x y : NodeOf) (turns restless : ℕ) (all : Bool) → HasGone hears g h a b x y turns restless
      → IsAsked hears b h k all → HasGone hears g k a b x y turns restless
  after_asked g h k a b x y turns restless all was (inl not) = gone_on g h k a b b x y y turns restless [] was not.1 (no_calls b b y y refl refl refl)
  after_asked g h k a b x y turns restless all was (inr is) =
      gone_on g h k a b b x y y turns restless (AllDone all ∷ []) was is.1 (one_call b b y y (AllDone all) refl refl refl refl refl)

  -- it rests, which ends the row, or not
  pub after_rest : (g h k : G) (a b : DriverOf) (x y : NodeOf) (turns restless next : ℕ) (due : Bool) → restless ≤ 16 → HasGone hears g h a b x y turns restless
      → (due ≡ true → hears h (Rest ∷ []) k × (next ≡ 0)) → (due ≡ false → hears h [] k × (next ≡ restless)) → HasGone hears g k a b x y turns next
  after_rest g h k a b x y turns restless next true few was rests on = record {
    calls = was.calls ++ Rest ∷ [];
    heard = hears_on g h k was.calls (Rest ∷ []) was.heard (rests refl).0;
    are = calls_on a b b x y y was.calls (Rest ∷ []) was.are (one_call b b y y Rest refl refl refl refl refl);
    rests = let was_rests = was.rests in let zero = (rests refl).1 in omega (arith, rests_append was.calls (Rest ∷ []), told_both was.calls (Rest ∷ []));
  }
  after_rest g h k a b x y turns restless next false few was rests on =
      let one = gone_on g h k a b b x y y turns restless [] was (on refl).0 (no_calls b b y y refl refl refl) in record {
        calls = one.calls;
        heard = one.heard;
        are = one.are;
        rests = let one_rests = one.rests in let same = (on refl).1 in omega arith;
      }

  -- the last call asked whether all are done, and they are
  pub ended : (g h k : G) (a b : DriverOf) (x y : NodeOf) (turns restless : ℕ) (all : Bool) → restless ≤ 16 → HasGone hears g h a b x y turns restless
      → IsAsked hears b h k all → all ≡ true
      → (calls : List Call) × hears g calls k × AreCalls a b x y calls × EndWithAllDone calls × RestsInTime turns calls
  ended g h k a b x y turns restless true few was (inl not) done = absurd (let no : true ≡ false = not.2 in cc)
  ended g h k a b x y turns restless false few was asked done = absurd (cc)
  ended g h k a b x y turns restless true few was (inr is) done =
      let rests = was.rests in
      let intime : RestsInTime turns (was.calls ++ AllDone true ∷ []) =
      omega (arith, rests_append was.calls (AllDone true ∷ []), told_both was.calls (AllDone true ∷ [])) in (
        was.calls ++ AllDone true ∷ [],
        hears_on g h k was.calls (AllDone true ∷ []) was.heard is.1,
        calls_on a b b x y y was.calls (AllDone true ∷ []) was.are (one_call b b y y (AllDone true) refl refl refl refl refl),
        (was.calls, refl),
        intime,
      )
