-- Runs that are shared out among threads.
use Rattle.std.proofs.Common.{◌≡◌, ◌≤◌, ◌++◌, ℕ, arith, List, Result, Err, length, length-append, refl}
use Rattle.sci_text.specs.Script.{ScriptValue}
use Rattle.sci_drive.specs.declared.driver.Issuing.{Issuing}
use Rattle.sci_runs.specs.declared.fault.RunFault.{RunFault, TheVariants.{Memory, TooMany}}
use Rattle.sci_outcomes.specs.declared.{fault.TrialsFault.{TrialsFault, TheVariants.{GivenUp}}, histogram.Histogram.{Histogram}}
use Rattle.sci_outcomes.specs.declared.{outcome.Sighting.{Sighting}, trials.{TheConstants.{MAX_KEPT}, Turns.{Turns}}}
use Rattle.sci_outcomes.specs.{Rows.{AreCrowded, HasCounted}}
use Rattle.sci_outcomes.specs.Trials.{AreCrowdedBelow, IsCount, IsCountOf, IsSightingOf, OneIsGivenUpBelow, fault_of, turns_of_run}
use Rattle.sci_outcomes.proofs.Sightings.{seen_behind}

module _ (script : ScriptValue) (turns : Turns) (issuing : Issuing) (start middle end : ℕ) where
  -- why some of the runs are refused is why all are
  pub refused : (result : Result Histogram RunFault) (given fault : RunFault) → middle ≤ end → result ≡ Err given → given ≡ fault
      → (fault ≡ TooMany → OneIsGivenUpBelow script turns issuing middle) → IsCount script turns issuing start end result
  refused result given fault le is same why = grind arith

  -- what was seen of the first of them, and of the others behind them
  pub counted_both : (first second both : Histogram) → IsCountOf script turns issuing start middle first
      → IsCountOf script turns issuing middle end second
      → ((seen more : List Sighting) → HasCounted first seen → HasCounted second more → HasCounted both (seen ++ more))
      → IsCountOf script turns issuing start end both
  counted_both first second both low high joins =
      let long = length-append low.seen high.seen in
      let one = low.many in
      let other = high.many in
      record {
        seen = low.seen ++ high.seen;
        many = omega (arith, long, one, other);
        each = seen_behind (λ k. IsSightingOf script (turns_of_run turns k) issuing) start middle low.seen high.seen low.many low.each high.each;
        counted = joins low.seen high.seen low.counted high.counted;
      }

-- ---- batches

-- only a run that is given up is why runs are
pub given_up_by : (run : RunFault) (why : TrialsFault) → why ≡ fault_of run → why ≡ GivenUp → run ≡ TooMany
given_up_by Memory why is up = cc
given_up_by TooMany why is up = refl

module _ (script : ScriptValue) (turns : Turns) (issuing : Issuing) (start end : ℕ) where
  -- a run below an end is below a later one
  pub given_up_below : start ≤ end → OneIsGivenUpBelow script turns issuing start → OneIsGivenUpBelow script turns issuing end
  given_up_below le one = let lt = one.1 in (one.0, omega (arith, le, lt), one.2)

  -- the outcomes that are counted are too many
  pub crowded_below : (histogram : Histogram) → start ≤ end → IsCountOf script turns issuing 0 start histogram
      → ((seen : List Sighting) → HasCounted histogram seen → AreCrowded MAX_KEPT (length script.operations) seen)
      → AreCrowdedBelow script turns issuing end
  crowded_below histogram le count crowd =
      let many = count.many in
      record { seen = count.seen; few = omega (arith, le, many); each = count.each; crowd = crowd count.seen count.counted }
