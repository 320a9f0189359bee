-- What is written of a script's runs is the answer, and that there are too many positions is why the command is refused.
use Rattle.std.proofs.Common.{All, ◌≡◌, ◌⊎◌, ℕ, Bool, true, false, List, Option, None, Some, refl, sym, subst, inl, inr, arith}
use Rattle.sci_text.specs.{FirstFault.{AreRead, IsTold}, Script.{ScriptValue}, declared.fault.TextFaultKind.{TextFaultKind, TheVariants.{Memory, TooMany}}}
use Rattle.sci_drive.specs.Rounds.{most_pending}
use Rattle.sci_command.specs.{Input.{IsReadAs}, declared.outcome.Outcome.TheVariants.{Done, Unlawful, Refused}}
use Rattle.sci_allowed.proofs.Verdicts.{true_of}
use Rattle.sci_allowed.specs.{Allowed.{AreRows, IsTooBig}, Conditioned.{IsConditioned, IsConditionedFault}, Verdict.{is_true_of}}
use Rattle.sci_allowed.specs.Outcome.{IsPlaceWithin, written_places}
use Rattle.sci_allowed.specs.declared.{condition.FinalCondition.{FinalCondition}, rows.AllowedRow.{AllowedRow}}
use Rattle.sci_outcomes.proofs.{RowCounts.{row_count}, SightingsAllowed.{rows_allowed}}
use Rattle.sci_outcomes.specs.OutcomesAnswer.{AreAsked, IsOutcomesAnswer, IsOutcomesRefusal, HasTooMany, IsOutcomesText, IsSampleText, IsTable, IsWholeTable}
use Rattle.sci_outcomes.specs.OutcomesAnswer.{IsWholeText, trials_of}
use Rattle.sci_outcomes.specs.{Said.{IsSaidOf, said_ending, said_of, said_of_all, sample_ending}, Trials.{AreSeenOf, OneIsGivenUp, RunsAreCrowded}}
use Rattle.sci_outcomes.specs.declared.outcome.Sighting.{Sighting}
use Rattle.sci_outcomes.specs.declared.outcomes_report.OutcomesRequest.{OutcomesRequest}
use Rattle.sci_outcomes.specs.declared.said.Said.{Said, TheVariants.{Yes, No, NoExample, NoCounterexample}}
use Rattle.sci_command.specs.declared.outcome.Outcome as ending

-- a command that isn't refused
abbrev HasEnded : ending.Outcome → Type 0
HasEnded ends = (ends ≡ Done) ⊎ (ends ≡ Unlawful)

one_ended : (said : Said) (ends : ending.Outcome) → ends ≡ sample_ending said → HasEnded ends
one_ended Yes ends is = inl is
one_ended No ends is = inr is
one_ended NoExample ends is = inr is
one_ended NoCounterexample ends is = inl is

said_ended : (said : Option Said) (ends : ending.Outcome) → ends ≡ said_ending said → HasEnded ends
said_ended None ends is = inl is
said_ended (Some said) ends is = one_ended said ends is

-- what all outcomes say is said of all runs
said_is : (script : ScriptValue) (window : ℕ) (rows : List AllowedRow) → AreRows script window rows → (last : Option FinalCondition)
    → IsSaidOf script window last (said_of_all last rows)
said_is script window rows all None = refl
said_is script window rows all (Some said) =
    (is_true_of said.quantifier said.condition rows, refl, true_of script window rows all said.quantifier said.condition)

never : {X : Type 0} → true ≡ false → X
never is = cc

module _ (request : OutcomesRequest) (script : ScriptValue) (last : Option FinalCondition) (known : Option (List ℕ)) (failed : Bool)
    (unfailed : failed ≡ false) (text : (input : List ℕ) × AreRead known input × IsConditioned script last input)
    (within : All (IsPlaceWithin script.lines) (written_places script.lines script.operations)) where
  sample_made : (seen : List Sighting) (out : List ℕ) (ends : ending.Outcome) → request.all ≡ false → AreSeenOf script (trials_of request) seen
      → IsSampleText request script last seen out ends → IsOutcomesText request text.0 out ends
  sample_made seen out ends asked runs table = grind (arith, never)

  whole_text_is : (allowed : List AllowedRow) (seen : List Sighting) (out : List ℕ) (ends : ending.Outcome)
      → AreRows script (most_pending request.issuing) allowed → AreSeenOf script (trials_of request) seen
      → IsWholeTable request script last seen allowed out ends → IsWholeText request script last seen out ends
  whole_text_is allowed seen out ends rows runs table =
      let window = most_pending request.issuing in
      let among = rows_allowed script text.2.good within (trials_of request) seen table.rows runs table.rows_are in
      record {
        rows = table.rows;
        rows_are = table.rows_are;
        few = table.few;
        allowed = allowed;
        all = rows;
        seen_allowed = among;
        counted = row_count script window seen table.rows allowed table.rows_are rows.outcomes among;
        said = said_of_all last allowed;
        is_said = said_is script window allowed rows last;
        ends_by = table.ends_by;
        written = table.written;
      }

  whole_made : (seen : List Sighting) (out : List ℕ) (ends : ending.Outcome) → request.all ≡ true → AreSeenOf script (trials_of request) seen
      → IsWholeText request script last seen out ends → IsOutcomesText request text.0 out ends
  whole_made seen out ends asked runs table = grind (arith, never)

  made : (allowed : Option (List AllowedRow)) (seen : List Sighting) (out : List ℕ) (ends : ending.Outcome)
      → AreAsked request.all script (most_pending request.issuing) allowed → AreSeenOf script (trials_of request) seen
      → IsTable request script last seen allowed out ends → IsOutcomesText request text.0 out ends × HasEnded ends
  made None seen out ends asked runs table =
      (sample_made seen out ends asked runs table, said_ended (said_of last table.rows) ends table.ends_by)
  made (Some allowed) seen out ends asked runs table =
      let whole = whole_text_is allowed seen out ends asked.1 runs table in
      (whole_made seen out ends asked.0 runs whole, said_ended (said_of_all last allowed) ends table.ends_by)

  ended : (out : List ℕ) (ends : ending.Outcome) → HasEnded ends → IsOutcomesText request text.0 out ends
      → (ends ≡ Refused → ⊥) × IsOutcomesAnswer request known failed out ends
  ended out ends (inl is) shown =
      let read : IsReadAs known failed (λ bytes. IsOutcomesText request bytes out Done) =
      (unfailed, (text.0, text.1, subst (IsOutcomesText request text.0 out) is shown)) in
      subst (λ (e : ending.Outcome). (e ≡ Refused → ⊥) × IsOutcomesAnswer request known failed out e) (sym is) ((λ e. cc), read)
  ended out ends (inr is) shown =
      let read : IsReadAs known failed (λ bytes. IsOutcomesText request bytes out Unlawful) =
      (unfailed, (text.0, text.1, subst (IsOutcomesText request text.0 out) is shown)) in
      subst (λ (e : ending.Outcome). (e ≡ Refused → ⊥) × IsOutcomesAnswer request known failed out e) (sym is) ((λ e. cc), read)

  pub answered_for : (allowed : Option (List AllowedRow)) (seen : List Sighting) (out : List ℕ) (ends : ending.Outcome)
      → AreAsked request.all script (most_pending request.issuing) allowed → AreSeenOf script (trials_of request) seen
      → IsTable request script last seen allowed out ends → (ends ≡ Refused → ⊥) × IsOutcomesAnswer request known failed out ends
  answered_for allowed seen out ends asked runs table =
      let both = made allowed seen out ends asked runs table in
      ended out ends both.1 both.0

  pub is_big : (request.all ≡ true) × IsTooBig script (most_pending request.issuing) → HasTooMany request text.0
  is_big big = inr (inl (record { asked = big.0; script = script; last = last; read = text.2; big = big.1 }))

  pub is_long : OneIsGivenUp script (trials_of request) ⊎ RunsAreCrowded script (trials_of request) → HasTooMany request text.0
  is_long (inl one) = inl (record { script = script; last = last; read = text.2; one = one })
  is_long (inr crowd) = inr (inr (record { script = script; last = last; read = text.2; crowd = crowd }))

  pub refused_for : (kind : TextFaultKind) (line : ℕ) → line ≡ 0 → (kind ≡ TooMany) ⊎ (kind ≡ Memory) → (kind ≡ TooMany → HasTooMany request text.0)
      → IsOutcomesRefusal request kind known failed line
  refused_for kind line zero_is (inl is) many = inr (is, zero_is, (unfailed, (text.0, text.1, many is)))
  refused_for kind line zero_is (inr is) many =
      inl (subst (λ (k : TextFaultKind). IsTold IsConditionedFault k known failed line) (sym is) (unfailed, zero_is))
