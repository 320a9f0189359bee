-- What `run` writes for its input.
use Rattle.std.specs.Prelude.{◌≡◌, ◌≤◌, ◌⊎◌, ℕ, Bool, true, false, List, Option, None, unwrap_or}
use Rattle.sci_words.specs.declared.limits.TheConstants.{MAX_TURNS}
use Rattle.sci_text.specs.{declared.fault.TextFaultKind.{TextFaultKind, TheVariants.{TooMany}}, FirstFault.{IsTold}}
use Rattle.sci_text.specs.{Schedule.{ScheduleValue, schedule_text}, Script.{IsScript, ScriptValue, script_text}}
use Rattle.sci_text.specs.ScriptFault.{IsScriptFault}
use Rattle.sci_command.specs.declared.outcome.Outcome.{Outcome, TheVariants.{Done, Unlawful, Refused}}
use Rattle.sci_command.specs.{Input.{IsReadAs}, Refusal.{IsRefusalBy}}
use Rattle.sci_runs.specs.{Played.{IsPlayed, IsTooLong}, Runs.{IsRunOf}}
use Rattle.sci_outcomes.specs.declared.run_report.RunRequest.{RunRequest}

-- the input is the text of a script whose run makes as many events as a schedule can have
pub record IsLongRun (request : RunRequest) (input : List ℕ) : Type 0 where
  pub script : ScriptValue
  pub good : IsScript script
  pub read : input ≡ script_text script
  pub long : IsTooLong script request.issuing request.seed (unwrap_or request.turns MAX_TURNS)

-- why there is no answer: the input has a fault, or a run of it is too long
abbrev pub IsRunRefusal : (List ℕ → Type 0) → TextFaultKind → Option (List ℕ) → Bool → ℕ → Type 0
IsRunRefusal is_long kind input failed at = IsTold IsScriptFault kind input failed at ⊎ ((kind ≡ TooMany) × (at ≡ 0) × IsReadAs input failed is_long)

-- The input is the text of a script, and the schedule of a run of it is written. The run has taken as many turns as it may,
-- unless it is done, in the order that was asked for. In a circle, and without a limit of turns, it is done.
pub record IsRunText (request : RunRequest) (done : Bool) (input text : List ℕ) : Type 0 where
  pub script : ScriptValue
  pub good : IsScript script
  pub read : input ≡ script_text script
  pub schedule : ScheduleValue
  pub run : IsRunOf script request.issuing done schedule
  pub turns : ℕ
  pub played : IsPlayed script request.issuing request.seed turns done schedule
  pub few : turns ≤ unwrap_or request.turns MAX_TURNS
  pub all : done ≡ false → turns ≡ unwrap_or request.turns MAX_TURNS
  pub circle : request.seed ≡ None → request.turns ≡ None → done ≡ true
  pub written : text ≡ schedule_text schedule

-- what `run` writes, and how it ends, for the bytes of a reader, which has failed or not: Unlawful if the turns were used up
abbrev pub IsRunAnswer : RunRequest → Option (List ℕ) → Bool → List ℕ → Outcome → Type 0
IsRunAnswer request input failed text Done = IsReadAs input failed (λ bytes. IsRunText request true bytes text)
IsRunAnswer request input failed text Unlawful = IsReadAs input failed (λ bytes. IsRunText request false bytes text)
IsRunAnswer request input failed text Refused = IsRefusalBy (λ kind line. IsRunRefusal (IsLongRun request) kind input failed line) text
