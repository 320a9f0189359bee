-- What `allowed` writes for its input.
use Rattle.std.specs.Prelude.{◌≡◌, ◌≤◌, ◌-◌, ◌⊎◌, ℕ, Bool, List, [], ◌∷◌, ◌++◌, codes, length, Option, None, Some, IsSome, slice_index_or}
use Rattle.std.specs.List.{flat_map}
use Rattle.sci_text.specs.declared.fault.TextFaultKind.{TextFaultKind, TheVariants.{Range, TooMany}}
use Rattle.sci_text.specs.{FirstFault.{IsTold}, Number.{field}, Schedule.{ScheduleValue, schedule_text}}
use Rattle.sci_text.specs.Script.{ScriptValue}
use Rattle.sci_command.specs.{Answer.{IsAnswerBy}, Input.{IsReadAs}, declared.outcome.Outcome.TheVariants.{Done}}
use Rattle.sci_drive.specs.Rounds.{most_pending}
use Rattle.sci_allowed.specs.{Conditioned.{IsConditioned, IsConditionedFault}, Verdict.{IsVerdict}, declared.condition.FinalCondition.{FinalCondition}}
use Rattle.sci_allowed.specs.declared.{outcome.Outcome.{Outcome}, allowed_report.AllowedRequest.{AllowedRequest}, rows.AllowedRow.{AllowedRow}}
use Rattle.sci_allowed.specs.{Allowed.{AreAllowed, AreRows, IsScheduleTo, IsTooBig, IsTooLong}, OutcomeText.{outcome_text, sense_text}}
use Rattle.sci_command.specs.declared.outcome.Outcome as ending

-- ---- texts

-- the outcome, a colon, and whether it is in program order
unfoldable pub row_text : AllowedRow → List ℕ
row_text row = outcome_text row.outcome ++ (codes ":" ++ sense_text row.in_order)

-- `outcomes N`, and the line feed
unfoldable pub total_text : ℕ → List ℕ
total_text rows = codes "outcomes" ++ (field rows ++ 10 ∷ [])

-- a line for each row, and one for all
abbrev pub rows_text : List AllowedRow → List ℕ
rows_text rows = flat_map row_text rows ++ total_text (length rows)

-- ---- the answer

-- all rows of the script are written, and the verdict on its condition, if it has one
pub record IsRowsText (script : ScriptValue) (window : ℕ) (last : Option FinalCondition) (text : List ℕ) (ends : ending.Outcome) : Type 0 where
  pub rows : List AllowedRow
  pub are : AreRows script window rows
  pub verdict : List ℕ
  pub is_verdict : IsVerdict script window last verdict ends
  pub written : text ≡ rows_text rows ++ verdict

-- the number is that of one of the rows, from 1
abbrev pub IsNumberOf : List Outcome → ℕ → Type 0
IsNumberOf outcomes number = (1 ≤ number) × (number ≤ length outcomes)

-- a schedule to the row with this number is written
pub record IsShownText (script : ScriptValue) (window number : ℕ) (text : List ℕ) : Type 0 where
  pub outcomes : List Outcome
  pub are : AreAllowed script window outcomes
  pub is_row : IsNumberOf outcomes number
  pub schedule : ScheduleValue
  pub leads : (d : Outcome) → IsScheduleTo script window (slice_index_or outcomes (number - 1) d) schedule
  pub written : text ≡ schedule_text schedule

abbrev pub IsTextOf : ScriptValue → (window : ℕ) → Option ℕ → Option FinalCondition → List ℕ → ending.Outcome → Type 0
IsTextOf script window None last text ends = IsRowsText script window last text ends
IsTextOf script window (Some number) last text ends = IsShownText script window number text × (ends ≡ Done)

-- the input is the text of a script and its condition, if it has one, and what is asked of it is written
pub record IsAllowedText (request : AllowedRequest) (input text : List ℕ) (ends : ending.Outcome) : Type 0 where
  pub script : ScriptValue
  pub last : Option FinalCondition
  pub read : IsConditioned script last input
  pub written : IsTextOf script (most_pending request.issuing) request.show last text ends

-- ---- refusals

-- the input is the text of a script with too many positions, or a schedule is asked for that has too many events
pub record IsBigScript (request : AllowedRequest) (input : List ℕ) : Type 0 where
  pub script : ScriptValue
  pub last : Option FinalCondition
  pub read : IsConditioned script last input
  pub big : IsTooBig script (most_pending request.issuing) ⊎ (IsSome request.show × IsTooLong script)

-- the rows of the script don't have the number
pub record LacksNumber (script : ScriptValue) (window number : ℕ) : Type 0 where
  pub outcomes : List Outcome
  pub are : AreAllowed script window outcomes
  pub lacks : IsNumberOf outcomes number → ⊥

-- the input is the text of a script whose rows don't have the number that is asked for
pub record LacksRow (request : AllowedRequest) (input : List ℕ) : Type 0 where
  pub script : ScriptValue
  pub last : Option FinalCondition
  pub read : IsConditioned script last input
  pub number : ℕ
  pub asked : request.show ≡ Some number
  pub lacks : LacksNumber script (most_pending request.issuing) number

-- why there is no answer: the input has a fault, it is a script that is too big, or it lacks the row
abbrev pub IsAllowedRefusal : AllowedRequest → TextFaultKind → Option (List ℕ) → Bool → ℕ → Type 0
IsAllowedRefusal request kind input failed at =
    IsTold IsConditionedFault kind input failed at
    ⊎ (((kind ≡ TooMany) × (at ≡ 0) × IsReadAs input failed (IsBigScript request))
    ⊎ ((kind ≡ Range) × (at ≡ 0) × IsReadAs input failed (LacksRow request)))

-- what `allowed` writes, and how it ends, for the bytes of a reader, which has failed or not
abbrev pub IsAllowedAnswer : AllowedRequest → Option (List ℕ) → Bool → List ℕ → ending.Outcome → Type 0
IsAllowedAnswer request = IsAnswerBy (IsAllowedText request) (IsAllowedRefusal request)
