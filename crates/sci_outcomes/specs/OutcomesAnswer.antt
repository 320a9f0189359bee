-- What `outcomes` writes for its input.
use Rattle.std.specs.Prelude.{All, ◌≡◌, ◌≤◌, ◌⊎◌, ℕ, ◌+◌, ◌*◌, ◌%◌, ◌^◌, Bool, true, false, List, [], ◌∷◌, ◌++◌, codes, length, Option, None, Some}
use Rattle.std.specs.Prelude.{unwrap_or, if◌then◌else◌}
use Rattle.std.specs.List.{flat_map}
use Rattle.sci_text.specs.{FirstFault.{IsTold}, Number.{field}, Script.{ScriptValue}}
use Rattle.sci_text.specs.declared.fault.TextFaultKind.{TextFaultKind, TheVariants.{TooMany}}
use Rattle.sci_command.specs.{Answer.{IsAnswerBy}, Input.{IsReadAs}}
use Rattle.sci_allowed.specs.{Conditioned.{IsConditioned, IsConditionedFault}, declared.condition.FinalCondition.{FinalCondition}}
use Rattle.sci_allowed.specs.OutcomeText.{outcome_text, sense_text}
use Rattle.sci_outcomes.specs.declared.histogram.Row.{Row}
use Rattle.sci_outcomes.specs.declared.outcomes_report.{OutcomesRequest.{OutcomesRequest}, TheConstants.{RUNS, SEED}}
use Rattle.sci_outcomes.specs.declared.trials.{Trials.{Trials}, TheConstants.{MAX_KEPT}, Turns.{Turns, TheVariants.{Drawn, Threads}}}
use Rattle.sci_drive.specs.Rounds.{most_pending}
use Rattle.sci_allowed.specs.{Allowed.{AreRows, IsAllowed, IsTooBig}, Outcome.{shown_of}}
use Rattle.sci_allowed.specs.declared.rows.AllowedRow.{AllowedRow}
use Rattle.sci_outcomes.specs.{OutcomesJson.{outcomes_json}, Rows.{AreRowsOf, unseen_of}, Trials.{AreSeenOf, OneIsGivenUp, RunsAreCrowded}}
use Rattle.sci_outcomes.specs.{declared.said.Said.{Said}, Said.{IsSaidOf, said_ending, said_of, said_of_all, said_text}}
use Rattle.sci_outcomes.specs.declared.outcome.Sighting.{Sighting}
use Rattle.sci_command.specs.declared.outcome.Outcome as ending

-- the runs that are asked for
abbrev pub trials_of : OutcomesRequest → Trials
trials_of request = record { runs = unwrap_or request.runs RUNS; turns = unwrap_or request.turns (Drawn SEED); issuing = request.issuing }

-- ---- texts

-- ` seed SEED` of the run with this number, if its order of turns was drawn
unfoldable pub seed_text : Turns → ℕ → List ℕ
seed_text (Drawn seed) number = codes " seed" ++ field ((seed + number) % 2 ^ 64)
seed_text Threads number = []

-- `: count RUNS`, the seed of the first of them, whether one of them is in program order, and the line feed
unfoldable pub count_text : Turns → Row → List ℕ
count_text turns row = codes ": count" ++ (field row.runs ++ (seed_text turns row.first ++ sense_text row.in_order))

unfoldable pub row_text : Turns → Row → List ℕ
row_text turns row = outcome_text row.outcome ++ count_text turns row

-- `outcomes N runs R`, and the line feed
unfoldable pub total_text : ℕ → ℕ → List ℕ
total_text outcomes runs = codes "outcomes" ++ (field outcomes ++ (codes " runs" ++ (field runs ++ 10 ∷ [])))

-- `: count 0`, whether a run in which each node goes in order can have the outcome, and the line feed
unfoldable pub unseen_text : AllowedRow → List ℕ
unseen_text row = outcome_text row.outcome ++ (codes ": count 0" ++ sense_text row.in_order)

-- `outcomes N seen M runs R`, and the line feed
unfoldable pub whole_total_text : ℕ → ℕ → ℕ → List ℕ
whole_total_text outcomes seen runs = codes "outcomes" ++ (field outcomes ++ (codes " seen" ++ (field seen ++ (codes " runs" ++ (field runs ++ 10 ∷ [])))))

-- a line for each row, one for each outcome that no run had, and one for all
abbrev pub whole_text : Trials → List Row → List AllowedRow → List ℕ
whole_text trials rows unseen =
    flat_map (row_text trials.turns) rows ++ (flat_map unseen_text unseen ++ whole_total_text (length rows + length unseen) (length rows) trials.runs)

-- a line for each row, and one for all
abbrev pub outcomes_text : Trials → List Row → List ℕ
outcomes_text trials rows = flat_map (row_text trials.turns) rows ++ total_text (length rows) trials.runs

-- the same and what is said of a condition, in lines or as a JSON object
abbrev pub sample_shown : OutcomesRequest → List Row → Option Said → List ℕ
sample_shown request rows said =
    if request.json then outcomes_json (trials_of request) rows [] said else outcomes_text (trials_of request) rows ++ said_text said

abbrev pub whole_shown : OutcomesRequest → List Row → List AllowedRow → Option Said → List ℕ
whole_shown request rows unseen said =
    if request.json then outcomes_json (trials_of request) rows unseen said else whole_text (trials_of request) rows unseen ++ said_text said

-- ---- the answer

-- the outcomes of the runs are written, and what they say of the condition of the script, if it has one
pub record IsSampleText (request : OutcomesRequest) (script : ScriptValue) (last : Option FinalCondition) (seen : List Sighting) (text : List ℕ)
    (ends : ending.Outcome) : Type 0 where
  pub rows : List Row
  pub rows_are : AreRowsOf seen rows
  pub few : length rows * length script.operations ≤ MAX_KEPT
  pub ends_by : ends ≡ said_ending (said_of last rows)
  pub written : text ≡ sample_shown request rows (said_of last rows)

-- The outcomes of the runs are written, all others that a run of the script can have, and whether the condition is true of all runs.
-- Each outcome that was seen is one that a run can have, so there are as many rows and others as there are outcomes of runs.
pub record IsWholeText (request : OutcomesRequest) (script : ScriptValue) (last : Option FinalCondition) (seen : List Sighting) (text : List ℕ)
    (ends : ending.Outcome) : Type 0 where
  pub rows : List Row
  pub rows_are : AreRowsOf seen rows
  pub few : length rows * length script.operations ≤ MAX_KEPT
  pub allowed : List AllowedRow
  pub all : AreRows script (most_pending request.issuing) allowed
  pub seen_allowed : All (λ row. IsAllowed script (most_pending request.issuing) (shown_of row.outcome)) rows
  pub counted : length rows + length (unseen_of seen allowed) ≡ length allowed
  pub said : Option Said
  pub is_said : IsSaidOf script (most_pending request.issuing) last said
  pub ends_by : ends ≡ said_ending said
  pub written : text ≡ whole_shown request rows (unseen_of seen allowed) said

-- the input is the text of a script and its condition, if it has one, and what is asked of its runs is written
pub record IsOutcomesText (request : OutcomesRequest) (input text : List ℕ) (ends : ending.Outcome) : Type 0 where
  pub script : ScriptValue
  pub last : Option FinalCondition
  pub read : IsConditioned script last input
  pub seen : List Sighting
  pub runs : AreSeenOf script (trials_of request) seen
  pub sample : request.all ≡ false → IsSampleText request script last seen text ends
  pub whole : request.all ≡ true → IsWholeText request script last seen text ends

-- the input is the text of a script, and one of its runs is given up
pub record IsGivenUpScript (request : OutcomesRequest) (input : List ℕ) : Type 0 where
  pub script : ScriptValue
  pub last : Option FinalCondition
  pub read : IsConditioned script last input
  pub one : OneIsGivenUp script (trials_of request)

-- all outcomes are asked for, and the input is the text of a script with too many positions
pub record IsBigScript (request : OutcomesRequest) (input : List ℕ) : Type 0 where
  pub asked : request.all ≡ true
  pub script : ScriptValue
  pub last : Option FinalCondition
  pub read : IsConditioned script last input
  pub big : IsTooBig script (most_pending request.issuing)

-- the input is the text of a script whose runs have outcomes with more operations in all than are kept
pub record IsCrowdedScript (request : OutcomesRequest) (input : List ℕ) : Type 0 where
  pub script : ScriptValue
  pub last : Option FinalCondition
  pub read : IsConditioned script last input
  pub crowd : RunsAreCrowded script (trials_of request)

-- why a script has too much: one of its runs is given up, there are too many positions, or too many outcomes
abbrev pub HasTooMany : OutcomesRequest → (input : List ℕ) → Type 0
HasTooMany request input = IsGivenUpScript request input ⊎ (IsBigScript request input ⊎ IsCrowdedScript request input)

-- why there are no outcomes: the input has a fault, or has too much
abbrev pub IsOutcomesRefusal : OutcomesRequest → TextFaultKind → Option (List ℕ) → Bool → ℕ → Type 0
IsOutcomesRefusal request kind input failed at =
    IsTold IsConditionedFault kind input failed at
    ⊎ ((kind ≡ TooMany) × (at ≡ 0) × IsReadAs input failed (HasTooMany request))

-- what `outcomes` writes, and how it ends, for the bytes of a reader, which has failed or not
abbrev pub IsOutcomesAnswer : OutcomesRequest → Option (List ℕ) → Bool → List ℕ → ending.Outcome → Type 0
IsOutcomesAnswer request = IsAnswerBy (IsOutcomesText request) (IsOutcomesRefusal request)

-- ---- inside

-- the outcomes of the runs are written, all others, and what all of them say of the condition
pub record IsWholeTable (request : OutcomesRequest) (script : ScriptValue) (last : Option FinalCondition) (seen : List Sighting)
    (allowed : List AllowedRow) (text : List ℕ) (ends : ending.Outcome) : Type 0 where
  pub rows : List Row
  pub rows_are : AreRowsOf seen rows
  pub few : length rows * length script.operations ≤ MAX_KEPT
  pub ends_by : ends ≡ said_ending (said_of_all last allowed)
  pub written : text ≡ whole_shown request rows (unseen_of seen allowed) (said_of_all last allowed)

abbrev pub IsTable : OutcomesRequest → ScriptValue → Option FinalCondition → List Sighting → Option (List AllowedRow) → List ℕ → ending.Outcome → Type 0
IsTable request script last seen None text ends = IsSampleText request script last seen text ends
IsTable request script last seen (Some allowed) text ends = IsWholeTable request script last seen allowed text ends

-- all rows of the script, if they are asked for
abbrev pub AreAsked : Bool → ScriptValue → (window : ℕ) → Option (List AllowedRow) → Type 0
AreAsked all script window None = all ≡ false
AreAsked all script window (Some allowed) = (all ≡ true) × AreRows script window allowed
