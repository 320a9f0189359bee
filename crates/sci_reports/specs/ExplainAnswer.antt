-- What `explain` writes for its input.
use Rattle.std.specs.Prelude.{◌≡◌, ℕ, Bool, List, length, Option, if◌then◌else◌}
use Rattle.std.specs.List.{flat_map}
use Rattle.sci_words.specs.declared.stamped.Stamped.{Stamped}
use Rattle.sci_history.specs.{declared.{entry.Entry.{Entry}, faults.LineFault.{LineFault}}, Audit.{AreFound}}
use Rattle.sci_history.specs.Lawful.{Lawful}
use Rattle.sci_text.specs.{FirstFault.{IsTold}, LogFault.{IsLogFault}}
use Rattle.sci_command.specs.declared.outcome.Outcome.{Outcome, TheVariants.{Done, Unlawful, Refused}}
use Rattle.sci_command.specs.{Answer.{IsAnswerBy}, VerdictLine.{verdict_text}}
use Rattle.sci_reports.specs.{declared.finding.Finding.{Finding}, ExplainJson.{findings_json, lawful_json}}
use Rattle.sci_reports.specs.{Finding.{AreFindings}, NoteText.{finding_text}, ReadLog.{IsOfLogs}}
use Rattle.sci_history.specs.declared.verdict.Verdict.TheVariants as verdicts

-- that a log is lawful, in words or as a JSON object; and the same of what is found in another
abbrev pub lawful_shown : Bool → List ℕ
lawful_shown json = if json then lawful_json else verdict_text verdicts.Lawful

abbrev pub findings_shown : Bool → List Finding → List ℕ
findings_shown json findings = if json then findings_json findings else flat_map finding_text findings

-- Of a lawful log that it is lawful; of another what is found on each of its lines. This many lines of the text come before the entries.
abbrev pub IsExplained : Bool → ℕ → List (List Entry) → List Stamped → List ℕ → Outcome → Type 0
IsExplained json before logs last text Done = Lawful logs last × (text ≡ lawful_shown json)
IsExplained json before logs last text Unlawful = (Lawful logs last → ⊥)
    × (faults : List (Option LineFault)) × AreFound logs last (length last) faults
    × (findings : List Finding) × AreFindings before logs last 0 faults findings × (text ≡ findings_shown json findings)
IsExplained json before logs last text Refused = ⊥

-- the input is the text of logs with last contents, which are explained
abbrev pub IsExplanationOf : Bool → List ℕ → List ℕ → Outcome → Type 0
IsExplanationOf json input text outcome = IsOfLogs (λ before logs last. IsExplained json before logs last text outcome) input

-- what `explain` writes, and how it ends, for the bytes of a reader, which has failed or not
abbrev pub IsExplainAnswer : Bool → Option (List ℕ) → Bool → List ℕ → Outcome → Type 0
IsExplainAnswer json = IsAnswerBy (IsExplanationOf json) (IsTold IsLogFault)
