-- What `audit` and `upgrade` write for their input.
use Rattle.std.specs.Prelude.{◌≡◌, ◌↔◌, ℕ, Bool, List, Option}
use Rattle.sci_words.specs.declared.stamped.Stamped.{Stamped}
use Rattle.sci_history.specs.{declared.{entry.Entry.{Entry}, verdict.Verdict.{Verdict}}, Lawful.{Lawful}}
use Rattle.sci_history.specs.Audit.{IsVerdict}
use Rattle.sci_text.specs.{Log.{log_text}, FirstFault.{IsTold}, LogValue.{IsLogs}, LogFault.{IsLogFault}}
use Rattle.sci_command.specs.{Answer.{IsAnswerBy, IsDoneBy}, VerdictLine.{verdict_text}}
use Rattle.sci_command.specs.declared.outcome.Outcome.{Outcome, TheVariants.{Done, Unlawful}}
use Rattle.sci_history.specs.declared.verdict.Verdict.TheVariants as verdicts

-- how an audit ends
abbrev pub outcome_of : Verdict → Outcome
outcome_of verdicts.Lawful = Done
outcome_of (verdicts.Fault line kind named) = Unlawful

-- the input is the text of logs with last contents, whose verdict's line is written
pub record IsAuditOf (input text : List ℕ) (outcome : Outcome) : Type 0 where
  pub nodes : ℕ
  pub logs : List (List Entry)
  pub last : List Stamped
  pub verdict : Verdict
  pub read : IsLogs input nodes logs last
  pub judged : IsVerdict logs last verdict
  pub lawful : (verdict ≡ verdicts.Lawful) ↔ Lawful logs last
  pub written : text ≡ verdict_text verdict
  pub ends : outcome ≡ outcome_of verdict

-- what `audit` writes, and how it ends, for the bytes of a reader, which has failed or not
abbrev pub IsAuditAnswer : Option (List ℕ) → Bool → List ℕ → Outcome → Type 0
IsAuditAnswer = IsAnswerBy IsAuditOf (IsTold IsLogFault)

-- the input is the text of logs with last contents, whose text in format 2 is written: the same logs have that text too
pub record IsUpgradeOf (input text : List ℕ) : Type 0 where
  pub nodes : ℕ
  pub logs : List (List Entry)
  pub last : List Stamped
  pub read : IsLogs input nodes logs last
  pub written : text ≡ log_text nodes logs last
  pub again : IsLogs text nodes logs last

-- what `upgrade` writes, and how it ends
abbrev pub IsUpgradeAnswer : Option (List ℕ) → Bool → List ℕ → Outcome → Type 0
IsUpgradeAnswer = IsDoneBy IsUpgradeOf (IsTold IsLogFault)
