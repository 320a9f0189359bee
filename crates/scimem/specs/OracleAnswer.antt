-- What `oracle` writes for its input.
use Rattle.std.specs.Prelude.{◌≡◌, ℕ, Bool, List, Option}
use Rattle.sci_history.specs.{Lawful.{Lawful}, Oracle.{oracle_logs, oracle_last}}
use Rattle.sci_text.specs.{Script.{ScriptValue, IsScript, script_text}, FirstFault.{IsTold}}
use Rattle.sci_text.specs.{ScriptFault.{IsScriptFault}, Log.{log_text}, LogValue.{IsLogs}}
use Rattle.sci_command.specs.{Answer.{IsDoneBy}, declared.outcome.Outcome.{Outcome}}

-- the text of the oracle's logs and last contents
abbrev pub oracle_text : ScriptValue → List ℕ
oracle_text s = log_text s.nodes (oracle_logs s.lines s.operations) (oracle_last s.lines s.operations)

-- the input is the text of a script, and the oracle's text of it is written; it says lawful logs, and no others
pub record IsOracleOf (input text : List ℕ) : Type 0 where
  pub script : ScriptValue
  pub good : IsScript script
  pub read : input ≡ script_text script
  pub written : text ≡ oracle_text script
  pub says : IsLogs text script.nodes (oracle_logs script.lines script.operations) (oracle_last script.lines script.operations)
  pub lawful : Lawful (oracle_logs script.lines script.operations) (oracle_last script.lines script.operations)

-- what is written, and how the command ends, for the bytes of a reader, which has failed or not
abbrev pub IsOracleAnswer : Option (List ℕ) → Bool → List ℕ → Outcome → Type 0
IsOracleAnswer = IsDoneBy IsOracleOf (IsTold IsScriptFault)
