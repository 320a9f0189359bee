-- What `threads` writes for its input.
use Rattle.std.specs.Prelude.{◌≡◌, ◌↔◌, ℕ, Bool, true, List, Option}
use Rattle.sci_words.specs.declared.stamped.Stamped.{Stamped}
use Rattle.sci_history.specs.{declared.entry.Entry.{Entry}, Lawful.{Lawful}, Sequential.{IsSequentiallyConsistent}}
use Rattle.sci_text.specs.{Script.{ScriptValue, IsScript, operations_of, script_text}, FirstFault.{IsTold}}
use Rattle.sci_text.specs.{ScriptFault.{IsScriptFault}, Log.{log_text}, LogValue.{IsLogs}}
use Rattle.sci_drive.specs.{declared.driver.Issuing.TheVariants.{Ahead}, ScriptLogs.{HaveLogsOf, HaveWholeLogsOf, size_for}}
use Rattle.sci_threads.specs.{Shares.{AreLedTo}, Slices.{AreDrivenOpenly}}
use Rattle.sci_command.specs.{Answer.{IsAnswerBy}, declared.outcome.Outcome.{Outcome, TheVariants.{Done}}}

-- The input is the text of a script, and the text of logs is written that are lawful and sequentially consistent, and of
-- the script: in each node's log each entry has the operation that its serial names, and no serial stands twice. One schedule
-- leads a machine to these logs. In it each node is driven through its operations, ahead, for at most this many turns. It is done
-- exactly if all nodes come to their end, and then each operation has just one entry; a node that doesn't takes all its turns.
pub record IsThreadsOf (turns : ℕ) (input text : List ℕ) (outcome : Outcome) : Type 0 where
  pub script : ScriptValue
  pub good : IsScript script
  pub read : input ≡ script_text script
  pub logs : List (List Entry)
  pub last : List Stamped
  pub written : text ≡ log_text script.nodes logs last
  pub says : IsLogs text script.nodes logs last
  pub lawful : Lawful logs last
  pub consistent : IsSequentiallyConsistent logs last
  pub named : HaveLogsOf script logs
  pub led : AreLedTo (size_for script) logs last
  pub all : Bool
  pub driven : AreDrivenOpenly turns Ahead (λ node. operations_of node script.operations) led.core led.led.schedule all
  pub ends : (outcome ≡ Done) ↔ (all ≡ true)
  pub whole : outcome ≡ Done → HaveWholeLogsOf script logs

-- what is written, and how the command ends, for the bytes of a reader, which has failed or not
abbrev pub IsThreadsAnswer : ℕ → Option (List ℕ) → Bool → List ℕ → Outcome → Type 0
IsThreadsAnswer turns = IsAnswerBy (IsThreadsOf turns) (IsTold IsScriptFault)
