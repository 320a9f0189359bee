-- What a run by threads writes.
use Rattle.std.proofs.Common.{◌≡◌, ℕ, Bool, true, List, refl, sym, subst}
use Rattle.sci_words.specs.declared.stamped.Stamped.{Stamped}
use Rattle.sci_history.specs.{declared.entry.Entry.{Entry}, Lawful.{Lawful}, Sequential.{IsSequentiallyConsistent}}
use Rattle.sci_core.specs.{Size.{Size}, Outcome.{logs_of}, Sharing.{last_of}}
use Rattle.sci_text.specs.{Script.{ScriptValue, IsScript, operations_of, script_text}, Log.{log_text}, LogValue.{AreLogs, IsLogs}}
use Rattle.sci_text.proofs.LogLaws.{written_again}
use Rattle.std.specs.Prelude.{◌↔◌}
use Rattle.sci_drive.specs.{declared.driver.Issuing.TheVariants.{Ahead}, ScriptLogs.{HaveLogsOf, HaveWholeLogsOf, size_for}}
use Rattle.sci_threads.specs.{Shares.{AreLedTo}, Slices.{AreDrivenOpenly}}
use Rattle.sci_command.specs.declared.outcome.Outcome.{Outcome, TheVariants.{Done}}
use Rattle.scimem.specs.ThreadsAnswer.{IsThreadsOf}
use Rattle.scimem.proofs.ReachedLogs.{reached_logs}

-- what a run of at most this many turns of each node gives
pub record IsRunOf (turns : ℕ) (s : ScriptValue) (logs : List (List Entry)) (last : List Stamped) (finished : Bool) : Type 0 where
  pub led : AreLedTo (size_for s) logs last
  pub driven : AreDrivenOpenly turns Ahead (λ node. operations_of node s.operations) led.core led.led.schedule finished
  pub lawful : Lawful logs last
  pub consistent : IsSequentiallyConsistent logs last
  pub named : HaveLogsOf s logs
  pub whole : finished ≡ true → HaveWholeLogsOf s logs

run_are_logs : (s : ScriptValue) (logs : List (List Entry)) (last : List Stamped) → AreLedTo (size_for s) logs last → AreLogs s.nodes logs last
run_are_logs s logs last led =
    let core = led.core in
    let there : AreLogs s.nodes (logs_of core) (last_of core) =
    subst (λ (z : Size). AreLogs z.nodes (logs_of core) (last_of core)) led.led.sized (reached_logs core led.led.reached) in
    subst (λ (l : List (List Entry)). AreLogs s.nodes l last) (sym led.logs_are) (subst (AreLogs s.nodes (logs_of core)) (sym led.last_are) there)

pub threads_is : (turns : ℕ) (text : List ℕ) (s : ScriptValue) (logs : List (List Entry)) (last : List Stamped) (finished : Bool) (outcome : Outcome)
    → IsScript s → text ≡ log_text s.nodes logs last → IsRunOf turns s logs last finished → (outcome ≡ Done) ↔ (finished ≡ true)
    → IsThreadsOf turns (script_text s) text outcome
threads_is turns text s logs last finished outcome good written run ends = record {
  script = s;
  good = good;
  read = refl;
  logs = logs;
  last = last;
  written = written;
  says = subst (λ (bytes : List ℕ). IsLogs bytes s.nodes logs last) (sym written) (written_again s.nodes logs last (run_are_logs s logs last run.led));
  lawful = run.lawful;
  consistent = run.consistent;
  named = run.named;
  led = run.led;
  all = finished;
  driven = run.driven;
  ends = ends;
  whole = λ is. run.whole (ends.0 is);
}
