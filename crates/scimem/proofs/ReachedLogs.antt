-- The logs and the last contents where events lead can be written as a text, which says them alone.
use Rattle.std.proofs.Common.{◌≡◌, ℕ, ◌<◌, ◌≤◌, List, length, filter, map, refl, sym, ap, subst, ◌∙◌, arith}
use Rattle.std.specs.List.{AllByRecursion}
use Rattle.sci_words.specs.declared.{event.Event.{Event}, limits.TheConstants.{MAX_OPERATIONS}}
use Rattle.sci_history.specs.{declared.entry.Entry.{Entry}, Placed.{is_of_node}}
use Rattle.sci_history.proofs.Order.{all_weaker, all_both}
use Rattle.sci_core.specs.{Size.{Size, IsMachineSize}, Core.{Core, node_at, opening, run}, Network.{entries_by}, InRange.{IsEntryOf}}
use Rattle.sci_core.specs.{Outcome.{logs_of}, Reached.{IsReached}, Sharing.{last_at, last_of}}
use Rattle.sci_core.proofs.History.ScheduleHistories.{IsKnown}
use Rattle.sci_core.proofs.WellFormed.Ranges.{log_short, reached_contents, reached_entries}
use Rattle.sci_core.proofs.WellFormed.WellFormedSteps.{is_size, reached_well}
use Rattle.sci_core.proofs.ReachedLaws.{log_at, reached_history, reached_log, reached_logged}
use Rattle.sci_core.proofs.Tidy.TidyRuns.{run_size, run_reached}
use Rattle.sci_text.specs.{Script.{IsWithin}, LogValue.{AreLogs}}
use Rattle.scimem.proofs.DoneLogs.{AreDone, operands_fit, are_logs}

-- what moves make, line by line
led_done : (core : Core) (reached : IsReached core) → AreDone core.size.nodes core.size.lines (entries_by (opening core.size) reached.moves) (last_at core)
led_done core reached =
    let size = core.size in
    let made = entries_by (opening size) reached.moves in
    let logged : (node : ℕ) → (node_at core node).log ≡ filter (is_of_node node) made = λ node. reached_log core reached node in
    let entries = reached_logged core reached in
    let Nodes = λ (entry : Entry). entry.node < size.nodes in
    let Known = IsKnown size.lines in
    let Low = λ (entry : Entry). entry.serial < MAX_OPERATIONS in
    let few = reached.size.few_operations in
    record {
      within = all_weaker (λ entry. Nodes entry × Known entry) (λ entry. IsWithin size.nodes size.lines entry.node entry.op)
          (λ entry h. record { known_node = h.0; known_line = h.1.0.0; known_word = h.1.0.1; words = operands_fit entry.op.act h.1.1 }) made
          (all_both Nodes Known made entries.nodes entries.known);
      histories = λ line lt. reached_history core reached line lt;
      small = λ line lt. let last = (reached_contents core line reached lt).version in omega arith;
      serials = λ node lt. subst (AllByRecursion Low) (logged node)
          (all_weaker (IsEntryOf size) Low (λ entry of. let below = of.serial in omega arith) (node_at core node).log (reached_entries core node reached));
      short = λ node lt. subst (λ (log : List Entry). length log ≤ MAX_OPERATIONS) (logged node) (log_short core node (reached_well core reached) few);
    }

-- the logs and the last contents of a state where events lead can be written as a text
pub reached_logs : (core : Core) → IsReached core → AreLogs core.size.nodes (logs_of core) (last_of core)
reached_logs core reached =
    let size = core.size in
    let extent = reached.size.extent in
    are_logs size.nodes size.lines (entries_by (opening size) reached.moves) (last_at core) (logs_of core) (last_of core)
    (record { has_node = extent.has_node; few_nodes = extent.few_nodes; has_line = extent.has_line; few_lines = extent.few_lines })
    (led_done core reached)
    (record { sixteen = refl; logged = λ node lt. log_at core node lt ∙ reached_log core reached node; left = refl })

pub run_logs : (size : Size) (events : List Event) → IsMachineSize size → AreLogs size.nodes (logs_of (run size events)) (last_of (run size events))
run_logs size events limits =
    let core = run size events in
    subst (λ (k : Size). AreLogs k.nodes (logs_of core) (last_of core)) (run_size size events (is_size size limits))
    (reached_logs core (run_reached size events limits))
