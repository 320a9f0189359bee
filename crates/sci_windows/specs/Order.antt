-- One order of all entries of a window, as one memory of one thread has them that begins with the first contents.
use Rattle.std.specs.Prelude.{◌≡◌, ◌≤◌, ◌*◌, ℕ, List, filter, length, slice_index_or}
use Rattle.sci_words.specs.declared.{limits.TheConstants.{MAX_NODES}, stamped.Stamped.{Stamped}}
use Rattle.sci_history.specs.{declared.entry.Entry.{Entry}, declared.order_verdict.Step.{Step}, Cycle.{HasNoShortcut, IsCycle}, History.{IsHistory}}
use Rattle.sci_history.specs.{Memory.{stamped_at}, Placed.{is_of_node, is_on_line, log_of}}
use Rattle.sci_windows.specs.{declared.window_order.WindowOrder.{WindowOrder}, Fault.{IsFaultFrom}, Window.{LawfulFrom}}
use Rattle.sci_windows.specs.declared.window_order.WindowOrder.TheVariants.{Fault, Order, Cycle}

-- An order of all entries of the logs: each node's entries stand in it as in the node's log, and those on each line are the line's
-- history from its first contents to its last contents.
pub record IsSequentialOrderFrom (logs : List (List Entry)) (first last : List Stamped) (order : List Entry) : Type 0 where
  pub logged : (node : ℕ) → filter (is_of_node node) order ≡ log_of logs node
  pub histories : (line : ℕ) → IsHistory (filter (is_on_line line) order) (stamped_at first line) (stamped_at last line)

-- there is such an order
abbrev pub AreOrderedFrom : List (List Entry) → (first last : List Stamped) → Type 0
AreOrderedFrom logs first last = (order : List Entry) × IsSequentialOrderFrom logs first last order

-- What a look for an order finds: the audit's fault; else an order; else a cycle without a shortcut, of no more than two entries
-- for each node.
abbrev pub IsOrderFrom : List (List Entry) → (first last : List Stamped) → WindowOrder → Type 0
IsOrderFrom logs first last (Fault line kind at) = IsFaultFrom logs first last line kind at
IsOrderFrom logs first last (Order order) = LawfulFrom logs first last × IsSequentialOrderFrom logs first last order.items
IsOrderFrom logs first last (Cycle steps) =
    LawfulFrom logs first last × IsCycle logs steps.items × HasNoShortcut steps.items × (length steps.items ≤ 2 * MAX_NODES)

-- it found an order
abbrev pub IsOrderedFrom : WindowOrder → Type 0
IsOrderedFrom (Order order) = Unit {0}
IsOrderedFrom found = ⊥

-- a step with the entry that stands at its place
abbrev pub step_in : List (List Entry) → Step → Step
step_in logs step = record step { entry = slice_index_or (log_of logs step.entry.node) step.place step.entry }
