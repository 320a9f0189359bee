-- How the logs of a machine answer a script, and the machine that it is run on.
use Rattle.std.specs.Prelude.{◌<◌, ℕ, List}
use Rattle.sci_words.specs.declared.{limits.TheConstants.{MAX_OPERATIONS}, operation.Op.{Op}}
use Rattle.sci_history.specs.{declared.entry.Entry.{Entry}, Placed.{log_of}}
use Rattle.sci_text.specs.Script.{ScriptValue, operations_of}
use Rattle.sci_core.specs.Size.{Size}
use Rattle.sci_drive.specs.Script.{IsFrontOf, IsLogOf, IsWholeLogOf}

-- this is so of each node's operations and its log
abbrev pub IsOfEachLog : (List Op → List Entry → Type 0) → ℕ → (ℕ → List Op) → List (List Entry) → Type 0
IsOfEachLog Good nodes operations logs = (node : ℕ) → node < nodes → Good (operations node) (log_of logs node)

abbrev pub IsOfEachLogOf : (List Op → List Entry → Type 0) → ScriptValue → List (List Entry) → Type 0
IsOfEachLogOf Good script = IsOfEachLog Good script.nodes (λ node. operations_of node script.operations)

-- each node's log is of its operations: each entry has the operation that its serial names, and no serial stands twice
abbrev pub HaveLogsOf : ScriptValue → List (List Entry) → Type 0
HaveLogsOf script logs = IsOfEachLogOf IsLogOf script logs

-- and each operation has just one entry
abbrev pub HaveWholeLogsOf : ScriptValue → List (List Entry) → Type 0
HaveWholeLogsOf script logs = IsOfEachLogOf IsWholeLogOf script logs

-- the operations of each node's log are the first ones of its operations, in their order
abbrev pub HaveFrontLogsOf : ScriptValue → List (List Entry) → Type 0
HaveFrontLogsOf script logs = IsOfEachLogOf IsFrontOf script logs

-- the machine that a script is run on, whose nodes may each issue 65,536 operations
abbrev pub size_for : ScriptValue → Size
size_for script = record { nodes = script.nodes; lines = script.lines; slots = script.slots; limit = MAX_OPERATIONS }
