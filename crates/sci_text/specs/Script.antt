-- Scripts: what they say, and the one text of each.
use Rattle.std.specs.Prelude.{◌≡◌, ℕ, ◌<◌, ◌≤◌, ◌==◌, List, [], ◌∷◌, ◌++◌, length, codes, All, count_by, slice_index, filter, map}
use Rattle.std.specs.List.{flat_map}
use Rattle.sci_words.specs.declared.{limits.TheConstants.{MAX_NODES, MAX_OPERATIONS, WORDS_PER_LINE}, operation.Op.{Op}}
use Rattle.sci_words.specs.Extent.{AreWithinLimits}
use Rattle.sci_text.specs.{declared.{script.PushFault.{PushFault}, fault.TextFaultKind.{TextFaultKind}}, Number.{field}}
use Rattle.sci_text.specs.Operation.{operation, ActFits}
use Rattle.sci_text.specs.declared.script.PushFault.TheVariants as push
use Rattle.sci_text.specs.declared.fault.TextFaultKind.TheVariants as kinds

-- a machine's size, and operations with their nodes, in text order
pub record ScriptValue : Type 0 where
  pub nodes : ℕ
  pub lines : ℕ
  pub slots : ℕ
  pub operations : List (ℕ × Op)

-- the node is one of the machine's, the line and the word are in range, and the operands are words
pub record IsWithin (nodes lines node : ℕ) (op : Op) : Type 0 where
  pub known_node : node < nodes
  pub known_line : op.line < lines
  pub known_word : op.word < WORDS_PER_LINE
  pub words : ActFits op.act

abbrev pub AreWithin : ℕ → ℕ → List (ℕ × Op) → Type 0
AreWithin nodes lines operations = All (λ p. IsWithin nodes lines p.0 p.1) operations

-- the operations of a node, in their order
abbrev pub operations_of : ℕ → List (ℕ × Op) → List Op
operations_of node operations = map (λ p. p.1) (filter (λ p. p.0 == node) operations)

-- how many of the operations are the node's
abbrev pub count_of : ℕ → List (ℕ × Op) → ℕ
count_of node operations = count_by (λ p. p.0 == node) operations

-- each number is within its limits, and no node has too many operations
pub record IsScript (s : ScriptValue) : Type 0 where
  pub size : AreWithinLimits s.nodes s.lines s.slots
  pub within : AreWithin s.nodes s.lines s.operations
  pub counts : (node : ℕ) → node < s.nodes → count_of node s.operations ≤ MAX_OPERATIONS

-- the script with one more operation at its end
abbrev pub with_operation : ScriptValue → ℕ → Op → ScriptValue
with_operation s node op = record s { operations = s.operations ++ (node, op) ∷ [] }

-- why something is not added: it is not within the machine, or there is no room for it, or no memory
abbrev pub Refusal : Type 0 → Type 0 → Type 0 → PushFault → Type 0
Refusal within full room push.Range = within → ⊥
Refusal within full room push.TooMany = within × full
Refusal within full room push.Memory = within × room

-- why an operation is not added
abbrev pub PushRefusal : ScriptValue → ℕ → Op → PushFault → Type 0
PushRefusal s node op fault =
    Refusal (IsWithin s.nodes s.lines node op) (MAX_OPERATIONS ≤ count_of node s.operations) (count_of node s.operations < MAX_OPERATIONS) fault

-- the fault of a text that such a refusal is
abbrev pub kind_of : PushFault → TextFaultKind
kind_of push.Range = kinds.Range
kind_of push.TooMany = kinds.TooMany
kind_of push.Memory = kinds.Memory

-- the counts of each node's operations, none above the limit
pub record AreCounts (counts : List ℕ) (operations : List (ℕ × Op)) : Type 0 where
  pub len : length counts ≡ MAX_NODES
  pub each : (node : ℕ) → node < MAX_NODES → slice_index counts node ≡ count_of node operations
  pub few : (node : ℕ) → node < MAX_NODES → slice_index counts node ≤ MAX_OPERATIONS

-- ---- the text

-- `machine N M C`, and the line feed
unfoldable pub machine_line : ℕ → ℕ → ℕ → List ℕ
machine_line nodes lines slots = codes "machine" ++ (field nodes ++ (field lines ++ (field slots ++ 10 ∷ [])))

-- `p n OP`, and the line feed
unfoldable pub operation_line : ℕ → Op → List ℕ
operation_line node op = codes "p" ++ (field node ++ (codes " " ++ (operation op ++ 10 ∷ [])))

-- the line of the size, then a line for each operation
abbrev pub script_text : ScriptValue → List ℕ
script_text s = machine_line s.nodes s.lines s.slots ++ flat_map (λ p. operation_line p.0 p.1) s.operations
