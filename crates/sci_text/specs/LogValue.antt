-- Logs that are read from a text, in both formats, and the lines that say them.
use Rattle.std.specs.Prelude.{◌≡◌, ℕ, ◌<◌, ◌≤◌, ◌^◌, ◌⊎◌, List, [], ◌++◌, length, codes, All, Option, Some, None}
use Rattle.std.specs.List.{flat_map}
use Rattle.sci_words.specs.declared.limits.TheConstants.{MAX_NODES, MAX_LINES, MAX_OPERATIONS, WORDS_PER_LINE, FORMAT_1_NODES, FORMAT_1_SERIALS}
use Rattle.sci_words.specs.declared.{limits.TheConstants.{FORMAT_1_ENTRIES}, operation.Act.{Act}}
use Rattle.sci_words.specs.declared.operation.{Act.TheVariants.{Load, Store, Lock}, Reply.{Reply}}
use Rattle.sci_words.specs.declared.{operation.Reply.TheVariants.{Stored, Got}, stamped.Stamped.{Stamped}}
use Rattle.sci_history.specs.{declared.entry.Entry.{Entry}, Placed.{log_of, AreOwn}}
use Rattle.sci_text.specs.{declared.log_form.Form.{Form}, Operation.{ActFits}, Log.{log_line, last_lines, entry_lines}}

abbrev pub format_1 : Form
format_1 = record { nodes = FORMAT_1_NODES; serials = FORMAT_1_SERIALS; entries = FORMAT_1_ENTRIES; lines = None }

abbrev pub format_2 : ℕ → ℕ → Form
format_2 nodes lines = record { nodes = nodes; serials = MAX_OPERATIONS; entries = MAX_OPERATIONS; lines = Some lines }

pub record IsSize (nodes lines : ℕ) : Type 0 where
  pub has_node : 1 ≤ nodes
  pub few_nodes : nodes ≤ MAX_NODES
  pub has_line : 1 ≤ lines
  pub few_lines : lines ≤ MAX_LINES

abbrev pub IsForm : Form → Type 0
IsForm form = (form ≡ format_1) ⊎ ((lines : ℕ) × (form ≡ format_2 form.nodes lines) × IsSize form.nodes lines)

-- ---- what a line can say

-- a stamped line of words of 64 bits
pub record StampedFits (stamped : Stamped) : Type 0 where
  pub words : All (λ word. word < 2 ^ 64) stamped.line
  pub version : stamped.version < 2 ^ 64

-- a store's reply is no number, and every other operation's is one
abbrev pub Answers : Act → Reply → Type 0
Answers Load Stored = ⊥
Answers Load (Got word) = Unit {0}
Answers (Store word) Stored = Unit {0}
Answers (Store word) (Got other) = ⊥
Answers (Lock lock) Stored = ⊥
Answers (Lock lock) (Got word) = Unit {0}

abbrev pub ReplyFits : Reply → Type 0
ReplyFits Stored = Unit {0}
ReplyFits (Got word) = word < 2 ^ 64

-- node, serial, line and word are within the limits
pub record AreNumbersWithin (form : Form) (lines : ℕ) (entry : Entry) : Type 0 where
  pub node : entry.node < form.nodes
  pub serial : entry.serial < form.serials
  pub line : entry.op.line < lines
  pub word : entry.op.word < WORDS_PER_LINE

-- an entry of such a form, whose line is one of this many
pub record EntryFits (form : Form) (lines : ℕ) (entry : Entry) : Type 0 where
  pub numbers : AreNumbersWithin form lines entry
  pub operands : ActFits entry.op.act
  pub answers : Answers entry.op.act entry.reply
  pub reply : ReplyFits entry.reply
  pub version : entry.version < 2 ^ 64

-- ---- logs so far

-- how many entries there are
abbrev pub entry_count : List (List Entry) → ℕ
entry_count logs = length (flat_map (λ log. log) logs)

-- the first lines of a log: its form, the last contents and the entries that they say
pub record Front : Type 0 where
  pub form : Form
  pub last : List Stamped
  pub logs : List (List Entry)

-- there are all `last` lines: those that the first line says, or at least one
abbrev pub HasAllLines : Option ℕ → ℕ → Type 0
HasAllLines None count = 1 ≤ count
HasAllLines (Some lines) count = count ≡ lines

-- there may be one more
abbrev pub HasRoom : Option ℕ → ℕ → Type 0
HasRoom None count = Unit {0}
HasRoom (Some lines) count = count < lines

-- there is none too many
abbrev pub HasNoExtra : Option ℕ → ℕ → Type 0
HasNoExtra None count = Unit {0}
HasNoExtra (Some lines) count = count ≤ lines

abbrev pub front_of : Form → List Stamped → List (List Entry) → Front
front_of form last logs = record { form = form; last = last; logs = logs }

-- each line is right at its place: the `last` lines come first, as many as there may be, and all of them before an entry
pub record IsFront (front : Front) : Type 0 where
  pub form : IsForm front.form
  pub last : All (λ stamped. (length stamped.line ≡ WORDS_PER_LINE) × StampedFits stamped) front.last
  pub few_lines : length front.last ≤ MAX_LINES
  pub no_extra : HasNoExtra front.form.lines (length front.last)
  pub last_first : 0 < entry_count front.logs → HasAllLines front.form.lines (length front.last)
  pub sixteen : length front.logs ≡ MAX_NODES
  pub own : AreOwn front.logs
  pub entries : (node : ℕ) → All (EntryFits front.form (length front.last)) (log_of front.logs node)
  pub few_entries : (node : ℕ) → length (log_of front.logs node) ≤ front.form.entries

-- `log 2 N M`, and the line feed, if there is such a line
abbrev pub first_line_of : ℕ → Option ℕ → List ℕ
first_line_of nodes None = []
first_line_of nodes (Some lines) = log_line nodes lines

abbrev pub first_line : Form → List ℕ
first_line form = first_line_of form.nodes form.lines

abbrev pub front_text : Front → List ℕ
front_text front = first_line front.form ++ (last_lines 0 front.last ++ entry_lines front.logs)

-- ---- the logs of a text

abbrev pub BeginsLog : List ℕ → Type 0
BeginsLog bytes = (rest : List ℕ) × (bytes ≡ codes "log " ++ rest)

-- logs and last contents that a text of this form can say: all numbers are within its limits
pub record AreLogsOf (form : Form) (nodes : ℕ) (logs : List (List Entry)) (last : List Stamped) : Type 0 where
  pub good : IsFront (front_of form last logs)
  pub whole : HasAllLines form.lines (length last)
  pub nodes_is : form.nodes ≡ nodes

-- those of format 1 or 2
abbrev pub AreLogs : ℕ → List (List Entry) → List Stamped → Type 0
AreLogs nodes logs last = (form : Form) × AreLogsOf form nodes logs last

-- the bytes are the text of these logs, in format 1 or 2
abbrev pub IsLogs : List ℕ → ℕ → List (List Entry) → List Stamped → Type 0
IsLogs input nodes logs last = (form : Form) × AreLogsOf form nodes logs last × (input ≡ front_text (front_of form last logs))
