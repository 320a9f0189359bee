-- What the private readers of logs' lines answer: what is read, and the bytes after it; and what comes of a line that
-- was read. No public contract rests on these words; laws in proofs/ join them to the texts.
use Rattle.std.specs.Prelude.{◌≡◌, ℕ, zero, suc, ◌+◌, ◌<◌, ◌≤◌, ◌^◌, List, [], ◌∷◌, ◌++◌, length, codes, Option, Some, None, option_map, replicate, slice_set}
use Rattle.std.specs.Prelude.{nat_lt, if◌then◌else◌}
use Rattle.sci_words.specs.declared.operation.{Op.{Op}, Reply.{Reply, TheVariants.{Stored, Got}}}
use Rattle.sci_words.specs.declared.stamped.Stamped.{Stamped}
use Rattle.sci_words.specs.declared.limits.TheConstants.{MAX_NODES, MAX_LINES, WORDS_PER_LINE}
use Rattle.sci_history.specs.{declared.entry.Entry.{Entry}, Placed.{log_of}}
use Rattle.sci_text.specs.declared.{operation.Command.{Command}, fault.TextFault.{TextFault}, log_form.Form.{Form}, log_lines.LogReader.{LogReader}}
use Rattle.sci_text.specs.{Log.{last_line, entry_line}, FirstFault.{IsRefusal}}
use Rattle.sci_text.specs.Reading.{◌>>=◌, number_read, field_read, after, byte, command_read, pair_read, operation_read}
use Rattle.sci_text.specs.LogValue.{StampedFits, EntryFits, Front, HasAllLines, HasRoom, entry_count, first_line, front_of, BeginsLog}
use Rattle.sci_text.specs.LogFault.{SaysLast, BeginsFront, IsLogFault, line_count}
use Rattle.sci_text.specs.declared.operation.Command.TheVariants as commands

-- ` @V`
unfoldable pub version_read : List ℕ → Option (Option ℕ × List ℕ)
version_read bytes = after (codes " @") bytes >>= number_read

-- a pair of words before others, if each is below 2^64
unfoldable pub pair_and : Option (ℕ × ℕ) → Option (List ℕ) → Option (List ℕ)
pair_and pair more = do
  two ← pair
  words ← more
  Some (two.0 ∷ two.1 ∷ words)

-- the words of this many pairs
unfoldable pub words_read : ℕ → List ℕ → Option (Option (List ℕ) × List ℕ)
words_read zero bytes = Some (Some [], bytes)
words_read (suc pairs) bytes = do
  first ← pair_read bytes
  more ← words_read pairs first.1
  Some (pair_and first.0 more.0, more.1)

unfoldable pub stamped_of : Option (List ℕ) → Option ℕ → Option Stamped
stamped_of words version = do
  line ← words
  number ← version
  Some (record { line = line; version = number })

unfoldable pub last_line_read : List ℕ → Option ((Option ℕ × Option Stamped) × List ℕ)
last_line_read bytes = do
  first ← after (codes "last") bytes
  line ← field_read first
  version ← version_read line.1
  words ← words_read 4 version.1
  rest ← after (10 ∷ []) words.1
  Some ((line.0, stamped_of words.0 version.0), rest)

-- a store's reply is `-`, every other operation's is a number
unfoldable pub reply_read : Command → List ℕ → Option (Option Reply × List ℕ)
reply_read commands.Store bytes = option_map (λ rest. (Some Stored, rest)) (after (codes "-") bytes)
reply_read command bytes = number_read bytes >>= λ x. Some (option_map Got x.0, x.1)

-- a number below 2^32
unfoldable pub serial_of : Option ℕ → Option ℕ
serial_of None = None
serial_of (Some n) = if nat_lt n (2 ^ 32) then Some n else None

unfoldable pub entry_of : Option ℕ → Option ℕ → Option Op → Option Reply → Option ℕ → Option Entry
entry_of node serial op reply version = do
  n ← byte node
  s ← serial_of serial
  o ← op
  r ← reply
  v ← version
  Some (record { node = n; serial = s; op = o; reply = r; version = v })

-- `n serial OP`
unfoldable pub issue_read : List ℕ → Option ((Option ℕ × Option ℕ × Command × Option Op) × List ℕ)
issue_read bytes = do
  node ← number_read bytes
  serial ← field_read node.1
  gap ← after (codes " ") serial.1
  command ← command_read gap
  op ← operation_read gap
  Some ((node.0, serial.0, command.0, op.0), op.1)

-- ` = REPLY @V`
unfoldable pub outcome_read : Command → List ℕ → Option ((Option Reply × Option ℕ) × List ℕ)
outcome_read command bytes = do
  equals ← after (codes " = ") bytes
  reply ← reply_read command equals
  version ← version_read reply.1
  Some ((reply.0, version.0), version.1)

unfoldable pub entry_line_read : List ℕ → Option ((Option ℕ × Option Entry) × List ℕ)
entry_line_read bytes = do
  issue ← issue_read bytes
  outcome ← outcome_read issue.0.2 issue.1
  rest ← after (10 ∷ []) outcome.1
  Some ((issue.0.0, entry_of issue.0.0 issue.0.1 issue.0.3 outcome.0.0 outcome.0.1), rest)

unfoldable pub log_line_read : List ℕ → Option ((Option ℕ × Option ℕ) × List ℕ)
log_line_read bytes = do
  first ← after (codes "log 2") bytes
  nodes ← field_read first
  lines ← field_read nodes.1
  rest ← after (10 ∷ []) lines.1
  Some ((nodes.0, lines.0), rest)

-- ---- what comes of a line

-- the bytes are a `last` line and the rest, and the new contents are the old ones with what it says
pub record AddsLast (form : Form) (old new : List Stamped) (bytes rest : List ℕ) : Type 0 where
  pub stamped : Stamped
  pub parts : bytes ≡ last_line (length old) stamped ++ rest
  pub eight : length stamped.line ≡ WORDS_PER_LINE
  pub fits : StampedFits stamped
  pub few : length old < MAX_LINES
  pub room : HasRoom form.lines (length old)
  pub added : new ≡ old ++ stamped ∷ []

-- the bytes are the line of an entry and the rest, and its node's log ends with it
pub record AddsEntry (form : Form) (lines : ℕ) (old new : List (List Entry)) (latest now : ℕ) (bytes rest : List ℕ) : Type 0 where
  pub entry : Entry
  pub parts : bytes ≡ entry_line entry ++ rest
  pub fits : EntryFits form lines entry
  pub room : length (log_of old entry.node) < form.entries
  pub added : new ≡ slice_set old entry.node (log_of old entry.node ++ entry ∷ [])
  pub later : latest ≤ entry.node
  pub now_is : now ≡ entry.node

-- the node of the last entry, or 0: its log has an entry, and no later node's has
pub record IsLatest (logs : List (List Entry)) (latest : ℕ) : Type 0 where
  pub none_above : (other : ℕ) → latest < other → log_of logs other ≡ []
  pub some : 0 < latest → 0 < length (log_of logs latest)

-- no entries
abbrev pub no_logs : List (List Entry)
no_logs = replicate MAX_NODES []

abbrev pub BeginsLast : List ℕ → Type 0
BeginsLast bytes = (rest : List ℕ) × (bytes ≡ codes "last" ++ rest)

-- the bytes begin with no `last` line that can stand next
abbrev pub NoLast : Front → List ℕ → Type 0
NoLast front bytes = (line : ℕ) (stamped : Stamped) → SaysLast front bytes line stamped → ⊥

-- the fault of every input that goes on from its first line with these bytes
abbrev pub IsRefusalAfter : Form → List ℕ → TextFault → Type 0
IsRefusalAfter form bytes fault =
    (input : List ℕ) → input ≡ first_line form ++ bytes → (form.lines ≡ None → BeginsLog input → ⊥) → IsRefusal IsLogFault input fault

-- what a reader has read
abbrev pub front_read : LogReader → Front
front_read reader = front_of reader.form reader.last.items reader.logs

-- a reader has read all `last` lines of the input, and its entries up to this rest
pub record HasRead (input : List ℕ) (reader : LogReader) (rest : List ℕ) : Type 0 where
  pub begins : BeginsFront input (front_read reader) rest
  pub whole : HasAllLines reader.form.lines (length reader.last.items)
  pub latest : IsLatest reader.logs reader.latest
  pub no_last : NoLast (front_read reader) rest
  pub place : reader.line ≡ line_count (front_read reader) + 1
  pub few : entry_count reader.logs + length rest < 2 ^ 63
