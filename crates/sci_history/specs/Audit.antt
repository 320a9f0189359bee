-- What an audit reports: the first rule that logs and last contents break, and where.
use Rattle.std.specs.Prelude.{◌≡◌, ℕ, ◌<◌, ◌==◌, ◌&&◌, ◌||◌, not, nat_lt, nat_le, Bool, true, false, List, [], ◌∷◌, ◌++◌, length, filter, map, Option}
use Rattle.std.specs.{Prelude.{Some, None, if◌then◌else◌, slice_index_or}, List.{All, list_any}}
use denote.Ref.{Bor}
use Rattle.std.specs.Global.{Vec}
use Rattle.sci_words.specs.declared.{limits.TheConstants.{MAX_NODES, WORDS_PER_LINE}, operation.Op.{Op}}
use Rattle.sci_words.specs.declared.{operation.Reply.{Reply, TheVariants.{Stored, Got}}, stamped.Stamped.{Stamped}}
use Rattle.sci_words.specs.Stamped.{line_after, zero_line, reply_of}
use Rattle.sci_history.specs.declared.{entry.Entry.{Entry}, verdict.FaultKind.{FaultKind}}
use Rattle.sci_history.specs.declared.verdict.FaultKind.TheVariants.{VersionTwice, VersionMissing, WrongReply, OutOfOrder, LastDiffers}
use Rattle.sci_history.specs.{declared.{verdict.Verdict.{Verdict}, faults.LineFault.{LineFault}}, Memory.{stamped_at}}
use Rattle.sci_history.specs.Placed.{log_of, is_of_node, is_making, makes, maker_count, on_line, placed_entries}
use Rattle.sci_history.specs.Lawful.{IsLawfulLine, Lawful}
use Rattle.sci_history.specs.declared.verdict.Verdict.TheVariants as verdicts

-- the first of some entries that fails a test, which looks at the entries before it too
abbrev pub first_failing : (List Entry → Entry → Bool) → List Entry → List Entry → Option Entry
first_failing fails before [] = None
first_failing fails before (entry ∷ entries) =
    if fails before entry then Some entry else first_failing fails (before ++ entry ∷ []) entries

-- every entry is on one of this many lines, and on a word of it
abbrev pub IsWithin : ℕ → Entry → Type 0
IsWithin lines entry = (entry.op.line < lines) × (entry.op.word < WORDS_PER_LINE)

abbrev pub AreWithin : ℕ → List (List Entry) → Type 0
AreWithin lines logs = (node : ℕ) → All (IsWithin lines) (log_of logs node)

-- the same of the entries on a line: nodes and words that there are
pub record AreKnown (entries : List Entry) : Type 0 where
  pub nodes : All (λ entry. entry.node < MAX_NODES) entries
  pub words : All (λ entry. entry.op.word < WORDS_PER_LINE) entries

-- ---- the five kinds, for the entries on one line in reading order: by node, then by place in the log

-- a maker whose version an earlier maker has
abbrev pub is_version_twice : List Entry → Entry → Bool
is_version_twice before entry = is_making entry && list_any (makes entry.version) before

-- an entry whose version is above the number of makers, or a maker of version 0
abbrev pub is_version_missing : ℕ → List Entry → Entry → Bool
is_version_missing count before entry = nat_lt count entry.version || (is_making entry && (entry.version == 0))

abbrev pub same_reply : Reply → Reply → Bool
same_reply Stored Stored = true
same_reply Stored (Got word) = false
same_reply (Got word) Stored = false
same_reply (Got word) (Got other) = word == other

-- the words that operations leave, one after another
abbrev pub line_after_all : List ℕ → List Op → List ℕ
line_after_all words [] = words
line_after_all words (op ∷ ops) = line_after_all (line_after words op) ops

-- the words of a line after entries that began with zero words
abbrev pub words_after : List Entry → List ℕ
words_after before = line_after_all zero_line (map (λ entry. entry.op) before)

-- an entry whose reply isn't the effect's, after those placed before it
abbrev pub is_reply_wrong : List Entry → Entry → Bool
is_reply_wrong before entry = not (same_reply entry.reply (reply_of (words_after before) entry.op))

-- the last of some entries
abbrev pub last_entry : Option Entry → List Entry → Option Entry
last_entry found [] = found
last_entry found (entry ∷ entries) = last_entry (Some entry) entries

-- Of two entries of one node on a line, the one that was logged first is placed before the other: its version is
-- less, or at one version it is the maker and the other a load, or both are of a kind and its serial isn't greater.
abbrev pub is_placed_before : Entry → Entry → Bool
is_placed_before first second =
    nat_lt first.version second.version
    || ((first.version == second.version)
    && ((is_making first && not (is_making second)) || ((is_making first || not (is_making second)) && nat_le first.serial second.serial)))

-- whether a serial or a placed position isn't greater than that of the node's entry before
abbrev pub breaks_order : Option Entry → Entry → Bool
breaks_order None entry = false
breaks_order (Some previous) entry = not (nat_lt previous.serial entry.serial && is_placed_before previous entry)

-- an entry that doesn't stand after its node's entry before it on the line
abbrev pub is_out_of_order : List Entry → Entry → Bool
is_out_of_order before entry = breaks_order (last_entry None (filter (is_of_node entry.node) before)) entry

-- ---- the first of each kind

abbrev pub first_twice : List Entry → Option Entry
first_twice entries = first_failing is_version_twice [] entries

abbrev pub first_missing : List Entry → Option Entry
first_missing entries = first_failing (is_version_missing (maker_count entries)) [] entries

abbrev pub first_wrong : List Entry → Option Entry
first_wrong entries = first_failing is_reply_wrong [] (placed_entries entries)

abbrev pub first_disordered : List Entry → Option Entry
first_disordered entries = first_failing is_out_of_order [] entries

-- there is an entry, and it is named by its node and serial
abbrev pub Names : Option Entry → Option (ℕ × ℕ) → Type 0
Names None named = ⊥
Names (Some entry) named = named ≡ Some (entry.node, entry.serial)

-- A line's fault: the first kind that fails, and the first entry where it does. The last kind names none.
abbrev pub IsLineFault : List Entry → Stamped → FaultKind → Option (ℕ × ℕ) → Type 0
IsLineFault entries last VersionTwice named = Names (first_twice entries) named
IsLineFault entries last VersionMissing named = (first_twice entries ≡ None) × Names (first_missing entries) named
IsLineFault entries last WrongReply named =
    (first_twice entries ≡ None) × (first_missing entries ≡ None) × Names (first_wrong entries) named
IsLineFault entries last OutOfOrder named =
    (first_twice entries ≡ None) × (first_missing entries ≡ None) × (first_wrong entries ≡ None) × Names (first_disordered entries) named
IsLineFault entries last LastDiffers named =
    (first_twice entries ≡ None) × (first_missing entries ≡ None) × (first_wrong entries ≡ None) × (first_disordered entries ≡ None)
    × (named ≡ None) × ((last.line ≡ words_after (placed_entries entries)) × (last.version ≡ maker_count entries) → ⊥)

-- no kind fails on a line
pub record HasNoFault (entries : List Entry) (last : Stamped) : Type 0 where
  pub twice : first_twice entries ≡ None
  pub missing : first_missing entries ≡ None
  pub wrong : first_wrong entries ≡ None
  pub disordered : first_disordered entries ≡ None
  pub words : last.line ≡ words_after (placed_entries entries)
  pub version : last.version ≡ maker_count entries

-- what references point to
abbrev pub entries_of : List (Bor Entry) → List Entry
entries_of refs = map (λ ref. ref.now) refs

-- lists of references, as lists of what they point to
abbrev pub lists_of : List (Vec (Bor Entry)) → List (List Entry)
lists_of lists = map (λ list. entries_of list.items) lists

-- what is found on a line: the fault that comes first, or that no kind fails
abbrev pub IsFound : List Entry → Stamped → Option LineFault → Type 0
IsFound entries last None = HasNoFault entries last
IsFound entries last (Some fault) = IsLineFault entries last fault.kind fault.at

-- what is found on each of the first lines, this many of them
pub record AreFound (logs : List (List Entry)) (last : List Stamped) (lines : ℕ) (faults : List (Option LineFault)) : Type 0 where
  pub many : length faults ≡ lines
  pub each : (line : ℕ) → line < lines → IsFound (on_line line logs) (stamped_at last line) (slice_index_or faults line None)

-- a fault of this line, if each line below is lawful
pub record IsFault (logs : List (List Entry)) (last : List Stamped) (line : ℕ) (kind : FaultKind) (named : Option (ℕ × ℕ)) : Type 0 where
  pub in_range : line < length last
  pub below : (other : ℕ) → other < line → IsLawfulLine logs other (stamped_at last other)
  pub fault : IsLineFault (on_line line logs) (stamped_at last line) kind named

-- what an audit says: lawful, or the fault that comes first
abbrev pub IsVerdict : List (List Entry) → List Stamped → Verdict → Type 0
IsVerdict logs last verdicts.Lawful = Lawful logs last
IsVerdict logs last (verdicts.Fault line kind at) = IsFault logs last line kind at
