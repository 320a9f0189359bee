-- An audit entry by entry: what the lines have after the operations that were told, and what is said of the next one.
use Rattle.std.specs.Prelude.{◌≡◌, ◌≤◌, ◌<◌, ◌==◌, ◌&&◌, ◌||◌, nat_lt, nat_le, if◌then◌else◌, ℕ, Bool, false, List, [], ◌∷◌, ◌++◌}
use Rattle.std.specs.Prelude.{Option, Some, None, filter, length, map, replicate, slice_index_or, slice_set}
use Rattle.std.specs.List.{range_with_len}
use Rattle.sci_words.specs.declared.{limits.TheConstants.{MAX_LINES, MAX_NODES}, stamped.Stamped.{Stamped}}
use Rattle.sci_words.specs.Stamped.{after, reply_of, zero_stamped}
use Rattle.sci_history.specs.{declared.{entry.Entry.{Entry}, verdict.FaultKind.{FaultKind}}, Placed.{is_making, is_of_node, log_of}}
use Rattle.sci_history.specs.declared.verdict.FaultKind.TheVariants.{VersionTwice, VersionMissing, WrongReply, OutOfOrder}
use Rattle.sci_windows.specs.declared.{line_so_far.{Latest.{Latest}, LineSoFar.{LineSoFar}}, score.Score.{Score, TheVariants.{Taken, NotNext, Fault}}}

-- the lines of a run of this many nodes
pub record Board : Type 0 where
  pub nodes : ℕ
  pub lines : List LineSoFar

pub record IsBoard (board : Board) : Type 0 where
  pub few_nodes : board.nodes ≤ MAX_NODES
  pub few_lines : length board.lines ≤ MAX_LINES

-- a line that begins with these contents
abbrev pub begun_with : Stamped → LineSoFar
begun_with contents = record { first = contents.version; contents = contents; latest = replicate MAX_NODES None }

abbrev pub line_at : List LineSoFar → ℕ → LineSoFar
line_at lines line = slice_index_or lines line (begun_with zero_stamped)

abbrev pub line_of : Board → ℕ → LineSoFar
line_of board line = line_at board.lines line

-- nothing was told, and each line begins with zero words at version 0
abbrev pub empty_board : ℕ → ℕ → Board
empty_board nodes lines = record { nodes = nodes; lines = replicate lines (begun_with zero_stamped) }

-- a line begins anew
abbrev pub with_begun : Board → ℕ → Stamped → Board
with_begun board line contents = record board { lines = slice_set board.lines line (begun_with contents) }

-- ---- what is said of an entry

-- its version was there before the line began
abbrev pub is_before_first : LineSoFar → Entry → Bool
is_before_first line entry = nat_lt entry.version line.first || (is_making entry && (entry.version == line.first))

-- it makes a version that was made
abbrev pub is_made : LineSoFar → Entry → Bool
is_made line entry = is_making entry && nat_le entry.version line.contents.version

-- its node has gone on to a later serial or version
abbrev pub is_behind : Option Latest → Entry → Bool
is_behind None entry = false
is_behind (Some latest) entry = nat_le entry.serial latest.serial || nat_lt entry.version latest.version

-- the rule that it breaks whatever the line has
abbrev pub early_fault : LineSoFar → Entry → Option FaultKind
early_fault line entry =
    if is_before_first line entry then Some VersionMissing
    else (if is_made line entry then Some VersionTwice
    else (if is_behind (slice_index_or line.latest entry.node None) entry then Some OutOfOrder else None))

-- the line comes to its version by it
abbrev pub IsNext : LineSoFar → Entry → Type 0
IsNext line entry = entry.version ≡ (after line.contents entry.op).version

-- its reply is that of the line
abbrev pub IsRight : LineSoFar → Entry → Type 0
IsRight line entry = entry.reply ≡ reply_of line.contents.line entry.op

-- it breaks a rule, by this kind
abbrev pub Breaks : LineSoFar → Entry → FaultKind → Type 0
Breaks line entry WrongReply = (early_fault line entry ≡ None) × IsNext line entry × (IsRight line entry → ⊥)
Breaks line entry kind = early_fault line entry ≡ Some kind

-- what is said of it
abbrev pub IsScore : LineSoFar → Entry → Score → Type 0
IsScore line entry Taken = (early_fault line entry ≡ None) × IsNext line entry × IsRight line entry
IsScore line entry NotNext = (early_fault line entry ≡ None) × (IsNext line entry → ⊥)
IsScore line entry (Fault kind) = Breaks line entry kind

-- ---- what becomes of the lines

-- the line after it
abbrev pub with_entry : LineSoFar → Entry → LineSoFar
with_entry line entry = record line {
  contents = after line.contents entry.op;
  latest = slice_set line.latest entry.node (Some (record { serial = entry.serial; version = entry.version }));
}

abbrev pub lines_told : List LineSoFar → Entry → List LineSoFar
lines_told lines entry = slice_set lines entry.op.line (with_entry (line_at lines entry.op.line) entry)

abbrev pub with_told : Board → Entry → Board
with_told board entry = record board { lines = lines_told board.lines entry }

-- each of these entries was taken, one after another
abbrev pub AreTaken : List LineSoFar → List Entry → List LineSoFar → Type 0
AreTaken before [] end = end ≡ before
AreTaken before (entry ∷ entries) end =
    (entry.node < MAX_NODES) × (entry.op.line < length before) × IsScore (line_at before entry.op.line) entry Taken
    × AreTaken (lines_told before entry) entries end

-- ---- what that says of logs

-- lines that begin with these contents
abbrev pub begun_lines : List Stamped → List LineSoFar
begun_lines first = map begun_with first

-- the contents of lines
abbrev pub contents_of : List LineSoFar → List Stamped
contents_of lines = map (λ line. line.contents) lines

-- each node's entries, as they were told
abbrev pub logs_told : List Entry → List (List Entry)
logs_told entries = map (λ node. filter (is_of_node node) entries) (range_with_len 0 MAX_NODES)

-- each node's log begins with its entries, as they were told
abbrev pub BeginWith : List Entry → List (List Entry) → Type 0
BeginWith entries logs = (node : ℕ) → node < MAX_NODES → (rest : List Entry) × (log_of logs node ≡ filter (is_of_node node) entries ++ rest)
