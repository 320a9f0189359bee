-- The faults of a log's text.
use Rattle.std.specs.Prelude.{◌≡◌, ℕ, ◌+◌, ◌<◌, ◌≤◌, ◌⊎◌, List, [], ◌++◌, length, Option, Some, None}
use Rattle.std.proofs.Common.{inl, inr}
use Rattle.sci_words.specs.declared.{limits.TheConstants.{MAX_LINES, WORDS_PER_LINE}, stamped.Stamped.{Stamped}}
use Rattle.sci_history.specs.{declared.entry.Entry.{Entry}, Placed.{log_of}}
use Rattle.sci_text.specs.{declared.fault.TextFaultKind.{TextFaultKind}, Log.{log_line, last_line, entry_line}}
use Rattle.sci_text.specs.FirstFault.{Says, LineFault, IsFirstFault}
use Rattle.sci_text.specs.LogValue.{IsSize, StampedFits, Answers, EntryFits, entry_count, Front, HasAllLines, HasRoom, IsFront, front_text, BeginsLog}

-- a `last` line of this number can stand next
pub record IsLastPlace (front : Front) (line : ℕ) : Type 0 where
  pub first : entry_count front.logs ≡ 0
  pub next : line ≡ length front.last
  pub room : HasRoom front.form.lines (length front.last)

-- an entry of this node can stand next
pub record IsEntryPlace (front : Front) (node : ℕ) : Type 0 where
  pub whole : HasAllLines front.form.lines (length front.last)
  pub none_above : (other : ℕ) → node < other → log_of front.logs other ≡ []

-- the bytes begin with such a line, which stands at its place
pub record SaysLast (front : Front) (bytes : List ℕ) (line : ℕ) (stamped : Stamped) : Type 0 where
  pub place : IsLastPlace front line
  pub says : Says bytes (last_line line stamped)
  pub eight : length stamped.line ≡ WORDS_PER_LINE

pub record SaysEntry (front : Front) (bytes : List ℕ) (entry : Entry) : Type 0 where
  pub place : IsEntryPlace front entry.node
  pub says : Says bytes (entry_line entry)
  pub answers : Answers entry.op.act entry.reply

-- what a line says after the first: the number of a line with its last contents, or an entry
abbrev pub LogLine : Type 0
LogLine = (ℕ × Stamped) ⊎ Entry

-- the bytes begin with the line that says so, which stands at its place
abbrev pub SaysNext : Front → List ℕ → LogLine → Type 0
SaysNext front bytes (inl last) = SaysLast front bytes last.0 last.1
SaysNext front bytes (inr entry) = SaysEntry front bytes entry

-- its numbers are within their limits
abbrev pub NextFits : Front → LogLine → Type 0
NextFits front (inl last) = (last.0 < MAX_LINES) × StampedFits last.1
NextFits front (inr entry) = EntryFits front.form (length front.last) entry

-- the node of an entry has its entries already
abbrev pub HasNoRoomFor : Front → LogLine → Type 0
HasNoRoomFor front (inl last) = ⊥
HasNoRoomFor front (inr entry) = front.form.entries ≤ length (log_of front.logs entry.node)

-- What is wrong with the line at the front of bytes, or with their end: it is none that can stand there, whatever the
-- numbers; or a number is out of range; or the node has its entries already.
abbrev pub LogLineFault : Front → List ℕ → TextFaultKind → Type 0
LogLineFault front bytes kind = LineFault {X = LogLine} (SaysNext front bytes) (NextFits front) (HasNoRoomFor front) kind

-- what is wrong with a first line that begins with `log `
abbrev pub SizeFault : List ℕ → TextFaultKind → Type 0
SizeFault bytes kind = BeginsLog bytes × LineFault {X = ℕ × ℕ} (λ size. Says bytes (log_line size.0 size.1)) (λ size. IsSize size.0 size.1) (λ size. ⊥) kind

-- how many lines come before those of the last contents
abbrev pub first_lines : Option ℕ → ℕ
first_lines None = 0
first_lines (Some lines) = 1

-- the input begins with these lines, in format 1 if there is no first line
pub record BeginsFront (input : List ℕ) (front : Front) (rest : List ℕ) : Type 0 where
  pub good : IsFront front
  pub parts : input ≡ front_text front ++ rest
  pub first : front.form.lines ≡ None → BeginsLog input → ⊥

-- there is more, or `last` lines are missing
abbrev pub HasMore : Front → List ℕ → Type 0
HasMore front rest = (0 < length rest) ⊎ (HasAllLines front.form.lines (length front.last) → ⊥)

abbrev pub line_count : Front → ℕ
line_count front = first_lines front.form.lines + length front.last + entry_count front.logs

-- the first line of a log that has a fault, and the fault
abbrev pub IsLogFault : List ℕ → ℕ → TextFaultKind → Type 0
IsLogFault input line kind = IsFirstFault SizeFault BeginsFront HasMore line_count LogLineFault input line kind
