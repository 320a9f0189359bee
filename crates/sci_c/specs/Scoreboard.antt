-- What the calls for scoreboards answer.
use Rattle.std.specs.Prelude.{◌≡◌, ◌<◌, ◌⊎◌, ℕ, Some, length}
use Rattle.sci_words.specs.declared.limits.TheConstants.{WORDS_PER_LINE}
use Rattle.sci_history.specs.declared.{entry.Entry.{Entry}, verdict.FaultKind.{FaultKind}}
use Rattle.sci_windows.specs.declared.score.Score.TheVariants.{NotNext, Taken}
use Rattle.sci_windows.specs.Scoreboard.{Board, Breaks, IsScore, line_of, with_begun, with_told}
use Rattle.sci_c_values.specs.declared.{entry.SciEntry.{SciEntry}, stamped.SciStamped.{SciStamped}, verdict.SciVerdict.{SciVerdict}}
use Rattle.sci_c_values.specs.{Entry.{SaysEntry}, Stamped.{stamped_of, stamped_struct}, Verdict.{fault_struct, lawful_struct}}

-- the node, the line and the word that a struct says are those of the board
pub record FitsBoard (board : Board) (c : SciEntry) : Type 0 where
  pub node : c.node < board.nodes
  pub line : c.op.line < length board.lines
  pub word : c.op.word < WORDS_PER_LINE

-- the line begins with the contents that the struct says
pub record IsBegun (line : ℕ) (c : SciStamped) (before after : Board) : Type 0 where
  pub here : line < length before.lines
  pub begun : after ≡ with_begun before line (stamped_of c)

-- the contents of a line
pub record HasContents (line : ℕ) (c : SciStamped) (board : Board) : Type 0 where
  pub here : line < length board.lines
  pub contents : c ≡ stamped_struct (line_of board line).contents

-- an entry is taken
pub record IsTaken (entry : Entry) (c : SciVerdict) (before after : Board) : Type 0 where
  pub goes_on : IsScore (line_of before entry.op.line) entry Taken
  pub struct_is : c ≡ lawful_struct
  pub told : after ≡ with_told before entry

-- an entry is at fault, and the board stays
pub record IsAlarm (entry : Entry) (c : SciVerdict) (before after : Board) : Type 0 where
  pub kind : FaultKind
  pub breaks : Breaks (line_of before entry.op.line) entry kind
  pub struct_is : c ≡ fault_struct entry.op.line kind (Some (entry.node, entry.serial))
  pub same : after ≡ before

-- one of both
abbrev pub IsToldOf : Entry → SciVerdict → Board → Board → Type 0
IsToldOf entry c before after = IsTaken entry c before after ⊎ IsAlarm entry c before after

-- the same of the entry that a struct says
pub record IsTold (struct : SciEntry) (c : SciVerdict) (before after : Board) : Type 0 where
  pub entry : Entry
  pub says : SaysEntry struct entry
  pub fits : FitsBoard before struct
  pub told : IsToldOf entry c before after

-- the line doesn't come to the version of that entry by it, which breaks no rule by itself
pub record IsNotNext (struct : SciEntry) (board : Board) : Type 0 where
  pub entry : Entry
  pub says : SaysEntry struct entry
  pub fits : FitsBoard board struct
  pub not_next : IsScore (line_of board entry.op.line) entry NotNext
