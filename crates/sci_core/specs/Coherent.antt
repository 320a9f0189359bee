-- What holds of every state of a machine: events lead there, whatever packet comes next, and one memory of one thread explains
-- every line.
use Rattle.std.specs.Prelude.{◌≡◌, ℕ, ◌<◌, filter}
use Rattle.sci_words.specs.Stamped.{zero_stamped}
use Rattle.sci_history.specs.{Audit.{AreWithin}, History.{IsHistory}, Lawful.{Lawful}, Placed.{is_of_node, is_on_line}}
use Rattle.sci_history.specs.Sequential.{IsSequentialOrder}
use Rattle.sci_core.specs.{Core.{Core, node_at, opening}, Network.{entries_by, marks_by}, Reached.{IsReached}, Outcome.{logs_of}}
use Rattle.sci_core.specs.{Sharing.{last_at, last_of}, Tidy.{IsTidy, AreAccepted}, Shape.{HasShapes}}
use Rattle.sci_core.specs.Alternates.{Idle, IsAlternating}

-- the entries of the moves on a line are, in their order, the line's history from zero words to its last contents
abbrev pub IsExplained : (core : Core) → IsReached core → ℕ → Type 0
IsExplained core reached line =
    IsHistory (filter (is_on_line line) (entries_by (opening core.size) reached.moves)) zero_stamped (last_at core line)

pub record IsCoherent (core : Core) : Type 0 where
  -- events lead here, over a network that keeps no order
  pub reached : IsReached core
  -- who waits has one packet under way, and nobody else has one; no answer comes that isn't awaited
  pub tidy : IsTidy core
  pub accepted : AreAccepted core
  -- no transaction is answered twice
  pub alternates : (n line : ℕ) → n < core.size.nodes → line < core.size.lines → IsAlternating Idle (marks_by (opening core.size) reached.moves n line)
  -- each line's members are one list, with one authority
  pub shapes : HasShapes core
  -- each operation took effect at its own Perform
  pub explained : (line : ℕ) → line < core.size.lines → IsExplained core reached line
  -- each node's log is what the moves make there
  pub logged : (node : ℕ) → (node_at core node).log ≡ filter (is_of_node node) (entries_by (opening core.size) reached.moves)
  -- and the logs alone show that it did: they are of the machine's lines, and lawful
  pub within : AreWithin core.size.lines (logs_of core)
  pub lawful : Lawful (logs_of core) (last_of core)
  -- all lines together: the entries of the moves are one order that makes the logs sequentially consistent
  pub sequential : IsSequentialOrder (logs_of core) (last_of core) (entries_by (opening core.size) reached.moves)
