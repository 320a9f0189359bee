-- What a node that reads a line is answered in a machine that works by turns. A policy reads a line for what is pending there, and a
-- maker's by mread alone; and no policy refuses a read.
use Rattle.std.specs.Prelude.{◌≡◌, ℕ, true, IfSome}
use Rattle.std.specs.List.{AllByRecursion}
use Rattle.sci_cache.specs.{State.{Asking}, Cache.{Letter}}
use Rattle.sci_core.specs.{Core.{Core, lane_at, node_at}, Sharing.{asker_of}}
use Rattle.sci_policy.specs.Lines.{state_on}
use Rattle.sci_fair.specs.Rank.{fits_read, work_on}

-- the packet fits what is pending on its line, if the node that it answers, or that sent it, awaits a read of the line
abbrev pub FitsRead : Core → Letter → Type 0
FitsRead core letter = state_on (node_at core (asker_of letter)) letter.line ≡ Asking
    → fits_read (work_on (node_at core (asker_of letter)) letter.line) letter.body ≡ true

-- all packets under way do
pub record ReadsFit (core : Core) : Type 0 where
  pub waiting : (n : ℕ) → IfSome (node_at core n).waiting (FitsRead core)
  pub lanes : (place : ℕ) → AllByRecursion (FitsRead core) (lane_at core place)
