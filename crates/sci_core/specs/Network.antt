-- A network that keeps no order: between two events it may bring any packet of a lane before those that were sent
-- earlier. So the next packet that a node takes from another is any one that is under way to it.
use Rattle.std.specs.Prelude.{ℕ, ◌+◌, ◌&&◌, Bool, false, List, [], ◌∷◌, ◌++◌, take, drop, Option, None, is_some, option_to_list}
use Rattle.std.specs.List.{fold}
use Rattle.sci_words.specs.declared.event.Event.{Event}
use Rattle.sci_history.specs.declared.entry.Entry.{Entry}
use Rattle.sci_core.specs.{Core.{Core, lane_at, node_at, opening, step, stepping, with_lane}, Done.{made_by}, Alternates.{Mark, marks_of}}
use Rattle.sci_core.specs.{FirstCome.{entrants, successors}, Draining.{is_asking, moves_on, one_if}, InTurn.{HasOnePending}, Size.{Size}}

-- the packet at place k of a lane, counted from the oldest, comes before the others; if there is none, the lane stays
abbrev pub brought : {X : Type 0} → ℕ → List X → List X
brought k lane = take 1 (drop k lane) ++ (take k lane ++ drop 1 (drop k lane))

-- the state after the network has done so in the lane at this place among all lanes
abbrev pub overtaken : Core → ℕ → ℕ → Core
overtaken core place k = with_lane core place (brought k (lane_at core place))

-- what happens in a machine with such a network: an event, or packet k of a lane overtakes those before it
pub data Move : Type 0 where
  Happens : (event : Event) → Move
  Overtakes : (place k : ℕ) → Move

-- the state after a move; an event that is not enabled changes nothing
abbrev pub moved : Core → Move → Core
moved core (Happens e) = step core e
moved core (Overtakes place k) = overtaken core place k

-- the state where the moves, one after another, lead
abbrev pub moved_from : Core → List Move → Core
moved_from core moves = fold moved core moves

-- what the moves of a list give from a state on, each in the state to which those before it lead
abbrev pub along_moves : {X : Type 0} → (Core → Move → List X) → Core → List Move → List X
along_moves f core [] = []
along_moves f core (move ∷ moves) = f core move ++ along_moves f (moved core move) moves

-- the entry that a move makes, if any, and those of a list of moves
abbrev pub made_in : Core → Move → Option Entry
made_in core (Happens e) = made_by core e
made_in core (Overtakes place k) = None

abbrev pub entries_by : Core → List Move → List Entry
entries_by core moves = along_moves (λ at move. option_to_list (made_in at move)) core moves

-- what a move does for the transactions of a node about a line, and those of a list
abbrev pub marks_in : Core → Move → ℕ → ℕ → List Mark
marks_in core (Happens e) n line = marks_of core e n line
marks_in core (Overtakes place k) n line = []

abbrev pub marks_by : Core → List Move → ℕ → ℕ → List Mark
marks_by core moves n line = along_moves (λ at move. marks_in at move n line) core moves

-- the node that the line's home lets in by a move, and those of a list
abbrev pub entrants_in : Core → Move → ℕ → List ℕ
entrants_in core (Happens e) line = entrants core e line
entrants_in core (Overtakes place k) line = []

abbrev pub entered_by : Core → List Move → ℕ → List ℕ
entered_by core moves line = along_moves (λ at move. entrants_in at move line) core moves

-- the nodes that become the authority, in that order
abbrev pub succeeded_by : Core → List Move → ℕ → List ℕ
succeeded_by core moves line = along_moves (λ at move. successors at (moved at move) line) core moves

-- whether a move is an Ask
abbrev pub asks_in : Move → Bool
asks_in (Happens e) = is_asking e
asks_in (Overtakes place k) = false

-- how many moves of a list bring a packet on: the events that are enabled when they come
abbrev pub brings_in : Core → Move → ℕ
brings_in core (Happens e) = one_if (moves_on e && is_some (stepping core e))
brings_in core (Overtakes place k) = 0

abbrev pub brought_on : Core → List Move → ℕ
brought_on core [] = 0
brought_on core (move ∷ moves) = brings_in core move + brought_on (moved core move) moves

-- a node has at most one operation pending, all along the moves
abbrev pub MovesInTurn : Size → List Move → ℕ → Type 0
MovesInTurn size moves n = (place : ℕ) → HasOnePending (node_at (moved_from (opening size) (take place moves)) n)
