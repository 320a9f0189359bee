-- Where the words of the table stand: four cells of eleven words for each lane, and one own word for each node.
use Rattle.std.specs.Prelude.{ℕ, ◌+◌, ◌*◌, ◌/◌, ◌%◌, List, slice_index}
use Rattle.sci_core.specs.Core.{lane_place}
use Rattle.sci_lanes.specs.declared.cell.{CellId.{CellId}, TheConstants.{CELL_WORDS}}
use Rattle.sci_words.specs.declared.limits.TheConstants.{LANE_CELLS}

-- ---- lanes, by their number among those of all pairs of nodes

abbrev pub lane_count : ℕ → ℕ
lane_count nodes = 2 * (nodes * nodes)

abbrev pub sender_of : ℕ → ℕ → ℕ
sender_of nodes lane = lane / nodes % nodes

abbrev pub receiver_of : ℕ → ℕ → ℕ
receiver_of nodes lane = lane % nodes

-- the lane of a cell
abbrev pub lane_number : ℕ → CellId → ℕ
lane_number nodes cell = lane_place nodes cell.kind cell.sender cell.receiver

-- ---- words

-- where the cell begins that is used after this many packets
unfoldable pub cell_place : ℕ → ℕ → ℕ
cell_place lane turn = (lane * LANE_CELLS + turn % LANE_CELLS) * CELL_WORDS

-- a word of that cell
abbrev pub word_at : List ℕ → ℕ → ℕ → ℕ → ℕ
word_at words lane turn index = slice_index words (cell_place lane turn + index)

abbrev pub own_place : ℕ → ℕ → ℕ
own_place nodes n = lane_count nodes * (LANE_CELLS * CELL_WORDS) + n

abbrev pub word_count : ℕ → ℕ
word_count nodes = lane_count nodes * (LANE_CELLS * CELL_WORDS) + nodes
