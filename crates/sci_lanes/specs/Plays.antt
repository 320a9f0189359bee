-- What each kind of step on a word shows its seat, which has one part. A word's place tells its lane, its cell and its
-- number in the cell.
use Rattle.std.specs.Prelude.{◌*◌, ◌≡◌, ◌≢◌, ℕ, ◌/◌, ◌%◌, true, []}
use Rattle.atomic_table.specs.Table.{Me, Step}
use Rattle.sci_words.specs.declared.{event.Event.{Event}, limits.TheConstants.{LANE_CELLS}}
use Rattle.sci_core.specs.{Core.{lane_at}, Node.{NodeOf}}
use Rattle.sci_lanes.specs.declared.{view.{Part.{Part}, View.{View}}, cell.TheConstants.{CELL_WORDS}}
use Rattle.sci_lanes.specs.Knowing.{is_receiving, is_sending, looked, filled, read, published, freed, with_node_known}
use Rattle.sci_lanes.specs.{Shown.{IsSeen, informed}, Telling.{part_of, state_of, Tells, IsFull, IsMade, IsTaken}}

abbrev pub lane_in : ℕ → ℕ
lane_in place = place / (LANE_CELLS * CELL_WORDS)

abbrev pub number_in : ℕ → ℕ
number_in place = place / CELL_WORDS % LANE_CELLS

abbrev pub index_in : ℕ → ℕ
index_in place = place % CELL_WORDS

-- a look; a sender that finds its next cell full has four packets in the lane
pub record LooksAt (lane number word : ℕ) (part : Part) (seat : Me (Unit {0}) View) : Type 0 where
  pub tells : Tells (IsSeen part) part (looked lane number word part) seat
  pub full : is_sending part lane number ≡ true → word ≢ 0 → IsFull (informed tells.schedule part) lane
  pub empty : is_receiving part lane number ≡ true → word ≡ 0 → lane_at (state_of (informed tells.schedule part)) lane ≡ []

abbrev pub Looks : Step (Unit {0}) → Me (Unit {0}) View → ℕ → Me (Unit {0}) View → Type 0
Looks s before word after = LooksAt (lane_in s.word) (number_in s.word) word (part_of before.0) after

abbrev pub Fills : Step (Unit {0}) → Me (Unit {0}) View → ℕ → Me (Unit {0}) View → Type 0
Fills s before word after = Tells (IsSeen (part_of before.0)) (part_of before.0) (filled (lane_in s.word) (index_in s.word) s.first (part_of before.0)) after

abbrev pub Reads : Step (Unit {0}) → Me (Unit {0}) View → ℕ → Me (Unit {0}) View → Type 0
Reads s before word after = Tells (IsSeen (part_of before.0)) (part_of before.0) (read (lane_in s.word) (index_in s.word) word (part_of before.0)) after

abbrev pub Publishes : Event → NodeOf → Step (Unit {0}) → Me (Unit {0}) View → ℕ → Me (Unit {0}) View → Type 0
Publishes event next s before word after = Tells (IsMade (part_of before.0) event) (part_of before.0) (published (lane_in s.word) next (part_of before.0)) after

abbrev pub Frees : Event → NodeOf → Step (Unit {0}) → Me (Unit {0}) View → ℕ → Me (Unit {0}) View → Type 0
Frees event next s before word after =
    Tells (IsTaken (part_of before.0) (lane_in s.word) event) (part_of before.0) (freed (lane_in s.word) next (part_of before.0)) after

abbrev pub Beats : Event → NodeOf → Step (Unit {0}) → Me (Unit {0}) View → ℕ → Me (Unit {0}) View → Type 0
Beats event next s before word after = Tells (IsMade (part_of before.0) event) (part_of before.0) (with_node_known next (part_of before.0)) after
