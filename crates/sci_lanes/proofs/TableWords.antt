-- Places of words in the table, and what a store leaves.
use Rattle.std.proofs.Common.{◌≡◌, ◌≢◌, ℕ, ◌+◌, ◌*◌, ◌%◌, ◌<◌, List, [], ◌∷◌, ◌++◌, length, get_or, set, ap, arith}
use Rattle.std.proofs.lemmas.List.{get_or-set_other, get_or-set_same, length_push, get_or_append_left, get_or_push}
use Rattle.std.proofs.lemmas.Bool.{cases_lt}
use Rattle.sci_lanes.specs.Cells.{cell_place, lane_count, own_place, word_count}

-- ---- places

pub other_lane : (lane other turn later index j : ℕ) → other ≢ lane → index < 11 → j < 11 → cell_place other later + j ≢ cell_place lane turn + index
unfolding cell_place
other_lane lane other turn later index j apart few less e = apart (omega arith)

pub other_cell : (lane turn later index j : ℕ) → later % 4 ≢ turn % 4 → index < 11 → j < 11 → cell_place lane later + j ≢ cell_place lane turn + index
unfolding cell_place
other_cell lane turn later index j apart few less e = apart (omega arith)

pub other_index : (lane turn later index j : ℕ) → j ≢ index → index < 11 → j < 11 → cell_place lane later + j ≢ cell_place lane turn + index
unfolding cell_place
other_index lane turn later index j apart few less e = apart (omega arith)

-- the cell that is used after four packets more is the same
pub same_cell : (lane turn later : ℕ) → turn % 4 ≡ later % 4 → cell_place lane turn ≡ cell_place lane later
unfolding cell_place
same_cell lane turn later e = ap (λ (t : ℕ). (lane * 4 + t) * 11) e

pub place_within : (nodes lane turn index : ℕ) → lane < lane_count nodes → index < 11 → cell_place lane turn + index < word_count nodes
unfolding cell_place
place_within nodes lane turn index lt few = omega arith

pub own_apart : (nodes n lane turn j : ℕ) → lane < lane_count nodes → j < 11 → cell_place lane turn + j ≢ own_place nodes n
unfolding cell_place
own_apart nodes n lane turn j lt few e = omega arith

-- ---- stores

pub stored_else : (words : List ℕ) (place other value : ℕ) → other ≢ place → get_or (set words place value) other 0 ≡ get_or words other 0
stored_else words place other value apart = get_or-set_other words place other value 0 apart

pub stored_here : (words : List ℕ) (place value : ℕ) → place < length words → get_or (set words place value) place 0 ≡ value
stored_here words place value lt = get_or-set_same words place value 0 lt

-- ---- a list with one element more

-- what holds of the words of a list, and of one more
pub one_more : (f : ℕ → ℕ) (xs : List ℕ) (x : ℕ) → f (length xs) ≡ x → ((j : ℕ) → j < length xs → f j ≡ get_or xs j 0) → (j : ℕ)
    → j < length (xs ++ x ∷ []) → f j ≡ get_or (xs ++ x ∷ []) j 0
one_more f xs x here same j lt = grind (arith, cases_lt, get_or_append_left, length_push, get_or_push)
