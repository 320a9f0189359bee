-- How often each outcome was seen.
use Rattle.std.specs.Prelude.{◌≡◌, ◌≤◌, ◌<◌, ℕ, ◌+◌, ◌*◌, ◌==◌, ◌&&◌, ◌||◌, not, true, Bool, filter, List, length, map, sum, All, count_by}
use Rattle.std.specs.Prelude.{Option, Some, None, if◌then◌else◌}
use Rattle.std.specs.{List.{list_any, position_or_len, sum_by, Sorted.{IsStrictlySortedBy}}, BTreeMap.{btree_map_len, get, values}}
use Rattle.std.specs.{Ordering.{is_eq, nat_cmp, ordering_then}, declared.cmp.Ordering.{Ordering}}
use Rattle.sci_allowed.specs.{Outcome.{outcome_cmp}, declared.{outcome.Outcome.{Outcome}, rows.AllowedRow.{AllowedRow}}}
use Rattle.sci_outcomes.specs.declared.{histogram.{Histogram.{Histogram}, Row.{Row}, Tally.{Tally}}, outcome.Sighting.{Sighting}}

-- whether a run that was seen had this outcome
abbrev pub has_outcome : Outcome → Sighting → Bool
has_outcome outcome sighting = is_eq (outcome_cmp outcome sighting.outcome)

abbrev pub has_outcome_in_order : Outcome → Sighting → Bool
has_outcome_in_order outcome sighting = has_outcome outcome sighting && sighting.in_order

-- ---- rows

-- A row of what was seen: how many runs had its outcome, of which there is one at least, the number of the first of them, and whether one of them was in order.
pub record IsRowOf (seen : List Sighting) (row : Row) : Type 0 where
  pub runs : row.runs ≡ count_by (has_outcome row.outcome) seen
  pub first : row.first ≡ position_or_len (has_outcome row.outcome) seen
  pub in_order : row.in_order ≡ list_any (has_outcome_in_order row.outcome) seen
  pub some : 1 ≤ row.runs

-- the most frequent first, and those that are as frequent by outcome
abbrev pub row_cmp : Row → Row → Ordering
row_cmp a b = ordering_then (nat_cmp b.runs a.runs) (outcome_cmp a.outcome b.outcome)

-- The rows of what was seen: each outcome that was seen has just one row, and their runs are all that were seen.
pub record AreRowsOf (seen : List Sighting) (rows : List Row) : Type 0 where
  pub each : All (IsRowOf seen) rows
  pub once : All (λ sighting. count_by (λ row. has_outcome row.outcome sighting) rows ≡ 1) seen
  pub whole : sum (map (λ row. row.runs) rows) ≡ length seen
  pub sorted : IsStrictlySortedBy row_cmp rows

-- those of the outcomes that none of the runs had
abbrev pub unseen_of : List Sighting → List AllowedRow → List AllowedRow
unseen_of seen allowed = filter (λ row. not (list_any (has_outcome row.outcome) seen)) allowed

-- Runs had outcomes with more operations in all than the most, each of them this number: these outcomes are sorted, so that each
-- differs from all others, and each was that of a run.
pub record AreCrowded (most operations : ℕ) (seen : List Sighting) : Type 0 where
  pub outcomes : List Outcome
  pub apart : IsStrictlySortedBy outcome_cmp outcomes
  pub had : All (λ outcome. list_any (has_outcome outcome) seen ≡ true) outcomes
  pub many : most < length outcomes * operations

-- ---- inside

-- how many outcomes a histogram has
abbrev pub outcomes_in : Histogram → ℕ
outcomes_in histogram = btree_map_len histogram.tallies

-- the runs of those that were seen which pass a test, if some do
abbrev pub tally_by : (Sighting → Bool) → List Sighting → Option Tally
tally_by test seen =
    if count_by test seen == 0
    then None
    else Some record { runs = count_by test seen; first = position_or_len test seen; in_order = list_any (λ sighting. test sighting && sighting.in_order) seen }

-- and those of a tally whose numbers begin at `ahead`
abbrev pub joined : Option Tally → (ahead : ℕ) → Tally → Tally
joined None ahead later = record { runs = later.runs; first = ahead + later.first; in_order = later.in_order }
joined (Some tally) ahead later = record { runs = tally.runs + later.runs; first = tally.first; in_order = tally.in_order || later.in_order }

-- and one more run, with this number
abbrev pub with_run : Option Tally → ℕ → Bool → Tally
with_run before number in_order = joined before number record { runs = 1; first = 0; in_order = in_order }

-- a histogram of what was seen
pub record HasCounted (histogram : Histogram) (seen : List Sighting) : Type 0 where
  pub many : histogram.runs ≡ length seen
  pub each : (outcome : Outcome) → get outcome_cmp histogram.tallies outcome ≡ tally_by (has_outcome outcome) seen
  pub whole : sum_by (λ tally. tally.runs) (values histogram.tallies) ≡ length seen
