-- What a cache keeps beside its lines, so that no call has to look at all of them.
use Rattle.std.specs.Prelude.{◌≡◌, ◌≤◌, ℕ, List, length, slice_index_or}
use Rattle.sci_words.specs.declared.limits.TheConstants.{MAX_LINES}
use Rattle.sci_cache.specs.{declared.line_kind.LineKind.{LineKind}, Line.{LineState, untouched}, Cache.{slots_taken}}
use Rattle.sci_cache.specs.{Kinds.{is_of}, LineKinds.{KindSets, has_line}}

-- how many lines have an entry, and for each kind of state the set of the lines of that kind
pub record IsIndex (taken : ℕ) (kinds : KindSets) (lines : List LineState) : Type 0 where
  pub taken_is : taken ≡ slots_taken lines
  pub few : length lines ≤ MAX_LINES
  pub each : (kind : LineKind) (line : ℕ) → has_line kind kinds line ≡ is_of kind (slice_index_or lines line untouched).state
