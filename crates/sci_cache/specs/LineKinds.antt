-- The sets that a cache keeps of its lines by kinds of state.
use Rattle.std.specs.Prelude.{ℕ, Bool, ◌||◌}
use Rattle.sci_cache.specs.{declared.line_kind.LineKind.{LineKind}, LineSet.{is_in}}
use Rattle.sci_cache.specs.declared.line_kind.LineKind.TheVariants as kind

pub record KindSets : Type 0 where
  pub has_sharers : ℕ
  pub has_fresh_sharers : ℕ
  pub joins : ℕ
  pub must_send : ℕ
  pub gives_way : ℕ
  pub could_give_way : ℕ

-- whether a line is of a kind by these sets; a line that moves joins or gives way
abbrev pub has_line : LineKind → KindSets → ℕ → Bool
has_line kind.HasSharers sets line = is_in sets.has_sharers line
has_line kind.HasFreshSharers sets line = is_in sets.has_fresh_sharers line
has_line kind.Joins sets line = is_in sets.joins line
has_line kind.MustSend sets line = is_in sets.must_send line
has_line kind.GivesWay sets line = is_in sets.gives_way line
has_line kind.CouldGiveWay sets line = is_in sets.could_give_way line
has_line kind.Moves sets line = is_in sets.joins line || is_in sets.gives_way line
