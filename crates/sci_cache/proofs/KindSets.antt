-- The sets of a node's lines by kinds of state.
use Rattle.std.proofs.Common.{◌≡◌, ℕ, Bool, ◌||◌, sym, ap, ◌∙◌}
use Rattle.sci_cache.specs.{declared.line_kind.LineKind.{LineKind}, LineKinds.{KindSets, has_line}, LineSet.{is_in}}
use Rattle.sci_cache.specs.declared.line_kind.LineKind.TheVariants as kind

-- what is said of a line for the six sets that are kept is so for each kind
pub for_each_kind : (sets : KindSets) (line : ℕ) (says : LineKind → Bool)
    → is_in sets.has_sharers line ≡ says kind.HasSharers → is_in sets.has_fresh_sharers line ≡ says kind.HasFreshSharers
    → is_in sets.joins line ≡ says kind.Joins → is_in sets.must_send line ≡ says kind.MustSend
    → is_in sets.gives_way line ≡ says kind.GivesWay → is_in sets.could_give_way line ≡ says kind.CouldGiveWay
    → says kind.Moves ≡ (says kind.Joins || says kind.GivesWay)
    → (of : LineKind) → has_line of sets line ≡ says of
for_each_kind sets line says sharers fresh joins send gives could moves kind.HasSharers = sharers
for_each_kind sets line says sharers fresh joins send gives could moves kind.HasFreshSharers = fresh
for_each_kind sets line says sharers fresh joins send gives could moves kind.Joins = joins
for_each_kind sets line says sharers fresh joins send gives could moves kind.MustSend = send
for_each_kind sets line says sharers fresh joins send gives could moves kind.GivesWay = gives
for_each_kind sets line says sharers fresh joins send gives could moves kind.CouldGiveWay = could
for_each_kind sets line says sharers fresh joins send gives could moves kind.Moves =
    ap (λ (b : Bool). b || is_in sets.gives_way line) joins ∙ (ap (λ (b : Bool). says kind.Joins || b) gives ∙ sym moves)
