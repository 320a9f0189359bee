-- A stable sort by version with its maker first puts entries by node and serial in placed order, and leaves ties as they stand.
use Rattle.std.proofs.Common.{sym, ◌∙◌, rules}
use Rattle.std.proofs.lemmas.List.Sorted.{IsPermutation-trans, answers_always}
use Rattle.sci_history.proofs.PlacedSort.{is_placed_under, sorted_placed}
use Rattle.sci_reports.specs.EntryLines.{entries_in, entry_of}
use Rattle.sci_reports.proofs.Places.{entries_are, numbered_as, numbered_hold, place, places_tie, stays}
use Rattle.sci_reports.proofs.numbered.placed.Goals as goal

pub returns-clause-kept : goal.returns-clause-kept
returns-clause-kept c =
    IsPermutation-trans c.args.entries.now c.in_ok-placed.placed.items c.sort_by_key.new.self.items c.in_ok-placed.ensures.kept
    c.in_ok-sort_by_key.ensures.permutation

pub returns-clause-order : goal.returns-clause-order
returns-clause-order c bound nodes versions =
    let came = c.args.entries.now in
    let places = c.in_ok-sort_by_key.ensures in
    let by_node = c.in_ok-placed.placed.items in
    let sorted = c.sort_by_key.new.self.items in
    entries_are sorted
    ∙ sorted_placed entry_of numbered_hold bound (entries_in came) by_node sorted versions (sym (entries_are by_node) ∙ c.in_ok-placed.ensures.order nodes)
    (record {
      sorted = places.sorted place (answers_always _ _ _ (λ f a r g called. search rules));
      stable = places.stable place (answers_always _ _ _ (λ f a r g called. search rules));
      moved = places.permutation;
    })

pub returns-clause-ties : goal.returns-clause-ties
returns-clause-ties c = λ tied.
    stays tied (is_placed_under entry_of numbered_hold) c.in_ok-placed.placed.items c.sort_by_key.new.self.items (places_tie (numbered_as tied))
    (c.in_ok-sort_by_key.ensures.stable place (answers_always _ _ _ (λ f a r g called. search rules)))
    ∙ c.in_ok-placed.ensures.ties tied
