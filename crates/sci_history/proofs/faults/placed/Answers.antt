-- A stable sort by version, with its maker first, puts entries by node and serial in placed order.
use Rattle.std.proofs.{Common.{ℕ, suc, Bool, not, arith, rules}, lemmas.List.Sorted.{answers_always}}
use denote.Ref.{Bor}
use Rattle.sci_history.specs.{declared.entry.Entry.{Entry}, Placed.{is_making, maker_count}, Audit.{entries_of}}
use Rattle.sci_history.proofs.PlacedSort.{refs_hold, sorted_placed}
use Rattle.sci_history.proofs.faults.placed.Goals as goal

pub returns : goal.returns
returns c =
    let places = c.in_ok-sort_by_cached_key.ensures in
    let place : Bor Entry → ℕ × Bool = λ ref. (ref.now.version, not (is_making ref.now)) in
    let entries = entries_of c.args.entries.now in
    sorted_placed (λ ref. ref.now) refs_hold (suc (maker_count entries)) entries c.in_ok-placed.placed.items c.sort_by_cached_key.new.self.items
    (λ k d lt. omega (arith, c.requires.versions k d lt)) c.in_ok-placed.ensures
    (record {
      sorted = places.sorted place (answers_always _ _ _ (λ f a r g called. search rules));
      stable = places.stable place (answers_always _ _ _ (λ f a r g called. search rules));
      moved = places.permutation;
    })
