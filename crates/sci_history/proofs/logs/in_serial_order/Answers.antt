-- A stable sort by serial puts a copy in serial order.
use Rattle.std.proofs.{Common.{ap, ◌∙◌, rules}, lemmas.List.Sorted.{answers_always}}
use Rattle.sci_history.specs.{declared.entry.Entry.{Entry}, Placed.{in_serial_order}}
use Rattle.sci_history.proofs.PlacedSort.{sorted_by_serial}
use Rattle.sci_history.proofs.logs.in_serial_order.Goals as goal

pub returns : goal.returns
returns c =
    let serial = λ (entry : Entry). entry.serial in
    let sorts = c.in_ok-sort_by_key.ensures in
    sorted_by_serial c.in_ok-sorted.sorted.items c.sort_by_key.new.self.items
    (record {
      sorted = sorts.sorted serial (answers_always _ _ _ (λ f a r g called. search rules));
      stable = sorts.stable serial (answers_always _ _ _ (λ f a r g called. search rules));
      moved = sorts.permutation;
    })
    ∙ ap in_serial_order c.in_ok-sorted.ensures.items
