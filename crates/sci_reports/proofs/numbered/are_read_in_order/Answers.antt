-- A look at each entry and the next finds entries by node and serial.
use Rattle.std.proofs.{Common.{◌≡◌, ℕ, subst, rules}, lemmas.List.Sorted.{answers_always}}
use Rattle.std.specs.List.{IsAllAdjacentAnswer}
use Rattle.sci_history.proofs.ReadOrder.{is_read_before, read_in_order}
use Rattle.sci_reports.specs.{declared.numbered.Numbered.{Numbered}, EntryLines.{entry_of, entry_refs}}
use Rattle.sci_reports.proofs.Places.{looked_at}
use Rattle.sci_reports.proofs.numbered.are_read_in_order.Goals as goal

pub returns : goal.returns
returns c = λ nodes read.
    let list = c.args.entries.now in
    let key : Numbered → ℕ × ℕ = λ it. ((entry_of it).node, (entry_of it).serial) in
    let answer = c.is_sorted_by_key.ensures.cases key (answers_always _ _ _ (λ f a r g called. search rules)) in
    read_in_order (entry_refs list) nodes
    (looked_at list (subst (IsAllAdjacentAnswer (λ x y b. b ≡ is_read_before (entry_of x) (entry_of y)) list) read answer))
