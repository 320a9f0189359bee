-- A look at each entry and the next finds entries by node and serial.
use Rattle.std.proofs.{Common.{◌≡◌, ℕ, subst, rules}, lemmas.List.Sorted.{answers_always}}
use Rattle.std.specs.List.{IsAllAdjacentAnswer}
use denote.Ref.{Bor}
use Rattle.sci_history.specs.declared.entry.Entry.{Entry}
use Rattle.sci_history.proofs.ReadOrder.{is_read_before, read_in_order}
use Rattle.sci_history.proofs.faults.are_read_in_order.Goals as goal

pub returns : goal.returns
returns c = λ read.
    let key : Bor Entry → ℕ × ℕ = λ ref. (ref.now.node, ref.now.serial) in
    let answer = c.is_sorted_by_key.ensures.cases key (answers_always _ _ _ (λ f a r g called. search rules)) in
    read_in_order c.args.entries.now c.requires (subst (IsAllAdjacentAnswer (λ x y b. b ≡ is_read_before x.now y.now) c.args.entries.now) read answer)
