-- Entries in order stay, and else stable sorts by serial and by node put them so.
use Rattle.std.proofs.{Common.{List, sym, ap, ◌∙◌, rules}, lemmas.List.Sorted.{answers_always}}
use denote.Ref.{Bor}
use Rattle.std.specs.Global.{Vec}
use Rattle.sci_history.specs.{declared.entry.Entry.{Entry}, Placed.{by_node_and_serial}, Audit.{entries_of}}
use Rattle.sci_history.proofs.PlacedSort.{refs_hold, sorted_by_node}
use Rattle.sci_history.proofs.faults.by_node_and_serial.Goals.{then-not-are_read_in_order+in_ok-sort_by_key+in_ok-sort_by_key-2}
use Rattle.sci_history.proofs.faults.by_node_and_serial.Goals.{else-not-are_read_in_order}
use Rattle.sci_history.proofs.faults.by_node_and_serial.Goals as goal

pub returns : goal.returns
returns c =
    let serial = λ (ref : Bor Entry). ref.now.serial in
    let node = λ (ref : Bor Entry). ref.now.node in
    let copied = c.in_ok-read.ensures.items in
    elim c.if-not-are_read_in_order.branch [
      | then-not-are_read_in_order+in_ok-sort_by_key+in_ok-sort_by_key-2 w ↦
          let serials = w.in_ok-sort_by_key.ensures in
          let nodes = w.in_ok-sort_by_key-2.ensures in
          ap (λ (read : Vec (Bor Entry)). entries_of read.items) w.read-is
          ∙ sorted_by_node (λ ref. ref.now) refs_hold c.in_ok-read.read.items w.sort_by_key.new.self.items
          w.sort_by_key-then-not-are_read_in_order.new.self.items (rw copied c.requires)
          (record {
            sorted = serials.sorted serial (answers_always _ _ _ (λ f a r g called. search rules));
            stable = serials.stable serial (answers_always _ _ _ (λ f a r g called. search rules));
            moved = serials.permutation;
          })
          (record {
            sorted = nodes.sorted node (answers_always _ _ _ (λ f a r g called. search rules));
            stable = nodes.stable node (answers_always _ _ _ (λ f a r g called. search rules));
            moved = nodes.permutation;
          })
          ∙ ap (λ (refs : List (Bor Entry)). by_node_and_serial (entries_of refs)) copied
      | else-not-are_read_in_order w ↦
          ap (λ (read : Vec (Bor Entry)). entries_of read.items) w.read-is
          ∙ ap entries_of copied
          ∙ sym (c.are_read_in_order.ensures w.if-not-are_read_in_order.false)
    ]
