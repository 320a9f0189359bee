-- Entries in order stay, and else stable sorts by serial and by node put them so.
use Rattle.std.proofs.Common.{IsPermutation, sym, ap, ◌∙◌, subst, rules}
use Rattle.std.proofs.lemmas.List.Sorted.{IsPermutation-refl, IsPermutation-trans, answers_always}
use Rattle.std.specs.{Global.{Vec}, List.{filter}}
use Rattle.sci_history.specs.Placed.{by_node_and_serial}
use Rattle.sci_history.proofs.PlacedSort.{sorted_by_node}
use Rattle.sci_reports.specs.{declared.numbered.Numbered.{Numbered}, EntryLines.{entries_in, entry_of}, Placed.{ties_with}}
use Rattle.sci_reports.proofs.Places.{entries_are, is_node_under, is_serial_under, node, nodes_tie, numbered_as, numbered_hold, serial, serials_tie, stays}
use Rattle.sci_reports.proofs.numbered.by_node_and_serial.Goals.{then-not-are_read_in_order+in_ok-sort_by_key+in_ok-sort_by_key-2}
use Rattle.sci_reports.proofs.numbered.by_node_and_serial.Goals.{else-not-are_read_in_order}
use Rattle.sci_reports.proofs.numbered.by_node_and_serial.Goals as goal

pub returns-clause-kept : goal.returns-clause-kept
returns-clause-kept c =
    let came = c.args.entries.now in
    let copied = c.in_ok-read.ensures.items in
    let start : IsPermutation came c.in_ok-read.read.items = subst (IsPermutation came) (sym copied) (IsPermutation-refl came) in
    elim c.if-not-are_read_in_order.branch [
      | then-not-are_read_in_order+in_ok-sort_by_key+in_ok-sort_by_key-2 w ↦
          let a = w.sort_by_key.new.self.items in
          let b = w.sort_by_key-then-not-are_read_in_order.new.self.items in
          subst (λ (read : Vec Numbered). IsPermutation came read.items) (sym w.read-is)
          (IsPermutation-trans came a b (IsPermutation-trans came c.in_ok-read.read.items a start w.in_ok-sort_by_key.ensures.permutation)
          w.in_ok-sort_by_key-2.ensures.permutation)
      | else-not-are_read_in_order w ↦ subst (λ (read : Vec Numbered). IsPermutation came read.items) (sym w.read-is) start
    ]

pub returns-clause-order : goal.returns-clause-order
returns-clause-order c nodes =
    let came = c.args.entries.now in
    let copied = c.in_ok-read.ensures.items in
    elim c.if-not-are_read_in_order.branch [
      | then-not-are_read_in_order+in_ok-sort_by_key+in_ok-sort_by_key-2 w ↦
          let serials = w.in_ok-sort_by_key.ensures in
          let by_nodes = w.in_ok-sort_by_key-2.ensures in
          let a = w.sort_by_key.new.self.items in
          let b = w.sort_by_key-then-not-are_read_in_order.new.self.items in
          ap (λ (read : Vec Numbered). entries_in read.items) w.read-is
          ∙ entries_are b
          ∙ sorted_by_node entry_of numbered_hold c.in_ok-read.read.items a b (rw (copied, sym (entries_are came)) nodes)
          (record {
            sorted = serials.sorted serial (answers_always _ _ _ (λ f a r g called. search rules));
            stable = serials.stable serial (answers_always _ _ _ (λ f a r g called. search rules));
            moved = serials.permutation;
          })
          (record {
            sorted = by_nodes.sorted node (answers_always _ _ _ (λ f a r g called. search rules));
            stable = by_nodes.stable node (answers_always _ _ _ (λ f a r g called. search rules));
            moved = by_nodes.permutation;
          })
          ∙ ap by_node_and_serial (sym (entries_are c.in_ok-read.read.items) ∙ ap entries_in copied)
      | else-not-are_read_in_order w ↦
          ap (λ (read : Vec Numbered). entries_in read.items) w.read-is
          ∙ ap entries_in copied
          ∙ sym (c.are_read_in_order.ensures nodes w.if-not-are_read_in_order.false)
    ]

pub returns-clause-ties : goal.returns-clause-ties
returns-clause-ties c =
    let came = c.args.entries.now in
    let copied = c.in_ok-read.ensures.items in
    elim c.if-not-are_read_in_order.branch [
      | then-not-are_read_in_order+in_ok-sort_by_key+in_ok-sort_by_key-2 w ↦ λ tied.
          let one = numbered_as tied in
          let a = w.sort_by_key.new.self.items in
          let b = w.sort_by_key-then-not-are_read_in_order.new.self.items in
          ap (λ (read : Vec Numbered). filter (λ it. ties_with tied (entry_of it)) read.items) w.read-is
          ∙ stays tied is_node_under a b (nodes_tie one)
          (w.in_ok-sort_by_key-2.ensures.stable node (answers_always _ _ _ (λ f a r g called. search rules)))
          ∙ stays tied is_serial_under c.in_ok-read.read.items a (serials_tie one)
          (w.in_ok-sort_by_key.ensures.stable serial (answers_always _ _ _ (λ f a r g called. search rules)))
          ∙ ap (filter (λ it. ties_with tied (entry_of it))) copied
      | else-not-are_read_in_order w ↦ λ tied.
          ap (λ (read : Vec Numbered). filter (λ it. ties_with tied (entry_of it)) read.items) w.read-is
          ∙ ap (filter (λ it. ties_with tied (entry_of it))) copied
    ]
