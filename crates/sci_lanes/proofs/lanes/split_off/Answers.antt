use Rattle.std.proofs.Common.{◌≡◌, ◌*◌, sym, ap, subst, ◌∙◌, arith}
use Rattle.std.specs.{Arc.{arc_value}, Prelude.{IfOk, replicate}}
use Rattle.sci_core.specs.Size.{size_of}
use Rattle.sci_lanes.specs.{declared.view.Part.{Part}, Cells.{lane_count}, Shown.{opening_part}}
use Rattle.sci_lanes.specs.{Telling.{part_of}, Ends.{EndOf, FitsInside, IsSeated}}
use Rattle.sci_lanes.proofs.Opening.{machine_size, split_asks, knows_after, knows_new, inside_opened, seated_opened}
use Rattle.sci_lanes.proofs.lanes.split_off.Goals as goal

pub split_seat-part-requires : goal.split_seat-part-requires
split_seat-part-requires c = grind (arith, split_asks)

pub returns-in_err-try_clone-clause-knows : goal.returns-in_err-try_clone-clause-knows
returns-in_err-try_clone-clause-knows c =
    knows_after (size_of c.args.extent c.args.limit) c.args.node c.args.seat.now.me _ c.requires.node c.requires.knows c.split_seat-part.ensures.2

pub returns-in_err-new-clause-knows : goal.returns-in_err-new-clause-knows
returns-in_err-new-clause-knows c =
    knows_after (size_of c.args.extent c.args.limit) c.args.node c.args.seat.now.me _ c.requires.node c.requires.knows c.split_seat-part.ensures.2

pub returns-clause-knows : goal.returns-clause-knows
returns-clause-knows c = knows_after (size_of c.args.extent c.args.limit) c.args.node c.args.seat.now.me _ c.requires.node c.requires.knows
    c.split_seat-part.ensures.2

pub new-seat-requires : goal.new-seat-requires
new-seat-requires c =
    let size = size_of c.args.extent c.args.limit in
    let s = c.args.seat.now in
    let part = c.split_seat-part.result in
    let knows = knows_new size c.args.node s.me part.me c.requires.node c.requires.knows c.split_seat-part.ensures.4 in
    let same = c.split_seat-part.ensures.3 in
    subst (λ t. IsSeated t.shared.key t.shared.table_id part.table_id part.me) (sym c.in_ok-try_clone.ensures)
    (seated_opened c.args.extent c.args.limit c.args.node (arc_value c.args.table.now).shared.key (arc_value c.args.table.now).shared.table_id part.table_id
    part.me (machine_size c.args.extent c.args.limit c.requires.some c.requires.few) c.requires.node c.requires.key
    (same ∙ c.requires.same) (ap (λ t. t.words) same ∙ c.requires.long) knows)

pub new-requires-2 : goal.new-requires-2
new-requires-2 c =
    let size = size_of c.args.extent c.args.limit in
    let s = c.args.seat.now in
    let knows = knows_new size c.args.node s.me c.split_seat-part.result.me c.requires.node c.requires.knows c.split_seat-part.ensures.4 in
    let part : c.new-seat.result.part ≡ opening_part size c.args.node = c.new-seat.ensures.part ∙ ap (λ k. part_of k.0) knows in
    subst (λ (p : Part). FitsInside p c.in_ok-new.field-0 c.in_ok-new.field-0.cache.me c.args.extent.nodes (replicate (lane_count c.args.extent.nodes) 0)
    (replicate (2 * c.args.extent.nodes) 0)) (sym part)
    (inside_opened size c.args.node c.in_ok-new.field-0 (machine_size c.args.extent c.args.limit c.requires.some c.requires.few) c.requires.node
    c.in_ok-new.ensures)

pub returns-clause-end : goal.returns-clause-end
returns-clause-end c =
    let size = size_of c.args.extent c.args.limit in
    let s = c.args.seat.now in
    let knows = knows_new size c.args.node s.me c.split_seat-part.result.me c.requires.node c.requires.knows c.split_seat-part.ensures.4 in
    let part : c.new-seat.result.part ≡ opening_part size c.args.node = c.new-seat.ensures.part ∙ ap (λ k. part_of k.0) knows in
    let table : c.new-seat.result.table ≡ s.table_id = c.new-seat.ensures.table ∙ c.split_seat-part.ensures.3 in
    subst (λ (e : EndOf). IfOk c.new-2.result (λ end. end ≡ e))
    (ends_are c.new-seat.result (record { table = s.table_id; part = opening_part size c.args.node }) table part) c.new-2.ensures
  where
    ends_are : (a b : EndOf) → a.table ≡ b.table → a.part ≡ b.part → a ≡ b
    ends_are a b t p = λ i. record { table = t i; part = p i }
