use Rattle.std.proofs.{Common.{ℕ, ap, subst, ◌∙◌, arith}, lemmas.List.{length-set, length-take-le, take-set-le}}
use Rattle.sci_lanes.specs.{declared.view.Inbound.{Inbound}, Shown.{inbound_at}, Ends.{EndOf, lane_at_cell}}
use Rattle.sci_station.proofs.{Budgets.{no_more_less, no_more_then}, Cells.{read_found}, Spelled.{found_more}}
use Rattle.sci_station.proofs.StillEnds.{known_others, lane_still, others_then, read_still, still_place, still_takes, still_then}
use Rattle.sci_station.specs.Ends.{LeavesOthers}
use Rattle.sci_station.proofs.receiving.read.Goals as goal

pub read_at-requires-clause-may : goal.read_at-requires-clause-may
read_at-requires-clause-may c = grind (arith, length-take-le, still_takes)

pub read_at-requires-clause-place : goal.read_at-requires-clause-place
read_at-requires-clause-place c =
    still_place c.args.end.now c.loop-index.end c.args.cell _ c.loop-index.invariant.still c.place_of-place.ensures

pub loop-index-preserved : goal.loop-index-preserved
loop-index-preserved c =
    let i = c.loop-index.invariant in
    let index = c.loop-index.index in
    let few = c.requires.few in
    let below = c.loop-index-test.true in
    let order = i.order in
    let long = i.long in
    let next = still_takes c.args.end.now c.loop-index.end c.args.cell i.still c.requires.next in
    let found = ap (λ (x : Inbound). x.found)
    (read_found c.loop-index.end c.read_at.new.self c.args.cell index c.read_at.result i.shown next c.read_at.ensures.part) in
    record {
      still = still_then c.args.end.now c.loop-index.end c.read_at.new.self i.still
          (read_still c.loop-index.end c.read_at.new.self c.args.cell index c.read_at.result c.read_at.ensures.seen c.read_at.ensures.part);
      shown = c.read_at.ensures.shown;
      long = length-set c.loop-index.words index c.read_at.result ∙ long;
      order = omega arith;
      found = found ∙ found_more (inbound_at c.loop-index.end.part (lane_at_cell c.loop-index.end.part c.args.cell)).found c.loop-index.words index
          c.read_at.result (omega arith) i.found;
      begins = take-set-le 1 c.loop-index.words index c.read_at.result (omega arith) ∙ i.begins;
      others = others_then _ c.args.end.now.part c.loop-index.end.part c.read_at.new.self.part i.others
          (subst (λ (l : ℕ). LeavesOthers l c.loop-index.end.part c.read_at.new.self.part) (lane_still c.args.end.now c.loop-index.end c.args.cell i.still)
          (known_others c.loop-index.end c.read_at.new.self (lane_at_cell c.loop-index.end.part c.args.cell) _
          (ap (λ (x : EndOf). x.part.inbound) c.read_at.ensures.part)));
      budget = no_more_then c.args.budget.now.left c.loop-index.budget.left c.spend.new.self.left i.budget
          (no_more_less 1 c.loop-index.budget.left c.spend.new.self.left c.in_ok-spend.ensures.one);
    }
