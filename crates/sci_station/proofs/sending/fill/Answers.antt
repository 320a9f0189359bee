use Rattle.std.proofs.Common.{◌≡◌, ◌<◌, ◌+◌, ◌-◌, ◌++◌, ◌∷◌, ℕ, zero, suc, List, [], length, get_or, take, ap, arith, subst, ◌∙◌}
use Rattle.std.proofs.lemmas.Grind.{common_steps}
use Rattle.sci_station.specs.Ends.{LeavesOthers}
use Rattle.sci_station.proofs.Budgets.{no_more_less, no_more_then}
use Rattle.sci_station.proofs.StillEnds.{fill_still, known_others, lane_still, others_then, still_place, still_sends, still_then}
use Rattle.sci_station.proofs.Cells.{filled_there}
use Rattle.sci_lanes.specs.{declared.view.Outbound.{Outbound}, Shown.{outbound_at}, Ends.{EndOf, lane_at_cell}}
use Rattle.sci_station.proofs.sending.fill.Goals as goal

-- one word more is filled
filled_more : (filled words : List ℕ) (place : ℕ) → place < length words → (0 < place → filled ≡ take place words)
    → take (place + 1 - 1) filled ++ get_or words place 0 ∷ [] ≡ take (place + 1) words
filled_more filled words zero some so = grind (arith, common_steps)
filled_more filled words (suc place) some so = let is = so (omega arith) in grind (arith, common_steps)

pub fill_at-requires-clause-place : goal.fill_at-requires-clause-place
fill_at-requires-clause-place c =
    still_place c.args.end.now c.loop-index.end c.args.cell _ c.loop-index.invariant.still c.place_of-place.ensures

pub loop-index-preserved : goal.loop-index-preserved
loop-index-preserved c =
    let i = c.loop-index.invariant in
    let old = c.loop-index.end in
    let new = c.fill_at.new.self in
    let filled = filled_there old new c.args.cell _ _ c.fill_at.ensures.seen c.fill_at.ensures.shown
    (still_sends c.args.end.now old c.args.cell i.still c.requires.next) c.fill_at.ensures.part in
    record {
      still = still_then c.args.end.now old new i.still (fill_still old new c.args.cell _ _ c.fill_at.ensures.seen c.fill_at.ensures.part);
      vacant = ap (λ (o : Outbound). o.vacant) filled ∙ i.vacant;
      filled = λ _. ap (λ (o : Outbound). o.filled) filled
          ∙ filled_more (outbound_at old.part (lane_at_cell old.part c.args.cell)).filled c.args.words.now c.loop-index.index c.loop-index-test.true i.filled;
      others = others_then _ c.args.end.now.part old.part new.part i.others
          (subst (λ (l : ℕ). LeavesOthers l old.part new.part) (lane_still c.args.end.now old c.args.cell i.still)
          (known_others old new (lane_at_cell old.part c.args.cell) _ (ap (λ (x : EndOf). x.part.inbound) c.fill_at.ensures.part)));
      budget = no_more_then c.args.budget.now.left c.loop-index.budget.left c.spend.new.self.left i.budget
          (no_more_less 1 c.loop-index.budget.left c.spend.new.self.left c.in_ok-spend.ensures.one);
    }
