use Rattle.std.proofs.Common.{All, ◌≡◌, ◌≤◌, arith, suc, List, ◌∷◌, length, Vec, sym, ap, subst, ◌∙◌}
use Rattle.std.proofs.lemmas.List.Elements.{All-head, All-push}
use Rattle.sci_station_timer.specs.declared.runner.Runner.{Runner}
use Rattle.sci_words.specs.declared.{limits.TheConstants.{MAX_OPERATIONS}, operation.Op.{Op}}
use Rattle.sci_drive.specs.Driving.{HasSubmittedNothing, IsDriven}
use Rattle.sci_station.specs.Station.{StationOf, node_in}
use Rattle.sci_station_timer.proofs.circle.new_runners.Goals as goal

pub new-requires-in-loop-station-clause-fresh : goal.new-requires-in-loop-station-clause-fresh
new-requires-in-loop-station-clause-fresh c =
    let Fresh : StationOf → Type 0 = λ s. HasSubmittedNothing (node_in s) in
    All-head Fresh c.in-Some.station c.next.new.self.a.rest.items (subst (All Fresh) c.in-Some.ensures.steps.0.0 c.loop-station.invariant.1)

pub loop-station-preserved : goal.loop-station-preserved
loop-station-preserved c =
    let inv = c.loop-station.invariant in
    let steps = c.in-Some.ensures.steps in (
      subst (All (λ (r : Runner). IsDriven r.driver (node_in r.station))) (sym c.in_ok-push.ensures.items)
          (All-push (λ (r : Runner). IsDriven r.driver (node_in r.station)) c.loop-station.runners.items c.new-in-loop-station.result inv.0
          c.new-in-loop-station.ensures.driven),
      all_rest (λ (s : StationOf). HasSubmittedNothing (node_in s)) c.in-Some.station c.next.new.self.a.rest.items
          (subst (All (λ (s : StationOf). HasSubmittedNothing (node_in s))) steps.0.0 inv.1),
      all_rest (λ (own : Vec Op _). length own.items ≤ MAX_OPERATIONS) c.in-Some.own.now c.next.new.self.b.rest.now
          (subst (All (λ (own : Vec Op _). length own.items ≤ MAX_OPERATIONS)) steps.1 inv.2),
    )
  where
    all_rest : {X : Type 0} (P : X → Type 0) (x : X) (xs : List X) → All P (x ∷ xs) → All P xs
    all_rest P x xs all k d lt = all (suc k) d (omega arith)
