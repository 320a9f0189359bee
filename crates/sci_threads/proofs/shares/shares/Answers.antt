use Rattle.std.proofs.Common.{◌≡◌, ◌<◌, ◌≤◌, ◌++◌, ◌∷◌, [], List, All, Ok, false, length, map, refl, sym, ap, subst, ◌∙◌, append_assoc, arith}
use Rattle.std.proofs.lemmas.List.{get_or-map, map-append, Elements.{All-head, All-push, All-tail}}
use Rattle.sci_words.specs.declared.{limits.TheConstants.{MAX_OPERATIONS}, operation.Op.{Op}}
use Rattle.sci_drive.specs.Driving.{DriverOf, HasSubmittedNothing, IsDriven, IsInOrder, opening_driver}
use Rattle.sci_lanes.specs.Shown.{me_of}
use Rattle.sci_station.specs.Station.{StationOf, node_in}
use Rattle.sci_threads.specs.{Shares.{IsOpened, IsWell, own_of}, declared.share.Share.{Share}}
use Rattle.sci_threads.proofs.RunStations.{all_in_front}
use Rattle.sci_threads.proofs.shares.shares.Goals as goal

pub bounds-plan-me : goal.bounds-plan-me
bounds-plan-me g c =
    let Known : StationOf → Type 0 = λ s. me_of s.end.part < length c.args.plan.operations.now in
    let known = All-head Known c.in-Some.station c.next.new.self.a.rest.items (subst (All Known) c.in-Some.ensures.steps.0.0 c.loop-station.invariant.2) in
    let me = c.me.ensures in
    omega (arith, known, me)

pub new-requires : goal.new-requires
new-requires g c =
    let Known : StationOf → Type 0 = λ s. me_of s.end.part < length c.args.plan.operations.now in
    let known = All-head Known c.in-Some.station c.next.new.self.a.rest.items (subst (All Known) c.in-Some.ensures.steps.0.0 c.loop-station.invariant.2) in
    let me = c.me.ensures in
    record {
      few = subst (λ (ops : List Op). length ops ≤ MAX_OPERATIONS) (sym c.deref.ensures.value)
          (c.requires.few c.me.result c.index-plan-me.result (omega (arith, known, me)));
    }

pub loop-station-preserved : goal.loop-station-preserved
loop-station-preserved g c =
    let inv = c.loop-station.invariant in
    let steps = c.in-Some.ensures.steps in
    let one = c.in-Some.station in
    let rest = c.next.new.self.a.rest.items in
    let gates = c.next.new.self.b.rest.items in
    let operations = c.args.plan.operations.now in
    let issuing = c.args.plan.issuing in
    let Known : StationOf → Type 0 = λ s. me_of s.end.part < length operations in
    let Fresh : StationOf → Type 0 = λ s. HasSubmittedNothing (node_in s) in
    let known = subst (All Known) steps.0.0 inv.2 in
    let fresh = subst (All Fresh) steps.0.0 inv.3 in
    let here = All-head Known one rest known in
    let node = one.end.part.node in
    let script = c.deref.result.now in
    let driver = c.new.result in
    let share : Share g.row.G.Denot = record { station = one; driver = driver; gate = c.in-Some.gate; left = c.args.plan.turns; finished = Ok false } in
    let me = c.me.ensures in
    let mine : script ≡ own_of operations (me_of one.end.part) =
    c.deref.ensures.value ∙ (sym (get_or-map (λ own. own.items) operations c.me.result c.index-plan-me.result [] (omega (arith, here, me)))
    ∙ ap (own_of operations) c.me.ensures) in
    let well : IsWell driver one.end share.finished = record {
      driven = subst (λ (d : DriverOf). IsDriven d node) (sym c.new.ensures)
          (c.new_drivers_may_drive.ensures.driven script issuing node (All-head Fresh one rest fresh));
      answered = λ is. absurd cc;
    } in
    let opened : IsOpened issuing (own_of operations) c.args.plan.turns share = record {
      driver = c.new.ensures ∙ ap (λ (ops : List Op). opening_driver ops issuing) mine;
      left = refl;
      unfinished = refl;
      ordered = λ is. subst (λ (d : DriverOf). IsInOrder d node) (sym (c.new.ensures ∙ ap (opening_driver script) is))
          (c.new_drivers_may_drive.ensures.order script node (All-head Fresh one rest fresh));
    } in
    let before = c.loop-station.shares.items in
    let pushed : c.push.new.self.items ≡ before ++ share ∷ [] = c.in_ok-push.ensures.items in (
      ap (λ (xs : List (Share g.row.G.Denot)). map (λ s. s.station) xs ++ rest) pushed
          ∙ (ap (λ (xs : List StationOf). xs ++ rest) (map-append (λ s. s.station) before (share ∷ []))
          ∙ (append_assoc (map (λ s. s.station) before) (one ∷ []) rest
          ∙ (ap (λ (xs : List StationOf). map (λ s. s.station) before ++ xs) (sym steps.0.0) ∙ inv.0))),
      (let both = inv.1 in let a = ap length steps.0.0 in let b = ap length steps.1.0 in omega (arith, a, b, both)),
      All-tail Known one rest known,
      All-tail Fresh one rest fresh,
      subst (All (λ (s : Share g.row.G.Denot). IsWell s.driver s.station.end s.finished)) (sym pushed)
          (All-push (λ (s : Share g.row.G.Denot). IsWell s.driver s.station.end s.finished) before share inv.4 well),
      subst (All (λ (s : Share g.row.G.Denot). IsOpened issuing (own_of operations) c.args.plan.turns s)) (sym pushed)
          (All-push (λ (s : Share g.row.G.Denot). IsOpened issuing (own_of operations) c.args.plan.turns s) before share inv.5 opened),
      ap (λ (xs : List (Share g.row.G.Denot)). map (λ s. s.gate) xs ++ gates) pushed
          ∙ (ap (λ (xs : List g.row.G.Denot). xs ++ gates) (map-append (λ s. s.gate) before (share ∷ []))
          ∙ (append_assoc (map (λ s. s.gate) before) (c.in-Some.gate ∷ []) gates
          ∙ (ap (λ (xs : List g.row.G.Denot). map (λ s. s.gate) before ++ xs) (sym steps.1.0) ∙ inv.6))),
    )

-- no station is left
none_left : (g : _) (c : goal.After-drop-station-iterator-3 g) → length c.loop-station.station-iterator.a.rest.items ≡ 0
none_left g c = grind arith

pub returns-clause-stations : goal.returns-clause-stations
returns-clause-stations g c =
    all_in_front (map (λ (s : Share g.row.G.Denot). s.station) c.loop-station.shares.items) c.loop-station.station-iterator.a.rest.items c.args.stations.items
    (none_left g c) c.loop-station.invariant.0

pub returns-clause-gates : goal.returns-clause-gates
returns-clause-gates g c =
    let none = none_left g c in
    let both = c.loop-station.invariant.1 in
    all_in_front (map (λ (s : Share g.row.G.Denot). s.gate) c.loop-station.shares.items) c.loop-station.station-iterator.b.rest.items c.args.gates.items
    (omega (arith, none, both)) c.loop-station.invariant.6
