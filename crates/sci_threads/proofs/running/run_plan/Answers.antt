use Rattle.std.proofs.Common.{◌≡◌, ◌<◌, ℕ, List, All, Ok, true, ◌≤◌, inr, arith, ◌++◌, drop, length, map, take, get_or, refl, sym, ap, subst, ◌∙◌}
use Rattle.std.specs.Prelude.{◌↔◌, IsOk}
use Rattle.sci_words.specs.declared.{operation.Op.{Op}, limits.TheConstants.{MAX_OPERATIONS}}
use Rattle.sci_history.specs.{declared.entry.Entry.{Entry}, Sequential.{IsInProgramOrder}}
use Rattle.sci_core.specs.{Outcome.{logs_of}, Size.{Size, size_of}}
use Rattle.sci_lanes.specs.{Ends.{EndOf}, Shown.{me_of}, Gathering.{AreAll, AreOf, IsStateOf}}
use Rattle.sci_drive.specs.{Script.{IsFrontOf, IsLogOf, IsWholeLogOf}}
use Rattle.sci_station.specs.{Ends.{IsSameEnd}, Station.{StationOf, end_in}}
use Rattle.sci_lanes.proofs.Gathered.{node_log}
use Rattle.sci_core.proofs.History.InTurn.{in_order}
use Rattle.sci_threads.proofs.RunStations.{came_back, each_end, logs_have, opened_long, opened_known, opened_all_fresh, whole_if}
use Rattle.sci_threads.proofs.{DrivenNodes.{all_driven}, RunStations.{written_back}, Going.{HasRun, all_run}}
use Rattle.sci_threads.proofs.running.run_plan.Goals.{In-Ok, In_ok-stations}
use Rattle.sci_drive.specs.ScriptLogs.{IsOfEachLog}
use Rattle.sci_threads.specs.{declared.share.Share.{Share}, Shares.{AllGoOn, HasAtMost, IsWell, own_of}}
use Rattle.sci_threads.proofs.running.run_plan.Goals as goal

pub shares-requires : goal.shares-requires
shares-requires g c = grind (arith, opened_long, opened_known, opened_all_fresh)

pub run_all-requires-clause-well : goal.run_all-requires-clause-well
run_all-requires-clause-well g c =
    λ lts met. subst (All (λ (s : Share g.row.G.Denot). IsWell s.driver s.station.end s.finished)) (sym c.deref_mut.ensures.value) c.in_ok-shares.ensures.well

pub run_all-requires-clause-few : goal.run_all-requires-clause-few
run_all-requires-clause-few g c = λ lts met.
    subst (All (HasAtMost c.args.plan.turns)) (sym c.deref_mut.ensures.value) (λ k d lt. inr (at_most (c.in_ok-shares.ensures.opened k d lt).left))
  where
    at_most : {n m : ℕ} → n ≡ m → n ≤ m
    at_most is = omega (arith, is)

-- the stations that come back are of the fabric, and all of its
all_came : (g : _) (c : In_ok-stations g) → AreOf c.in_ok-fabric.fabric (map end_in c.in_ok-stations.stations.items)
    × AreAll c.args.extent.nodes (map end_in c.in_ok-stations.stations.items)
all_came g c =
    let before = c.in_ok-shares.shares in
    let after = c.run_all.new.shares in
    let long : length after ≡ length before.items = c.run_all.auto.shares ∙ ap length c.deref_mut.ensures.value in
    let each = subst (λ (xs : List (Share g.row.G.Denot)). (k : ℕ) (d : Share g.row.G.Denot) → k < length xs
    → IsSameEnd (get_or xs k d).station.end (get_or after k d).station.end) c.deref_mut.ensures.value (λ k d lt. (c.run_all.ensures.gone k d lt).same) in
    came_back (λ (share : Share g.row.G.Denot). share.station) c.in_ok-fabric.fabric (size_of c.args.extent MAX_OPERATIONS) c.args.extent.nodes before.len
    before.items after c.in_ok-stations.stations.items c.in_ok-fabric.ensures.size (c.in_ok-shares.ensures.stations ∙ c.in_ok-fabric.ensures.stations)
    before.ok.0 long each c.in_ok-stations.ensures.stations

pub join-requires : goal.join-requires
join-requires g c = record { own = (all_came g (goal.at.join-requires g c).In_ok-stations).0 }

pub unreachable-requires : goal.unreachable-requires
unreachable-requires g c =
    c.in-Err-Missing-default-default.ensures.missing c.in-Err-Missing-default-default.field-0-0-is
    (subst (λ (n : ℕ). AreAll n (map end_in c.in_ok-stations.stations.items)) (sym (ap (λ (z : Size). z.nodes) c.in_ok-fabric.ensures.size))
    (all_came g (goal.at.unreachable-requires g c).In_ok-stations).1)

-- each share went on
gone : (g : _) (c : In-Ok g) → AllGoOn g.G.Gate.hears c.in_ok-shares.shares.items c.run_all.new.shares
gone g c = subst (λ (xs : List (Share g.row.G.Denot)). AllGoOn g.G.Gate.hears xs c.run_all.new.shares) c.deref_mut.ensures.value c.run_all.ensures.gone

as_many : (g : _) (c : In-Ok g) → length c.run_all.new.shares ≡ length c.in_ok-shares.shares.items
as_many g c = c.run_all.auto.shares ∙ ap length c.deref_mut.ensures.value

-- what each share has done
has_run : (g : _) (c : In-Ok g)
    → All (λ (s : Share g.row.G.Denot). HasRun c.args.plan.issuing (own_of c.args.plan.operations.now) s.station.end s.finished) c.run_all.new.shares
has_run g c =
    all_run g.G.Gate.hears c.args.plan.issuing (own_of c.args.plan.operations.now) c.args.plan.turns c.in_ok-shares.shares.items c.run_all.new.shares
    (as_many g c) c.in_ok-shares.ensures.opened (gone g c) c.run_all.ensures.well

-- the shares are all those that were made
all_back : (g : _) (c : In-Ok g)
    → take c.in_ok-shares.shares.len (c.run_all.new.shares ++ drop (length c.run_all.new.shares) c.in_ok-shares.shares.items) ≡ c.run_all.new.shares
all_back g c = grind (arith, written_back, as_many)

stations_are : (g : _) (c : In-Ok g) → c.in_ok-stations.stations.items ≡ map (λ share. share.station) c.run_all.new.shares
stations_are g c = c.in_ok-stations.ensures.stations ∙ ap (map (λ share. share.station)) (all_back g c)

nodes_are : (g : _) (c : In-Ok g) → c.in_ok-fabric.fabric.size.nodes ≡ c.args.extent.nodes
nodes_are g c = ap (λ (z : Size). z.nodes) c.in_ok-fabric.ensures.size

-- what is so of each share's log, of each node's
logs_by : (g : _) (c : In-Ok g) (Good : List Op → List Entry → Type 0)
    → All (λ (s : Share g.row.G.Denot). Good (own_of c.args.plan.operations.now (me_of s.station.end.part)) s.station.end.part.node.log) c.run_all.new.shares
    → IsOfEachLog Good c.args.extent.nodes (own_of c.args.plan.operations.now) (logs_of c.in-Ok.machine)
logs_by g c Good good =
    let operations = c.args.plan.operations.now in
    let all = subst (λ (n : ℕ). AreAll n (map end_in c.in_ok-stations.stations.items)) (nodes_are g c) c.in-Ok.ensures.all in
    let Each : EndOf → Type 0 = λ end. Good (own_of operations (me_of end.part)) end.part.node.log in
    let logs = node_log _ _ _ _ c.in-Ok.ensures.state refl in
    logs_have Good (own_of operations) (map end_in c.in_ok-stations.stations.items) (logs_of c.in-Ok.machine) c.args.extent.nodes all logs
    (subst (λ (xs : List StationOf). All Each (map end_in xs)) (sym (stations_are g c)) (each_end (λ share. share.station) Each c.run_all.new.shares good))

pub returns-in-Ok-clause-named : goal.returns-in-Ok-clause-named
returns-in-Ok-clause-named g c =
    let d = (goal.at.returns-in-Ok-clause-named g c).In-Ok in
    logs_by g d IsLogOf (λ k x lt. (has_run g d k x lt).named)

pub returns-in-Ok-clause-whole : goal.returns-in-Ok-clause-whole
returns-in-Ok-clause-whole g c = λ finished.
    let d = (goal.at.returns-in-Ok-clause-whole g c).In-Ok in
    let done = subst (All (λ (s : Share g.row.G.Denot). s.finished ≡ Ok true)) (all_back g d) (c.in_ok-stations.ensures.finished.0 finished) in
    logs_by g d IsWholeLogOf (λ k x lt. whole_if _ _ _ (has_run g d k x lt).whole (done k x lt))

pub returns-in-Ok-clause-ordered : goal.returns-in-Ok-clause-ordered
returns-in-Ok-clause-ordered g c = λ is.
    let d = (goal.at.returns-in-Ok-clause-ordered g c).In-Ok in
    let led = c.in-Ok.ensures.state.led in
    in_order (logs_of c.in-Ok.machine) c.args.extent.nodes c.in-Ok.machine led.reached refl
    (ap (λ (z : Size). z.nodes) led.sized ∙ nodes_are g d)
    (logs_by g d (λ _. IsInProgramOrder) (λ k x lt. (has_run g d k x lt).ordered is))

pub returns-in-Ok-clause-front : goal.returns-in-Ok-clause-front
returns-in-Ok-clause-front g c = λ is.
    let d = (goal.at.returns-in-Ok-clause-front g c).In-Ok in
    logs_by g d IsFrontOf (λ k x lt. (has_run g d k x lt).front is)

pub returns-in-Ok-clause-rounds : goal.returns-in-Ok-clause-rounds
returns-in-Ok-clause-rounds g c =
    let d = (goal.at.returns-in-Ok-clause-rounds g c).In-Ok in
    let size = size_of c.args.extent MAX_OPERATIONS in
    let table = c.in_ok-fabric.fabric.table in
    let core = c.in-Ok.machine in
    let before = c.in_ok-shares.ensures in
    let back = all_back g d in
    let finished = subst (λ (xs : List (Share g.row.G.Denot)). (c.in_ok-stations.finished ≡ true) ↔ All (λ s. s.finished ≡ Ok true) xs) back
    c.in_ok-stations.ensures.finished in
    let unrefused = subst (All (λ (s : Share g.row.G.Denot). IsOk s.finished)) back c.in_ok-stations.ensures.unrefused in
    let state = subst (λ (z : Size). IsStateOf z (map end_in c.in_ok-stations.stations.items) core) c.in_ok-fabric.ensures.size c.in-Ok.ensures.state in
    let made = subst (λ (xs : List StationOf). IsStateOf size (map end_in xs) core) (stations_are g d) state in (
      made.led,
      all_driven g.G.Gate.hears c.args.plan.issuing (own_of c.args.plan.operations.now) c.args.plan.turns table size c.args.gates.items
          c.in_ok-shares.shares.items c.run_all.new.shares core c.in_ok-stations.finished (as_many g d) (before.stations ∙ c.in_ok-fabric.ensures.stations)
          before.gates before.opened (gone g d) c.run_all.ensures.well c.run_all.ensures.ended unrefused finished state.led.sized made,
    )
