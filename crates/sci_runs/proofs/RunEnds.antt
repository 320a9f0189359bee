-- The schedule of a run that has come to its end.
use Rattle.std.proofs.Common.{◌≡◌, ◌≤◌, ◌<◌, ℕ, zero, suc, Bool, true, false, arith, List, [], ◌∷◌, All, length, map, take, Some, refl, sym, ap, subst, ◌∙◌}
use Rattle.std.proofs.Common.{inl, inr}
use Rattle.std.{proofs.lemmas.List.Elements.{All-cons, All-head, All-nil, All-tail}, specs.Prelude.{slice_get, slice_index_or}}
use Rattle.sci_words.specs.declared.limits.TheConstants.{MAX_NODES, MAX_OPERATIONS}
use Rattle.sci_words.specs.declared.operation.Op.{Op}
use Rattle.sci_history.specs.{declared.entry.Entry.{Entry}, Placed.{log_of}, Sequential.{IsInProgramOrder}}
use Rattle.sci_text.specs.{Script.{ScriptValue}, Schedule.{IsSchedule, ScheduleValue}}
use Rattle.sci_core.specs.{Core.{AreEnabled, Core, node_at, run}, Node.{NodeOf}, Outcome.{logs_of}, Reached.{IsReached}}
use Rattle.sci_core.specs.{Sharing.{last_of}, Size.{Size}}
use Rattle.sci_core.proofs.ReachedLaws.{log_at}
use Rattle.sci_drive.specs.{declared.driver.Issuing.{Issuing}, Driving.{DriverOf, IsAnswered, IsDriven}}
use Rattle.sci_drive.specs.Script.{IsFrontOf, IsLogOf, IsWholeLogOf}
use Rattle.sci_drive.proofs.Drives.{log_of as log_driven, whole_of}
use Rattle.sci_text.specs.Script.{operations_of}
use Rattle.sci_drive.specs.ScriptLogs.{size_for}
use Rattle.sci_core.proofs.History.InTurn.{in_order}
use Rattle.sci_runs.specs.Players.{AreAtWork, IsAtWork, TableOf}
use Rattle.sci_runs.specs.Recorded.{HasIssued, HasLed, IsKnown, IsOfSize, issues_at, raised}
use Rattle.sci_runs.specs.Runs.{IsRunOf, last_behind, logs_behind}
use Rattle.sci_runs.proofs.Limits.{last_raised, logs_raised}

-- ---- the operations that were issued

-- a list whose elements stand at the same places of another is its front
front_by : {A : Type 0} (xs ys : List A) → length xs ≤ length ys → ((k : ℕ) (x : A) → slice_get xs k ≡ Some x → slice_get ys k ≡ Some x)
    → xs ≡ take (length xs) ys
front_by [] ys le at = refl
front_by (x ∷ xs) [] le at = absurd (omega arith)
front_by (x ∷ xs) (y ∷ ys) le at =
    let here : Some y ≡ Some x = at zero x refl in
    let rest : xs ≡ take (length xs) ys = front_by xs ys (omega arith) (λ k z e. at (suc k) z e) in
    ap (λ (zs : List _). x ∷ zs) rest ∙ ap (λ z. z ∷ take (length xs) ys) (let same : x ≡ y = cc in same)

known_named : (driver : DriverOf) (node : NodeOf) (serial : ℕ) (op : Op) → IsDriven driver node → IsKnown node serial op
    → slice_get driver.script serial ≡ Some op
known_named driver node serial op d (inl pends) = (d.pending op.line (record { serial = serial; op = op }) pends).named
known_named driver node serial op d (inr logged) = grind arith

-- they are the first ones of the driver's script
issued_first : (ops : List Op) (driver : DriverOf) (node : NodeOf) → HasIssued ops node → IsDriven driver node → ops ≡ take (length ops) driver.script
issued_first ops driver node has d =
    front_by ops driver.script (let long = has.counted in let next = d.issued in let within = d.within in omega (arith, long, next, within))
    (λ k op at. known_named driver node k op d (has.each k op at))

-- ---- the run

some_driver : (drivers : List DriverOf) → 0 < length drivers → DriverOf
some_driver [] lt = absurd (omega arith)
some_driver (driver ∷ drivers) lt = driver

module _ (table : TableOf) (schedule : ScheduleValue) (work : AreAtWork table) (led : HasLed schedule.events table.recorder.core)
    (reached : IsReached table.recorder.core) (good : IsSchedule schedule)
    (sized : IsOfSize table.recorder.core.size schedule) where
  abbrev script : ScriptValue
  script = table.script

  abbrev core : Core
  core = table.recorder.core

  leads : run (size_for script) schedule.events ≡ raised MAX_OPERATIONS core
  leads = subst (λ (z : Size). run z schedule.events ≡ raised MAX_OPERATIONS core) work.sized led.leads

  behind : logs_behind script schedule ≡ logs_of core
  behind = ap logs_of leads ∙ logs_raised MAX_OPERATIONS core

  nodes_are : core.size.nodes ≡ script.nodes
  nodes_are = ap (λ (z : Size). z.nodes) work.sized

  few : (node : ℕ) → node < script.nodes → node < MAX_NODES
  few node lt = let most = reached.size.extent.few_nodes in let same = nodes_are in omega (arith, most, same, lt)

  -- what holds of each driver's script and its node's log holds of each node's operations and its log
  each_log : (Good : List Op → List Entry → Type 0)
      → ((node : ℕ) (d : DriverOf) → node < script.nodes → IsAtWork script table.issuing node (slice_index_or table.drivers node d) (node_at core node)
      → Good (slice_index_or table.drivers node d).script (node_at core node).log)
      → (node : ℕ) → node < script.nodes → Good (operations_of node script.operations) (log_of (logs_behind script schedule) node)
  each_log Good each node lt =
      let d = some_driver table.drivers (let many = work.many in omega (arith, many, lt)) in
      let at = work.each node d lt in
      let log : log_of (logs_behind script schedule) node ≡ (node_at core node).log =
      ap (λ (logs : List (List Entry)). log_of logs node) behind ∙ log_at core node (few node lt) in
      subst (Good (operations_of node script.operations)) (sym log)
      (subst (λ (ops : List Op). Good ops (node_at core node).log) at.script_is (each node d lt at))

  issued : (node : ℕ) → node < script.nodes
      → issues_at node schedule.events ≡ take (length (issues_at node schedule.events)) (operations_of node script.operations)
  issued node lt =
      let ops = issues_at node schedule.events in
      let d = some_driver table.drivers (let many = work.many in omega (arith, many, lt)) in
      let at = work.each node d lt in
      let has = led.issued node (let same = nodes_are in omega (arith, same, lt)) in
      subst (λ (own : List Op). ops ≡ take (length ops) own) at.script_is
      (issued_first ops (slice_index_or table.drivers node d) (node_at core node) has at.driven)

  pub is_run : (done : Bool) → (done ≡ true → All IsAnswered table.drivers) → IsRunOf script table.issuing done schedule
  is_run done answered = record {
    good = good;
    sized = subst (λ (z : Size). IsOfSize z schedule) work.sized
        (record { nodes_are = sized.nodes_are; lines_are = sized.lines_are; slots_are = sized.slots_are });
    enabled = subst (λ (z : Size). AreEnabled z [] schedule.events) work.sized led.enabled;
    issued = issued;
    named = each_log IsLogOf (λ node d lt at. log_driven (slice_index_or table.drivers node d) (node_at core node) at.driven);
    whole = λ is. each_log IsWholeLogOf (λ node d lt at.
        let all = answered is node d (let many = work.many in omega (arith, many, lt)) in
        whole_of (slice_index_or table.drivers node d) (node_at core node) all.0 all.1 at.driven);
    ordered = λ is. in_order (logs_behind script schedule) script.nodes core reached behind nodes_are
        (each_log (λ _. IsInProgramOrder) (λ node d lt at. (at.ordered is).ordered));
    front = λ is. each_log IsFrontOf (λ node d lt at. subst (λ (own : List Op). IsFrontOf own (node_at core node).log) refl (at.ordered is).front);
  }

-- the same of what a table is seen as
pub run_of : (view table : TableOf) (schedule : ScheduleValue) → view ≡ table → AreAtWork view → HasLed schedule.events view.recorder.core
    → IsReached view.recorder.core → IsSchedule schedule → IsOfSize view.recorder.core.size schedule
    → (done : Bool) → (done ≡ true → All IsAnswered table.drivers) → IsRunOf table.script table.issuing done schedule
run_of view table schedule is work led reached good sized =
    subst (λ (t : TableOf). (done : Bool) → (done ≡ true → All IsAnswered t.drivers) → IsRunOf t.script t.issuing done schedule) is
    (is_run view schedule work led reached good sized)

-- the state behind the schedule is the machine's
pub led_to : (view table : TableOf) (schedule : ScheduleValue) (machine : Core) → view ≡ table → AreAtWork view → HasLed schedule.events view.recorder.core
    → machine ≡ view.recorder.core → run (size_for table.script) schedule.events ≡ raised MAX_OPERATIONS machine
led_to view table schedule machine is work led same = grind arith

-- so are the logs and the last contents behind it
pub ends_of : (script : ScriptValue) (schedule : ScheduleValue) (machine : Core) → run (size_for script) schedule.events ≡ raised MAX_OPERATIONS machine
    → (logs_of machine ≡ logs_behind script schedule) × (last_of machine ≡ last_behind script schedule)
ends_of script schedule machine led =
    (sym (ap logs_of led ∙ logs_raised MAX_OPERATIONS machine), sym (ap last_of led ∙ last_raised MAX_OPERATIONS machine))

-- a run that is done, or not
pub run_if : (own : ScriptValue) (issuing : Issuing) (drivers : List DriverOf) (schedule : ScheduleValue) (done : Bool) → (done ≡ true → All IsAnswered drivers)
    → IsRunOf own issuing false schedule
    → (All IsAnswered drivers → IsRunOf own issuing true schedule) → IsRunOf own issuing done schedule
run_if own issuing drivers schedule true answered so_far whole = whole (answered refl)
run_if own issuing drivers schedule false answered so_far whole = so_far

-- what holds of what a function makes of each element
pub of_mapped : {X Y : Type 0} (P : X → Type 0) (f : Y → X) (ys : List Y) → All P (map f ys) → All (λ y. P (f y)) ys
of_mapped P f [] all = All-nil (λ y. P (f y))
of_mapped P f (y ∷ ys) all =
    All-cons (λ y. P (f y)) y ys (All-head P (f y) (map f ys) all) (of_mapped P f ys (All-tail P (f y) (map f ys) all))
