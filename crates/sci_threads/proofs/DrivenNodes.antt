-- What the shares of a run have done, at the nodes of the machine.
use Rattle.std.proofs.Common.{◌≡◌, ◌<◌, ℕ, List, [], ◌∷◌, All, length, map, refl, sym, ap, subst, ◌∙◌, arith}
use Rattle.std.proofs.Common.{Bool, true, false, Some, Result, Ok, Err, Vec}
use Rattle.std.proofs.lemmas.{List.{get_or-map, length-map}, Option.{slice_get-get_or, slice_get-map}}
use Rattle.std.specs.{Prelude.{◌↔◌, IsOk, option_map, slice_get, slice_index_or}}
use Rattle.atomic_table.specs.Seated.{TableId}
use Rattle.sci_words.specs.declared.{event.Event.{Event}, operation.Op.{Op}, stamped.Stamped.{Stamped}}
use Rattle.sci_history.specs.declared.entry.Entry.{Entry}
use Rattle.sci_text.specs.Script.{ScriptValue}
use Rattle.sci_core.specs.{Core.{Core, node_at}, Outcome.{logs_of}, Sharing.{last_of}, Size.{Size}}
use Rattle.sci_lanes.specs.{Ends.{EndOf}, Gathering.{IsLedTo, IsStateOf}, Shown.{me_of, opening_part}}
use Rattle.sci_drive.specs.{declared.driver.Issuing.{Issuing}, Calls.{Call}, Driving.{opening_driver}}
use Rattle.sci_drive.proofs.GateCalls.{calls_of, told_once}
use Rattle.sci_station.specs.Station.{StationOf, end_in, opening_station}
use Rattle.sci_threads.specs.{declared.share.Share.{Share}, Slices.{AreDrivenThrough, IsDrivenThrough, IsStationOf}}
use Rattle.sci_text.specs.Script.{operations_of}
use Rattle.sci_threads.specs.Shares.{AllGoOn, AreLedTo, AreWell, IsLaterShare, HasEnded, IsOpened, IsWell, own_of}
use Rattle.sci_threads.proofs.RunStations.{led_by, opened, opened_at, opened_long, own_is}

same_ok : {E : Type 0} (r : Result Bool E) (x y : Bool) → r ≡ Ok x → r ≡ Ok y → x ≡ y
same_ok (Ok z) x y e f = cc
same_ok (Err z) x y e f = absurd (cc)

-- one of a list that has some
some_of : {A : Type 0} (xs : List A) (k : ℕ) → k < length xs → A
some_of [] k lt = absurd (omega arith)
some_of (x ∷ xs) k lt = x

-- whether a share has finished
abbrev said : {E : Type 0} → Result Bool E → Bool
said (Ok finished) = finished
said (Err e) = false

said_ok : {E : Type 0} (r : Result Bool E) → IsOk r → r ≡ Ok (said r)
said_ok (Ok finished) is = refl
said_ok (Err e) is = absurd cc

all_said : {G : Type 0} (shares : List (Share G)) → All (λ (s : Share G). s.finished ≡ Ok true) shares → (k : ℕ) → k < length shares
    → slice_index_or (map (λ (s : Share G). said s.finished) shares) k false ≡ true
all_said [] all k lt = absurd (omega arith)
all_said (share ∷ shares) all k lt = get_or-map (λ s. said s.finished) (share ∷ shares) k share false lt ∙ ap said (all k share lt)

module _ {G : Type 0} (hears : G → List Call → G → Type 0) (issuing : Issuing) (operations : ℕ → List Op) (turns : ℕ) where
  -- a share that was opened, went on and has ended has driven its station through
  driven_by : (old new : Share G) (finished : Bool) → IsOpened issuing operations turns old → old.station.end.part.node.log ≡ [] → IsLaterShare hears old new
      → IsWell new.driver new.station.end new.finished → HasEnded new → new.finished ≡ Ok finished
      → IsDrivenThrough hears turns issuing (operations (me_of old.station.end.part)) old.gate old.station new.station finished
  driven_by old new finished opened empty gone well ended is = grind (arith, same_ok, calls_of, told_once)

  module _ (table : TableId) (size : Size) (gates : List G) (old new : List (Share G)) (core : Core) (all : Bool) (long : length new ≡ length old)
      (made : map (λ share. share.station) old ≡ opened table size size.nodes) (with_gates : map (λ share. share.gate) old ≡ gates)
      (opens : All (IsOpened issuing operations turns) old)
      (gone : AllGoOn hears old new) (well : AreWell new) (ended : All HasEnded new)
      (unrefused : All (λ (s : Share G). IsOk s.finished) new) (all_is : (all ≡ true) ↔ All (λ (s : Share G). s.finished ≡ Ok true) new)
      (sized : core.size ≡ size) (state : IsStateOf size (map end_in (map (λ share. share.station) new)) core) where
    count : length old ≡ size.nodes
    count = sym (length-map old (λ (s : Share G). s.station)) ∙ (ap length made ∙ opened_long table size size.nodes)

    abbrev opening : ℕ → StationOf
    opening n = opening_station (record { table = table; part = opening_part size n })

    -- a share before the run, at its station
    old_at : (k : ℕ) (d : Share G) → k < size.nodes → (slice_index_or old k d).station ≡ opening k
    old_at k d lt =
        let many = count in
        sym (get_or-map (λ (s : Share G). s.station) old k d d.station (omega (arith, many)))
        ∙ (ap (λ (xs : List StationOf). slice_index_or xs k d.station) made ∙ opened_at table size size.nodes k d.station lt)

    gate_at : (k : ℕ) (d : Share G) (e : G) → k < size.nodes → (slice_index_or old k d).gate ≡ slice_index_or gates k e
    gate_at k d e lt =
        let many = count in
        sym (get_or-map (λ (s : Share G). s.gate) old k d e (omega (arith, many))) ∙ ap (λ (xs : List G). slice_index_or xs k e) with_gates

    -- the station of a share after it is that of the machine's node
    new_at : (k : ℕ) (d : Share G) → k < size.nodes → IsStationOf core state.led.schedule k (slice_index_or new k d).station
    new_at k d lt =
        let many = count in
        let share : Share G = slice_index_or new k d in
        let end : EndOf = share.station.end in
        let here : slice_get new k ≡ Some share = slice_get-get_or new k d (omega (arith, many, long)) in
        let there : slice_get (map end_in (map (λ (s : Share G). s.station) new)) k ≡ Some end =
        slice_get-map end_in (map (λ (s : Share G). s.station) new) k
        ∙ ap (option_map end_in) (slice_get-map (λ (s : Share G). s.station) new k ∙ ap (option_map (λ (s : Share G). s.station)) here) in
        let me : me_of end.part ≡ k = (gone k d (omega (arith, many))).same.node.me ∙ ap (λ (s : StationOf). me_of s.end.part) (old_at k d lt) in
        record { node = sym (state.nodes k end there) ∙ ap (node_at core) me; seen = state.seen k end there }

    abbrev has_finished : ℕ → Bool
    has_finished node = slice_index_or (map (λ (s : Share G). said s.finished) new) node false

    finished_at : (k : ℕ) (d : Share G) → k < size.nodes → (slice_index_or new k d).finished ≡ Ok (has_finished k)
    finished_at k d lt =
        let many = count in
        let within : k < length new = omega (arith, many, long) in
        said_ok (slice_index_or new k d).finished (unrefused k d within)
        ∙ ap Ok (sym (get_or-map (λ (s : Share G). said s.finished) new k d false within))

    abbrev station_at : ℕ → StationOf
    station_at node = slice_index_or (map (λ (s : Share G). s.station) new) node (opening node)

    station_is : (k : ℕ) (d : Share G) → k < size.nodes → station_at k ≡ (slice_index_or new k d).station
    station_is k d lt =
        let many = count in
        get_or-map (λ (s : Share G). s.station) new k d (opening k) (omega (arith, many, long))

    -- what a node's share has done, its station has
    at_node : (k : ℕ) (d : Share G) (e : G) (start : StationOf) → k < size.nodes → start ≡ opening k
        → IsDrivenThrough hears turns issuing (operations k) (slice_index_or gates k e) start (station_at k) (has_finished k)
    at_node k d e start lt is =
        let many = count in
        let was : Share G = slice_index_or old k d in
        let now : Share G = slice_index_or new k d in
        let finished = has_finished k in
        let within : k < length old = omega (arith, many) in
        let first : was.station ≡ start = old_at k d lt ∙ sym is in
        let mine : me_of was.station.end.part ≡ k = ap (λ (s : StationOf). me_of s.end.part) (old_at k d lt) in
        let run = driven_by was now finished (opens k d within) (ap (λ (s : StationOf). s.end.part.node.log) (old_at k d lt)) (gone k d within)
        (well k d (omega (arith, long, within))) (ended k d (omega (arith, long, within))) (finished_at k d lt) in
        subst (λ (n : ℕ). IsDrivenThrough hears turns issuing (operations n) (slice_index_or gates k e) start (station_at k) finished) mine
        (subst (λ (g : G). IsDrivenThrough hears turns issuing (operations (me_of was.station.end.part)) g start (station_at k) finished) (gate_at k d e lt)
        (subst (λ (s : StationOf). IsDrivenThrough hears turns issuing (operations (me_of was.station.end.part)) was.gate s (station_at k) finished) first
        (subst (λ (s : StationOf). IsDrivenThrough hears turns issuing (operations (me_of was.station.end.part)) was.gate was.station s finished)
        (sym (station_is k d lt)) run)))

    -- all nodes were driven through
    pub all_driven : AreDrivenThrough hears turns issuing operations gates core state.led.schedule all
    all_driven = record {
      table = table;
      station = station_at;
      finished = has_finished;
      are_of = λ node lt.
          let many = count in
          let inside : node < size.nodes = subst (λ (z : Size). node < z.nodes) sized lt in
          let d : Share G = some_of old node (omega (arith, many)) in
          subst (IsStationOf core state.led.schedule node) (sym (station_is node d inside)) (new_at node d inside);
      each = λ node e lt.
          let d : Share G = record { station = opening node; driver = opening_driver [] issuing; gate = e; left = 0; finished = Ok false } in
          at_node node d e (opening_station (record { table = table; part = opening_part core.size node })) (subst (λ (z : Size). node < z.nodes) sized lt)
          (ap (λ (z : Size). opening_station (record { table = table; part = opening_part z node })) sized);
      all_are = (
        λ done node lt.
            let many = count in
            all_said new (all_is.0 done) node (let inside : node < size.nodes = subst (λ (z : Size). node < z.nodes) sized lt in omega (arith, many, long)),
        λ each. all_is.1 (λ k d lt.
            let many = count in
            let inside : k < size.nodes = omega (arith, many, long) in
            finished_at k d inside ∙ ap Ok (each k (subst (λ (z : Size). k < z.nodes) (sym sized) inside))),
      );
    }

-- ---- said otherwise

module _ {G : Type 0} (hears : G → List Call → G → Type 0) (turns : ℕ) (issuing : Issuing) (gates : List G) (core : Core) (schedule : List Event)
    (all : Bool) where
  -- so they were by lists that are the same for each node
  pub by_same_lists : (operations others : ℕ → List Op) → ((node : ℕ) → node < core.size.nodes → operations node ≡ others node)
      → AreDrivenThrough hears turns issuing operations gates core schedule all → AreDrivenThrough hears turns issuing others gates core schedule all
  by_same_lists operations others same driven = grind arith

  -- what a script's lists were made of
  pub by_script : {Z : Type 0} (s : ScriptValue) (lists : List (Vec Op Z)) → length lists ≡ s.nodes
      → ((n : ℕ) (d : Vec Op Z) → n < s.nodes → (slice_index_or lists n d).items ≡ operations_of n s.operations) → core.size.nodes ≡ s.nodes
      → AreDrivenThrough hears turns issuing (own_of lists) gates core schedule all
      → AreDrivenThrough hears turns issuing (λ node. operations_of node s.operations) gates core schedule all
  by_script s lists many own nodes = by_same_lists (own_of lists) (λ node. operations_of node s.operations)
      (λ node lt. own_is s lists node many own (subst (λ (n : ℕ). node < n) nodes lt))

-- the nodes of the state that leads to logs and last contents
pub led_and_driven : {G : Type 0} (hears : G → List Call → G → Type 0) (turns : ℕ) (issuing : Issuing) (gates : List G) (core : Core) (all : Bool) (size : Size)
    (operations : ℕ → List Op) (logs : List (List Entry)) (last : List Stamped) → logs ≡ logs_of core → last ≡ last_of core
    → (led : IsLedTo size core) × AreDrivenThrough hears turns issuing operations gates core led.schedule all
    → (led : AreLedTo size logs last) × AreDrivenThrough hears turns issuing operations gates led.core led.led.schedule all
unfolding led_by
led_and_driven hears turns issuing gates core all size operations logs last logs_are last_are driven =
    (led_by size core logs last driven.0 logs_are last_are, driven.1)
