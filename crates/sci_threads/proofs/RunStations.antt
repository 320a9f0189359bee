-- The stations of a run, before it and after it.
use Rattle.std.proofs.Common.{◌≡◌, ◌<◌, ℕ, arith, Bool, true, List, [], ◌∷◌, ◌++◌, All, length, map, take, drop, Some, Result, Ok, Err}
use Rattle.std.proofs.{Common.{IfOk, Vec, refl, sym, ap, subst, ◌∙◌}}
use Rattle.std.proofs.lemmas.List.{append-nil, drop_all, get_or-map, length-map, take_all, Elements.{All-map}}
use Rattle.std.proofs.lemmas.List.{FromFn.{get_or-map-range_with_len, length-map-range_with_len}}
use Rattle.std.proofs.lemmas.Option.{get_or_from_slice_get, slice_get-get_or, slice_get-map, slice_get_within}
use Rattle.std.specs.Prelude.{slice_get, slice_index_or, option_map}
use Rattle.atomic_table.specs.Seated.{TableId}
use Rattle.sci_words.specs.declared.{operation.Op.{Op}, stamped.Stamped.{Stamped}}
use Rattle.sci_history.specs.{declared.entry.Entry.{Entry}, Placed.{log_of}}
use Rattle.sci_text.specs.Script.{ScriptValue}
use Rattle.sci_core.specs.{Size.{Size}, Core.{Core}, Outcome.{logs_of}}
use Rattle.sci_core.specs.{Sharing.{last_of}}
use Rattle.sci_lanes.specs.{Shown.{me_of, opening_part}, Ends.{EndOf, LanesOf, opening_ends}}
use Rattle.sci_lanes.specs.Gathering.{AreAll, AreOf, HaveLogs, IsLedTo, IsOf}
use Rattle.sci_lanes.proofs.{Gathered.{logs_made}}
use Rattle.sci_drive.specs.{Driving.{HasSubmittedNothing}, Script.{IsWholeLogOf}}
use Rattle.sci_drive.proofs.Fresh.{opened_fresh}
use Rattle.sci_station.specs.{Ends.{IsSameEnd}, Station.{StationOf, end_in, node_in, opening_station}}
use Rattle.sci_station.proofs.Belonging.{opened_of, same_of}
use Rattle.sci_text.specs.Script.{operations_of}
use Rattle.sci_drive.specs.ScriptLogs.{IsOfEachLog, IsOfEachLogOf}
use Rattle.sci_threads.specs.Shares.{AreLedTo, own_of}

-- ---- sizes

-- ---- lists

-- what holds of each element holds of the one that stands at a place
pub all_there : {A : Type 0} (P : A → Type 0) (xs : List A) (k : ℕ) (x : A) → All P xs → slice_get xs k ≡ Some x → P x
all_there P xs k x all at = subst P (get_or_from_slice_get xs k x x at) (all k x (slice_get_within xs k x at))

-- all stand in front of an empty rest
pub all_in_front : {A : Type 0} (front rest all : List A) → length rest ≡ 0 → front ++ rest ≡ all → front ≡ all
all_in_front front [] all none is = sym (append-nil front) ∙ is
all_in_front front (x ∷ xs) all none is = absurd (omega (arith, none))

-- ---- the operations of each node

-- the operations that stand under a node's number are the node's
pub own_is : {Z : Type 0} (s : ScriptValue) (all : List (Vec Op Z)) (node : ℕ) → length all ≡ s.nodes
    → ((n : ℕ) (d : Vec Op Z) → n < s.nodes → (slice_index_or all n d).items ≡ operations_of n s.operations) → node < s.nodes
    → own_of all node ≡ operations_of node s.operations
own_is s [] node long each lt = absurd (omega arith)
own_is s (v ∷ all) node long each lt = get_or-map (λ own. own.items) (v ∷ all) node v [] (omega arith) ∙ each node v lt

-- ---- the stations of a new fabric

module _ (table : TableId) (size : Size) (count : ℕ) where
  abbrev pub opened : List StationOf
  opened = map opening_station (opening_ends table size count)

  pub opened_long : length opened ≡ count
  opened_long = length-map (opening_ends table size count) opening_station
      ∙ length-map-range_with_len (λ n. record { table = table; part = opening_part size n }) 0 count

  pub opened_at : (k : ℕ) (d : StationOf) → k < count → slice_index_or opened k d ≡ opening_station (record { table = table; part = opening_part size k })
  opened_at k d lt =
      let make : ℕ → EndOf = λ n. record { table = table; part = opening_part size n } in
      let long = length-map-range_with_len make 0 count in
      get_or-map opening_station (opening_ends table size count) k (make k) d (omega arith)
      ∙ ap opening_station (get_or-map-range_with_len make 0 count k k (make k) lt (omega arith))

  pub opened_known : All (λ s. me_of s.end.part < count) opened
  opened_known k d lt = let long = opened_long in subst (λ (s : StationOf). me_of s.end.part < count) (sym (opened_at k d (omega arith))) (omega arith)

  pub opened_all_fresh : All (λ s. HasSubmittedNothing (node_in s)) opened
  opened_all_fresh k d lt = let long = opened_long in
      subst (λ (s : StationOf). HasSubmittedNothing (node_in s)) (sym (opened_at k d (omega arith))) (opened_fresh k size)

-- ---- the stations after the run

-- the same stations, each later
pub record AreSame (old new : List StationOf) : Type 0 where
  pub long : length new ≡ length old
  pub each : (k : ℕ) (d : StationOf) → k < length old → IsSameEnd (slice_index_or old k d).end (slice_index_or new k d).end

module _ (table : TableId) (size : Size) (count : ℕ) (new : List StationOf) (same : AreSame (opened table size count) new) where
  new_long : length new ≡ count
  new_long = same.long ∙ opened_long table size count

  same_at : (k : ℕ) (d : StationOf) → k < count → IsSameEnd (record { table = table; part = opening_part size k }) (slice_index_or new k d).end
  same_at k d lt = grind (arith, opened_long, opened_at)

  pub still_all : AreAll count (map end_in new)
  still_all = record {
    count = length-map new end_in ∙ new_long;
    every = λ n lt.
        let long = new_long in
        let d : StationOf = opening_station (record { table = table; part = opening_part size n }) in
        let here : slice_get new n ≡ Some (slice_index_or new n d) = slice_get-get_or new n d (omega arith) in record {
          place = n;
          end = (slice_index_or new n d).end;
          there = slice_get-map end_in new n ∙ ap (option_map end_in) here;
          numbered = (same_at n d lt).node.me;
        };
  }

  -- of one fabric before, of it after
  same_one : (f : LanesOf) → f.table ≡ table → f.size ≡ size → (k : ℕ) (d : StationOf) → k < count → IsOf f (slice_index_or new k d).end
  same_one f named sized k d lt =
      let first = opened_of table size (k ∷ []) 0 (record { table = table; part = opening_part size k }) refl in
      let here : IsOf f (record { table = table; part = opening_part size k }) = record { table = first.table ∙ sym named; sized = first.sized ∙ sym sized } in
      same_of f (record { table = table; part = opening_part size k }) (slice_index_or new k d).end (same_at k d lt) here

  pub still_of : (f : LanesOf) → f.table ≡ table → f.size ≡ size → AreOf f (map end_in new)
  still_of f named sized place end at =
      let mapped = length-map new end_in in
      let long = new_long in
      let within = slice_get_within (map end_in new) place end at in
      let d : StationOf = opening_station end in
      let there : (slice_index_or new place d).end ≡ end =
      sym (get_or-map end_in new place d end (omega arith)) ∙ get_or_from_slice_get (map end_in new) place end end at in
      subst (IsOf f) there (same_one f named sized place d (omega arith))

-- ---- what the logs say

-- a log that each end's log is, of the operations that stand under its number
pub logs_have : (Good : List Op → List Entry → Type 0) (operations : ℕ → List Op) (ends : List EndOf) (logs : List (List Entry)) (count : ℕ) → AreAll count ends
    → HaveLogs ends logs → All (λ end. Good (operations (me_of end.part)) end.part.node.log) ends
    → (node : ℕ) → node < count → Good (operations node) (log_of logs node)
logs_have Good operations ends logs count all have good node lt =
    let it = all.every node lt in
    let said = all_there (λ end. Good (operations (me_of end.part)) end.part.node.log) ends it.place it.end good it.there in
    let log = have it.place it.end it.there in
    subst (λ (n : ℕ). Good (operations n) (log_of logs n)) it.numbered (subst (λ (l : List Entry). Good (operations (me_of it.end.part)) l) (sym log) said)

-- what is so of the lists of operations that stand under the nodes' numbers, is so of the script
pub of_script : {Z : Type 0} (Good : List Op → List Entry → Type 0) (s : ScriptValue) (operations : List (Vec Op Z)) (logs : List (List Entry))
    → length operations ≡ s.nodes
    → ((n : ℕ) (d : Vec Op Z) → n < s.nodes → (slice_index_or operations n d).items ≡ operations_of n s.operations) → (nodes : ℕ) → nodes ≡ s.nodes
    → IsOfEachLog Good nodes (own_of operations) logs → IsOfEachLogOf Good s logs
of_script Good s operations logs many own nodes is good node lt =
    subst (λ (ops : List Op). Good ops (log_of logs node)) (own_is s operations node many own lt) (good node (subst (λ (n : ℕ). node < n) (sym is) lt))

-- a slice that is written back over a vector of its length is all of it
pub written_back : {A : Type 0} (len : ℕ) (new old : List A) → len ≡ length old → length new ≡ length old → take len (new ++ drop (length new) old) ≡ new
written_back len new old is long =
    ap (λ rest. take len (new ++ rest)) (drop_all (length new) old (omega (arith, long)))
    ∙ (ap (take len) (append-nil new) ∙ take_all len new (omega (arith, is, long)))

-- a log is whole if its share has finished
pub whole_if : {E : Type 0} (script : List Op) (log : List Entry) (r : Result Bool E) → IfOk r (λ b. b ≡ true → IsWholeLogOf script log) → r ≡ Ok true
    → IsWholeLogOf script log
whole_if script log (Ok b) h is = h cc
whole_if script log (Err e) h is = absurd cc

-- what is so of each share's end, of the ends
pub each_end : {A : Type 0} (station : A → StationOf) (Good : EndOf → Type 0) (shares : List A) → All (λ s. Good (station s).end) shares
    → All Good (map end_in (map station shares))
each_end station Good shares all = All-map Good end_in (map station shares) (All-map (λ (s : StationOf). Good s.end) station shares all)

module _ {A : Type 0} (station : A → StationOf) where
  -- what a run does to each share, it does to each station
  pub same_stations : (old new : List A) → length new ≡ length old
      → ((k : ℕ) (d : A) → k < length old → IsSameEnd (station (slice_index_or old k d)).end (station (slice_index_or new k d)).end)
      → AreSame (map station old) (map station new)
  same_stations [] new long each = record { long = length-map new station ∙ (long ∙ sym (length-map [] station)); each = λ k d lt. absurd (omega arith) }
  same_stations (x ∷ xs) new long each = record {
    long = length-map new station ∙ (long ∙ sym (length-map (x ∷ xs) station));
    each = λ k d lt.
        let mapped = length-map (x ∷ xs) station in
        let within : k < length (x ∷ xs) = omega arith in
        let before = get_or-map station (x ∷ xs) k x d within in
        let after = get_or-map station new k x d (omega (arith, long)) in
        subst (λ (s : StationOf). IsSameEnd s.end (slice_index_or (map station new) k d).end) (sym before)
        (subst (λ (s : StationOf). IsSameEnd (station (slice_index_or (x ∷ xs) k x)).end s.end) (sym after) (each k x within));
  }

  -- The stations that come out of the slice which is written back over the vector that lent it: they are of the fabric
  -- that they were of, and all of its.
  pub came_back : (f : LanesOf) (size : Size) (count len : ℕ) (before after : List A) (left : List StationOf) → f.size ≡ size
      → map station before ≡ opened f.table size count → len ≡ length before → length after ≡ length before
      → ((k : ℕ) (d : A) → k < length before → IsSameEnd (station (slice_index_or before k d)).end (station (slice_index_or after k d)).end)
      → left ≡ map station (take len (after ++ drop (length after) before))
      → AreOf f (map end_in left) × AreAll count (map end_in left)
  came_back f size count len before after left sized made is long each comes =
      let same : AreSame (opened f.table size count) (map station after) =
      subst (λ (old : List StationOf). AreSame old (map station after)) made (same_stations before after long each) in
      let here : left ≡ map station after = comes ∙ ap (map station) (written_back len after before is long) in (
        subst (λ (xs : List StationOf). AreOf f (map end_in xs)) (sym here) (still_of f.table size count (map station after) same f refl sized),
        subst (λ (xs : List StationOf). AreAll count (map end_in xs)) (sym here) (still_all f.table size count (map station after) same),
      )

-- the logs and last contents of a state are led to as it is
unfoldable pub led_by : (size : Size) (core : Core) (logs : List (List Entry)) (last : List Stamped) → IsLedTo size core → logs ≡ logs_of core
    → last ≡ last_of core → AreLedTo size logs last
led_by size core logs last led logs_are last_are = record {
  core = core;
  led = led;
  logs_are = logs_are;
  made = logs_made size core logs led logs_are;
  last_are = last_are;
}
