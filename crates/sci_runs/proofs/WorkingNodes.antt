-- The nodes of a run at work.
use Rattle.std.proofs.Common.{◌≡◌, ◌<◌, ◌≤◌, ℕ, arith, All, Ok, List, [], ◌∷◌, length, map, set, Vec, refl, sym, ap, subst, ◌∙◌, inl, inr}
use Rattle.std.proofs.lemmas.Bool.{cases_eq, cases_lt}
use Rattle.std.proofs.lemmas.List.{get_or-map, get_or-set_other, get_or-set_same, get_or_past, length-map, length-set, map-set}
use Rattle.std.specs.{Prelude.{◌⊎◌, IsErr, Result, slice_index_or}, declared.alloc.AllocError.{AllocError}}
use Rattle.sci_words.specs.declared.{event.Event.{Event}, extent.Extent.{Extent}, limits.TheConstants.{MAX_OPERATIONS}, operation.Op.{Op}}
use Rattle.sci_text.specs.Script.{ScriptValue}
use Rattle.sci_core.specs.{Core.{Core, node_at, opening}, Node.{NodeOf, opening_node}, Size.{Size, size_of}}
use Rattle.sci_core.proofs.Schedules.{node_opened}
use Rattle.sci_policy.specs.{Deeds.{Deed}, Policy.{PolicyOf, opening_policy}}
use Rattle.sci_drive.specs.declared.driver.{Round.{Round}, Issuing.{Issuing}}
use Rattle.sci_drive.specs.Driving.{DriverOf, HasSubmittedNothing, IsDriven, IsInOrder, opening_driver}
use Rattle.sci_drive.proofs.{Drives.{opens}, InOrder.{opens_in_order}}
use Rattle.sci_text.specs.Script.{operations_of}
use Rattle.sci_drive.proofs.Fresh.{opened_fresh, sized_for}
use Rattle.sci_runs.specs.{Deeds.{Does, Fills, FillsTurning}, Played.{Begins, FillsAt, IsOpenRound, IsRound, StaysBut}}
use Rattle.sci_runs.specs.Players.{AreAtWork, IsAtWork, TableOf, moment_of}
use Rattle.sci_runs.specs.Recorded.{RecorderOf, SparesOthers, course_of, with_limit}

-- ---- a new machine

opened_driver : {Z : Type 0} (s : ScriptValue) (issuing : Issuing) (all : List (Vec Op Z)) (drivers : List DriverOf) (n : ℕ) (d : DriverOf)
    → length all ≡ s.nodes
    → ((k : ℕ) (own : Vec Op Z) → k < s.nodes → (slice_index_or all k own).items ≡ operations_of k s.operations) → n < s.nodes
    → drivers ≡ map (λ own. opening_driver own.items issuing) all
    → slice_index_or drivers n d ≡ opening_driver (operations_of n s.operations) issuing
opened_driver s issuing [] drivers n d long each lt is = absurd (omega (arith, long, lt))
opened_driver s issuing (v ∷ all) drivers n d long each lt is =
    ap (λ (ds : List DriverOf). slice_index_or ds n d) is
    ∙ (get_or-map (λ own. opening_driver own.items issuing) (v ∷ all) n v d (omega (arith, long, lt))
    ∙ ap (λ (ops : List Op). opening_driver ops issuing) (each n v lt))

opened_work : (s : ScriptValue) (issuing : Issuing) (n : ℕ) (node : NodeOf) → HasSubmittedNothing node
    → IsAtWork s issuing n (opening_driver (operations_of n s.operations) issuing) node
opened_work s issuing n node fresh = grind (arith, opens, opens_in_order)

pub all_opened : {Z : Type 0} (s : ScriptValue) (issuing : Issuing) (recorder : RecorderOf) (extent : Extent) (limit : ℕ) (all : List (Vec Op Z))
    (drivers : List DriverOf) (policies : List PolicyOf) → recorder.core ≡ opening (size_of extent limit)
    → extent.nodes ≡ s.nodes → extent.lines ≡ s.lines → extent.slots ≡ s.slots → length all ≡ s.nodes
    → ((k : ℕ) (own : Vec Op Z) → k < s.nodes → (slice_index_or all k own).items ≡ operations_of k s.operations)
    → drivers ≡ map (λ own. opening_driver own.items issuing) all
    → AreAtWork (record { script = s; issuing = issuing; recorder = recorder; drivers = drivers; policies = policies })
all_opened s issuing recorder extent limit all drivers policies opens nodes lines slots long each is =
    let size = size_of extent limit in
    record {
      sized = ap (λ (core : Core). with_limit MAX_OPERATIONS core.size) opens ∙ sized_for extent s nodes lines slots;
      many = ap length is ∙ (length-map all (λ own. opening_driver own.items issuing) ∙ long);
      each = λ n d lt.
          let node : node_at recorder.core n ≡ opening_node n size =
          ap (λ (core : Core). node_at core n) opens ∙ node_opened size n (omega (arith, lt, nodes)) in
          subst (λ (driver : DriverOf). IsAtWork s issuing n driver (node_at recorder.core n)) (sym (opened_driver s issuing all drivers n d long each lt is))
          (subst (λ (part : NodeOf). IsAtWork s issuing n (opening_driver (operations_of n s.operations) issuing) part) (sym node)
          (opened_work s issuing n (opening_node n size) (opened_fresh n size)));
    }

-- as many operations as a node has at most
room_for : {Z : Type 0} (s : ScriptValue) (limit : ℕ) (all : List (Vec Op Z)) → length all ≡ s.nodes
    → ((k : ℕ) (own : Vec Op Z) → k < s.nodes → (slice_index_or all k own).items ≡ operations_of k s.operations)
    → All (λ (own : Vec Op Z). length own.items ≤ limit) all → (n : ℕ) → n < s.nodes → length (operations_of n s.operations) ≤ limit
room_for s limit [] long each few n lt = absurd (omega (arith, long, lt))
room_for s limit (v ∷ all) long each few n lt =
    subst (λ (ops : List Op). length ops ≤ limit) (each n v lt) (few n v (omega (arith, long, lt)))

-- the policies of nodes that have done nothing
policies_open : {A : Type 0} (g : A → PolicyOf) (players : List A) → All (λ player. g player ≡ opening_policy) players → (n : ℕ)
    → slice_index_or (map g players) n opening_policy ≡ opening_policy
policies_open g [] all n = refl
policies_open g (player ∷ players) all n = elim (cases_lt n (length (player ∷ players))) [
  | inl lt ↦ get_or-map g (player ∷ players) n player opening_policy lt ∙ all n player lt
  | inr le ↦ let long = length-map (player ∷ players) g in get_or_past (map g (player ∷ players)) n opening_policy (omega (arith, long, le))
]

pub begins : {A Z : Type 0} (f : A → DriverOf) (g : A → PolicyOf) (s : ScriptValue) (issuing : Issuing) (core : Core) (events : List Event) (extent : Extent)
    (limit : ℕ) (all : List (Vec Op Z)) (players : List A) → events ≡ [] → core ≡ opening (size_of extent limit)
    → extent.nodes ≡ s.nodes → extent.lines ≡ s.lines → extent.slots ≡ s.slots → length all ≡ s.nodes
    → ((k : ℕ) (own : Vec Op Z) → k < s.nodes → (slice_index_or all k own).items ≡ operations_of k s.operations)
    → 1 ≤ limit → limit ≤ MAX_OPERATIONS → All (λ (own : Vec Op Z). length own.items ≤ limit) all
    → map f players ≡ map (λ own. opening_driver own.items issuing) all → All (λ player. g player ≡ opening_policy) players
    → Begins s issuing (record { core = core; events = events; drivers = map f players; policies = map g players })
begins f g s issuing core events extent limit all players none opens nodes lines slots long each some most few is remember = record {
  limit = limit;
  some = some;
  most = most;
  room = room_for s limit all long each few;
  core = opens ∙ ap (λ (z : Size). opening (with_limit limit z)) (sized_for extent s nodes lines slots);
  none = none;
  many = ap length is ∙ (length-map all (λ own. opening_driver own.items issuing) ∙ long);
  drivers = λ n d lt. opened_driver s issuing all (map f players) n d long each lt is;
  policies = policies_open g players remember;
}

-- ---- a round

-- what stands at a place of a list where one element was replaced
placed_here : {A B : Type 0} (h : A → B) (players : List A) (k n : ℕ) (new : A) (d : B) → k ≡ n → n < length players
    → slice_index_or (map h (set players k new)) n d ≡ h new
placed_here h players k n new d same lt = grind (arith, length-map, map-set, get_or-set_same)

placed_other : {A B : Type 0} (h : A → B) (players : List A) (k n : ℕ) (new : A) → k ≡ n → StaysBut n (map h players) (map h (set players k new))
placed_other h players k n new same m d other =
    ap (λ (xs : List _). slice_index_or xs m d) (map-set h players k new) ∙ get_or-set_other (map h players) k m (h new) d (λ is. other (is ∙ same))

-- the node that was driven on, and the others, which stay
goes_on : (table : TableOf) (n : ℕ) (was driver : DriverOf) (recorder : RecorderOf) (drivers : List DriverOf) (policies : List PolicyOf)
    → AreAtWork table → n < table.script.nodes
    → slice_index_or table.drivers n driver ≡ was → drivers ≡ set table.drivers n driver
    → SparesOthers n table.recorder.core recorder.core → driver.script ≡ was.script → IsDriven driver (node_at recorder.core n)
    → (IsInOrder was (node_at table.recorder.core n) → IsInOrder driver (node_at recorder.core n))
    → AreAtWork (record { script = table.script; issuing = table.issuing; recorder = recorder; drivers = drivers; policies = policies })
goes_on table n was driver recorder drivers policies work some stood is spares script driven order =
    let before : IsAtWork table.script table.issuing n was (node_at table.recorder.core n) =
    subst (λ (x : DriverOf). IsAtWork table.script table.issuing n x (node_at table.recorder.core n)) stood (work.each n driver some) in
    let here : IsAtWork table.script table.issuing n driver (node_at recorder.core n) =
    record { script_is = script ∙ before.script_is; driven = driven; ordered = λ in_order. order (before.ordered in_order) } in
    let many = work.many in
    record {
      sized = ap (with_limit MAX_OPERATIONS) spares.size ∙ work.sized;
      many = ap length is ∙ (length-set table.drivers n driver ∙ work.many);
      each = λ m d lt. elim (cases_eq m n) [
        | inl same ↦
            let there : slice_index_or drivers m d ≡ driver =
            ap (λ (ds : List DriverOf). slice_index_or ds m d) is
            ∙ (ap (λ (k : ℕ). slice_index_or (set table.drivers n driver) k d) same
            ∙ get_or-set_same table.drivers n driver d (omega (arith, some, many))) in
            subst (λ (x : DriverOf). IsAtWork table.script table.issuing m x (node_at recorder.core m)) (sym there)
            (subst (λ (k : ℕ). IsAtWork table.script table.issuing k driver (node_at recorder.core k)) (sym same) here)
        | inr other ↦
            let there : slice_index_or drivers m d ≡ slice_index_or table.drivers m d =
            ap (λ (ds : List DriverOf). slice_index_or ds m d) is ∙ get_or-set_other table.drivers n m driver d other in
            subst (λ (x : DriverOf). IsAtWork table.script table.issuing m x (node_at recorder.core m)) (sym there)
            (subst (λ (part : NodeOf). IsAtWork table.script table.issuing m (slice_index_or table.drivers m d) part) (sym (spares.others m other))
            (work.each m d lt))
      ];
    }

-- a player that stands at node n's place, and its driver
module _ {A : Type 0} (f : A → DriverOf) (g : A → PolicyOf) (script : ScriptValue) (issuing : Issuing) (recorder : RecorderOf) (players : List A)
    (table : TableOf) (n k : ℕ)
    (player : A) where
  abbrev view : TableOf
  view = record { script = script; issuing = issuing; recorder = recorder; drivers = map f players; policies = map g players }

  -- the view when this player has done a round
  abbrev after : A → RecorderOf → TableOf
  after new later = record { script = script; issuing = issuing; recorder = later; drivers = map f (set players k new); policies = map g (set players k new) }

  some_node : view ≡ table → n < table.script.nodes → n < script.nodes
  some_node is lt = subst (λ (t : TableOf). n < t.script.nodes) (sym is) lt

  stands : AreAtWork view → n < script.nodes → k ≡ n → player ≡ slice_index_or players k player → (d : DriverOf) → slice_index_or (map f players) n d ≡ f player
  stands work some same value d = grind (arith, length-map, get_or-map)

  pub player_at : view ≡ table → AreAtWork view → n < table.script.nodes → k ≡ n → player ≡ slice_index_or players k player
      → IsAtWork script issuing n (f player) (node_at recorder.core n)
  player_at is work lt same value =
      let some = some_node is lt in
      subst (λ (driver : DriverOf). IsAtWork script issuing n driver (node_at recorder.core n)) (stands work some same value (f player))
      (work.each n (f player) some)

  -- it does a round
  pub round_on : view ≡ table → AreAtWork view → n < table.script.nodes → k ≡ n → player ≡ slice_index_or players k player → (new : A) (later : RecorderOf)
      → SparesOthers n recorder.core later.core → (f new).script ≡ (f player).script
      → IsDriven (f new) (node_at later.core n) → (IsInOrder (f player) (node_at recorder.core n) → IsInOrder (f new) (node_at later.core n))
      → AreAtWork (after new later)
  round_on is work lt same value new later spares own driven order =
      let some = some_node is lt in
      let drivers : map f (set players k new) ≡ set (map f players) n (f new) = map-set f players k new ∙ ap (λ (i : ℕ). set (map f players) i (f new)) same in
      goes_on view n (f player) (f new) later (map f (set players k new)) (map g (set players k new)) work some
      (stands work some same value (f new)) drivers spares own driven order

  -- and it is a round of the run
  pub round_is : view ≡ table → AreAtWork view → n < table.script.nodes → k ≡ n → player ≡ slice_index_or players k player → (new : A) (later : RecorderOf)
      (round : Round) (deeds : List Deed) → IsOpenRound deeds (f player) (f new) (node_at recorder.core n) (node_at later.core n) (Ok round)
      → IsDriven (f new) (node_at later.core n) → Does n deeds (g player) (course_of recorder) (g new) (course_of later)
      → IsRound n (moment_of table) (moment_of (after new later))
  round_is is work lt same value new later round deeds goes driven does =
      let some = some_node is lt in
      let within : n < length players = let many = work.many in let long = length-map players f in omega (arith, some, many, long) in
      let here : player ≡ slice_index_or players n player = value ∙ ap (λ (i : ℕ). slice_index_or players i player) same in
      let was : slice_index_or (map g players) n opening_policy ≡ g player = get_or-map g players n player opening_policy within ∙ ap g (sym here) in
      let now : slice_index_or (map g (set players k new)) n opening_policy ≡ g new = placed_here g players k n new opening_policy same within in
      subst (λ (t : TableOf). IsRound n (moment_of t) (moment_of (after new later))) is (record {
        some = subst (λ (size : Size). n < size.nodes) (sym work.sized) some;
        round = round;
        deeds = deeds;
        goes = λ d.
            subst (λ (driver : DriverOf). IsOpenRound deeds driver (slice_index_or (map f (set players k new)) n d) (node_at recorder.core n)
            (node_at later.core n) (Ok round)) (sym (stands work some same value d))
            (subst (λ (driver : DriverOf). IsOpenRound deeds (f player) driver (node_at recorder.core n) (node_at later.core n) (Ok round))
            (sym (placed_here f players k n new d same within)) goes);
        does = subst (λ (policy : PolicyOf).
            Does n deeds policy (course_of recorder) (slice_index_or (map g (set players k new)) n opening_policy) (course_of later)) (sym was)
            (subst (λ (policy : PolicyOf). Does n deeds (g player) (course_of recorder) policy (course_of later)) (sym now) does);
        driven = λ d. subst (λ (driver : DriverOf). IsDriven driver (node_at later.core n)) (sym (placed_here f players k n new d same within)) driven;
        many = length-map (set players k new) f ∙ (length-set players k new ∙ sym (length-map players f));
        drivers = placed_other f players k n new same;
        policies = placed_other g players k n new same;
      })

  -- and one that fills the schedule
  pub round_fills : view ≡ table → AreAtWork view → n < table.script.nodes → k ≡ n → player ≡ slice_index_or players k player → (new : A)
      (later : RecorderOf) (result : Result Round AllocError) (deeds : List Deed)
      → IsOpenRound deeds (f player) (f new) (node_at recorder.core n) (node_at later.core n) result
      → Fills n deeds (g player) (course_of recorder) ⊎ (IsErr result × FillsTurning n deeds (g player) (course_of recorder)) → FillsAt n (moment_of table)
  round_fills is work lt same value new later result deeds goes fills =
      let some = some_node is lt in
      let within : n < length players = let many = work.many in let long = length-map players f in omega (arith, some, many, long) in
      let here : player ≡ slice_index_or players n player = value ∙ ap (λ (i : ℕ). slice_index_or players i player) same in
      let was : slice_index_or (map g players) n opening_policy ≡ g player = get_or-map g players n player opening_policy within ∙ ap g (sym here) in
      subst (λ (t : TableOf). FillsAt n (moment_of t)) is (record {
        driver = f new;
        node = node_at later.core n;
        result = result;
        deeds = deeds;
        goes = λ d.
            subst (λ (driver : DriverOf). IsOpenRound deeds driver (f new) (node_at recorder.core n) (node_at later.core n) result)
            (sym (stands work some same value d)) goes;
        fills = subst (λ (policy : PolicyOf).
            Fills n deeds policy (course_of recorder) ⊎ (IsErr result × FillsTurning n deeds policy (course_of recorder))) (sym was) fills;
      })
