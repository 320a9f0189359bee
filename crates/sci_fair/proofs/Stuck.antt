-- A machine in which no turn does anything has nothing pending. No answer is under way, so no answer waits, and each lane of
-- requests begins with a Cread for a list that awaits its home. Lanes are open, so no request under way changes a list at its
-- home. So no list awaits its home, and the lanes are empty. Then no line waits, and what the policy wants finds no full lane.
use Rattle.std.proofs.Common.{◌≡◌, ◌≤◌, ◌<◌, ◌*◌, ◌%◌, ℕ, true, false, arith, List, [], ◌∷◌, length}
use Rattle.std.proofs.Common.{Option, Some, None, refl, sym, ap, subst, ◌∙◌, inl, inr}
use Rattle.std.proofs.lemmas.{Bool.{cases_lt}, List.{get_or_past, Elements.{All-weaker, recursion_from_All}}}
use Rattle.std.specs.{Prelude.{IfSome, IsSome, option_to_list, slice_get}, List.{AllByRecursion, flat_map}}
use Rattle.sci_history.proofs.Order.{all-append, all-filter}
use Rattle.sci_words.specs.declared.event.AskKind.{AskKind}
use Rattle.sci_packets.specs.{declared.body.Body.TheVariants.{Cread}, Table.{is_request}}
use Rattle.sci_cache.specs.State.{CacheState, waits}
use Rattle.sci_cache.specs.{Line.{LineState}, Cache.{Letter, line_of}}
use Rattle.sci_core.specs.declared.lane.LaneKind.{LaneKind, TheVariants.{Requests, Answers}}
use Rattle.sci_core.specs.{Core.{Core, lane_at, lane_of, lane_place, node_at}, Node.{NodeOf, no_node, node_asking, pending_on}}
use Rattle.sci_core.specs.{Draining.{IsDrained}, Reached.{IsReached}, Sharing.{is_about, packets_of, under_way}}
use Rattle.sci_core.specs.{Tidy.{HasItsPackets, IsSentIn}, WellFormed.{IsInLane}}
use Rattle.sci_core.proofs.{Basics.Options.{of_some, found}, Settling.{Drains.{place_of}, Resting.{idle}}, Step.Places.{place_requests}}
use Rattle.sci_core.proofs.{Tidy.{Burdens.{flat_all}, TidyRuns.{reached_tidy}}, WellFormed.WellFormedSteps.{reached_well}}
use Rattle.sci_policy.specs.declared.want.Want.{Want, TheVariants.{Perform, Ask}}
use Rattle.sci_policy.specs.Lines.{state_on}
use Rattle.sci_policy.specs.Policy.{IsEnabledWant, PolicyOf, awaits_home, is_cread, next_wanted, ticked}
use Rattle.sci_policy.specs.{Rest.{Awaits, MayRest, NothingPending}}
use Rattle.sci_policy.proofs.{Alone.{beyond_out}, AlwaysWants.{may_rest}, Deciding.{keep_of, kept_if}, PolicyLaws.{kept_awaits_home, kept_is_cread}}
use Rattle.sci_policy.proofs.{Targets.{asked_target, waiting_target}, Wants.{wanted_enabled}}
use Rattle.sci_turn.specs.{Idle.{IsHeldUp}, Moves.{taking_event}, Posts.{post_at}}
use Rattle.sci_fair.specs.{Lanes.{AreOpen, IsOpen, changes_list}, Stuck.{IsStuck}}

-- ---- no answer is under way

not_full : (lane : List Letter) → lane ≡ [] → 4 ≤ length lane → ⊥
not_full lane none full = let short : length lane ≡ 0 = ap length none in omega arith

free_if : (core : Core) (n : ℕ) (waiting : Option Letter) → IfSome waiting (λ answer. 4 ≤ length (lane_of core Answers n answer.target))
    → ((answer : Letter) → waiting ≡ Some answer → lane_of core Answers n answer.target ≡ []) → waiting ≡ None
free_if core n None full empty = refl
free_if core n (Some answer) full empty = absurd (not_full (lane_of core Answers n answer.target) (empty answer refl) full)

free : (core : Core) → IsReached core → IsStuck core → (n : ℕ) → n < core.size.nodes → (node_at core n).waiting ≡ None
free core reached stuck n some =
    free_if core n (node_at core n).waiting ((stuck n some).reply)
    (λ answer waits. (stuck answer.target (waiting_target core n answer reached some waits)).answers n some)

-- ---- the front of a lane of requests is a Cread of a list that awaits its home

pub record IsKept (core : Core) (n : ℕ) (letter : Letter) : Type 0 where
  pub cread : letter.body ≡ Cread
  pub awaits : awaits_home (state_on (node_at core n) letter.line) ≡ true

kept_front : (policy : PolicyOf) (core : Core) (from n : ℕ) (letter : Letter) → policy.turns ≡ 0 → (node_at core n).waiting ≡ None
    → taking_event policy (node_at core n) from n (Some letter) ≡ None → IsKept core n letter
kept_front policy core from n letter let_go none takes = grind (arith, kept_if, keep_of, kept_is_cread, kept_awaits_home)

front_kept : (core : Core) → IsReached core → IsStuck core → (from n : ℕ) → from < core.size.nodes → n < core.size.nodes
    → (letter : Letter) (rest : List Letter) → lane_of core Requests from n ≡ letter ∷ rest → IsKept core n letter
front_kept core reached stuck from n f t letter rest is =
    kept_front (stuck n t).policy core from n letter (stuck n t).let_go (free core reached stuck n t)
    (subst (λ (lane : List Letter). taking_event (stuck n t).policy (node_at core n) from n (slice_get lane 0) ≡ None) is ((stuck n t).requests from f))

-- ---- so nothing under way changes a list at its home

-- a request, and none of these
pub record IsPlain (letter : Letter) : Type 0 where
  pub asks : is_request letter.body ≡ true
  pub changes : changes_list letter.body ≡ false

plain_all : (letters : List Letter) → AllByRecursion (λ l. is_request l.body ≡ true) letters → AllByRecursion (λ l. changes_list l.body ≡ false) letters
    → AllByRecursion IsPlain letters
plain_all [] asks changes = tt
plain_all (letter ∷ rest) asks changes = (record { asks = asks.0; changes = changes.0 }, plain_all rest asks.1 changes.1)

plain_lane : (lane : List Letter) → AllByRecursion (λ l. is_request l.body ≡ true) lane → IsOpen lane
    → ((letter : Letter) (rest : List Letter) → lane ≡ letter ∷ rest → letter.body ≡ Cread) → AllByRecursion IsPlain lane
plain_lane [] asks opened first = tt
plain_lane (letter ∷ rest) asks opened first =
    let cread : letter.body ≡ Cread = first letter rest refl in
    (record { asks = asks.0; changes = ap changes_list cread }, plain_all rest asks.1 (opened.0 (ap is_cread cread)))

plain_kind : (core : Core) → IsReached core → AreOpen core → IsStuck core → (kind : LaneKind) (from to : ℕ)
    → from < core.size.nodes → to < core.size.nodes → AllByRecursion IsPlain (lane_of core kind from to)
plain_kind core reached opened stuck Answers from to f t =
    subst (λ (lane : List Letter). AllByRecursion IsPlain lane) (sym ((stuck to t).answers from f)) tt
plain_kind core reached opened stuck Requests from to f t =
    let place = lane_place core.size.nodes Requests from to in
    let lane = lane_of core Requests from to in
    let within = place_requests core.size.nodes from to f t in
    plain_lane lane
    (recursion_from_All (λ l. is_request l.body ≡ true) lane
    (All-weaker (IsInLane core.size.nodes core.size.lines place) (λ l. is_request l.body ≡ true) (λ letter is. (is.request within).asks) lane
    ((reached_well core reached).each_lane place)))
    (opened place) (λ letter rest is. (front_kept core reached stuck from to f t letter rest is).cread)

plain_way : (core : Core) → IsReached core → AreOpen core → IsStuck core → AllByRecursion IsPlain (under_way core)
plain_way core reached opened stuck =
    let well = reached_well core reached in
    all-append IsPlain (flat_map (λ (part : NodeOf). option_to_list part.waiting) core.parts) (flat_map (λ (lane : List Letter). lane) core.lanes)
    (flat_all IsPlain (λ (part : NodeOf). option_to_list part.waiting) core.parts no_node (λ i below.
    let lt : i < core.size.nodes = let long = well.sizes.parts_long in omega arith in
    subst (λ (w : Option Letter). AllByRecursion IsPlain (option_to_list w)) (sym (free core reached stuck i lt)) tt))
    (flat_all IsPlain (λ (lane : List Letter). lane) core.lanes [] (λ i below.
    let lt : i < 2 * core.size.nodes * core.size.nodes = let long = well.sizes.lanes_long in omega arith in
    let some : 0 < core.size.nodes = let least = well.sizes.some_node in omega arith in
    elim (place_of core.size.nodes i some lt) [
      | inl at ↦ subst (λ (p : ℕ). AllByRecursion IsPlain (lane_at core p)) at.here
          (plain_kind core reached opened stuck Requests at.from at.to at.sender at.receiver)
      | inr at ↦ subst (λ (p : ℕ). AllByRecursion IsPlain (lane_at core p)) at.here
          (plain_kind core reached opened stuck Answers at.from at.to at.sender at.receiver)
    ]))

-- ---- so no list awaits its home

awaits_waits : (state : CacheState) → awaits_home state ≡ true → waits state ≡ true
awaits_waits state e = grind arith

no_change_sent : (home : ℕ) (state : CacheState) (letter : Letter) → awaits_home state ≡ true → IsSentIn home state letter
    → changes_list letter.body ≡ false → ⊥
no_change_sent home state letter awaits sent none = grind arith

plain_packets : (home : ℕ) (line : LineState) (packets : List Letter) → HasItsPackets home line packets → AllByRecursion IsPlain packets
    → awaits_home line.state ≡ true → ⊥
plain_packets home line [] has plain awaits = let so : true ≡ false = sym (awaits_waits line.state awaits) ∙ has in cc
plain_packets home line (letter ∷ []) has plain awaits = no_change_sent home line.state letter awaits (has.sent plain.0.asks) plain.0.changes
plain_packets home line (letter ∷ another ∷ packets) has plain awaits = elim has [ ]

none_awaits : (core : Core) → IsReached core → AreOpen core → IsStuck core → (n line : ℕ) → n < core.size.nodes
    → awaits_home (state_on (node_at core n) line) ≡ true → ⊥
none_awaits core reached opened stuck n line some awaits = elim (cases_lt line core.size.lines) [
  | inl inside ↦ plain_packets (line % core.size.nodes) (line_of (node_at core n).cache line) (packets_of core n line)
      (reached_tidy core reached n line some inside) (all-filter IsPlain (is_about n line) (under_way core) (plain_way core reached opened stuck)) awaits
  | inr past ↦ beyond_out core n line reached some past (awaits_waits (state_on (node_at core n) line) awaits)
]

-- ---- so nothing is under way

none_first : (lane : List Letter) → ((letter : Letter) (rest : List Letter) → lane ≡ letter ∷ rest → ⊥) → lane ≡ []
none_first [] never = refl
none_first (letter ∷ rest) never = absurd (never letter rest refl)

no_lane : (core : Core) → IsReached core → AreOpen core → IsStuck core → (kind : LaneKind) (from to : ℕ)
    → from < core.size.nodes → to < core.size.nodes → lane_of core kind from to ≡ []
no_lane core reached opened stuck Answers from to f t = (stuck to t).answers from f
no_lane core reached opened stuck Requests from to f t = none_first (lane_of core Requests from to) (λ letter rest is.
    none_awaits core reached opened stuck to letter.line t (front_kept core reached stuck from to f t letter rest is).awaits)

drained : (core : Core) → IsReached core → AreOpen core → IsStuck core → IsDrained core
drained core reached opened stuck =
    let well = reached_well core reached in
    let some : 0 < core.size.nodes = let least = well.sizes.some_node in omega arith in
    record {
      waiting = λ n. elim (cases_lt n core.size.nodes) [
        | inl lt ↦ free core reached stuck n lt
        | inr past ↦ ap (λ (node : NodeOf). node.waiting) (get_or_past core.parts n no_node (let long = well.sizes.parts_long in omega arith))
      ];
      lanes = λ place. elim (cases_lt place (2 * core.size.nodes * core.size.nodes)) [
        | inl lt ↦ elim (place_of core.size.nodes place some lt) [
          | inl at ↦ subst (λ (p : ℕ). lane_at core p ≡ []) at.here (no_lane core reached opened stuck Requests at.from at.to at.sender at.receiver)
          | inr at ↦ subst (λ (p : ℕ). lane_at core p ≡ []) at.here (no_lane core reached opened stuck Answers at.from at.to at.sender at.receiver)
        ]
        | inr past ↦ get_or_past core.lanes place [] (let long = well.sizes.lanes_long in omega arith)
      ];
    }

-- ---- so nothing is pending

none_waits : (core : Core) (n line : ℕ) → IsReached core → IsDrained core → n < core.size.nodes → waits (state_on (node_at core n) line) ≡ true → ⊥
none_waits core n line reached nothing some awaits = grind (arith, cases_lt, idle, beyond_out)

rests : (core : Core) (n line : ℕ) → IsReached core → IsDrained core → n < core.size.nodes → MayRest (node_at core n) → pending_on (node_at core n) line ≡ None
rests core n line reached nothing some (NothingPending none) = none line
rests core n line reached nothing some (Awaits other awaits) = absurd (none_waits core n other reached nothing some awaits)

wants_nothing : (core : Core) (n line : ℕ) (want : Option Want) → IsReached core → AreOpen core → (stuck : IsStuck core)
    → (some : n < core.size.nodes) → next_wanted (stuck n some).policy (node_at core n) ≡ want → IfSome want (IsHeldUp (post_at n core))
    → ((l : ℕ) (k : AskKind) → want ≡ Some (Ask l k) → IsSome (node_asking (node_at core n) l k)) → pending_on (node_at core n) line ≡ None
wants_nothing core n line None reached opened stuck some is held enabled =
    rests core n line reached (drained core reached opened stuck) some
    (may_rest (ticked (stuck n some).policy (node_at core n)) (node_at core n) n (record { core = core; reached = reached; some = some; here = refl }) is)
wants_nothing core n line (Some (Perform other)) reached opened stuck some is held enabled = elim held [ ]
wants_nothing core n line (Some (Ask other kind)) reached opened stuck some is held enabled =
    let sent = found (node_asking (node_at core n) other kind) (enabled other kind refl) in
    let full : 4 ≤ length (lane_of core Requests n sent.0.1.target) =
    of_some (λ (s : NodeOf × Letter). 4 ≤ length (lane_of core Requests n s.1.target)) (node_asking (node_at core n) other kind) sent.0 sent.1 held in
    let to = asked_target core n other kind sent.0 reached some sent.1 in
    absurd (not_full (lane_of core Requests n sent.0.1.target) (no_lane core reached opened stuck Requests n sent.0.1.target some to) full)

enabled_ask : (node : NodeOf) (want : Option Want) → IfSome want (IsEnabledWant node) → (l : ℕ) (k : AskKind) → want ≡ Some (Ask l k)
    → IsSome (node_asking node l k)
enabled_ask node want enabled l k is = of_some (IsEnabledWant node) want (Ask l k) is enabled

pub stuck_has_none : (core : Core) → IsReached core → AreOpen core → IsStuck core → (n line : ℕ) → n < core.size.nodes
    → pending_on (node_at core n) line ≡ None
stuck_has_none core reached opened stuck n line some =
    let node = node_at core n in
    wants_nothing core n line (next_wanted (stuck n some).policy node) reached opened stuck some refl (stuck n some).wants
    (enabled_ask node (next_wanted (stuck n some).policy node) (wanted_enabled (ticked (stuck n some).policy node) node))
