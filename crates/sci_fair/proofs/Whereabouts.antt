-- Where the packet of a line that awaits an answer is between turns: the request in a lane of requests from the node, or the answer in a
-- lane of answers to it.
use Rattle.std.proofs.Common.{◌≡◌, ◌<◌, ◌≤◌, ◌*◌, ◌/◌, ◌%◌, ◌==◌, ◌&&◌, ℕ, zero, suc, Bool, true, false, cond, arith}
use Rattle.std.proofs.Common.{List, [], ◌∷◌, ◌++◌, filter, get_or, length}
use Rattle.std.proofs.Common.{None, refl, sym, ap, subst, ◌∙◌, ◌⊎◌, inl, inr}
use Rattle.std.proofs.lemmas.{Bool.{eqb-true}, List.Elements.{recursion_from_All}}
use Rattle.std.specs.{Prelude.{option_to_list}, List.{AllByRecursion, flat_map}}
use Rattle.sci_history.specs.Seen.{IsAmong}
use Rattle.sci_packets.specs.Table.{is_request}
use Rattle.sci_cache.specs.{State.{waits}, Line.{LineState}, Cache.{Letter, line_of}}
use Rattle.sci_core.specs.declared.lane.LaneKind.{LaneKind, TheVariants.{Requests, Answers}}
use Rattle.sci_core.specs.Core.{Core, lane_at, lane_of, lane_place, node_at}
use Rattle.sci_core.specs.{Node.{NodeOf, no_node}, Reached.{IsReached}, Sharing.{asker_of, is_about, packets_of, under_way}, Tidy.{HasItsPackets}}
use Rattle.sci_core.specs.WellFormed.{IsInLane}
use Rattle.sci_core.proofs.{Settling.Drains.{place_of}, Step.{Places.{place_answers, place_from, place_requests, place_to}, Steps.{lane_below}}}
use Rattle.sci_core.proofs.{Tidy.{TidyRuns.{reached_tidy}, TidySteps.{about_from, answer_asker, request_asker}}, WellFormed.WellFormedSteps.{reached_well}}
use Rattle.sci_policy.specs.Lines.{state_on}
use Rattle.sci_fair.proofs.WholeTurns.{among_flat, among_kept, among_right, sole}

-- ---- lists

among_parts : {X : Type 0} (x : X) (xs ys : List X) → IsAmong x (xs ++ ys) → IsAmong x xs ⊎ IsAmong x ys
among_parts x [] ys among = inr among
among_parts x (y ∷ xs) ys (inl same) = inl (inl same)
among_parts x (y ∷ xs) ys (inr among) = elim (among_parts x xs ys among) [
  | inl here ↦ inl (inr here)
  | inr there ↦ inr there
]

record InSome {X Y : Type 0} (f : X → List Y) (xs : List X) (d : X) (y : Y) : Type 0 where
  i : ℕ
  below : i < length xs
  among : IsAmong y (f (get_or xs i d))

among_some : {X Y : Type 0} (f : X → List Y) (xs : List X) (d : X) (y : Y) → IsAmong y (flat_map f xs) → InSome f xs d y
among_some f [] d y among = elim among [ ]
among_some f (x ∷ xs) d y among = elim (among_parts y (f x) (flat_map f xs) among) [
  | inl here ↦ record { i = zero; below = omega arith; among = here }
  | inr there ↦ (let rest = among_some f xs d y there in record { i = suc rest.i; below = (let low = rest.below in omega (arith, low)); among = rest.among })
]

among_if : {X : Type 0} (x y : X) (b : Bool) (xs : List X) → IsAmong x (cond b (y ∷ xs) xs) → ((x ≡ y) × (b ≡ true)) ⊎ IsAmong x xs
among_if x y true xs (inl same) = inl (same, refl)
among_if x y true xs (inr among) = inr among
among_if x y false xs among = inr among

pub among_filtered : {X : Type 0} (p : X → Bool) (x : X) (xs : List X) → IsAmong x (filter p xs) → (p x ≡ true) × IsAmong x xs
among_filtered p x [] among = elim among [ ]
among_filtered p x (y ∷ xs) among = elim (among_if x y (p y) (filter p xs) among) [
  | inl here ↦ (ap p here.0 ∙ here.1, inl here.0)
  | inr there ↦ (let rest = among_filtered p x xs there in (rest.0, inr rest.1))
]

-- what stands before an element, and behind it
pub record Stands {X : Type 0} (x : X) (xs : List X) : Type 0 where
  pub before : List X
  pub after : List X
  pub whole : xs ≡ before ++ x ∷ after

pub stands : {X : Type 0} (x : X) (xs : List X) → IsAmong x xs → Stands x xs
stands x [] among = elim among [ ]
stands x (y ∷ xs) (inl same) = record { before = []; after = xs; whole = ap (λ z. z ∷ xs) (sym same) }
stands x (y ∷ xs) (inr among) =
    let rest = stands x xs among in
    record { before = y ∷ rest.before; after = rest.after; whole = ap (λ zs. y ∷ zs) rest.whole }

and_right : (a b : Bool) → (a && b) ≡ true → b ≡ true
and_right true b is = is
and_right false b is = cc

-- ---- the packet

-- the request of node n's line is in a lane, or the answer
pub data Where (core : Core) (n line : ℕ) : Type 0 where
  Asked_at : (to : ℕ) (letter : Letter) → to < core.size.nodes → is_request letter.body ≡ true → is_about n line letter ≡ true
      → IsAmong letter (lane_of core Requests n to) → Where core n line
  Answered_from : (from : ℕ) (letter : Letter) → from < core.size.nodes → is_request letter.body ≡ false → is_about n line letter ≡ true
      → IsAmong letter (lane_of core Answers from n) → Where core n line

pub all_among : {X : Type 0} (P : X → Type 0) (x : X) (xs : List X) → AllByRecursion P xs → IsAmong x xs → P x
all_among P x [] all among = elim among [ ]
all_among P x (y ∷ xs) all (inl same) = subst P (sym same) all.0
all_among P x (y ∷ xs) all (inr among) = all_among P x xs all.1 among

pub in_lane : (core : Core) (place : ℕ) (letter : Letter) → IsReached core → IsAmong letter (lane_at core place)
    → IsInLane core.size.nodes core.size.lines place letter
in_lane core place letter reached among =
    let P = IsInLane core.size.nodes core.size.lines place in
    all_among P letter (lane_at core place) (recursion_from_All P (lane_at core place) ((reached_well core reached).each_lane place)) among

asker_is : (n line : ℕ) (letter : Letter) → is_about n line letter ≡ true → asker_of letter ≡ n
asker_is n line letter about = eqb-true (asker_of letter) n (and_right (letter.line == line) (asker_of letter == n) about)

no_waiting : (core : Core) (letter : Letter) → ((n : ℕ) → (node_at core n).waiting ≡ None)
    → IsAmong letter (flat_map (λ (part : NodeOf). option_to_list part.waiting) core.parts) → ⊥
no_waiting core letter free among =
    let at = among_some (λ (part : NodeOf). option_to_list part.waiting) core.parts no_node letter among in
    let none : option_to_list (node_at core at.i).waiting ≡ [] = ap option_to_list (free at.i) in
    let never : IsAmong letter [] = subst (IsAmong letter) none at.among in
    elim never [ ]

-- a packet of node n's ask that is in a lane is its request, in one from it, or the answer, in one to it
lane_where : (core : Core) (n line : ℕ) (letter : Letter) → IsReached core → is_about n line letter ≡ true → (place : ℕ) → place < length core.lanes
    → IsAmong letter (lane_at core place) → Where core n line
lane_where core n line letter reached about place below among =
    let well = reached_well core reached in
    let nodes = core.size.nodes in
    let asker = asker_is n line letter about in
    let lt : place < 2 * nodes * nodes = subst (λ (k : ℕ). place < k) well.sizes.lanes_long below in
    let is = in_lane core place letter reached among in
    elim (place_of nodes place well.sizes.some_node lt) [
      | inl at ↦
          let small = place_requests nodes at.from at.to at.sender at.receiver in
          let asks = (is.request (subst (λ (k : ℕ). k < nodes * nodes) at.here small)).asks in
          let from : at.from ≡ n =
          sym (place_from nodes Requests at.from at.to at.sender at.receiver)
          ∙ (ap (λ (k : ℕ). k / nodes % nodes) at.here ∙ (sym is.from ∙ (sym (request_asker letter asks) ∙ asker))) in
          Asked_at at.to letter at.receiver asks about
          (subst (λ (k : ℕ). IsAmong letter (lane_of core Requests k at.to)) from (subst (λ (k : ℕ). IsAmong letter (lane_at core k)) (sym at.here) among))
      | inr at ↦
          let great = place_answers nodes at.from at.to in
          let answers = (is.answer (subst (λ (k : ℕ). nodes * nodes ≤ k) at.here great)).answers in
          let to : at.to ≡ n =
          sym (place_to nodes Answers at.from at.to at.receiver)
          ∙ (ap (λ (k : ℕ). k % nodes) at.here ∙ (sym is.to ∙ (sym (answer_asker letter answers) ∙ asker))) in
          Answered_from at.from letter at.sender answers about
          (subst (λ (k : ℕ). IsAmong letter (lane_of core Answers at.from k)) to (subst (λ (k : ℕ). IsAmong letter (lane_at core k)) (sym at.here) among))
    ]

pub among_where : (core : Core) (n line : ℕ) (letter : Letter) → IsReached core → ((m : ℕ) → (node_at core m).waiting ≡ None)
    → IsAmong letter (packets_of core n line) → Where core n line
among_where core n line letter reached free among =
    let kept = among_filtered (is_about n line) letter (under_way core) among in
    elim (among_parts letter (flat_map (λ (part : NodeOf). option_to_list part.waiting) core.parts) (flat_map (λ
    (lane : List Letter). lane) core.lanes) kept.1) [
      | inl waiting ↦ absurd (no_waiting core letter free waiting)
      | inr lanes ↦
          let at = among_some (λ (lane : List Letter). lane) core.lanes [] letter lanes in
          lane_where core n line letter reached kept.0 at.i at.below at.among
    ]

has_one : (home : ℕ) (line : LineState) (packets : List Letter) → HasItsPackets home line packets → waits line.state ≡ true
    → (letter : Letter) × IsAmong letter packets
has_one home line [] has waiting = let clash : true ≡ false = sym waiting ∙ has in cc
has_one home line (letter ∷ packets) has waiting = (letter, inl refl)

-- a line that waits has its packet somewhere
pub where_is : (core : Core) (n line : ℕ) → IsReached core → ((m : ℕ) → (node_at core m).waiting ≡ None) → n < core.size.nodes → line < core.size.lines
    → waits (state_on (node_at core n) line) ≡ true → Where core n line
where_is core n line reached free some inside waiting =
    let one = has_one (line % core.size.nodes) (line_of (node_at core n).cache line) (packets_of core n line) (reached_tidy core reached n line some inside)
    waiting in
    among_where core n line one.0 reached free one.1

-- ---- there is no other

-- a packet of a lane is among its line's
pub lane_packets : (core : Core) (kind : LaneKind) (from to n line : ℕ) (letter : Letter) → IsReached core → from < core.size.nodes → to < core.size.nodes
    → is_about n line letter ≡ true → IsAmong letter (lane_of core kind from to) → IsAmong letter (packets_of core n line)
lane_packets core kind from to n line letter reached f t about among =
    let place = lane_place core.size.nodes kind from to in
    among_kept (is_about n line) letter (under_way core) about
    (among_right letter (flat_map (λ (part : NodeOf). option_to_list part.waiting) core.parts) (flat_map (λ (l : List Letter). l) core.lanes)
    (among_flat (λ (l : List Letter). l) core.lanes place [] letter (lane_below core kind from to (reached_well core reached) f t) among))

only_one : (one two : Letter) (packets : List Letter) → packets ≡ one ∷ [] → IsAmong two packets → two ≡ one
only_one one two packets is among = grind arith

-- two packets of a line are one
pub same_packet : (core : Core) (n line : ℕ) (one two : Letter) → IsReached core → n < core.size.nodes → line < core.size.lines
    → IsAmong one (packets_of core n line) → IsAmong two (packets_of core n line) → one ≡ two
same_packet core n line one two reached some inside first second = grind (arith, sole, reached_tidy, only_one)

-- a request in a lane from a node is about its line
pub request_about : (core : Core) (n to : ℕ) (letter : Letter) → IsReached core → n < core.size.nodes → to < core.size.nodes
    → IsAmong letter (lane_of core Requests n to) → (is_request letter.body ≡ true) × (letter.line < core.size.lines) × (is_about n letter.line letter ≡ true)
request_about core n to letter reached some t among =
    let is = in_lane core (lane_place core.size.nodes Requests n to) letter reached among in
    let asks = is.request (place_requests core.size.nodes n to some t) in (
      asks.asks,
      asks.letter_ok.about,
      about_from n letter.line letter refl (request_asker letter asks.asks ∙ (is.from ∙ place_from core.size.nodes Requests n to some t)),
    )
