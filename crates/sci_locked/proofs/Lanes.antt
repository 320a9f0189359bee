-- How long the lanes are after an event of a node, and what is at their front.
use Rattle.std.proofs.Common.{◌≡◌, ◌≤◌, ◌<◌, ◌⊎◌, ℕ, Bool, true, false, if◌then◌else◌, arith, List, [], ◌∷◌, ◌++◌, length, get_or, set, Option, Some, None}
use Rattle.std.proofs.{Common.{refl, sym, ap, subst, ◌∙◌, inl, inr}, lemmas.Bool.{cases_eq, cases_lt}}
use Rattle.std.proofs.lemmas.{Grind.{get_or-set_at}, List.{get_or-set_other, length_push, set_past}}
use Rattle.std.specs.Prelude.{nat_lt, slice_get}
use Rattle.sci_words.specs.declared.event.Event.{Event}
use Rattle.sci_cache.specs.Cache.{Letter}
use Rattle.sci_core.specs.declared.lane.LaneKind.{LaneKind}
use Rattle.sci_core.specs.Core.{Core, Sends, Takes, lane_at, lane_of, lane_place, node_at, node_of, sent_by, side, stepping, taken_as, taken_from}
use Rattle.sci_core.specs.{Core.{with_lane, with_node}, Node.{NodeOf}}
use Rattle.sci_turn.specs.Posts.{IsFront, IsMade, IsTaken, MayTakeFront, post_at}
use Rattle.sci_turn.proofs.{Stills.{still_itself}, Working.{stepped}}
use Rattle.sci_locked.specs.Lent.{KeepsRoom}

lane_set : (lanes : List (List Letter)) (place p : ℕ) (lane : List Letter)
    → (get_or (set lanes place lane) p [] ≡ get_or lanes p []) ⊎ ((p ≡ place) × (get_or (set lanes place lane) p [] ≡ lane))
lane_set lanes place p lane =
    elim (cases_eq p place) [
      | inl same ↦
          elim (cases_lt place (length lanes)) [
            | inl below ↦ inr (same, get_or-set_at lanes place p lane [] same below)
            | inr past ↦ inl (ap (λ (ls : List (List Letter)). get_or ls p []) (set_past lanes place lane past))
          ]
      | inr other ↦ inl (get_or-set_other lanes place p lane [] other)
    ]

-- a lane changes, and isn't longer then or has room
room_lane : (old new : Core) (place : ℕ) (lane : List Letter) → new.lanes ≡ set old.lanes place lane
    → (4 < length lane → length lane ≤ length (lane_at old place)) → KeepsRoom old new
room_lane old new place lane is fits p many =
    let at : lane_at new p ≡ get_or (set old.lanes place lane) p [] = ap (λ (ls : List (List Letter)). get_or ls p []) is in
    elim (lane_set old.lanes place p lane) [
      | inl same ↦ subst (λ (l : List Letter). length l ≤ length (lane_at old p)) (sym (at ∙ same)) (omega arith)
      | inr here ↦
          subst (λ (l : List Letter). length l ≤ length (lane_at old p)) (sym (at ∙ here.1))
          (subst (λ (q : ℕ). length lane ≤ length (lane_at old q)) (sym here.0) (fits (subst (λ (l : List Letter). 4 < length l) (at ∙ here.1) many)))
    ]

-- a packet is sent into a lane that has room
pub room_sent : (core new : Core) (n : ℕ) (kind : LaneKind) (next : NodeOf) (letter : Letter) (e : Event) → n < core.size.nodes → node_of e ≡ n
    → side (node_at core n) e ≡ Sends kind next letter → stepping core e ≡ Some new
    → length (lane_of core kind n letter.target) < 4 → KeepsRoom core new
room_sent core new n kind next letter e some own sends steps few =
    let made : Some (sent_by core n kind next letter) ≡ Some new = stepped core new n e (Sends kind next letter) some own sends steps in
    let is : sent_by core n kind next letter ≡ new = cc in
    let lane = lane_of core kind n letter.target in
    let long = length_push lane letter in
    room_lane core new (lane_place core.size.nodes kind n letter.target) (lane ++ letter ∷ []) (ap (λ (c : Core). c.lanes) (sym is))
    (λ many. absurd (omega arith))

taken_room : (core new : Core) (n place : ℕ) (rest : List Letter) (o : Option NodeOf) → length rest ≤ length (lane_at core place)
    → taken_as core n place rest o ≡ Some new → KeepsRoom core new
taken_room core new n place rest None fits is = cc
taken_room core new n place rest (Some next) fits is =
    let made : with_lane (with_node core n next) place rest ≡ new = cc in
    room_lane core new place rest (ap (λ (c : Core). c.lanes) (sym made)) (λ many. fits)

front_room : (core new : Core) (n place : ℕ) (taking : Letter → Option NodeOf) (lane : List Letter) → lane_at core place ≡ lane
    → taken_from core n place taking lane ≡ Some new → KeepsRoom core new
front_room core new n place taking [] here is = cc
front_room core new n place taking (letter ∷ rest) here is = let long : length (lane_at core place) ≡ length (letter ∷ rest) = ap length here in
    taken_room core new n place rest (taking letter) (omega arith) is

room_if : (core new : Core) (n place : ℕ) (taking : Letter → Option NodeOf) (b : Bool)
    → (if b then taken_from core n place taking (lane_at core place) else None) ≡ Some new → KeepsRoom core new
room_if core new n place taking true is = front_room core new n place taking (lane_at core place) refl is
room_if core new n place taking false is = cc

-- a packet is taken
pub room_taken : (core new : Core) (n from : ℕ) (kind : LaneKind) (taking : Letter → Option NodeOf) (e : Event) → n < core.size.nodes → node_of e ≡ n
    → side (node_at core n) e ≡ Takes kind from taking → stepping core e ≡ Some new → KeepsRoom core new
room_taken core new n from kind taking e some own takes steps =
    room_if core new n (lane_place core.size.nodes kind from n) taking (nat_lt from core.size.nodes)
    (stepped core new n e (Takes kind from taking) some own takes steps)

-- ---- the front of a lane

pub front_of : (lane : List Letter) (letter : Letter) → slice_get lane 0 ≡ Some letter → (rest : List Letter) × (lane ≡ letter ∷ rest)
front_of [] letter e = cc
front_of (first ∷ rest) letter e = (rest, let same : first ≡ letter = cc in ap (λ (l : Letter). l ∷ rest) same)

-- ---- a node that has the machine for itself

-- it makes an event
pub alone_sends : (n : ℕ) (old new : Core) (e : Event) → node_of e ≡ n → stepping old e ≡ Some new → new.size ≡ old.size
    → IsMade (post_at n old) e (post_at n new)
alone_sends n old new e own steps size =
    record { mid = post_at n old; still = still_itself (post_at n old); made = steps; same = record { me = refl; size = size }; further = (own, tt) }

-- it takes the packet at the front of a lane
pub alone_takes : (n : ℕ) (old new : Core) (kind : LaneKind) (from : ℕ) (letter : Letter) (e : Event)
    → MayTakeFront (post_at n old) kind from e → IsFront (post_at n old) kind from letter → stepping old e ≡ Some new
    → new.size ≡ old.size → IsTaken (post_at n old) kind from letter e (post_at n new)
unfolding alone_sends
alone_takes n old new kind from letter e may front steps size = record { made = alone_sends n old new e may.1.own steps size; front = front }
