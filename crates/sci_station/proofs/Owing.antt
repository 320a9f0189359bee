-- How many answers a node owes another after each event.
use Rattle.std.proofs.Common.{◌≡◌, ◌≢◌, ◌<◌, ◌+◌, ◌/◌, ◌%◌, ℕ, List, [], ◌∷◌, ◌++◌, length, Option, Some, None, refl, sym, ap, subst, ◌∙◌, arith, inl, inr}
use Rattle.std.proofs.lemmas.{Bool.{cases_eq, eq-eqb, ne_eqb}, Grind.{get_or-set_at}}
use Rattle.std.proofs.lemmas.List.{get_or-set_other, get_or-set_same, length_push}
use Rattle.std.specs.Prelude.{◌==◌, IfSome, slice_get}
use Rattle.sci_words.specs.declared.{event.{Event.{Event}, AskKind.{AskKind}}, operation.Op.{Op}}
use Rattle.sci_history.specs.declared.entry.Entry.{Entry}
use Rattle.sci_cache.specs.Cache.{Letter}
use Rattle.sci_core.specs.declared.lane.LaneKind.{LaneKind, TheVariants.{Answers, Requests}}
use Rattle.sci_core.specs.Core.{Changes, Core, Sends, Takes, changes, lane_at, lane_of, lane_place, node_at, node_of, performs, sends, sent_by, side}
use Rattle.sci_core.specs.{Core.{stepping, with_lane, with_node}, Draining.{one_if}}
use Rattle.sci_core.specs.Node.{NodeOf, no_node, node_accepting, node_asking, node_issuing, node_performing, node_refusing, node_serving}
use Rattle.sci_core.specs.{Size.{Size}, WellFormed.{IsInLane, IsWellFormed}}
use Rattle.sci_core.proofs.Step.{Applied.{front_holds}, Places.{place_answers, place_from, place_requests, place_to}}
use Rattle.sci_core.proofs.Step.{Sides.{steps_by_sides}, Steps.{lane_below}}
use Rattle.sci_core.proofs.{Settling.Drains.{Took, made_by, some_node, took_from}, Basics.Options.{of_some}}
use Rattle.sci_core.proofs.WellFormed.{Parts.{SendsWell, part_asking}, WellFormedSteps.{StepsWell, stepping_well}}
use Rattle.sci_core.proofs.Tidy.TidyRuns.{node_below}
use Rattle.sci_core.proofs.Tidy.WaitingNodes.{Accepts, Answers as AnswersTo, AsksOnce, Stays, accept_accepts, ask_once, issue_stays, perform_stays}
use Rattle.sci_core.proofs.Tidy.WaitingNodes.{refuse_answers, reply_replies, serve_answers}
use Rattle.sci_lanes.proofs.Events.{by_option, takes_what}
use Rattle.sci_turn.specs.Posts.{OthersLead}
use Rattle.sci_turn.proofs.Working.{other_node}
use Rattle.sci_station.specs.Posts.{answers_to, owed}
use Rattle.sci_words.specs.declared.event.Event.TheVariants as event

-- ---- a node and a lane change

node_here : (core : Core) (n : ℕ) (next : NodeOf) → n < length core.parts → node_at (with_node core n next) n ≡ next
node_here core n next below = get_or-set_same core.parts n next no_node below

lane_here : (core : Core) (place : ℕ) (lane : List Letter) → place < length core.lanes → lane_at (with_lane core place lane) place ≡ lane
lane_here core place lane below = get_or-set_at core.lanes place place lane [] refl below

lane_else : (core : Core) (place other : ℕ) (lane : List Letter) → other ≢ place → lane_at (with_lane core place lane) other ≡ lane_at core other
lane_else core place other lane apart = get_or-set_other core.lanes place other lane [] apart

-- the state with another node and another lane
abbrev moved : Core → ℕ → NodeOf → ℕ → List Letter → Core
moved core m next place lane = with_lane (with_node core m next) place lane

-- ---- places of lanes

kinds_apart : (nodes a b x y : ℕ) → a < nodes → b < nodes → lane_place nodes Requests a b ≢ lane_place nodes Answers x y
kinds_apart nodes a b x y la lb e = let below = place_requests nodes a b la lb in let above = place_answers nodes x y in absurd (omega arith)

same_sender : (nodes : ℕ) (kind : LaneKind) (a b x y : ℕ) → a < nodes → b < nodes → x < nodes → y < nodes
    → lane_place nodes kind a b ≡ lane_place nodes kind x y → a ≡ x
same_sender nodes kind a b x y la lb lx ly e = sym (place_from nodes kind a b la lb) ∙ (ap (λ (p : ℕ). p / nodes % nodes) e ∙ place_from nodes kind x y lx ly)

same_receiver : (nodes : ℕ) (kind : LaneKind) (a b x y : ℕ) → b < nodes → y < nodes → lane_place nodes kind a b ≡ lane_place nodes kind x y → b ≡ y
same_receiver nodes kind a b x y lb ly e = sym (place_to nodes kind a b lb) ∙ (ap (λ (p : ℕ). p % nodes) e ∙ place_to nodes kind x y ly)

-- ---- each part of what is owed

-- the answer that waits at a node, after a node and a lane change
waits_else : (core : Core) (m n other place : ℕ) (next : NodeOf) (lane : List Letter) → m ≢ other
    → one_if (answers_to (node_at (moved core m next place lane) other).waiting n) ≡ one_if (answers_to (node_at core other).waiting n)
waits_else core m n other place next lane apart = ap (λ (v : NodeOf). one_if (answers_to v.waiting n)) (other_node core m other next apart)

waits_here : (core : Core) (m n place : ℕ) (next : NodeOf) (lane : List Letter) → m < length core.parts
    → one_if (answers_to (node_at (moved core m next place lane) m).waiting n) ≡ one_if (answers_to next.waiting n)
waits_here core m n place next lane below = ap (λ (v : NodeOf). one_if (answers_to v.waiting n)) (node_here core m next below)

-- it stays if the node's does
waits_same : (core : Core) (m n other place : ℕ) (next : NodeOf) (lane : List Letter) → m < length core.parts → next.waiting ≡ (node_at core m).waiting
    → one_if (answers_to (node_at (moved core m next place lane) other).waiting n) ≡ one_if (answers_to (node_at core other).waiting n)
waits_same core m n other place next lane below same =
    elim (cases_eq m other) [
      | inl here ↦ subst (λ (k : ℕ). one_if (answers_to (node_at (moved core m next place lane) k).waiting n) ≡ one_if (answers_to (node_at core k).waiting n))
          here (waits_here core m n place next lane below ∙ ap (λ (w : Option Letter). one_if (answers_to w n)) same)
      | inr apart ↦ waits_else core m n other place next lane apart
    ]

long_else : (core : Core) (m place other : ℕ) (next : NodeOf) (lane : List Letter) → other ≢ place
    → length (lane_at (moved core m next place lane) other) ≡ length (lane_at core other)
long_else core m place other next lane apart = ap (λ (l : List Letter). length l) (lane_else (with_node core m next) place other lane apart)

long_here : (core : Core) (m place : ℕ) (next : NodeOf) (lane : List Letter) → place < length core.lanes
    → length (lane_at (moved core m next place lane) place) ≡ length lane
long_here core m place next lane below = ap (λ (l : List Letter). length l) (lane_here (with_node core m next) place lane below)

-- numbers that are the same but at one place, where one is more by one
more_there : (long short : ℕ → ℕ) (place other a b : ℕ) → long place ≡ short place + 1 → (other ≢ place → long other ≡ short other)
    → (a ≡ b → other ≡ place) → (other ≡ place → a ≡ b) → long other ≡ short other + one_if (a == b)
more_there long short place other a b here stays same back = grind (arith, cases_eq, eq-eqb, ne_eqb)

-- a lane becomes longer by a packet, or shorter, and no other lane does
lane_grows : (core : Core) (m place other a b : ℕ) (next : NodeOf) (letter : Letter) → place < length core.lanes → (a ≡ b → other ≡ place)
    → (other ≡ place → a ≡ b)
    → length (lane_at (moved core m next place (lane_at core place ++ letter ∷ [])) other) ≡ length (lane_at core other) + one_if (a == b)
lane_grows core m place other a b next letter below =
    let lane = lane_at core place ++ letter ∷ [] in
    more_there (λ p. length (lane_at (moved core m next place lane) p)) (λ p. length (lane_at core p)) place other a b
    (long_here core m place next lane below ∙ length_push (lane_at core place) letter) (long_else core m place other next lane)

lane_shrinks : (core : Core) (m place other a b : ℕ) (next : NodeOf) (letter : Letter) (rest : List Letter) → place < length core.lanes
    → lane_at core place ≡ letter ∷ rest → (a ≡ b → other ≡ place) → (other ≡ place → a ≡ b)
    → length (lane_at core other) ≡ length (lane_at (moved core m next place rest) other) + one_if (a == b)
lane_shrinks core m place other a b next letter rest below front =
    let here = long_here core m place next rest below in
    let long : length (lane_at core place) ≡ length (letter ∷ rest) = ap (λ (l : List Letter). length l) front in
    more_there (λ p. length (lane_at core p)) (λ p. length (lane_at (moved core m next place rest) p)) place other a b (omega arith)
    (λ apart. sym (long_else core m place other next rest apart))

-- ---- what is owed after a step

-- the node alone changes, and not the answer that waits at it
owes_changed : (core : Core) (m n other : ℕ) (next : NodeOf) → m < length core.parts → next.waiting ≡ (node_at core m).waiting
    → owed (with_node core m next) n other ≡ owed core n other
owes_changed core m n other next below same = grind (arith, cases_eq, node_here, other_node)

-- another node sends a request
owes_asked_else : (core : Core) (m n other : ℕ) (next : NodeOf) (letter : Letter) → IsWellFormed core → m < core.size.nodes → n < core.size.nodes
    → other < core.size.nodes → letter.target < core.size.nodes → next.waiting ≡ (node_at core m).waiting → m ≢ n
    → owed (sent_by core m Requests next letter) n other ≡ owed core n other
owes_asked_else core m n other next letter well lm ln lo lt same apart =
    let place = lane_place core.size.nodes Requests m letter.target in
    let lane = lane_of core Requests m letter.target ++ letter ∷ [] in
    let w = waits_same core m n other place next lane (node_below core m well lm) same in
    let r = long_else core m place (lane_place core.size.nodes Requests n other) next lane
    (λ e. apart (sym (same_sender core.size.nodes Requests n other m letter.target ln lo lm lt e))) in
    let a = long_else core m place (lane_place core.size.nodes Answers other n) next lane
    (λ e. kinds_apart core.size.nodes m letter.target other n lm lt (sym e)) in
    omega arith

-- the node itself sends one
owes_asked : (core : Core) (n other : ℕ) (next : NodeOf) (letter : Letter) → IsWellFormed core → n < core.size.nodes → other < core.size.nodes
    → letter.target < core.size.nodes → next.waiting ≡ (node_at core n).waiting
    → owed (sent_by core n Requests next letter) n other ≡ owed core n other + one_if (letter.target == other)
owes_asked core n other next letter well ln lo lt same =
    let place = lane_place core.size.nodes Requests n letter.target in
    let lane = lane_of core Requests n letter.target ++ letter ∷ [] in
    let w = waits_same core n n other place next lane (node_below core n well ln) same in
    let a = long_else core n place (lane_place core.size.nodes Answers other n) next lane
    (λ e. kinds_apart core.size.nodes n letter.target other n ln lt (sym e)) in
    let r = lane_grows core n place (lane_place core.size.nodes Requests n other) letter.target other next letter
    (lane_below core Requests n letter.target well ln lt) (λ here. ap (lane_place core.size.nodes Requests n) (sym here))
    (λ e. sym (same_receiver core.size.nodes Requests n other n letter.target lo lt e)) in
    omega arith

-- a request is taken, and its answer waits
owes_served : (core new : Core) (e : Event) (from n other : ℕ) (taking : NodeOf → Letter → Option NodeOf) → IsWellFormed core → n < core.size.nodes
    → other < core.size.nodes → side (node_at core (node_of e)) e ≡ Takes Requests from (taking (node_at core (node_of e))) → stepping core e ≡ Some new
    → ((letter : Letter) → IfSome (taking (node_at core (node_of e)) letter) (AnswersTo core.size.nodes letter (node_at core (node_of e))))
    → owed new n other ≡ owed core n other
owes_served core new e from n other taking well ln lo is steps answers =
    let m = node_of e in
    let taken = took_from core new Requests from taking e is steps in
    let took = taken.took in
    let lm = taken.some in
    let lf = taken.sender in
    let place = lane_place core.size.nodes Requests from m in
    let source : took.letter.source ≡ from =
    (front_holds (IsInLane core.size.nodes core.size.lines place) (lane_of core Requests from m) took.letter
    (ap (λ (lane : List Letter). slice_get lane 0) took.front) (well.each_lane place)).from ∙ place_from core.size.nodes Requests from m lf lm in
    let does = of_some (AnswersTo core.size.nodes took.letter (node_at core m)) (taking (node_at core m) took.letter) took.next took.takes
    (answers took.letter) in
    let a = long_else core m place (lane_place core.size.nodes Answers other n) took.next took.rest
    (λ e. kinds_apart core.size.nodes from m other n lf lm (sym e)) in
    let then_ : owed new n other ≡ owed (moved core m took.next place took.rest) n other = ap (λ (c : Core). owed c n other) took.then_ in
    let same = owes_served_at core m from n other took.next took.letter took.rest well lm lf ln lo took.front does source a in
    then_ ∙ same
  where
    owes_served_at : (core : Core) (m from n other : ℕ) (next : NodeOf) (letter : Letter) (rest : List Letter) → IsWellFormed core → m < core.size.nodes
        → from < core.size.nodes → n < core.size.nodes → other < core.size.nodes → lane_of core Requests from m ≡ letter ∷ rest
        → AnswersTo core.size.nodes letter (node_at core m) next → letter.source ≡ from
        → length (lane_at (moved core m next (lane_place core.size.nodes Requests from m) rest) (lane_place core.size.nodes Answers other n)) ≡ length
        (lane_at core (lane_place core.size.nodes Answers other n))
        → owed (moved core m next (lane_place core.size.nodes Requests from m) rest) n other ≡ owed core n other
    owes_served_at core m from n other next letter rest well lm lf ln lo front does source a =
        let place = lane_place core.size.nodes Requests from m in
        elim (cases_eq m other) [
          | inl here ↦
              let w : one_if (answers_to (node_at (moved core m next place rest) m).waiting n) ≡ one_if (letter.source == n) =
              waits_here core m n place next rest (node_below core m well lm) ∙ ap (λ (w : Option Letter). one_if (answers_to w n)) does.waiting in
              let free : one_if (answers_to (node_at core m).waiting n) ≡ 0 = ap (λ (w : Option Letter). one_if (answers_to w n)) does.free in
              subst (λ (k : ℕ). length (lane_at (moved core m next place rest) (lane_place core.size.nodes Answers k n)) ≡ length
              (lane_at core (lane_place core.size.nodes Answers k n)) → owed (moved core m next place rest) n k ≡ owed core n k) here (λ same. (
              let r = lane_shrinks core m place (lane_place core.size.nodes Requests n m) letter.source n next letter rest
              (lane_below core Requests from m well lf lm) front (λ mine. ap (λ (k : ℕ). lane_place core.size.nodes Requests k m) (sym mine ∙ source))
              (λ e. source ∙ sym (same_sender core.size.nodes Requests n m from m ln lm lf lm e)) in
              omega arith)) a
          | inr apart ↦
              let w = waits_else core m n other place next rest apart in
              let r = long_else core m place (lane_place core.size.nodes Requests n other) next rest
              (λ e. apart (sym (same_receiver core.size.nodes Requests n other from m lo lm e))) in
              omega arith
        ]

-- the answer that waits is sent
owes_replied : (core : Core) (m n other : ℕ) (next : NodeOf) (letter : Letter) → IsWellFormed core → m < core.size.nodes → n < core.size.nodes
    → other < core.size.nodes → letter.target < core.size.nodes
    → (node_at core m).waiting ≡ Some letter → next.waiting ≡ None → owed (sent_by core m Answers next letter) n other ≡ owed core n other
owes_replied core m n other next letter well lm ln lo lt waited gone =
    let place = lane_place core.size.nodes Answers m letter.target in
    let lane = lane_of core Answers m letter.target ++ letter ∷ [] in
    let r = long_else core m place (lane_place core.size.nodes Requests n other) next lane (λ e. kinds_apart core.size.nodes n other m letter.target ln lo e) in
    elim (cases_eq m other) [
      | inl here ↦
          let w : one_if (answers_to (node_at (moved core m next place lane) m).waiting n) ≡ 0 =
          waits_here core m n place next lane (node_below core m well lm) ∙ ap (λ (w : Option Letter). one_if (answers_to w n)) gone in
          let was : one_if (answers_to (node_at core m).waiting n) ≡ one_if (letter.target == n) = ap (λ (w : Option Letter). one_if (answers_to w n)) waited in
          subst (λ (k : ℕ). length (lane_at (moved core m next place lane) (lane_place core.size.nodes Requests n k)) ≡ length
          (lane_at core (lane_place core.size.nodes Requests n k)) → owed (moved core m next place lane) n k ≡ owed core n k) here (λ same. (
          let a = lane_grows core m place (lane_place core.size.nodes Answers m n) letter.target n next letter
          (lane_below core Answers m letter.target well lm lt) (λ mine. ap (lane_place core.size.nodes Answers m) (sym mine))
          (λ e. sym (same_receiver core.size.nodes Answers m n m letter.target ln lt e)) in
          omega arith)) r
      | inr apart ↦
          let w = waits_else core m n other place next lane apart in
          let a = long_else core m place (lane_place core.size.nodes Answers other n) next lane
          (λ e. apart (sym (same_sender core.size.nodes Answers other n m letter.target lo ln lm lt e))) in
          omega arith
    ]

-- another node takes an answer
owes_accepted_else : (core : Core) (m from n other : ℕ) (next : NodeOf) (rest : List Letter) → IsWellFormed core → m < core.size.nodes → from < core.size.nodes
    → n < core.size.nodes → other < core.size.nodes → next.waiting ≡ (node_at core m).waiting → m ≢ n
    → owed (moved core m next (lane_place core.size.nodes Answers from m) rest) n other ≡ owed core n other
owes_accepted_else core m from n other next rest well lm lf ln lo same apart =
    let place = lane_place core.size.nodes Answers from m in
    let w = waits_same core m n other place next rest (node_below core m well lm) same in
    let r = long_else core m place (lane_place core.size.nodes Requests n other) next rest (λ e. kinds_apart core.size.nodes n other from m ln lo e) in
    let a = long_else core m place (lane_place core.size.nodes Answers other n) next rest
    (λ e. apart (sym (same_receiver core.size.nodes Answers other n from m ln lm e))) in
    omega arith

-- the node itself takes one
owes_accepted : (core : Core) (from n other : ℕ) (next : NodeOf) (letter : Letter) (rest : List Letter) → IsWellFormed core → from < core.size.nodes
    → n < core.size.nodes → other < core.size.nodes → next.waiting ≡ (node_at core n).waiting → lane_of core Answers from n ≡ letter ∷ rest
    → owed (moved core n next (lane_place core.size.nodes Answers from n) rest) n other + one_if (from == other) ≡ owed core n other
owes_accepted core from n other next letter rest well lf ln lo same front =
    let place = lane_place core.size.nodes Answers from n in
    let w = waits_same core n n other place next rest (node_below core n well ln) same in
    let r = long_else core n place (lane_place core.size.nodes Requests n other) next rest (λ e. kinds_apart core.size.nodes n other from n ln lo e) in
    let a = lane_shrinks core n place (lane_place core.size.nodes Answers other n) from other next letter rest (lane_below core Answers from n well lf ln)
    front (λ here. ap (λ (k : ℕ). lane_place core.size.nodes Answers k n) (sym here))
    (λ e. sym (same_sender core.size.nodes Answers other n from n lo ln lf ln e)) in
    omega arith

-- ---- the events

-- what the node's own event takes from what another owes it, or adds to it
abbrev pub takes_one : LaneKind → ℕ → ℕ → ℕ
takes_one Requests from other = 0
takes_one Answers from other = one_if (from == other)

abbrev pub adds_one : LaneKind → ℕ → ℕ → ℕ
adds_one Requests to other = one_if (to == other)
adds_one Answers to other = 0

issued_owes : (core new : Core) (m n other : ℕ) (op : Op) → IsWellFormed core → stepping core (event.Issue m op) ≡ Some new
    → owed new n other ≡ owed core n other
issued_owes core new m n other op well steps =
    let lt = some_node core new (event.Issue m op) steps in
    let made = made_by (with_node core m) (node_issuing (node_at core m) op) new (sym ((steps_by_sides core m lt).issue op) ∙ steps) in
    let stays = of_some (Stays core.size.nodes (node_at core m)) (node_issuing (node_at core m) op) made.0 made.1
    (issue_stays core.size.nodes (node_at core m) op) in
    ap (λ (c : Core). owed c n other) made.2 ∙ owes_changed core m n other made.0 (node_below core m well lt) stays.waiting

performed_owes : (core new : Core) (m n other line : ℕ) → IsWellFormed core → stepping core (event.Perform m line) ≡ Some new
    → owed new n other ≡ owed core n other
performed_owes core new m n other line well steps =
    let lt = some_node core new (event.Perform m line) steps in
    let made = made_by (λ (done : NodeOf × Entry). with_node core m done.0) (node_performing (node_at core m) line) new
    (sym ((steps_by_sides core m lt).perform line) ∙ steps) in
    let stays = of_some (λ (x : NodeOf × Entry). Stays core.size.nodes (node_at core m) x.0) (node_performing (node_at core m) line) made.0 made.1
    (perform_stays core.size.nodes (node_at core m) line) in
    ap (λ (c : Core). owed c n other) made.2 ∙ owes_changed core m n other made.0.0 (node_below core m well lt) stays.waiting

-- what an Ask sends
record Asked (core new : Core) (m line : ℕ) (kind : AskKind) : Type 0 where
  lt : m < core.size.nodes
  next : NodeOf
  letter : Letter
  asks : node_asking (node_at core m) line kind ≡ Some (next, letter)
  then_ : new ≡ sent_by core m Requests next letter
  target : letter.target < core.size.nodes
  waiting : next.waiting ≡ (node_at core m).waiting

asked : (core new : Core) (m line : ℕ) (kind : AskKind) → IsWellFormed core → stepping core (event.Ask m line kind) ≡ Some new → Asked core new m line kind
asked core new m line kind well steps =
    let lt = some_node core new (event.Ask m line kind) steps in
    let part = node_at core m in
    let made = made_by (λ (s : NodeOf × Letter). sent_by core m Requests s.0 s.1) (node_asking part line kind) new
    (sym ((steps_by_sides core m lt).ask line kind) ∙ steps) in
    let sends = of_some (SendsWell core.size m) (node_asking part line kind) made.0 made.1
    (part_asking core.size m part line kind well.sizes.some_node lt (well.each_part m lt)) in
    let once = of_some (AsksOnce core.size.nodes line part) (node_asking part line kind) made.0 made.1
    (ask_once core.size.nodes part line kind (well.each_part m lt).all ((well.each_part m lt).asks line)) in
    record { lt = lt; next = made.0.0; letter = made.0.1; asks = made.1; then_ = made.2; target = sends.request.letter_ok.target; waiting = once.waiting }

replied_owes : (core new : Core) (m n other : ℕ) → IsWellFormed core → n < core.size.nodes → other < core.size.nodes → stepping core (event.Reply m) ≡ Some new
    → owed new n other ≡ owed core n other
replied_owes core new m n other well ln lo steps = grind (arith, some_node, made_by, steps_by_sides, of_some, reply_replies, owes_replied)

-- an answer was accepted
record Accepted (core new : Core) (from m : ℕ) : Type 0 where
  lt : m < core.size.nodes
  sender : from < core.size.nodes
  took : Took core new Answers m from node_accepting
  waiting : took.next.waiting ≡ (node_at core m).waiting

accepted : (core new : Core) (m from : ℕ) → IsWellFormed core → stepping core (event.Accept from m) ≡ Some new → Accepted core new from m
accepted core new m from well steps =
    let taken = took_from core new Answers from node_accepting (event.Accept from m) refl steps in
    let took = taken.took in
    record {
      lt = taken.some;
      sender = taken.sender;
      took = took;
      waiting = (of_some (Accepts took.letter.line (node_at core m)) (node_accepting (node_at core m) took.letter) took.next took.takes
          (accept_accepts (node_at core m) took.letter)).waiting;
    }

-- an event of another node leaves what is owed
pub other_owes : (core new : Core) (e : Event) (n other : ℕ) → IsWellFormed core → n < core.size.nodes → other < core.size.nodes → node_of e ≢ n
    → stepping core e ≡ Some new → owed new n other ≡ owed core n other
other_owes core new (event.Issue m op) n other well ln lo apart steps = issued_owes core new m n other op well steps
other_owes core new (event.Perform m line) n other well ln lo apart steps = performed_owes core new m n other line well steps
other_owes core new (event.Ask m line kind) n other well ln lo apart steps =
    let a = asked core new m line kind well steps in
    ap (λ (c : Core). owed c n other) a.then_ ∙ owes_asked_else core m n other a.next a.letter well a.lt ln lo a.target a.waiting apart
other_owes core new (event.Serve from m) n other well ln lo apart steps =
    owes_served core new (event.Serve from m) from n other node_serving well ln lo refl steps (serve_answers core.size.nodes (node_at core m))
other_owes core new (event.Refuse from m) n other well ln lo apart steps =
    owes_served core new (event.Refuse from m) from n other node_refusing well ln lo refl steps (refuse_answers core.size.nodes (node_at core m))
other_owes core new (event.Reply m) n other well ln lo apart steps = replied_owes core new m n other well ln lo steps
other_owes core new (event.Accept from m) n other well ln lo apart steps =
    let a = accepted core new m from well steps in
    ap (λ (c : Core). owed c n other) a.took.then_ ∙ owes_accepted_else core m from n other a.took.next a.took.rest well a.lt a.sender ln lo a.waiting apart

-- others' events leave it
pub others_owe : (n other : ℕ) (old : Core) (others : List Event) (new : Core) → IsWellFormed old → n < old.size.nodes → other < old.size.nodes
    → OthersLead n old others new → owed new n other ≡ owed old n other
others_owe n other old [] new well ln lo lead = ap (λ (c : Core). owed c n other) (sym lead)
others_owe n other old (e ∷ others) new well ln lo lead =
    let next = of_some (StepsWell old) (stepping old e) lead.0 lead.1 (stepping_well old e well) in
    others_owe n other lead.0 others new next.well (subst (λ (z : Size). n < z.nodes) (sym next.same) ln)
    (subst (λ (z : Size). other < z.nodes) (sym next.same) lo) lead.3
    ∙ other_owes old lead.0 e n other well ln lo lead.2 lead.1

-- ---- the node's own

sends_what : (k : LaneKind) (o : Option (NodeOf × Letter)) (kind : LaneKind) (next : NodeOf) (letter : Letter) → sends k o ≡ Sends kind next letter
    → (k ≡ kind) × (o ≡ Some (next, letter))
sends_what k None kind next letter e = cc
sends_what k (Some x) kind next letter e = grind arith

-- it sends a packet: a request adds one at its target
pub sent_owes : (core new : Core) (e : Event) (other : ℕ) (kind : LaneKind) (next : NodeOf) (letter : Letter) → IsWellFormed core → other < core.size.nodes
    → side (node_at core (node_of e)) e ≡ Sends kind next letter → stepping core e ≡ Some new
    → owed new (node_of e) other ≡ owed core (node_of e) other + adds_one kind letter.target other
sent_owes core new (event.Issue m op) other kind next letter well lo is steps = by_option changes _ (λ e. cc) (λ x e. cc) _ is
sent_owes core new (event.Perform m line) other kind next letter well lo is steps = by_option performs _ (λ e. cc) (λ x e. cc) _ is
sent_owes core new (event.Ask m line ask) other kind next letter well lo is steps =
    let a = asked core new m line ask well steps in
    let what = sends_what Requests (node_asking (node_at core m) line ask) kind next letter is in
    let same : a.letter ≡ letter = second_same _ (a.next, a.letter) (next, letter) a.asks what.1 in
    let one = ap (λ (c : Core). owed c m other) a.then_ ∙ owes_asked core m other a.next a.letter well a.lt lo a.target a.waiting in
    subst (λ (k : LaneKind). owed new m other ≡ owed core m other + adds_one k letter.target other) what.0
    (one ∙ ap (λ (l : Letter). owed core m other + one_if (l.target == other)) same)
  where
    second_same : (o : Option (NodeOf × Letter)) (p q : NodeOf × Letter) → o ≡ Some p → o ≡ Some q → p.1 ≡ q.1
    second_same o p q one two = let both : Some p ≡ Some q = sym one ∙ two in cc
sent_owes core new (event.Reply m) other kind next letter well lo is steps = grind (arith, sends_what, replied_owes, some_node)
sent_owes core new _ other kind next letter well lo is steps = cc

-- it takes a packet: an answer takes one from its sender
pub taken_owes : (core new : Core) (e : Event) (from other : ℕ) (kind : LaneKind) (taking : Letter → Option NodeOf) → IsWellFormed core
    → other < core.size.nodes → side (node_at core (node_of e)) e ≡ Takes kind from taking → stepping core e ≡ Some new
    → owed new (node_of e) other + takes_one kind from other ≡ owed core (node_of e) other
taken_owes core new (event.Issue m op) from other kind taking well lo is steps = by_option changes _ (λ e. cc) (λ x e. cc) _ is
taken_owes core new (event.Perform m line) from other kind taking well lo is steps = by_option performs _ (λ e. cc) (λ x e. cc) _ is
taken_owes core new (event.Ask m line ask) from other kind taking well lo is steps = by_option (sends Requests) _ (λ e. cc) (λ x e. cc) _ is
taken_owes core new (event.Reply m) from other kind taking well lo is steps = by_option (sends Answers) _ (λ e. cc) (λ x e. cc) _ is
taken_owes core new (event.Serve f m) from other kind taking well lo is steps =
    let what = takes_what Requests kind f from (node_serving (node_at core m)) taking is in
    let none = owes_served core new (event.Serve f m) f m other node_serving well (some_node core new (event.Serve f m) steps) lo refl steps
    (serve_answers core.size.nodes (node_at core m)) in
    subst (λ (k : LaneKind). owed new m other + takes_one k from other ≡ owed core m other) what.0 (omega arith)
taken_owes core new (event.Refuse f m) from other kind taking well lo is steps =
    let what = takes_what Requests kind f from (node_refusing (node_at core m)) taking is in
    let none = owes_served core new (event.Refuse f m) f m other node_refusing well (some_node core new (event.Refuse f m) steps) lo refl steps
    (refuse_answers core.size.nodes (node_at core m)) in
    subst (λ (k : LaneKind). owed new m other + takes_one k from other ≡ owed core m other) what.0 (omega arith)
taken_owes core new (event.Accept f m) from other kind taking well lo is steps =
    let what = takes_what Answers kind f from (node_accepting (node_at core m)) taking is in
    let a = accepted core new m f well steps in
    let one = owes_accepted core f m other a.took.next a.took.letter a.took.rest well a.sender a.lt lo a.waiting a.took.front in
    let then_ : owed new m other ≡ owed (moved core m a.took.next (lane_place core.size.nodes Answers f m) a.took.rest) m other =
    ap (λ (c : Core). owed c m other) a.took.then_ in
    subst (λ (k : LaneKind). owed new m other + takes_one k from other ≡ owed core m other) what.0
    (subst (λ (j : ℕ). owed new m other + one_if (j == other) ≡ owed core m other) what.1 (omega arith))

-- it changes alone, by an Issue or a Perform
pub changed_owes : (core new : Core) (e : Event) (other : ℕ) (next : NodeOf) → IsWellFormed core → side (node_at core (node_of e)) e ≡ Changes next
    → stepping core e ≡ Some new → owed new (node_of e) other ≡ owed core (node_of e) other
changed_owes core new (event.Issue m op) other next well is steps = issued_owes core new m m other op well steps
changed_owes core new (event.Perform m line) other next well is steps = performed_owes core new m m other line well steps
changed_owes core new (event.Ask m line ask) other next well is steps = by_option (sends Requests) _ (λ e. cc) (λ x e. cc) _ is
changed_owes core new (event.Reply m) other next well is steps = by_option (sends Answers) _ (λ e. cc) (λ x e. cc) _ is
changed_owes core new _ other next well is steps = cc
