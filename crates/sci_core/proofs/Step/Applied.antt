-- What the calls of an event do, one after another, is the step.
use Rattle.std.proofs.Common.{◌≡◌, ℕ, ◌<◌, ◌%◌, List, [], ◌∷◌, Option, Some, None, length, get_or, set, refl, sym, ap, subst, ◌∙◌, arith}
use Rattle.std.proofs.lemmas.List.Elements.{All-head}
use Rattle.std.specs.{Prelude.{slice_get, IfSome, IsSome}, List.{All}}
use Rattle.sci_words.specs.declared.event.{Event.{Event}, AskKind.{AskKind}}
use Rattle.sci_cache.specs.Cache.{Letter}
use Rattle.sci_core.specs.declared.lane.LaneKind.{LaneKind, TheVariants.{Requests, Answers}}
use Rattle.sci_core.specs.Node.{NodeOf, IsForNode, IsServable, node_asking, replied_by, node_replying}
use Rattle.sci_core.specs.Core.{Core, node_at, lane_place, lane_of, with_sent, sends, side, node_of, stepping}
use Rattle.sci_core.specs.WellFormed.{IsInLane, IsWellFormed}
use Rattle.sci_core.proofs.WellFormed.{Parts.{part_asking}, WellFormedSteps.{Comes, comes_from_lane}}
use Rattle.sci_core.proofs.Step.{States.{read_at}, Stepping.{stepping_sent}}

-- ---- packets that come

pub front_holds : (P : Letter → Type 0) (lane : List Letter) (letter : Letter) → slice_get lane 0 ≡ Some letter → All P lane → P letter
front_holds P [] letter e all = cc
front_holds P (first ∷ rest) letter e all = let same : first ≡ letter = cc in subst P same (All-head P first rest all)

pub front_comes : (core : Core) (from n : ℕ) (kind : LaneKind) (letter : Letter) → IsWellFormed core → from < core.size.nodes → n < core.size.nodes
    → slice_get (lane_of core kind from n) 0 ≡ Some letter → Comes core n kind letter
front_comes core from n kind letter well f lt front =
    comes_from_lane core from n kind letter f lt
    (front_holds (IsInLane core.size.nodes core.size.lines (lane_place core.size.nodes kind from n)) (lane_of core kind from n) letter front
    (well.each_lane (lane_place core.size.nodes kind from n)))

pub servable : (core : Core) (from n : ℕ) (letter : Letter) → IsWellFormed core → from < core.size.nodes → n < core.size.nodes
    → slice_get (lane_of core Requests from n) 0 ≡ Some letter → IsServable (node_at core n) letter
servable core from n letter well f lt front =
    let part = well.each_part n lt in
    let comes = front_comes core from n Requests letter well f lt front in
    record {
      here = record { target = comes.1 ∙ sym part.me; line = subst (λ (k : ℕ). letter.line < k) (sym part.each) comes.0.letter_ok.about };
      asks = comes.0.asks;
      home = λ for_home. ap (λ (k : ℕ). letter.line % k) part.all ∙ (comes.0.home for_home ∙ (comes.1 ∙ sym part.me));
    }

pub acceptable : (core : Core) (from n : ℕ) (letter : Letter) → IsWellFormed core → from < core.size.nodes → n < core.size.nodes
    → slice_get (lane_of core Answers from n) 0 ≡ Some letter → IsForNode (node_at core n) letter
acceptable core from n letter well f lt front =
    let part = well.each_part n lt in
    let comes = front_comes core from n Answers letter well f lt front in
    record { target = comes.1 ∙ sym part.me; line = subst (λ (k : ℕ). letter.line < k) (sym part.each) comes.0.letter_ok.about }

-- ---- packets that are sent

pub target_below : (core : Core) (n line : ℕ) (kind : AskKind) (next : NodeOf) (letter : Letter) → IsWellFormed core → n < core.size.nodes
    → node_asking (node_at core n) line kind ≡ Some (next, letter) → letter.target < core.size.nodes
target_below core n line kind next letter well lt e = grind (arith, part_asking)

-- the packet ends its lane, and then the node changes
pub sent_done : (core mid : Core) (e : Event) (kind : LaneKind) (sending : NodeOf → Option (NodeOf × Letter)) (i : ℕ) (old new next : NodeOf) (letter : Letter)
    → node_of e < core.size.nodes
    → ((node : NodeOf) → side node e ≡ sends kind (sending node))
    → sending (node_at core (node_of e)) ≡ Some (next, letter) → mid ≡ with_sent core kind (node_of e) letter → i ≡ node_of e
    → length mid.parts ≡ mid.size.nodes → old ≡ get_or mid.parts i old → IfSome (sending old) (λ sent. new ≡ sent.0)
    → stepping core e ≡ Some (record mid { parts = set mid.parts i new })
sent_done core mid e kind sending i old new next letter lt is made sent at long read done =
    let here : old ≡ node_at core (node_of e) = read_at mid (with_sent core kind (node_of e) letter) i (node_of e) old sent long at lt read in
    let same : new ≡ next = subst (λ (o : Option (NodeOf × Letter)). IfSome o (λ x. new ≡ x.0)) (ap sending here ∙ made) done in
    stepping_sent core (record mid { parts = set mid.parts i new }) e kind next letter lt (is (node_at core (node_of e)) ∙ ap (sends kind) made)
    (rw (sent, at, same) refl)

pub sent_enabled : (core : Core) (e : Event) (kind : LaneKind) (sending : NodeOf → Option (NodeOf × Letter)) → node_of e < core.size.nodes
    → ((node : NodeOf) → side node e ≡ sends kind (sending node))
    → (x : NodeOf) (request : Letter) → sending (node_at core (node_of e)) ≡ Some (x, request) → IsSome (stepping core e)
sent_enabled core e kind sending lt is x request made =
    subst IsSome (sym (stepping_sent core _ e kind x request lt (is (node_at core (node_of e)) ∙ ap (sends kind) made) refl)) refl

pub waits_replying : (node : NodeOf) (answer : Letter) → node.waiting ≡ Some answer → node_replying node ≡ Some (record node { waiting = None }, answer)
waits_replying node answer e = ap (replied_by node) e
