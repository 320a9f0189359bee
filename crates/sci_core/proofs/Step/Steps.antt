-- What each step of a well formed state did, in one of seven ways: the side of the event's node, with its packet, and the entry that it makes.
use Rattle.std.proofs.Common.{◌≡◌, ℕ, ◌<◌, List, [], ◌∷◌, length, Option, Some, None, refl, sym, subst, arith}
use Rattle.std.proofs.lemmas.{Option.{IfSome_then}, List.Elements.{All-head}}
use Rattle.std.specs.{Prelude.{IfSome, option_map}, List.{All}}
use Rattle.sci_core.proofs.Basics.Options.{if_below}
use Rattle.sci_core.proofs.WellFormed.Parts.{SendsWell, RepliesWell, part_asking, part_replying}
use Rattle.sci_core.proofs.{WellFormed.WellFormedSteps.{Comes, comes_from_lane}, Step.Places.{place_below}}
use Rattle.sci_words.specs.declared.{event.{AskKind.{AskKind}, Event.{Event}}, operation.Op.{Op}}
use Rattle.sci_history.specs.declared.entry.Entry.{Entry}
use Rattle.sci_cache.specs.Cache.{Letter}
use Rattle.sci_core.specs.declared.lane.LaneKind.{LaneKind, TheVariants.{Requests, Answers}}
use Rattle.sci_core.specs.Node.{NodeOf, node_issuing, node_performing, node_asking, node_serving, node_refusing, node_replying, node_accepting}
use Rattle.sci_core.specs.Core.{Core, node_at, with_node, lane_place, lane_at, lane_of, with_lane, changes, performs, sends, side, Takes, node_of, sent_by}
use Rattle.sci_core.specs.{Core.{taken_as, taken_from, step_by, stepping}, Done.{performed}}
use Rattle.sci_core.specs.WellFormed.{IsInLane, IsWellFormed}
use Rattle.sci_words.specs.declared.event.Event.TheVariants as event

-- the front of a lane to node n is taken, and the node is this one next
pub record Taken (core new : Core) (kind : LaneKind) (taking : NodeOf → Letter → Option NodeOf) : Type 0 where
  pub node : ℕ
  pub place : ℕ
  pub letter : Letter
  pub rest : List Letter
  pub next : NodeOf
  pub some : node < core.size.nodes
  pub within : place < length core.lanes
  pub front : lane_at core place ≡ letter ∷ rest
  pub comes : Comes core node kind letter
  pub takes : taking (node_at core node) letter ≡ Some next
  pub then_ : with_lane (with_node core node next) place rest ≡ new

-- a node sends a packet into the lane to its target
pub record Sent (core new : Core) (kind : LaneKind) (n : ℕ) (sent : NodeOf × Letter) : Type 0 where
  pub some : n < core.size.nodes
  pub within : lane_place core.size.nodes kind n sent.1.target < length core.lanes
  pub then_ : sent_by core n kind sent.0 sent.1 ≡ new

-- the step of an event, and the entry that it makes, if any
pub data Stepped (core : Core) (e : Event) (made : Option Entry) (new : Core) : Type 0 where
  By_issue : (n : ℕ) (op : Op) (next : NodeOf) → e ≡ event.Issue n op → n < core.size.nodes → node_issuing (node_at core n) op ≡ Some next
      → with_node core n next ≡ new → made ≡ None → Stepped core e made new
  By_perform : (n line : ℕ) (done : NodeOf × Entry) → n < core.size.nodes → node_performing (node_at core n) line ≡ Some done → with_node core n done.0 ≡ new
      → made ≡ Some done.1 → Stepped core e made new
  By_ask : (n line : ℕ) (kind : AskKind) (sent : NodeOf × Letter) → node_asking (node_at core n) line kind ≡ Some sent → SendsWell core.size n sent
      → Sent core new Requests n sent → made ≡ None → Stepped core e made new
  By_serve : Taken core new Requests node_serving → made ≡ None → Stepped core e made new
  By_refuse : Taken core new Requests node_refusing → made ≡ None → Stepped core e made new
  By_reply : (n : ℕ) (sent : NodeOf × Letter) → node_replying (node_at core n) ≡ Some sent → RepliesWell core.size n sent → Sent core new Answers n sent
      → made ≡ None → Stepped core e made new
  By_accept : Taken core new Answers node_accepting → made ≡ None → Stepped core e made new

-- ---- each kind of side

pub lane_below : (core : Core) (kind : LaneKind) (from to : ℕ) → IsWellFormed core → from < core.size.nodes → to < core.size.nodes
    → lane_place core.size.nodes kind from to < length core.lanes
lane_below core kind from to well f t =
    subst (λ (k : ℕ). lane_place core.size.nodes kind from to < k) (sym well.sizes.lanes_long) (place_below core.size.nodes kind from to f t)

issued : (core : Core) (n : ℕ) (op : Op) (next : Option NodeOf) → n < core.size.nodes → node_issuing (node_at core n) op ≡ next
    → IfSome (step_by core n (changes next)) (Stepped core (event.Issue n op) None)
issued core n op None lt is = tt
issued core n op (Some next) lt is = By_issue n op next refl lt is refl refl

perform_steps : (core : Core) (n line : ℕ) (done : Option (NodeOf × Entry)) → n < core.size.nodes → node_performing (node_at core n) line ≡ done
    → IfSome (step_by core n (performs done)) (Stepped core (event.Perform n line) (option_map (λ (d : NodeOf × Entry). d.1) done))
perform_steps core n line None lt is = tt
perform_steps core n line (Some done) lt is = By_perform n line done lt is refl refl

asked : (core : Core) (n line : ℕ) (kind : AskKind) (sent : Option (NodeOf × Letter)) → n < core.size.nodes → IsWellFormed core
    → IfSome sent (SendsWell core.size n) → node_asking (node_at core n) line kind ≡ sent
    → IfSome (step_by core n (sends Requests sent)) (Stepped core (event.Ask n line kind) None)
asked core n line kind None lt well sends_well is = tt
asked core n line kind (Some sent) lt well sends_well is = By_ask n line kind sent is sends_well (record {
  some = lt;
  within = lane_below core Requests n sent.1.target well lt sends_well.request.letter_ok.target;
  then_ = refl;
}) refl

replied : (core : Core) (n : ℕ) (sent : Option (NodeOf × Letter)) → n < core.size.nodes → IsWellFormed core → IfSome sent (RepliesWell core.size n)
    → node_replying (node_at core n) ≡ sent
    → IfSome (step_by core n (sends Answers sent)) (Stepped core (event.Reply n) None)
replied core n None lt well sends_well is = tt
replied core n (Some sent) lt well sends_well is = By_reply n sent is sends_well (record {
  some = lt;
  within = lane_below core Answers n sent.1.target well lt sends_well.answer.letter_ok.target;
  then_ = refl;
}) refl

took : (core : Core) (n place : ℕ) (kind : LaneKind) (taking : NodeOf → Letter → Option NodeOf) (letter : Letter) (rest : List Letter) (next : Option NodeOf)
    → n < core.size.nodes → place < length core.lanes → lane_at core place ≡ letter ∷ rest → Comes core n kind letter
    → taking (node_at core n) letter ≡ next → IfSome (taken_as core n place rest next) (λ new. Taken core new kind taking)
took core n place kind taking letter rest None lt within front comes is = tt
took core n place kind taking letter rest (Some next) lt within front comes is = record {
  node = n;
  place = place;
  letter = letter;
  rest = rest;
  next = next;
  some = lt;
  within = within;
  front = front;
  comes = comes;
  takes = is;
  then_ = refl;
}

takes : (core : Core) (n place : ℕ) (kind : LaneKind) (taking : NodeOf → Letter → Option NodeOf) (lane : List Letter) → n < core.size.nodes
    → place < length core.lanes → lane_at core place ≡ lane → All (IsInLane core.size.nodes core.size.lines place) lane
    → ((letter : Letter) → IsInLane core.size.nodes core.size.lines place letter → Comes core n kind letter)
    → IfSome (taken_from core n place (taking (node_at core n)) lane) (λ new. Taken core new kind taking)
takes core n place kind taking [] lt within front all comes = tt
takes core n place kind taking (letter ∷ rest) lt within front all comes =
    took core n place kind taking letter rest (taking (node_at core n) letter) lt within front
    (comes letter (All-head (IsInLane core.size.nodes core.size.lines place) letter rest all)) refl

taken : (core : Core) (n from : ℕ) (kind : LaneKind) (taking : NodeOf → Letter → Option NodeOf) → n < core.size.nodes → IsWellFormed core
    → IfSome (step_by core n (Takes kind from (taking (node_at core n)))) (λ new. Taken core new kind taking)
taken core n from kind taking lt well =
    if_below from core.size.nodes (λ new. Taken core new kind taking)
    (taken_from core n (lane_place core.size.nodes kind from n) (taking (node_at core n)) (lane_of core kind from n)) (λ f.
    takes core n (lane_place core.size.nodes kind from n) kind taking (lane_of core kind from n) lt (lane_below core kind from n well f lt) refl
    (well.each_lane (lane_place core.size.nodes kind from n))
    (λ letter h. comes_from_lane core from n kind letter f lt h))

-- ---- each event

side_stepped : (core : Core) (e : Event) → node_of e < core.size.nodes → IsWellFormed core
    → IfSome (step_by core (node_of e) (side (node_at core (node_of e)) e)) (Stepped core e (performed core e))
side_stepped core (event.Issue n op) lt well = issued core n op (node_issuing (node_at core n) op) lt refl
side_stepped core (event.Perform n line) lt well = perform_steps core n line (node_performing (node_at core n) line) lt refl
side_stepped core (event.Ask n line kind) lt well = grind (arith, asked, part_asking)
side_stepped core (event.Serve from n) lt well =
    IfSome_then (step_by core n (Takes Requests from (node_serving (node_at core n)))) (taken core n from Requests node_serving lt well)
    (λ new t. By_serve t refl)
side_stepped core (event.Refuse from n) lt well =
    IfSome_then (step_by core n (Takes Requests from (node_refusing (node_at core n)))) (taken core n from Requests node_refusing lt well)
    (λ new t. By_refuse t refl)
side_stepped core (event.Reply n) lt well =
    replied core n (node_replying (node_at core n)) lt well (part_replying core.size n (node_at core n) (well.each_part n lt)) refl
side_stepped core (event.Accept from n) lt well =
    IfSome_then (step_by core n (Takes Answers from (node_accepting (node_at core n)))) (taken core n from Answers node_accepting lt well)
    (λ new t. By_accept t refl)

pub stepping_stepped : (core : Core) (e : Event) → IsWellFormed core → IfSome (stepping core e) (Stepped core e (performed core e))
unfolding stepping
stepping_stepped core e well = grind (arith, if_below, side_stepped)
