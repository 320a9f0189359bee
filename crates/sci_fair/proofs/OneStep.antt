-- What an event of a node that takes or sends a packet does to the node, and to each lane.
use Rattle.std.proofs.Common.{◌≡◌, ◌≢◌, ◌<◌, ◌/◌, ◌%◌, ℕ, List, [], ◌∷◌, ◌++◌, Option, Some, refl, sym, ap, subst, ◌∙◌}
use Rattle.std.proofs.Common.{get_or-set_same, get_or-set_other}
use Rattle.sci_cache.specs.Cache.{Letter}
use Rattle.sci_core.specs.declared.lane.LaneKind.{LaneKind, TheVariants.{Requests, Answers}}
use Rattle.sci_core.specs.Core.{Core, Takes, lane_of, lane_place, node_at, sends, step_by, with_lane, with_node}
use Rattle.sci_core.specs.{Node.{NodeOf}, Reached.{IsReached}}
use Rattle.sci_core.proofs.{Step.{Places.{place_from, place_to}, Steps.{lane_below}}, WellFormed.WellFormedSteps.{reached_well}}
use Rattle.sci_turn.proofs.Working.{own_node}
use Rattle.sci_fair.proofs.{Looks.{answers_apart}, Taking.{SentOut, TookFront, sent_out, took}}

-- ---- two lanes stand at two places

kinds_same : (nodes : ℕ) (k j : LaneKind) (a b c d : ℕ) → a < nodes → b < nodes → c < nodes → d < nodes
    → lane_place nodes k a b ≡ lane_place nodes j c d → k ≡ j
kinds_same nodes Requests Requests a b c d f t g u same = refl
kinds_same nodes Answers Answers a b c d f t g u same = refl
kinds_same nodes Requests Answers a b c d f t g u same = absurd (answers_apart nodes c d a b f t same)
kinds_same nodes Answers Requests a b c d f t g u same = absurd (answers_apart nodes a b c d g u (sym same))

pub places_apart : (nodes : ℕ) (k j : LaneKind) (a b c d : ℕ) → a < nodes → b < nodes → c < nodes → d < nodes → (k ≡ j → a ≡ c → b ≡ d → ⊥)
    → lane_place nodes k a b ≢ lane_place nodes j c d
places_apart nodes k j a b c d f t g u differ = λ same.
    differ (kinds_same nodes k j a b c d f t g u same)
    (sym (place_from nodes k a b f t) ∙ (ap (λ (p : ℕ). p / nodes % nodes) same ∙ place_from nodes j c d g u))
    (sym (place_to nodes k a b t) ∙ (ap (λ (p : ℕ). p % nodes) same ∙ place_to nodes j c d u))

-- one lane is another, and all others are as they were
pub record SetsOne (core new : Core) (kind : LaneKind) (from to : ℕ) (lane : List Letter) : Type 0 where
  pub size : new.size ≡ core.size
  pub now : lane_of new kind from to ≡ lane
  pub rest : (k : LaneKind) (a b : ℕ) → a < core.size.nodes → b < core.size.nodes → (k ≡ kind → a ≡ from → b ≡ to → ⊥)
      → lane_of new k a b ≡ lane_of core k a b

sets_one : (core new : Core) (n : ℕ) (next : NodeOf) (kind : LaneKind) (from to : ℕ) (lane : List Letter) → IsReached core → from < core.size.nodes
    → to < core.size.nodes → with_lane (with_node core n next) (lane_place core.size.nodes kind from to) lane ≡ new → SetsOne core new kind from to lane
sets_one core new n next kind from to lane reached f t made =
    let place = lane_place core.size.nodes kind from to in
    record {
      size = ap (λ (c : Core). c.size) (sym made);
      now = subst (λ (c : Core). lane_of c kind from to ≡ lane) made
          (get_or-set_same core.lanes place lane [] (lane_below core kind from to (reached_well core reached) f t));
      rest = λ k a b g u differ. subst (λ (c : Core). lane_of c k a b ≡ lane_of core k a b) made
          (get_or-set_other core.lanes place (lane_place core.size.nodes k a b) lane []
          (places_apart core.size.nodes k kind a b from to g u f t differ));
    }

-- ---- a packet is taken

pub record TakesOne (core new : Core) (n from : ℕ) (kind : LaneKind) (taking : Letter → Option NodeOf) : Type 0 where
  pub front : TookFront core new n from kind taking
  pub sets : SetsOne core new kind from n front.rest
  pub node : node_at new n ≡ front.next

pub takes_one : (core new : Core) (n from : ℕ) (kind : LaneKind) (taking : Letter → Option NodeOf) → IsReached core → n < core.size.nodes
    → step_by core n (Takes kind from taking) ≡ Some new → TakesOne core new n from kind taking
takes_one core new n from kind taking reached some is =
    let front = took core new n from kind taking is in
    record {
      front = front;
      sets = sets_one core new n front.next kind from n front.rest reached front.sender some front.made;
      node = ap (λ (c : Core). node_at c n) (sym front.made) ∙ own_node core n front.next reached some;
    }

-- ---- a packet is sent

pub record SendsOne (core new : Core) (n : ℕ) (kind : LaneKind) (o : Option (NodeOf × Letter)) : Type 0 where
  pub out : SentOut core new n kind o
  pub to : out.sent.1.target < core.size.nodes
  pub sets : SetsOne core new kind n out.sent.1.target (lane_of core kind n out.sent.1.target ++ out.sent.1 ∷ [])
  pub node : node_at new n ≡ out.sent.0

pub sends_one : (core new : Core) (n : ℕ) (kind : LaneKind) (o : Option (NodeOf × Letter)) → IsReached core → n < core.size.nodes
    → ((sent : NodeOf × Letter) → o ≡ Some sent → sent.1.target < core.size.nodes) → step_by core n (sends kind o) ≡ Some new → SendsOne core new n kind o
sends_one core new n kind o reached some within is =
    let out = sent_out core new n kind o is in
    let to = within out.sent out.there in
    record {
      out = out;
      to = to;
      sets = sets_one core new n out.sent.0 kind n out.sent.1.target (lane_of core kind n out.sent.1.target ++ out.sent.1 ∷ []) reached some to out.made;
      node = ap (λ (c : Core). node_at c n) (sym out.made) ∙ own_node core n out.sent.0 reached some;
    }
