-- What each event does, by its node's side alone: what the node does with it, and where its one packet is put or
-- comes from.
use Rattle.std.specs.Prelude.{◌≡◌, ◌<◌, ℕ, List, [], ◌∷◌, Option, None, option_map}
use Rattle.sci_words.specs.declared.{event.{AskKind.{AskKind}, Event.{Event}}, operation.Op.{Op}}
use Rattle.sci_cache.specs.Cache.{Letter}
use Rattle.sci_core.specs.declared.lane.LaneKind.{LaneKind, TheVariants.{Requests, Answers}}
use Rattle.sci_core.specs.Node.{NodeOf, node_issuing, node_performing, node_asking, node_serving, node_refusing, node_replying, node_accepting}
use Rattle.sci_core.specs.Core.{Core, node_at, with_node, lane_place, lane_of, with_lane, sent_by, stepping}
use Rattle.sci_words.specs.declared.event.Event.TheVariants as event

-- the node is this one next, and the lane loses its front
abbrev pub taken_to : Core → ℕ → LaneKind → ℕ → List Letter → NodeOf → Core
taken_to core n kind from rest next = with_lane (with_node core n next) (lane_place core.size.nodes kind from n) rest

-- An event that takes a packet is what the node does with the front of the lane: enabled exactly if it takes it.
pub record TakesFront (core : Core) (n : ℕ) (kind : LaneKind) (taking : NodeOf → Letter → Option NodeOf) (from : ℕ) (e : Event) : Type 0 where
  pub front : (letter : Letter) (rest : List Letter) → lane_of core kind from n ≡ letter ∷ rest
      → stepping core e ≡ option_map (taken_to core n kind from rest) (taking (node_at core n) letter)
  pub empty : lane_of core kind from n ≡ [] → stepping core e ≡ None

-- the seven events of node n
pub record StepsBySides (core : Core) (n : ℕ) : Type 0 where
  pub issue : (op : Op) → stepping core (event.Issue n op) ≡ option_map (with_node core n) (node_issuing (node_at core n) op)
  pub perform : (line : ℕ) → stepping core (event.Perform n line) ≡ option_map (λ done. with_node core n done.0) (node_performing (node_at core n) line)
  pub ask : (line : ℕ) (kind : AskKind)
      → stepping core (event.Ask n line kind) ≡ option_map (λ sent. sent_by core n Requests sent.0 sent.1) (node_asking (node_at core n) line kind)
  pub reply : stepping core (event.Reply n) ≡ option_map (λ sent. sent_by core n Answers sent.0 sent.1) (node_replying (node_at core n))
  pub serve : (from : ℕ) → from < core.size.nodes → TakesFront core n Requests node_serving from (event.Serve from n)
  pub refuse : (from : ℕ) → from < core.size.nodes → TakesFront core n Requests node_refusing from (event.Refuse from n)
  pub accept : (from : ℕ) → from < core.size.nodes → TakesFront core n Answers node_accepting from (event.Accept from n)
