-- What a side of a node does to the machine if it takes a packet or sends one.
use Rattle.std.proofs.Common.{◌≡◌, ◌<◌, ℕ, Bool, true, false, if◌then◌else◌, List, [], ◌∷◌, Option, Some, None, refl, arith}
use Rattle.std.proofs.lemmas.Bool.{ltb-true}
use Rattle.std.specs.Prelude.{nat_lt}
use Rattle.sci_cache.specs.Cache.{Letter}
use Rattle.sci_core.specs.declared.lane.LaneKind.{LaneKind}
use Rattle.sci_core.specs.Core.{Core, Takes, lane_of, lane_place, sends, sent_by, step_by, taken_as, taken_from, with_lane, with_node}
use Rattle.sci_core.specs.Node.{NodeOf}

-- node n took the front of its lane of a kind from a node, and became this one
pub record TookFront (core new : Core) (n from : ℕ) (kind : LaneKind) (taking : Letter → Option NodeOf) : Type 0 where
  pub letter : Letter
  pub rest : List Letter
  pub next : NodeOf
  pub sender : from < core.size.nodes
  pub front : lane_of core kind from n ≡ letter ∷ rest
  pub takes : taking letter ≡ Some next
  pub made : with_lane (with_node core n next) (lane_place core.size.nodes kind from n) rest ≡ new

took_as : (core new : Core) (n from : ℕ) (kind : LaneKind) (taking : Letter → Option NodeOf) (letter : Letter) (rest : List Letter) (o : Option NodeOf)
    → from < core.size.nodes → lane_of core kind from n ≡ letter ∷ rest → taking letter ≡ o
    → taken_as core n (lane_place core.size.nodes kind from n) rest o ≡ Some new → TookFront core new n from kind taking
took_as core new n from kind taking letter rest None sender front takes is = cc
took_as core new n from kind taking letter rest (Some next) sender front takes is = grind arith

took_from : (core new : Core) (n from : ℕ) (kind : LaneKind) (taking : Letter → Option NodeOf) (lane : List Letter) → from < core.size.nodes
    → lane_of core kind from n ≡ lane → taken_from core n (lane_place core.size.nodes kind from n) taking lane ≡ Some new
    → TookFront core new n from kind taking
took_from core new n from kind taking [] sender here is = cc
took_from core new n from kind taking (letter ∷ rest) sender here is = took_as core new n from kind taking letter rest (taking letter) sender here refl is

took_if : (core new : Core) (n from : ℕ) (kind : LaneKind) (taking : Letter → Option NodeOf) (b : Bool) → nat_lt from core.size.nodes ≡ b
    → (if b then taken_from core n (lane_place core.size.nodes kind from n) taking (lane_of core kind from n) else None) ≡ Some new
    → TookFront core new n from kind taking
took_if core new n from kind taking true below is = grind (arith, took_from, ltb-true)
took_if core new n from kind taking false below is = cc

pub took : (core new : Core) (n from : ℕ) (kind : LaneKind) (taking : Letter → Option NodeOf) → step_by core n (Takes kind from taking) ≡ Some new
    → TookFront core new n from kind taking
took core new n from kind taking is = took_if core new n from kind taking (nat_lt from core.size.nodes) refl is

-- node n sent a packet, and became this one
pub record SentOut (core new : Core) (n : ℕ) (kind : LaneKind) (o : Option (NodeOf × Letter)) : Type 0 where
  pub sent : NodeOf × Letter
  pub there : o ≡ Some sent
  pub made : sent_by core n kind sent.0 sent.1 ≡ new

pub sent_out : (core new : Core) (n : ℕ) (kind : LaneKind) (o : Option (NodeOf × Letter)) → step_by core n (sends kind o) ≡ Some new
    → SentOut core new n kind o
sent_out core new n kind None is = cc
sent_out core new n kind (Some sent) is = record { sent = sent; there = refl; made = cc }
