-- A step, from its node's side.
use Rattle.std.proofs.Common.{◌≡◌, ℕ, ◌<◌, ◌≤◌, nat_lt, Bool, true, false, if◌then◌else◌, List, [], ◌∷◌, Option, Some, None, refl, sym, ap, ◌∙◌, drop}
use Rattle.std.proofs.{Common.{arith}, lemmas.Bool.{lt-ltb, le-ltb}}
use Rattle.std.specs.Prelude.{slice_get}
use Rattle.sci_words.specs.declared.event.Event.{Event}
use Rattle.sci_cache.specs.Cache.{Letter}
use Rattle.sci_core.specs.{declared.lane.LaneKind.{LaneKind}, Node.{NodeOf}}
use Rattle.sci_core.specs.Core.{Core, node_at, with_node, lane_place, lane_of, Side, Idle, Changes, Sends, Takes, side, node_of, sent_by, taken_as}
use Rattle.sci_core.specs.Core.{taken_from, step_by, stepping}

pub if_true : {X : Type 0} (b : Bool) (x y : X) → b ≡ true → (if b then x else y) ≡ x
if_true true x y e = refl
if_true false x y e = cc

pub if_false : {X : Type 0} (b : Bool) (x y : X) → b ≡ false → (if b then x else y) ≡ y
if_false true x y e = cc
if_false false x y e = refl

pub stepping_side : (core : Core) (e : Event) (s : Side) → node_of e < core.size.nodes → side (node_at core (node_of e)) e ≡ s
    → stepping core e ≡ step_by core (node_of e) s
unfolding stepping
stepping_side core e s lt is = if_true (nat_lt (node_of e) core.size.nodes) _ None (lt-ltb (node_of e) core.size.nodes lt) ∙ ap (step_by core (node_of e)) is

-- there is no such node
pub stepping_nobody : (core : Core) (e : Event) → core.size.nodes ≤ node_of e → stepping core e ≡ None
unfolding stepping
stepping_nobody core e le = if_false (nat_lt (node_of e) core.size.nodes) _ None (le-ltb (node_of e) core.size.nodes le)

-- ---- the four kinds of side, of the state before and after

pub stepping_idle : (core : Core) (e : Event) → node_of e < core.size.nodes → side (node_at core (node_of e)) e ≡ Idle → stepping core e ≡ None
stepping_idle core e lt is = stepping_side core e Idle lt is

pub stepping_changed : (core new : Core) (e : Event) (next : NodeOf) → node_of e < core.size.nodes → side (node_at core (node_of e)) e ≡ Changes next
    → new ≡ with_node core (node_of e) next → stepping core e ≡ Some new
stepping_changed core new e next lt is same = stepping_side core e (Changes next) lt is ∙ ap Some (sym same)

pub stepping_sent : (core new : Core) (e : Event) (kind : LaneKind) (next : NodeOf) (letter : Letter) → node_of e < core.size.nodes
    → side (node_at core (node_of e)) e ≡ Sends kind next letter
    → new ≡ sent_by core (node_of e) kind next letter → stepping core e ≡ Some new
stepping_sent core new e kind next letter lt is same = stepping_side core e (Sends kind next letter) lt is ∙ ap Some (sym same)

-- a step that takes, from its lane
pub stepping_takes : (core : Core) (e : Event) (kind : LaneKind) (from : ℕ) (taking : Letter → Option NodeOf) → node_of e < core.size.nodes
    → from < core.size.nodes → side (node_at core (node_of e)) e ≡ Takes kind from taking
    → stepping core e ≡ taken_from core (node_of e) (lane_place core.size.nodes kind from (node_of e)) taking (lane_of core kind from (node_of e))
stepping_takes core e kind from taking lt f is =
    stepping_side core e (Takes kind from taking) lt is ∙ if_true (nat_lt from core.size.nodes) _ None (lt-ltb from core.size.nodes f)

pub stepping_from_nobody : (core : Core) (e : Event) (kind : LaneKind) (from : ℕ) (taking : Letter → Option NodeOf) → node_of e < core.size.nodes
    → core.size.nodes ≤ from → side (node_at core (node_of e)) e ≡ Takes kind from taking
    → stepping core e ≡ None
stepping_from_nobody core e kind from taking lt f is =
    stepping_side core e (Takes kind from taking) lt is ∙ if_false (nat_lt from core.size.nodes) _ None (le-ltb from core.size.nodes f)

pub empty_lane : (core : Core) (n place : ℕ) (taking : Letter → Option NodeOf) (lane : List Letter) → slice_get lane 0 ≡ None
    → taken_from core n place taking lane ≡ None
empty_lane core n place taking [] e = refl
empty_lane core n place taking (letter ∷ rest) e = cc

pub front_taken : (core : Core) (n place : ℕ) (taking : Letter → Option NodeOf) (lane : List Letter) (letter : Letter) (next : Option NodeOf)
    → slice_get lane 0 ≡ Some letter → taking letter ≡ next
    → taken_from core n place taking lane ≡ taken_as core n place (drop 1 lane) next
front_taken core n place taking [] letter next e takes = cc
front_taken core n place taking (first ∷ rest) letter next e takes = grind arith
