-- Where lanes stand, and what their places tell.
use Rattle.std.proofs.Common.{◌≡◌, ℕ, ◌+◌, ◌*◌, ◌/◌, ◌%◌, ◌<◌, ◌≤◌, ap, ◌∙◌, zero-mul, zero-add, arith}
use Rattle.std.proofs.lemmas.Nat.{mul-add-lt, mod-mul-add, div-mul-add}
use Rattle.sci_core.specs.declared.lane.LaneKind.{LaneKind, TheVariants.{Requests, Answers}}
use Rattle.sci_core.specs.Core.{kind_number, lane_place}

few_kinds : (kind : LaneKind) → kind_number kind < 2
few_kinds Requests = omega arith
few_kinds Answers = omega arith

-- there is such a lane
pub place_below : (nodes : ℕ) (kind : LaneKind) (from to : ℕ) → from < nodes → to < nodes → lane_place nodes kind from to < 2 * nodes * nodes
place_below nodes kind from to f t = grind (arith, mul-add-lt, few_kinds)

pub place_to : (nodes : ℕ) (kind : LaneKind) (from to : ℕ) → to < nodes → lane_place nodes kind from to % nodes ≡ to
place_to nodes kind from to t = mod-mul-add (kind_number kind * nodes + from) nodes to t

pub place_from : (nodes : ℕ) (kind : LaneKind) (from to : ℕ) → from < nodes → to < nodes → lane_place nodes kind from to / nodes % nodes ≡ from
place_from nodes kind from to f t =
    ap (λ (k : ℕ). k % nodes) (div-mul-add (kind_number kind * nodes + from) nodes to t) ∙ mod-mul-add (kind_number kind) nodes from f

pub place_requests : (nodes from to : ℕ) → from < nodes → to < nodes → lane_place nodes Requests from to < nodes * nodes
place_requests nodes from to f t = rw zero-mul (rw zero-add (mul-add-lt from nodes to nodes f t))

pub place_answers : (nodes from to : ℕ) → nodes * nodes ≤ lane_place nodes Answers from to
place_answers nodes from to = grind arith
