-- An operation that can be issued is refused for nothing.
use Rattle.std.proofs.Common.{◌≡◌, None, arith}
use Rattle.std.specs.Prelude.{IsSome}
use Rattle.sci_words.specs.declared.operation.Op.{Op}
use Rattle.sci_core.specs.{Node.{NodeOf, node_issuing}, Obstacles.{submit_fault}}

pub issued_freely : (node : NodeOf) (op : Op) → IsSome (node_issuing node op) → submit_fault node op ≡ None
issued_freely node op some = grind arith
