use Rattle.std.proofs.Common.{◌≡◌, ◌<◌, ℕ, All, [], length, take}
use Rattle.std.specs.Prelude.{slice_index_or}
use Rattle.sci_text.specs.Script.{operations_of}
use Rattle.sci_text.proofs.script_shares.operations_by_node.Given as goal

abbrev pub invariant-loop-node : goal.invariant-loop-node
invariant-loop-node l = (length l.all.items ≡ l.node-counter) × All (λ own. own.items ≡ []) l.all.items

abbrev pub invariant-loop-node-2 : goal.invariant-loop-node-2
invariant-loop-node-2 l =
    (length l.all.items ≡ l.script.nodes)
    × ((node : ℕ) (d : _) → node < l.script.nodes → (slice_index_or l.all.items node d).items ≡ operations_of node (take l.node-index l.node-items))
