-- The operations of each node are no more than it may have.
use Rattle.std.proofs.Common.{ℕ, ◌<◌, ◌≤◌, ◌==◌, length, filter, arith}
use Rattle.std.proofs.lemmas.List.{length-map, Sums.{length-filter}}
use Rattle.sci_words.specs.declared.{limits.TheConstants.{MAX_OPERATIONS}, operation.Op.{Op}}
use Rattle.sci_text.specs.Script.{IsScript, ScriptValue, operations_of}

pub few_own : (s : ScriptValue) (node : ℕ) → IsScript s → node < s.nodes → length (operations_of node s.operations) ≤ MAX_OPERATIONS
few_own s node good lt =
    let counted = length-filter (λ (p : ℕ × Op). p.0 == node) s.operations in
    let long = length-map (filter (λ (p : ℕ × Op). p.0 == node) s.operations) (λ (p : ℕ × Op). p.1) in
    omega (arith, good.counts node lt)
