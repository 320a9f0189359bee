-- The limits of a script, and the counts that keep them.
use Rattle.std.proofs.Common.{◌≡◌, ℕ, ◌+◌, ◌<◌, cond, eqb, List, [], ◌∷◌, ◌++◌, length, get_or, sym, ap, ◌∙◌, arith, inl, inr}
use Rattle.std.proofs.{Math.ListN.{set}, lemmas.Bool.{cases_eq, eq-eqb, ne_eqb}}
use Rattle.std.proofs.lemmas.List.{length-set, get_or-set_same, get_or-set_other, Elements.{All-push}}
use Rattle.std.proofs.lemmas.List.Sums.{sum_by-append}
use Rattle.sci_words.specs.declared.{limits.TheConstants.{MAX_NODES, MAX_OPERATIONS}, operation.Op.{Op}}
use Rattle.sci_words.specs.{declared.extent.Extent.{Extent}, Extent.{AreWithinLimits}}
use Rattle.sci_text.specs.Script.{IsWithin, AreWithin, AreCounts, count_of, IsScript}

pub is_script : (nodes lines slots : ℕ) (counts : List ℕ) (operations : List (ℕ × Op)) → AreWithinLimits nodes lines slots → AreWithin nodes lines operations
    → AreCounts counts operations
    → IsScript (record { nodes = nodes; lines = lines; slots = slots; operations = operations })
is_script nodes lines slots counts operations size within counted = record {
  size = size;
  within = within;
  counts = λ node known. omega (arith, size.few_nodes, counted.each node (omega (arith, size.few_nodes)), counted.few node (omega (arith, size.few_nodes)));
}

count_push : (m node : ℕ) (op : Op) (operations : List (ℕ × Op)) → count_of m (operations ++ (node, op) ∷ []) ≡ count_of m operations + cond (eqb node m) 1 0
count_push m node op operations = sum_by-append (λ p. cond (eqb p.0 m) 1 0) operations ((node, op) ∷ []) ∙ omega arith

pub within_push : (nodes lines node : ℕ) (op : Op) (operations : List (ℕ × Op)) → AreWithin nodes lines operations → IsWithin nodes lines node op
    → AreWithin nodes lines (operations ++ (node, op) ∷ [])
within_push nodes lines node op operations within one = All-push (λ p. IsWithin nodes lines p.0 p.1) operations (node, op) within one

count_push_same : (m node : ℕ) (op : Op) (operations : List (ℕ × Op)) → node ≡ m → count_of m (operations ++ (node, op) ∷ []) ≡ count_of m operations + 1
count_push_same m node op operations same = count_push m node op operations ∙ ap (λ b. count_of m operations + cond b 1 0) (eq-eqb node m same)

count_push_other : (m node : ℕ) (op : Op) (operations : List (ℕ × Op)) → (node ≡ m → ⊥) → count_of m (operations ++ (node, op) ∷ []) ≡ count_of m operations
count_push_other m node op operations other =
    let e = count_push m node op operations ∙ ap (λ b. count_of m operations + cond b 1 0) (ne_eqb node m other) in
    omega (arith, e)

pub counts_push : (counts : List ℕ) (node : ℕ) (op : Op) (operations : List (ℕ × Op)) → AreCounts counts operations → node < MAX_NODES
    → get_or counts node 0 < MAX_OPERATIONS
    → AreCounts (set counts node (get_or counts node 0 + 1)) (operations ++ (node, op) ∷ [])
counts_push counts node op operations counted known room =
    let new : ℕ = get_or counts node 0 + 1 in
    let inside : node < length counts = omega (arith, counted.len) in
    let here : get_or (set counts node new) node 0 ≡ new = get_or-set_same counts node new 0 inside in
    let old : get_or counts node 0 ≡ count_of node operations = counted.each node known in
    record {
      len = length-set counts node new ∙ counted.len;
      each = λ m below. elim (cases_eq node m) [
        | inl same ↦ ap (λ k. get_or (set counts node new) k 0) (sym same) ∙ here ∙ ap (λ k. k + 1) (old ∙ ap (λ k. count_of k operations) same)
            ∙ sym (count_push_same m node op operations same)
        | inr other ↦ get_or-set_other counts node m new 0 (λ e. other (sym e)) ∙ counted.each m below ∙ sym (count_push_other m node op operations other)
      ];
      few = λ m below. elim (cases_eq node m) [
        | inl same ↦ omega (arith, ap (λ k. get_or (set counts node new) k 0) (sym same) ∙ here)
        | inr other ↦ omega (arith, get_or-set_other counts node m new 0 (λ e. other (sym e)), counted.few m below)
      ];
    }

size_inside : (extent : Extent) → AreWithinLimits extent.nodes extent.lines extent.slots
size_inside extent = grind arith

pub is_script_inside : (extent : Extent) (counts : List ℕ) (operations : List (ℕ × Op))
    → AreWithin extent.nodes extent.lines operations × AreCounts counts operations
    → IsScript (record { nodes = extent.nodes; lines = extent.lines; slots = extent.slots; operations = operations })
is_script_inside extent counts operations good = is_script extent.nodes extent.lines extent.slots counts operations (size_inside extent) good.0 good.1
