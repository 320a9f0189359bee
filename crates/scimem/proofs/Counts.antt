-- How many operations each node of a script has.
use Rattle.std.proofs.Common.{◌≡◌, ℕ, ◌≤◌, cond, eqb, List, [], ◌∷◌, refl, ◌∙◌, arith, inl, inr}
use Rattle.std.proofs.lemmas.{Bool.{ne_eqb, cases_lt}, List.{Elements.{recursion_from_All}, Sums.{sum_by-append}}}
use Rattle.std.specs.{Prelude.{count_by}, List.{AllByRecursion}}
use Rattle.sci_words.specs.declared.{limits.TheConstants.{MAX_OPERATIONS}, operation.Op.{Op}}
use Rattle.sci_text.specs.Script.{ScriptValue, IsScript, IsWithin}

none_of : (nodes lines node : ℕ) (operations : List (ℕ × Op)) → AllByRecursion (λ p. IsWithin nodes lines p.0 p.1) operations → nodes ≤ node
    → count_by (λ p. eqb p.0 node) operations ≡ 0
none_of nodes lines node [] h le = refl
none_of nodes lines node (p ∷ operations) h le =
    let here = h.0 in
    let known = here.known_node in
    let other = ne_eqb p.0 node (λ e. absurd (omega arith)) in
    let rest = none_of nodes lines node operations h.1 le in
    let split = sum_by-append (λ q. cond (eqb q.0 node) 1 0) (p ∷ []) operations in
    split ∙ rw (other, rest) refl

pub few_of_each : (s : ScriptValue) → IsScript s → (node : ℕ) → count_by (λ p. eqb p.0 node) s.operations ≤ MAX_OPERATIONS
few_of_each s h node =
    elim (cases_lt node s.nodes) [
      | inl lt ↦ h.counts node lt
      | inr past ↦
          let none = none_of s.nodes s.lines node s.operations (recursion_from_All (λ p. IsWithin s.nodes s.lines p.0 p.1) s.operations h.within) past in
          omega arith
    ]
