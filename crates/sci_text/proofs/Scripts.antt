-- A script's text is a listing: a line for each operation.
use Rattle.std.proofs.Common.{cond, eqb, ◌≡◌, ℕ, ◌<◌, ◌≤◌, List, [], ◌∷◌, ◌++◌, refl, ap, arith}
use Rattle.std.proofs.lemmas.{List.{Elements.{recursion_from_All}, Sums.{sum_by-append}}, Bool.{eq-eqb}}
use Rattle.sci_words.specs.declared.{limits.TheConstants.{MAX_OPERATIONS}, operation.Op.{Op}}
use Rattle.sci_text.specs.Script.{ScriptValue, IsScript, IsWithin, count_of}
use Rattle.sci_text.proofs.{ScriptReads.{operation_line_format}, Listings.{Listing}}

pub operation_fits : (s : ScriptValue) → IsScript s → (p : ℕ × Op) → IsWithin s.nodes s.lines p.0 p.1 → operation_line_format.Fits p
operation_fits s good p within = grind arith

count_front : (m : ℕ) (front more : List (ℕ × Op)) (p : ℕ × Op) → p.0 ≡ m → count_of m front < count_of m (front ++ p ∷ more)
count_front m front more p same =
    let f : ℕ × Op → ℕ = λ q. cond (eqb q.0 m) 1 0 in
    let one : f p ≡ 1 = ap (λ b. cond b 1 0) (eq-eqb p.0 m same) in
    omega (arith, sum_by-append f front (p ∷ more), sum_by-append f (p ∷ []) more, one)

pub has_room : (s b : ScriptValue) (p : ℕ × Op) (more : List (ℕ × Op)) → IsScript s → IsWithin s.nodes s.lines p.0 p.1 → s.operations ≡ b.operations ++ p ∷ more
    → MAX_OPERATIONS ≤ count_of p.0 b.operations → ⊥
has_room s b p more good within parts full =
    let fewer : count_of p.0 b.operations < count_of p.0 s.operations = rw parts (count_front p.0 b.operations more p refl) in
    let counts = good.counts p.0 within.known_node in
    absurd (omega arith)

abbrev pub scripts : Listing ScriptValue (ℕ × Op)
scripts = record {
  line = operation_line_format;
  size = λ s. (s.nodes, s.lines, s.slots);
  items = λ s. s.operations;
  value_of = λ z ops. record { nodes = z.0; lines = z.1; slots = z.2; operations = ops };
  is_value = λ s. refl;
  IsGood = IsScript;
  Within = λ z p. IsWithin z.0 z.1 p.0 p.1;
  is_full = λ s p. MAX_OPERATIONS ≤ count_of p.0 s.operations;
  limits = λ s good. good.size;
  fits = operation_fits;
  each = λ s good. recursion_from_All (λ p. IsWithin s.nodes s.lines p.0 p.1) s.operations good.within;
  room = has_room;
}
