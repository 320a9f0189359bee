-- A line that is written is read again, and what is read as one was written so.
use Rattle.std.proofs.Common.{◌≡◌, ℕ, ◌<◌, List, [], ◌∷◌, ◌++◌, Option, Some, refl, sym, ap, subst, ◌∙◌, append_assoc, length, arith}
use Rattle.std.proofs.lemmas.{Option.{some_pair_parts}, List.{length-append}}
use Rattle.std.specs.{Prelude.{codes, option_map}, Option.{SomeIff}}
use Rattle.sci_words.specs.{declared.operation.Op.{Op}, Extent.{AreWithinLimits}}
use Rattle.sci_text.specs.{FirstFault.{IsShort}, Number.{field}, Operation.{operation}}
use Rattle.sci_text.specs.Reading.{◌>>=◌, fitting, field_read, after, byte, both, operation_read}
use Rattle.sci_text.specs.ScriptReading.{size_of, machine_line_read, operation_line_read}
use Rattle.sci_text.specs.Script.{machine_line, operation_line}
use Rattle.sci_text.proofs.Numbers.{field_again, ends_field, field_found, field_short}
use Rattle.sci_text.proofs.{Words.{after_again, after_found}, Lines.{Line}, ScriptText.{line_nonempty}}
use Rattle.sci_text.proofs.Operations.{operation_short, mapped, byte_is, both_is, bind_some, OpFits, operation_again, operation_found}

-- ---- the line of the size

abbrev pub Size : Type 0
Size = ℕ × ℕ × ℕ

abbrev SizeFits : Size → Type 0
SizeFits s = (s.0 < 256) × ((s.1 < 256) × (s.2 < 256))

size_is : (s : Size) → SomeIff (option_map size_of (both (byte (fitting s.0)) (both (byte (fitting s.1)) (byte (fitting s.2))))) (SizeFits s) s
size_is s =
    let two = both_is (s.1 < 256) (s.2 < 256) (byte (fitting s.1)) (byte (fitting s.2)) s.1 s.2 (byte_is s.1) (byte_is s.2) in
    mapped (SizeFits s) size_of (both (byte (fitting s.0)) (both (byte (fitting s.1)) (byte (fitting s.2)))) (s.0, (s.1, s.2))
    (both_is (s.0 < 256) ((s.1 < 256) × (s.2 < 256)) (byte (fitting s.0)) (both (byte (fitting s.1)) (byte (fitting s.2))) s.0 (s.1, s.2) (byte_is s.0) two)

abbrev SizeRead : Size → Option (Option Size × List ℕ) → List ℕ → Type 0
SizeRead s read rest = (o : Option Size) × (read ≡ Some (o, rest)) × SomeIff o (SizeFits s) s

pub size_again : (s : Size) (rest : List ℕ) → SizeRead s (machine_line_read (machine_line s.0 s.1 s.2 ++ rest)) rest
unfolding machine_line machine_line_read
size_again s rest =
    let regrouped : (codes "machine" ++ (field s.0 ++ (field s.1 ++ (field s.2 ++ 10 ∷ [])))) ++ rest ≡ codes "machine"
    ++ (field s.0 ++ (field s.1 ++ (field s.2 ++ 10 ∷ rest))) = simp append_assoc in (
      option_map size_of (both (byte (fitting s.0)) (both (byte (fitting s.1)) (byte (fitting s.2)))),
      rw (
        regrouped,
        after_again (codes "machine") (field s.0 ++ (field s.1 ++ (field s.2 ++ 10 ∷ rest))),
        field_again s.0 (field s.1 ++ (field s.2 ++ 10 ∷ rest)) (ends_field s.1 (field s.2 ++ 10 ∷ rest)),
        field_again s.1 (field s.2 ++ 10 ∷ rest) (ends_field s.2 (10 ∷ rest)),
        field_again s.2 (10 ∷ rest) refl,
        after_again (10 ∷ []) rest,
      ) refl,
      size_is s,
    )

pub size_found : (bytes : List ℕ) (o : Option Size) (rest : List ℕ) → machine_line_read bytes ≡ Some (o, rest)
    → (s : Size) × (bytes ≡ machine_line s.0 s.1 s.2 ++ rest) × SomeIff o (SizeFits s) s
unfolding machine_line machine_line_read
size_found bytes o rest e =
    let size : Option ℕ → Option ℕ → Option ℕ → Option Size = λ x y z. option_map size_of (both (byte x) (both (byte y) (byte z))) in
    let end : Option ℕ → Option ℕ → Option ℕ → List ℕ → Option (Option Size × List ℕ) = λ x y z l. after (10 ∷ []) l >>= λ r. Some (size x y z, r) in
    let first = bind_some (after (codes "machine") bytes) (λ l. field_read l >>= λ x. field_read x.1 >>= λ y. field_read y.1 >>= λ z. end x.0 y.0 z.0 z.1)
    (o, rest) e in
    let x = bind_some (field_read first.0) (λ x. field_read x.1 >>= λ y. field_read y.1 >>= λ z. end x.0 y.0 z.0 z.1) (o, rest) first.2 in
    let y = bind_some (field_read x.0.1) (λ y. field_read y.1 >>= λ z. end x.0.0 y.0 z.0 z.1) (o, rest) x.2 in
    let z = bind_some (field_read y.0.1) (λ z. end x.0.0 y.0.0 z.0 z.1) (o, rest) y.2 in
    let r = bind_some (after (10 ∷ []) z.0.1) (λ r. Some (size x.0.0 y.0.0 z.0.0, r)) (o, rest) z.2 in
    let n = field_found first.0 x.0.0 x.0.1 x.1 in
    let m = field_found x.0.1 y.0.0 y.0.1 y.1 in
    let k = field_found y.0.1 z.0.0 z.0.1 z.1 in
    let parts = some_pair_parts (size x.0.0 y.0.0 z.0.0) o r.0 rest r.2 in
    let last : z.0.1 ≡ 10 ∷ rest = after_found (10 ∷ []) z.0.1 r.0 r.1 ∙ ap (λ (l : List ℕ). 10 ∷ l) parts.1 in
    let slots : y.0.1 ≡ field k.0 ++ 10 ∷ rest = k.1 ∙ ap (λ (l : List ℕ). field k.0 ++ l) last in
    let lines : x.0.1 ≡ field m.0 ++ (field k.0 ++ 10 ∷ rest) = m.1 ∙ ap (λ (l : List ℕ). field m.0 ++ l) slots in
    let nodes : first.0 ≡ field n.0 ++ (field m.0 ++ (field k.0 ++ 10 ∷ rest)) = n.1 ∙ ap (λ (l : List ℕ). field n.0 ++ l) lines in
    let regrouped : (codes "machine" ++ (field n.0 ++ (field m.0 ++ (field k.0 ++ 10 ∷ [])))) ++ rest ≡ codes "machine"
    ++ (field n.0 ++ (field m.0 ++ (field k.0 ++ 10 ∷ rest))) = simp append_assoc in
    let seen : size (fitting n.0) (fitting m.0) (fitting k.0) ≡ o =
    ap (λ (v : Option ℕ). size v (fitting m.0) (fitting k.0)) (sym n.2) ∙ ap (λ (v : Option ℕ). size x.0.0 v (fitting k.0)) (sym m.2)
    ∙ ap (λ (v : Option ℕ). size x.0.0 y.0.0 v) (sym k.2) ∙ parts.0 in (
      (n.0, m.0, k.0),
      after_found (codes "machine") bytes first.0 first.1 ∙ ap (λ (l : List ℕ). codes "machine" ++ l) nodes ∙ sym regrouped,
      subst (λ (v : Option Size). SomeIff v (SizeFits (n.0, m.0, k.0)) (n.0, m.0, k.0)) seen (size_is (n.0, m.0, k.0)),
    )

pub size_some : (s : Size) → 0 < length (machine_line s.0 s.1 s.2)
unfolding machine_line
size_some s = omega arith

pub size_short : (s : Size) → SizeFits s → IsShort (machine_line s.0 s.1 s.2)
unfolding machine_line
size_short s fits = grind (arith, length-append, field_short)

abbrev pub machine_format : Line Size
machine_format = record {
  print = λ s. machine_line s.0 s.1 s.2;
  read = machine_line_read;
  Fits = SizeFits;
  again = size_again;
  found = size_found;
  nonempty = size_some;
  short = size_short;
}

abbrev pub is_size : Size → Type 0
is_size s = AreWithinLimits s.0 s.1 s.2

-- numbers within their limits fit
pub limits_fit : (s : Size) → is_size s → SizeFits s
limits_fit s limits = (omega (arith, limits.few_nodes), (omega (arith, limits.few_lines), omega (arith, limits.few_slots)))

-- ---- the line of an operation

pub operation_line_again : (node : ℕ) (op : Op) (rest : List ℕ)
    → (o : Option (ℕ × Op)) × (operation_line_read (operation_line node op ++ rest) ≡ Some (o, rest)) × SomeIff o ((node < 256) × OpFits op) (node, op)
unfolding operation_line operation_line_read
operation_line_again node op rest =
    let last = 10 ∷ rest in
    let gap = codes " " ++ (operation op ++ last) in
    let regrouped : (codes "p" ++ (field node ++ (codes " " ++ (operation op ++ 10 ∷ [])))) ++ rest ≡ codes "p" ++ (field node ++ gap) = simp append_assoc in
    let read = operation_again op last refl in (
      both (byte (fitting node)) read.0,
      rw (
        regrouped,
        after_again (codes "p") (field node ++ gap),
        field_again node gap refl,
        after_again (codes " ") (operation op ++ last),
        read.1,
        after_again (10 ∷ []) rest,
      ) refl,
      both_is (node < 256) (OpFits op) (byte (fitting node)) read.0 node op (byte_is node) read.2,
    )

pub operation_line_found : (bytes : List ℕ) (o : Option (ℕ × Op)) (rest : List ℕ) → operation_line_read bytes ≡ Some (o, rest)
    → (node : ℕ) × (op : Op) × (bytes ≡ operation_line node op ++ rest) × SomeIff o ((node < 256) × OpFits op) (node, op)
unfolding operation_line operation_line_read
operation_line_found bytes o rest e =
    let end : Option ℕ → Option Op → List ℕ → Option (Option (ℕ × Op) × List ℕ) = λ x y l. after (10 ∷ []) l >>= λ r. Some (both (byte x) y, r) in
    let first = bind_some (after (codes "p") bytes) (λ l. field_read l >>= λ x. after (codes " ") x.1 >>= λ g. operation_read g >>= λ y. end x.0 y.0 y.1) (
      o,
      rest,
    ) e in
    let x = bind_some (field_read first.0) (λ x. after (codes " ") x.1 >>= λ g. operation_read g >>= λ y. end x.0 y.0 y.1) (o, rest) first.2 in
    let g = bind_some (after (codes " ") x.0.1) (λ g. operation_read g >>= λ y. end x.0.0 y.0 y.1) (o, rest) x.2 in
    let y = bind_some (operation_read g.0) (λ y. end x.0.0 y.0 y.1) (o, rest) g.2 in
    let r = bind_some (after (10 ∷ []) y.0.1) (λ r. Some (both (byte x.0.0) y.0.0, r)) (o, rest) y.2 in
    let n = field_found first.0 x.0.0 x.0.1 x.1 in
    let op = operation_found g.0 y.0.0 y.0.1 y.1 in
    let parts = some_pair_parts (both (byte x.0.0) y.0.0) o r.0 rest r.2 in
    let last : y.0.1 ≡ 10 ∷ rest = after_found (10 ∷ []) y.0.1 r.0 r.1 ∙ ap (λ (l : List ℕ). 10 ∷ l) parts.1 in
    let said : g.0 ≡ operation op.0 ++ 10 ∷ rest = op.1 ∙ ap (λ (l : List ℕ). operation op.0 ++ l) last in
    let gap : x.0.1 ≡ codes " " ++ (operation op.0 ++ 10 ∷ rest) = after_found (codes " ") x.0.1 g.0 g.1 ∙ ap (λ (l : List ℕ). codes " " ++ l) said in
    let node : first.0 ≡ field n.0 ++ (codes " " ++ (operation op.0 ++ 10 ∷ rest)) = n.1 ∙ ap (λ (l : List ℕ). field n.0 ++ l) gap in
    let regrouped : (codes "p" ++ (field n.0 ++ (codes " " ++ (operation op.0 ++ 10 ∷ [])))) ++ rest ≡ codes "p"
    ++ (field n.0 ++ (codes " " ++ (operation op.0 ++ 10 ∷ rest))) = simp append_assoc in (
      n.0,
      op.0,
      after_found (codes "p") bytes first.0 first.1 ∙ ap (λ (l : List ℕ). codes "p" ++ l) node ∙ sym regrouped,
      subst (λ (v : Option (ℕ × Op)). SomeIff v ((n.0 < 256) × OpFits op.0) (n.0, op.0)) (ap (λ (v : Option ℕ). both (byte v) y.0.0) (sym n.2) ∙ parts.0)
          (both_is (n.0 < 256) (OpFits op.0) (byte (fitting n.0)) y.0.0 n.0 op.0 (byte_is n.0) op.2),
    )

pub operation_line_short : (p : ℕ × Op) → (p.0 < 256) × OpFits p.1 → IsShort (operation_line p.0 p.1)
unfolding operation_line
operation_line_short p fits = grind (arith, length-append, field_short, operation_short)

pub found_operation : (bytes : List ℕ) (o : Option (ℕ × Op)) (rest : List ℕ) → operation_line_read bytes ≡ Some (o, rest)
    → (p : ℕ × Op) × (bytes ≡ operation_line p.0 p.1 ++ rest) × SomeIff o ((p.0 < 256) × OpFits p.1) p
found_operation bytes o rest e = let f = operation_line_found bytes o rest e in ((f.0, f.1), f.2, f.3)

abbrev pub operation_line_format : Line (ℕ × Op)
operation_line_format = record {
  print = λ p. operation_line p.0 p.1;
  read = operation_line_read;
  Fits = λ p. (p.0 < 256) × OpFits p.1;
  again = λ p rest. operation_line_again p.0 p.1 rest;
  found = found_operation;
  nonempty = λ p. line_nonempty p.0 p.1;
  short = operation_line_short;
}
