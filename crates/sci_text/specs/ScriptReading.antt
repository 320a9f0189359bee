-- What the private readers of scripts' lines answer: what is read, and the bytes after it. No public contract rests on
-- these words; laws in proofs/ join them to the texts.
use Rattle.std.specs.Prelude.{ℕ, List, [], ◌∷◌, Option, Some, option_map, codes}
use Rattle.sci_words.specs.declared.operation.Op.{Op}
use Rattle.sci_text.specs.Reading.{◌>>=◌, Adds, both, field_read, after, byte, operation_read}
use Rattle.sci_text.specs.Script.{ScriptValue, operation_line, with_operation}

abbrev pub size_of : ℕ × (ℕ × ℕ) → ℕ × ℕ × ℕ
size_of p = (p.0, p.1.0, p.1.1)

unfoldable pub machine_line_read : List ℕ → Option (Option (ℕ × ℕ × ℕ) × List ℕ)
machine_line_read bytes = do
  first ← after (codes "machine") bytes
  nodes ← field_read first
  lines ← field_read nodes.1
  slots ← field_read lines.1
  rest ← after (10 ∷ []) slots.1
  Some (option_map size_of (both (byte nodes.0) (both (byte lines.0) (byte slots.0))), rest)

unfoldable pub operation_line_read : List ℕ → Option (Option (ℕ × Op) × List ℕ)
operation_line_read bytes = do
  first ← after (codes "p") bytes
  node ← field_read first
  gap ← after (codes " ") node.1
  op ← operation_read gap
  rest ← after (10 ∷ []) op.1
  Some (both (byte node.0) op.0, rest)

-- the bytes are a line and the rest, and the new script is the old one with the operation that the line says
abbrev pub AddsLine : ScriptValue → ScriptValue → List ℕ → List ℕ → Type 0
AddsLine old new bytes rest = Adds {X = ℕ × Op} (λ p. operation_line p.0 p.1) (λ s p. with_operation s p.0 p.1) old new bytes rest
