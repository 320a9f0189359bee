-- A header that is read is the one that was written, and what was written is read again.
use Rattle.std.proofs.Common.{◌≡◌, ℕ, ◌+◌, ◌^◌, ◌<◌, ◌≤◌, List, ◌++◌, length, drop, ap, ◌∙◌, append_assoc, arith}
use Rattle.std.proofs.lemmas.List.{length-append}
use Rattle.sci_packets.specs.{declared.header.Header.{Header}, Fields.{field, field_at, spelled, header_in}}
use Rattle.sci_packets.proofs.Fields.{IsBytes, length-field, field_cancel, field_takes, field_at-lt, two, six}

-- the numbers of a header fit their fields
pub record IsHeader (h : Header) : Type 0 where
  pub target : h.target < 2 ^ 16
  pub command : h.command < 2 ^ 16
  pub source : h.source < 2 ^ 16
  pub control : h.control < 2 ^ 16
  pub offset : h.offset < 2 ^ 48
  pub identifier : h.identifier < 2 ^ 16

pub header_in-fits : (bytes : List ℕ) → IsBytes bytes → IsHeader (header_in bytes)
unfolding header_in
header_in-fits bytes fits = grind (arith, field_at-lt)

pub length-spelled : (h : Header) (rest : List ℕ) → length (spelled h rest) ≡ 16 + length rest
unfolding spelled
length-spelled h rest = grind (arith, length-append, length-field)

pub spelled-append : (h : Header) (rest more : List ℕ) → spelled h rest ++ more ≡ spelled h (rest ++ more)
unfolding spelled
spelled-append h rest more = simp append_assoc

pub header_takes : (bytes : List ℕ) → IsBytes bytes → 16 ≤ length bytes → bytes ≡ spelled (header_in bytes) (drop 16 bytes)
unfolding spelled header_in
header_takes bytes fits long =
    let e14 = field_takes 14 2 bytes two fits (omega arith) in
    let e8 = field_takes 8 6 bytes six fits (omega arith) ∙ ap (λ (r : List ℕ). field 6 (field_at 8 6 bytes) ++ r) e14 in
    let e6 = field_takes 6 2 bytes two fits (omega arith) ∙ ap (λ (r : List ℕ). field 2 (field_at 6 2 bytes) ++ r) e8 in
    let e4 = field_takes 4 2 bytes two fits (omega arith) ∙ ap (λ (r : List ℕ). field 2 (field_at 4 2 bytes) ++ r) e6 in
    let e2 = field_takes 2 2 bytes two fits (omega arith) ∙ ap (λ (r : List ℕ). field 2 (field_at 2 2 bytes) ++ r) e4 in
    field_takes 0 2 bytes two fits (omega arith) ∙ ap (λ (r : List ℕ). field 2 (field_at 0 2 bytes) ++ r) e2

joined : (made : ℕ → ℕ → ℕ → ℕ → ℕ → ℕ → Header) (a b c d e f a' b' c' d' e' f' : ℕ) → a ≡ a' → b ≡ b' → c ≡ c' → d ≡ d' → e ≡ e' → f ≡ f'
    → made a b c d e f ≡ made a' b' c' d' e' f'
joined made a b c d e f a' b' c' d' e' f' p q r s t u = cc

pub same_header : (h g : Header) → h.target ≡ g.target → h.command ≡ g.command → h.source ≡ g.source → h.control ≡ g.control → h.offset ≡ g.offset
    → h.identifier ≡ g.identifier → h ≡ g
same_header h g = grind (arith, joined)

pub header_cancel : (h g : Header) (r s : List ℕ) → IsHeader h → IsHeader g → spelled h r ≡ spelled g s → (h ≡ g) × (r ≡ s)
unfolding spelled
header_cancel h g r s fits fits' e =
    let a = field_cancel 2 h.target g.target _ _ fits.target fits'.target e in
    let b = field_cancel 2 h.command g.command _ _ fits.command fits'.command a.1 in
    let c = field_cancel 2 h.source g.source _ _ fits.source fits'.source b.1 in
    let d = field_cancel 2 h.control g.control _ _ fits.control fits'.control c.1 in
    let o = field_cancel 6 h.offset g.offset _ _ fits.offset fits'.offset d.1 in
    let i = field_cancel 2 h.identifier g.identifier _ _ fits.identifier fits'.identifier o.1 in
    (same_header h g a.0 b.0 c.0 d.0 o.0 i.0, i.1)
