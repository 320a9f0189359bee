-- Lines of a format: what is read of them, and their faults.
use Rattle.std.proofs.Common.{◌≡◌, ℕ, ◌+◌, ◌<◌, ◌≤◌, List, ◌++◌, length, Option, Some, None, refl, sym, ap, subst, ◌∙◌, inl, inr, ◌⊎◌}
use Rattle.std.proofs.lemmas.Option.{none-some, some_pair_parts, same_Some}
use Rattle.std.specs.Option.{SomeIff}
use Rattle.sci_words.specs.declared.limits.TheConstants.{MAX_TEXT_LINE_BYTES}
use Rattle.sci_text.specs.declared.fault.TextFaultKind.{TextFaultKind}
use Rattle.sci_text.specs.declared.fault.TextFaultKind.TheVariants.{Syntax, Range, TooMany, Read, Write, Memory}
use Rattle.sci_text.specs.FirstFault.{IsShort, Says, LineFault}
use denote.Ref.{Bor}
use Rattle.std.specs.Prelude.{option_map}
use Rattle.sci_text.specs.{declared.script.PushFault.{PushFault}, Script.{Refusal, kind_of}}
use Rattle.sci_text.specs.Reading.{Gives, IsUnsaid, read_of}
use Rattle.sci_text.proofs.{FirstFaults.{SaysOne}, LineLengths.{line_short, line_long}}
use Rattle.sci_text.specs.declared.script.PushFault.TheVariants as push

-- How a kind of lines is written and read. Whatever follows, what is written is read again; and what is read is the line of one
-- value, which comes out if it fits.
pub record Line (X : Type 0) : Type 1 where
  pub print : X → List ℕ
  pub read : List ℕ → Option (Option X × List ℕ)
  pub Fits : X → Type 0
  pub again : (x : X) (rest : List ℕ) → (o : Option X) × (read (print x ++ rest) ≡ Some (o, rest)) × SomeIff o (Fits x) x
  pub found : (bytes : List ℕ) (o : Option X) (rest : List ℕ) → read bytes ≡ Some (o, rest) → (x : X) × (bytes ≡ print x ++ rest) × SomeIff o (Fits x) x
  pub nonempty : (x : X) → 0 < length (print x)
  pub short : (x : X) → Fits x → IsShort (print x)

-- ---- what was read of a line

gives_is : {X Y : Type 0} (view : X → Y) (o : Option X) (read : Option Y) → Gives view o read → read ≡ option_map view o
gives_is view None read h = h
gives_is view (Some x) read h = h

module _ {X : Type 0} (L : Line X) where
  same_if_fit : (o o' : Option X) (x y : X) → L.Fits x → SomeIff o (L.Fits x) x → SomeIff o' (L.Fits y) y → o ≡ o' → x ≡ y
  same_if_fit None o' x y fit h k e = absurd (h fit)
  same_if_fit (Some a) None x y fit h k e = absurd cc
  same_if_fit (Some a) (Some b) x y fit h k e = sym h.1 ∙ same_Some a b e ∙ k.1

  -- what reads as a value that fits is that value's line
  pub same_line : (x y : X) (rest rest' : List ℕ) → L.Fits x → L.print x ++ rest ≡ L.print y ++ rest' → (x ≡ y) × (rest ≡ rest')
  same_line x y rest rest' fit e =
      let one = L.again x rest in
      let two = L.again y rest' in
      let parts = some_pair_parts one.0 two.0 rest rest' (sym one.1 ∙ ap L.read e ∙ two.1) in
      (same_if_fit one.0 two.0 x y fit one.2 two.2 parts.0, parts.1)

  module _ (bytes : List ℕ) (read : Option (Option X × Bor (List ℕ))) (gives : Gives read_of read (L.read bytes)) (x : X) (rest : List ℕ)
      (said : option_map read_of read ≡ Some (Some x, rest)) where
    pub said_is : bytes ≡ L.print x ++ rest
    said_is =
        let f = L.found bytes (Some x) rest (gives_is read_of read (L.read bytes) gives ∙ said) in
        f.1 ∙ ap (λ (y : X). L.print y ++ rest) (sym f.2.1)

    pub says : length bytes ≤ length rest + MAX_TEXT_LINE_BYTES + 1 → Says bytes (L.print x)
    says short = record { rest = rest; parts = said_is; short = line_short bytes (L.print x) rest said_is short }

  module _ (Within is_full : X → Type 0) (fits : (x : X) → Within x → L.Fits x) (bytes : List ℕ) where
    abbrev Fault : TextFaultKind → Type 0
    Fault kind = LineFault (λ x. Says bytes (L.print x)) Within is_full kind

    pub one_line : SaysOne (λ x. Says bytes (L.print x)) Within
    one_line x y f within g = (same_line x y f.rest g.rest (fits x within) (sym f.parts ∙ g.parts)).0

    none_fault : L.read bytes ≡ None → Fault Syntax
    none_fault e = λ x says.
        let again = L.again x says.rest in
        none-some (again.0, says.rest) (sym e ∙ (ap L.read says.parts ∙ again.1))

    long_fault : (o : Option X) (rest : List ℕ) → L.read bytes ≡ Some (o, rest) → length rest + MAX_TEXT_LINE_BYTES + 1 < length bytes → Fault Syntax
    long_fault o rest e long = λ x says.
        let again = L.again x says.rest in
        let same = some_pair_parts again.0 o says.rest rest (sym again.1 ∙ (sym (ap L.read says.parts) ∙ e)) in
        line_long bytes (L.print x) rest (says.parts ∙ ap (λ (l : List ℕ). L.print x ++ l) same.1) long says.short

    unfit_fault : (rest : List ℕ) → L.read bytes ≡ Some (None, rest) → length bytes ≤ length rest + MAX_TEXT_LINE_BYTES + 1 → Fault Range
    unfit_fault rest e short =
        let f = L.found bytes None rest e in
        (f.0, record { rest = rest; parts = f.1; short = line_short bytes (L.print f.0) rest f.1 short }, λ within. f.2 (fits f.0 within))

    unsaid_fault : (kind : TextFaultKind) → IsUnsaid bytes (L.read bytes) kind → Fault kind
    unsaid_fault Syntax (inl e) = none_fault e
    unsaid_fault Syntax (inr h) = long_fault h.0 h.1 h.2 h.3
    unsaid_fault Range h = unfit_fault h.0 h.1 h.2
    unsaid_fault TooMany h = absurd h
    unsaid_fault Read h = h
    unsaid_fault Write h = h
    unsaid_fault Memory h = h

    -- what comes of a line of which nothing is said
    pub said_fault : (read : Option (Option X × Bor (List ℕ))) → Gives read_of read (L.read bytes) → (kind : TextFaultKind)
        → IsUnsaid bytes (option_map read_of read) kind → Fault kind
    said_fault read gives kind unsaid =
        unsaid_fault kind (subst (λ (r : _). IsUnsaid bytes r kind) (sym (gives_is read_of read (L.read bytes) gives)) unsaid)

    -- what comes of a line whose value is not added
    pub refused_fault : (read : Option (Option X × Bor (List ℕ))) (x : X) (rest : List ℕ) (room : Type 0) → Gives read_of read (L.read bytes)
        → option_map read_of read ≡ Some (Some x, rest) → length bytes ≤ length rest + MAX_TEXT_LINE_BYTES + 1
        → (fault : PushFault) → Refusal (Within x) (is_full x) room fault → (kind_of fault ≡ Memory) ⊎ Fault (kind_of fault)
    refused_fault read x rest room gives said short push.Range refused = inr (x, says bytes read gives x rest said short, refused)
    refused_fault read x rest room gives said short push.TooMany refused = inr (x, says bytes read gives x rest said short, refused.0, refused.1)
    refused_fault read x rest room gives said short push.Memory refused = inl refl
