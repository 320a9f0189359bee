-- Bytes have at most one first faulty line, with one fault, and a text without a fault has none: one proof for all
-- kinds of text.
use Rattle.std.proofs.Common.{◌≡◌, ℕ, ◌<◌, List, [], ◌∷◌, ◌++◌, length, Bool, false, Option, Result, Ok, Err, refl, sym, ap, subst, ◌∙◌, append_assoc}
use Rattle.std.proofs.Common.{arith, inl, inr, ◌⊎◌}
use Rattle.std.specs.{Prelude.{IfOk, IfErr}, List.{flat_map, AllByRecursion}}
use Rattle.sci_text.specs.declared.fault.{TextFault.{TextFault}, TextFaultKind.{TextFaultKind}}
use Rattle.sci_text.specs.declared.fault.TextFaultKind.TheVariants.{Syntax, Range, TooMany, Read, Write, Memory}
use Rattle.sci_text.specs.FirstFault.{LineFault, FaultAfter, IsFirstFault, told_line, IsToldAt, IsRefusalOf, IsRefusal, AreRead, IsTold, GivesOnly}

-- ---- one line

-- a line says one value at most, if one that it says fits
abbrev pub SaysOne : {X : Type 0} → (X → Type 0) → (X → Type 0) → Type 0
SaysOne says fits = (x y : _) → says x → fits x → says y → x ≡ y

pub one_line_fault : {X : Type 0} (says fits is_full : X → Type 0) → SaysOne says fits → (k j : TextFaultKind) → LineFault says fits is_full k
    → LineFault says fits is_full j → k ≡ j
one_line_fault says fits is_full one Syntax Syntax f g = refl
one_line_fault says fits is_full one Syntax Range f g = absurd (f g.0 g.1)
one_line_fault says fits is_full one Syntax TooMany f g = absurd (f g.0 g.1)
one_line_fault says fits is_full one Range Syntax f g = absurd (g f.0 f.1)
one_line_fault says fits is_full one Range Range f g = refl
one_line_fault says fits is_full one Range TooMany f g = absurd (f.2 (subst fits (one g.0 f.0 g.1 g.2 f.1) g.2))
one_line_fault says fits is_full one TooMany Syntax f g = absurd (g f.0 f.1)
one_line_fault says fits is_full one TooMany Range f g = absurd (g.2 (subst fits (one f.0 g.0 f.1 f.2 g.1) f.2))
one_line_fault says fits is_full one TooMany TooMany f g = refl
one_line_fault says fits is_full one k Read f g = absurd g
one_line_fault says fits is_full one k Write f g = absurd g
one_line_fault says fits is_full one k Memory f g = absurd g
one_line_fault says fits is_full one Read j f g = absurd f
one_line_fault says fits is_full one Write j f g = absurd f
one_line_fault says fits is_full one Memory j f g = absurd f

-- a line that says what fits, with room for it, has no fault
pub no_line_fault : {X : Type 0} (says fits is_full : X → Type 0) → SaysOne says fits → (x : X) → says x → fits x → (is_full x → ⊥) → (kind : TextFaultKind)
    → LineFault says fits is_full kind → ⊥
no_line_fault says fits is_full one x h k room Syntax f = f x h
no_line_fault says fits is_full one x h k room Range f = f.2 (subst fits (one x f.0 h k f.1) k)
no_line_fault says fits is_full one x h k room TooMany f = room (subst is_full (sym (one x f.0 h k f.1)) f.3)
no_line_fault says fits is_full one x h k room Read f = f
no_line_fault says fits is_full one x h k room Write f = f
no_line_fault says fits is_full one x h k room Memory f = f

-- ---- lists of lines

-- the long list goes on from the short one with the line at the front of these bytes
pub record ContinuesWith {X : Type 0} (line_of : X → List ℕ) (long short : List X) (rest : List ℕ) : Type 0 where
  pub next : X
  pub more : List X
  pub tail : List ℕ
  pub parts : long ≡ short ++ next ∷ more
  pub left : rest ≡ line_of next ++ tail

-- Two lists whose lines stand at the front of the same bytes are one list, or one goes on from the other.
pub meet_lists : {X : Type 0} (line_of : X → List ℕ) (fits : X → Type 0)
    → ((x y : X) (r t : List ℕ) → fits x → fits y → line_of x ++ r ≡ line_of y ++ t → (x ≡ y) × (r ≡ t)) → (xs ys : List X) (r t : List ℕ)
    → AllByRecursion fits xs → AllByRecursion fits ys → flat_map line_of xs ++ r ≡ flat_map line_of ys ++ t
    → ((xs ≡ ys) × (r ≡ t)) ⊎ (ContinuesWith line_of ys xs r ⊎ ContinuesWith line_of xs ys t)
meet_lists line_of fits same [] [] r t a b e = inl (refl, e)
meet_lists line_of fits same [] (y ∷ ys) r t a b e =
    inr (inl (record { next = y; more = ys; tail = flat_map line_of ys ++ t; parts = refl; left = e ∙ append_assoc (line_of y) (flat_map line_of ys) t }))
meet_lists line_of fits same (x ∷ xs) [] r t a b e =
    inr (inr (record { next = x; more = xs; tail = flat_map line_of xs ++ r; parts = refl; left = sym e ∙ append_assoc (line_of x) (flat_map line_of xs) r }))
meet_lists line_of fits same (x ∷ xs) (y ∷ ys) r t a b e =
    let grouped = sym (append_assoc (line_of x) (flat_map line_of xs) r) ∙ e ∙ append_assoc (line_of y) (flat_map line_of ys) t in
    let one = same x y (flat_map line_of xs ++ r) (flat_map line_of ys ++ t) a.0 b.0 grouped in
    elim (meet_lists line_of fits same xs ys r t a.1 b.1 one.1) [
      | inl all ↦ inl (ap (λ z. z ∷ xs) one.0 ∙ ap (λ zs. y ∷ zs) all.0, all.1)
      | inr goes ↦
          elim goes [
            | inl n ↦ inr (inl (record {
              next = n.next;
              more = n.more;
              tail = n.tail;
              parts = ap (λ z. z ∷ ys) (sym one.0) ∙ ap (λ zs. x ∷ zs) n.parts;
              left = n.left;
            }))
            | inr n ↦ inr (inr (record {
              next = n.next;
              more = n.more;
              tail = n.tail;
              parts = ap (λ z. z ∷ xs) one.0 ∙ ap (λ zs. y ∷ zs) n.parts;
              left = n.left;
            }))
          ]
    ]

-- ---- the first faulty line

-- what stands behind the value has no fault, and something does
pub record IsFaultless {V : Type 0} (fault : V → List ℕ → TextFaultKind → Type 0) (v : V) (rest : List ℕ) : Type 0 where
  pub some : 0 < length rest
  pub right : (kind : TextFaultKind) → fault v rest kind → ⊥

abbrev pub Meets : {V : Type 0} → (V → List ℕ → TextFaultKind → Type 0) → V → V → List ℕ → List ℕ → Type 0
Meets fault v w r t = ((v ≡ w) × (r ≡ t)) ⊎ (IsFaultless fault v r ⊎ IsFaultless fault w t)

-- What a kind of text shows of its lines: the opening has one fault, and none before right lines; a line has one fault;
-- and of two values at the front of the same bytes one goes on from the other, if they aren't the same.
pub record IsGrammar {V : Type 0} (opening : List ℕ → TextFaultKind → Type 0) (begins : List ℕ → V → List ℕ → Type 0) (fault : V → List ℕ → TextFaultKind
    → Type 0) : Type 0 where
  pub one_opening : (input : List ℕ) (k j : TextFaultKind) → opening input k → opening input j → k ≡ j
  pub opened : (input : List ℕ) (k : TextFaultKind) (v : V) (r : List ℕ) → opening input k → begins input v r → ⊥
  pub one_fault : (input : List ℕ) (v : V) (r : List ℕ) (k j : TextFaultKind) → begins input v r → fault v r k → fault v r j → k ≡ j
  pub meets : (input : List ℕ) (v w : V) (r t : List ℕ) → begins input v r → begins input w t → Meets fault v w r t

module _ {V : Type 0} (opening : List ℕ → TextFaultKind → Type 0) (begins : List ℕ → V → List ℕ → Type 0) (goes_on : V → List ℕ → Type 0) (count : V → ℕ)
    (fault : V → List ℕ → TextFaultKind → Type 0) (grammar : IsGrammar opening begins fault) (input : List ℕ) where
  abbrev After : ℕ → TextFaultKind → Type 0
  After line kind = FaultAfter begins goes_on count fault input line kind

  one_of_two : (l m : ℕ) (k j : TextFaultKind) (f : After l k) (g : After m j) → Meets fault f.before g.before f.rest g.rest → (l ≡ m) × (k ≡ j)
  one_of_two l m k j f g (inl same) = grind arith
  one_of_two l m k j f g (inr (inl goes)) = absurd (goes.right k f.wrong)
  one_of_two l m k j f g (inr (inr goes)) = absurd (goes.right j g.wrong)

  pub one_first_fault : (l m : ℕ) (k j : TextFaultKind) → IsFirstFault opening begins goes_on count fault input l k
      → IsFirstFault opening begins goes_on count fault input m j → (l ≡ m) × (k ≡ j)
  one_first_fault l m k j (inl f) (inl g) = (f.0 ∙ sym g.0, grammar.one_opening input k j f.1 g.1)
  one_first_fault l m k j (inl f) (inr g) = absurd (grammar.opened input k g.before g.rest f.1 g.right)
  one_first_fault l m k j (inr f) (inl g) = absurd (grammar.opened input j f.before f.rest g.1 f.right)
  one_first_fault l m k j (inr f) (inr g) = one_of_two l m k j f g (grammar.meets input f.before g.before f.rest g.rest f.right g.right)

  none_after : (v : V) → (goes_on v [] → ⊥) → (line : ℕ) (kind : TextFaultKind) (f : After line kind) → Meets fault v f.before [] f.rest → ⊥
  none_after v whole line kind f (inl same) = whole (subst (goes_on v) (sym same.1) (subst (λ w. goes_on w f.rest) (sym same.0) f.more))
  none_after v whole line kind f (inr (inl goes)) = let some = goes.some in absurd (omega arith)
  none_after v whole line kind f (inr (inr goes)) = goes.right kind f.wrong

  pub no_first_fault : (v : V) → begins input v [] → (goes_on v [] → ⊥) → (line : ℕ) (kind : TextFaultKind)
      → IsFirstFault opening begins goes_on count fault input line kind → ⊥
  no_first_fault v right whole line kind (inl f) = grammar.opened input kind v [] f.1 right
  no_first_fault v right whole line kind (inr f) = none_after v whole line kind f (grammar.meets input v f.before [] f.rest right f.right)

-- ---- what is told of a line

-- the kinds of fault that a line can have
abbrev pub IsOfLine : TextFaultKind → Type 0
IsOfLine Syntax = Unit {0}
IsOfLine Range = Unit {0}
IsOfLine TooMany = Unit {0}
IsOfLine Read = ⊥
IsOfLine Write = ⊥
IsOfLine Memory = ⊥

pub line_fault_is : {X : Type 0} (says fits is_full : X → Type 0) (kind : TextFaultKind) → LineFault says fits is_full kind → IsOfLine kind
line_fault_is says fits is_full Syntax f = tt
line_fault_is says fits is_full Range f = tt
line_fault_is says fits is_full TooMany f = tt
line_fault_is says fits is_full Read f = f
line_fault_is says fits is_full Write f = f
line_fault_is says fits is_full Memory f = f

refusal_of : (is_first : List ℕ → ℕ → TextFaultKind → Type 0) (kind : TextFaultKind) (input : List ℕ) (line : ℕ)
    → (kind ≡ Memory) ⊎ (IsOfLine kind × is_first input line kind) → IsRefusalOf is_first kind input (told_line line kind)
refusal_of is_first Syntax input line (inl e) = absurd cc
refusal_of is_first Range input line (inl e) = absurd cc
refusal_of is_first TooMany input line (inl e) = absurd cc
refusal_of is_first Read input line (inl e) = absurd cc
refusal_of is_first Write input line (inl e) = absurd cc
refusal_of is_first Syntax input line (inr first) = first.1
refusal_of is_first Range input line (inr first) = first.1
refusal_of is_first TooMany input line (inr first) = first.1
refusal_of is_first Read input line (inr first) = first.0
refusal_of is_first Write input line (inr first) = first.0
refusal_of is_first Memory input line told = refl

-- the first fault is told, or that memory was refused
pub told_at : (is_first : List ℕ → ℕ → TextFaultKind → Type 0) (kind : TextFaultKind) (input : List ℕ) (fault : TextFault) (line : ℕ) → IsToldAt line kind fault
    → (kind ≡ Memory) ⊎ (IsOfLine kind × is_first input line kind) → IsRefusal is_first input fault
told_at is_first kind input fault line at found = grind (arith, refusal_of)

-- ---- what comes of a text in memory

module _ (is_first : List ℕ → ℕ → TextFaultKind → Type 0) (input : List ℕ) (none : (line : ℕ) (kind : TextFaultKind) → is_first input line kind → ⊥) where
  refused_only : (kind : TextFaultKind) (line : ℕ) → IsRefusalOf is_first kind input line → (kind ≡ Read) ⊎ (kind ≡ Memory)
  refused_only Syntax line fault = absurd (none line Syntax fault)
  refused_only Range line fault = absurd (none line Range fault)
  refused_only TooMany line fault = absurd (none line TooMany fault)
  refused_only Read line fault = absurd fault
  refused_only Write line fault = absurd fault
  refused_only Memory line fault = inr refl

  -- a text without a fault is read as its value
  pub read_as : {T : Type 0} (value : T) (result : Result T TextFault) → IfOk result (λ read. read ≡ value) → IfErr result (IsRefusal is_first input)
      → GivesOnly value result
  read_as value (Ok read) is fault = is
  read_as value (Err f) is fault = refused_only f.kind f.line fault

-- ---- what comes of a reader's input

-- a fault of bytes that were read is told of them
told_of : (is_first : List ℕ → ℕ → TextFaultKind → Type 0) (kind : TextFaultKind) (known : Option (List ℕ)) (failed : Bool) (bytes : List ℕ) (line : ℕ)
    → failed ≡ false → AreRead known bytes → IsRefusalOf is_first kind bytes line → IsTold is_first kind known failed line
told_of is_first Syntax known failed bytes line unfailed read fault = (unfailed, record { bytes = bytes; read = read; first = fault })
told_of is_first Range known failed bytes line unfailed read fault = (unfailed, record { bytes = bytes; read = read; first = fault })
told_of is_first TooMany known failed bytes line unfailed read fault = (unfailed, inr (record { bytes = bytes; read = read; first = fault }))
told_of is_first Read known failed bytes line unfailed read fault = absurd fault
told_of is_first Write known failed bytes line unfailed read fault = absurd fault
told_of is_first Memory known failed bytes line unfailed read fault = (unfailed, fault)

pub told_of_bytes : {T : Type 0} (is_first : List ℕ → ℕ → TextFaultKind → Type 0) (known : Option (List ℕ)) (failed : Bool) (bytes : List ℕ)
    (result : Result T TextFault) → failed ≡ false → AreRead known bytes → IfErr result (IsRefusal is_first bytes)
    → IfErr result (λ fault. IsTold is_first fault.kind known failed fault.line)
told_of_bytes is_first known failed bytes (Ok value) unfailed read fault = tt
told_of_bytes is_first known failed bytes (Err f) unfailed read fault = told_of is_first f.kind known failed bytes f.line unfailed read fault
