-- Texts of a machine's size and a list of lines: what is told of their faults, and that each is of one value. This is one
-- proof for scripts and schedules.
use Rattle.std.proofs.Common.{◌≡◌, ℕ, ◌+◌, ◌<◌, ◌≤◌, List, [], ◌∷◌, ◌++◌, length, Some, Result, Ok, Err, sym, ap, subst, ◌∙◌, append_assoc, arith, inl}
use Rattle.std.proofs.{Common.{inr, ◌⊎◌}, lemmas.List.{append-nil, length-append}}
use Rattle.std.specs.{Prelude.{IfOk, IfErr, Option, option_map}, List.{flat_map, AllByRecursion}}
use Rattle.sci_words.specs.declared.limits.TheConstants.{MAX_TEXT_LINE_BYTES}
use Rattle.sci_text.specs.declared.fault.{TextFault.{TextFault}, TextFaultKind.{TextFaultKind, TheVariants.{Memory}}}
use Rattle.sci_text.specs.FirstFault.{Says, LineFault, IsFirstFault, IsRefusal, GivesOnly, HasOneFault, HasNoFault, IsOfOne}
use denote.Ref.{Bor}
use Rattle.sci_text.specs.{declared.script.PushFault.{PushFault}, Reading.{Gives, IsUnsaid, read_of}}
use Rattle.sci_text.specs.{Script.{machine_line, Refusal, kind_of}, ScriptFault.{MachineFault}}
use Rattle.sci_text.proofs.FirstFaults.{SaysOne, one_line_fault, no_line_fault, ContinuesWith, meet_lists, IsFaultless, Meets, IsGrammar, one_first_fault}
use Rattle.sci_text.proofs.FirstFaults.{no_first_fault, read_as}
use Rattle.sci_text.proofs.Lines.{Line, same_line, one_line, said_fault, refused_fault}
use Rattle.sci_text.proofs.ScriptReads.{Size, machine_format, is_size, limits_fit}

-- a kind of values with a size and a list, a line for each of the list, what may be added, and when there is no more room
pub record Listing (V X : Type 0) : Type 1 where
  pub line : Line X
  pub size : V → Size
  pub items : V → List X
  pub value_of : Size → List X → V
  pub is_value : (v : V) → value_of (size v) (items v) ≡ v
  pub IsGood : V → Type 0
  pub Within : Size → X → Type 0
  pub is_full : V → X → Type 0
  pub limits : (v : V) → IsGood v → is_size (size v)
  pub fits : (v : V) → IsGood v → (x : X) → Within (size v) x → line.Fits x
  pub each : (v : V) → IsGood v → AllByRecursion (Within (size v)) (items v)
  pub room : (v w : V) (x : X) (more : List X) → IsGood v → Within (size v) x → items v ≡ items w ++ x ∷ more → is_full w x → ⊥

module _ {V X : Type 0} (G : Listing V X) where
  abbrev lines : V → List ℕ
  lines v = flat_map G.line.print (G.items v)

  abbrev pub text : V → List ℕ
  text v = machine_line (G.size v).0 (G.size v).1 (G.size v).2 ++ lines v

  abbrev pub begins : List ℕ → V → List ℕ → Type 0
  begins input v rest = G.IsGood v × (input ≡ text v ++ rest)

  abbrev pub fault : V → List ℕ → TextFaultKind → Type 0
  fault v bytes kind = LineFault (λ x. Says bytes (G.line.print x)) (G.Within (G.size v)) (G.is_full v) kind

  abbrev pub is_first : List ℕ → ℕ → TextFaultKind → Type 0
  is_first input line kind = IsFirstFault MachineFault begins (λ v rest. 0 < length rest) (λ v. length (G.items v) + 1) fault input line kind

  -- ---- one line more

  pub line_shrinks : (x : X) (bytes rest : List ℕ) → bytes ≡ G.line.print x ++ rest → length rest < length bytes
  line_shrinks x bytes rest parts = omega (arith, ap length parts, length-append (G.line.print x) rest, G.line.nonempty x)

  pub line_unsaid : (v : V) (bytes : List ℕ) (read : Option (Option X × Bor (List ℕ))) → G.IsGood v → Gives read_of read (G.line.read bytes)
      → (kind : TextFaultKind) → IsUnsaid bytes (option_map read_of read) kind → fault v bytes kind
  line_unsaid v bytes read good gives = said_fault G.line (G.Within (G.size v)) (G.is_full v) (G.fits v good) bytes read gives

  pub line_refused : (v : V) (bytes : List ℕ) (read : Option (Option X × Bor (List ℕ))) (x : X) (rest : List ℕ) (room : Type 0) → G.IsGood v
      → Gives read_of read (G.line.read bytes) → option_map read_of read ≡ Some (Some x, rest)
      → length bytes ≤ length rest + MAX_TEXT_LINE_BYTES + 1
      → (refusal : PushFault) → Refusal (G.Within (G.size v) x) (G.is_full v x) room refusal → (kind_of refusal ≡ Memory) ⊎ fault v bytes (kind_of refusal)
  line_refused v bytes read x rest room good = refused_fault G.line (G.Within (G.size v)) (G.is_full v) (G.fits v good) bytes read x rest room

  -- ---- a text goes on with lines that are right

  in_back : (P : X → Type 0) (front : List X) (x : X) (more : List X) → AllByRecursion P (front ++ x ∷ more) → P x
  in_back P [] x more each = each.0
  in_back P (y ∷ front) x more each = in_back P front x more each.1

  pub all_fit : (v : V) (xs : List X) → G.IsGood v → AllByRecursion (G.Within (G.size v)) xs → AllByRecursion G.line.Fits xs
  all_fit v [] good each = tt
  all_fit v (x ∷ xs) good each = (G.fits v good x each.0, all_fit v xs good each.1)

  one : (v : V) (bytes : List ℕ) → G.IsGood v → SaysOne (λ x. Says bytes (G.line.print x)) (G.Within (G.size v))
  one v bytes good = one_line G.line (G.Within (G.size v)) (G.is_full v) (G.fits v good) bytes

  goes_right : (v w : V) (rest : List ℕ) → G.IsGood v → G.IsGood w → G.size v ≡ G.size w → ContinuesWith G.line.print (G.items v) (G.items w) rest
      → IsFaultless fault w rest
  goes_right v w rest good other same n =
      let x = n.next in
      let within : G.Within (G.size v) x = in_back (G.Within (G.size v)) (G.items w) x n.more (rw n.parts at (G.each v good)) in
      let here : G.Within (G.size w) x = subst (λ (s : Size). G.Within s x) same within in
      record {
        some = omega (arith, ap length n.left, length-append (G.line.print x) n.tail, G.line.nonempty x);
        right = λ kind wrong. no_line_fault (λ y. Says rest (G.line.print y)) (G.Within (G.size w)) (G.is_full w) (one w rest other) x
            (record { rest = n.tail; parts = n.left; short = G.line.short x (G.fits v good x within) }) here
            (G.room v w x n.more good within n.parts) kind wrong;
      }

  same_value : (v w : V) → G.size v ≡ G.size w → G.items v ≡ G.items w → v ≡ w
  same_value v w size items =
      sym (G.is_value v) ∙ ap (λ (s : Size). G.value_of s (G.items v)) size ∙ ap (G.value_of (G.size w)) items ∙ G.is_value w

  grouped : (input : List ℕ) (v : V) (rest : List ℕ) → begins input v rest
      → input ≡ machine_line (G.size v).0 (G.size v).1 (G.size v).2 ++ (lines v ++ rest)
  grouped input v rest h = h.1 ∙ append_assoc (machine_line (G.size v).0 (G.size v).1 (G.size v).2) (lines v) rest

  meets : (input : List ℕ) (v w : V) (r t : List ℕ) → begins input v r → begins input w t → Meets fault v w r t
  meets input v w r t f g =
      let size = same_line machine_format (G.size v) (G.size w) (lines v ++ r) (lines w ++ t) (limits_fit (G.size v) (G.limits v f.0))
      (sym (grouped input v r f) ∙ grouped input w t g) in
      elim (meet_lists G.line.print G.line.Fits (λ x y a b fit other e. same_line G.line x y a b fit e) (G.items v) (G.items w) r t
      (all_fit v (G.items v) f.0 (G.each v f.0)) (all_fit w (G.items w) g.0 (G.each w g.0)) size.1) [
        | inl same ↦ inl (same_value v w size.0 same.0, same.1)
        | inr goes ↦
            elim goes [
              | inl n ↦ inr (inl (goes_right w v r g.0 f.0 (sym size.0) n))
              | inr n ↦ inr (inr (goes_right v w t f.0 g.0 size.0 n))
            ]
      ]

  -- ---- the line of the size has one fault

  one_size : (bytes : List ℕ) → SaysOne (λ s. Says bytes (machine_format.print s)) is_size
  one_size bytes = one_line machine_format is_size (λ s. ⊥) limits_fit bytes

  grammar : IsGrammar MachineFault begins fault
  grammar = record {
    one_opening = λ bytes k j f g. one_line_fault (λ s. Says bytes (machine_format.print s)) is_size (λ s. ⊥) (one_size bytes) k j f g;
    opened = λ input k v r wrong h.
        no_line_fault (λ s. Says input (machine_format.print s)) is_size (λ s. ⊥) (one_size input) (G.size v)
        (record { rest = lines v ++ r; parts = grouped input v r h; short = machine_format.short (G.size v) (limits_fit (G.size v) (G.limits v h.0)) })
        (G.limits v h.0) (λ no. no) k wrong;
    one_fault = λ input v r k j h f g. one_line_fault (λ x. Says r (G.line.print x)) (G.Within (G.size v)) (G.is_full v) (one v r h.0) k j f g;
    meets = meets;
  }

  -- ---- the laws

  whole : (v : V) → G.IsGood v → begins (text v) v []
  whole v good = (good, sym (append-nil (text v)))

  pub one_value : IsOfOne G.IsGood text
  one_value v w good other e =
      elim (meets (text v) v w [] [] (whole v good) (other, e ∙ sym (append-nil (text w)))) [
        | inl same ↦ same.0
        | inr goes ↦ elim goes [
          | inl right ↦ (let some = right.some in absurd (omega arith))
          | inr right ↦ (let some = right.some in absurd (omega arith))
        ]
      ]

  pub no_fault : (v : V) → G.IsGood v → HasNoFault is_first (text v)
  no_fault v good line kind wrong =
      no_first_fault MachineFault begins (λ v rest. 0 < length rest) (λ v. length (G.items v) + 1) fault grammar (text v) v (whole v good)
      (λ some. absurd (omega arith)) line kind wrong

  pub one_fault : HasOneFault is_first
  one_fault input l m k j f g = one_first_fault MachineFault begins (λ v rest. 0 < length rest) (λ v. length (G.items v) + 1) fault grammar input l m k j f g

  -- what comes of a value's text in memory
  pub value_read : (v : V) (input : List ℕ) (result : Result V TextFault) → G.IsGood v → input ≡ text v → IfOk result (λ read. input ≡ text read)
      → IfOk result G.IsGood → IfErr result (IsRefusal is_first input) → GivesOnly v result
  value_read v input result good is said other wrong =
      read_as is_first input (λ line kind f. no_fault v good line kind (subst (λ (bytes : List ℕ). is_first bytes line kind) is f)) v result
      (read_is result said other) wrong
    where
      read_is : (result : Result V TextFault) → IfOk result (λ read. input ≡ text read) → IfOk result G.IsGood → IfOk result (λ read. read ≡ v)
      read_is (Ok read) said other = sym (one_value v read good other (sym is ∙ said))
      read_is (Err f) said other = tt
