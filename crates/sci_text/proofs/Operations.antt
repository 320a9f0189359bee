-- An operation that is written is read again, and what is read as one was written so.
use Rattle.std.proofs.Common.{◌≡◌, ℕ, ◌^◌, ◌<◌, ◌≤◌, ltb, List, ◌++◌, length, Option, Some, None, refl, sym, ap, subst, ◌∙◌, append_assoc, arith}
use Rattle.std.proofs.lemmas.{Bool.{cases_lt, lt-ltb, le-ltb}, Option.{none-some, cond_some, some_pair_parts}}
use Rattle.std.proofs.lemmas.List.{length-append}
use Rattle.std.specs.{Prelude.{option_map}, Option.{SomeIff}}
use Rattle.sci_words.specs.declared.operation.LockOp.{LockOp}
use Rattle.sci_words.specs.declared.operation.LockOp.TheVariants.{MaskSwap, CompareSwap, FetchAdd, BoundedAdd, WrapAdd}
use Rattle.sci_words.specs.declared.operation.{Act.{Act, TheVariants.{Load, Store, Lock}}, Op.{Op}}
use Rattle.sci_text.specs.{declared.operation.Command.{Command}, Number.{field}}
use Rattle.sci_text.specs.Operation.{act_word, act_operands, operation, ActFits}
use Rattle.sci_text.specs.Reading.{◌>>=◌, fitting, field_read, after, byte, both, spelled, command_word, all_commands, command_read, pair_read, one, two}
use Rattle.sci_text.specs.Reading.{operands_read, made, operation_after, operation_read}
use Rattle.sci_text.proofs.Numbers.{fitting_below, fitting_above, Ends, field_again, ends_field, field_found, field_short}
use Rattle.sci_text.proofs.Words.{spelled_found}
use Rattle.sci_text.specs.declared.operation.Command.TheVariants as commands

-- ---- what stands for a value if it fits

pub fitting_is : (n : ℕ) → SomeIff (fitting n) (n < 2 ^ 64) n
fitting_is n = grind (arith, cases_lt, fitting_below, fitting_above)

pub mapped : {A B : Type 0} (P : Type 0) (f : A → B) (o : Option A) (x : A) → SomeIff o P x → SomeIff (option_map f o) P (f x)
mapped P f None x h = h
mapped P f (Some y) x h = (h.0, ap f h.1)

pub both_is : {A B : Type 0} (P Q : Type 0) (o : Option A) (p : Option B) (x : A) (y : B) → SomeIff o P x → SomeIff p Q y → SomeIff (both o p) (P × Q) (x, y)
both_is P Q None p x y h k = λ pq. h pq.0
both_is P Q (Some a) None x y h k = λ pq. k pq.1
both_is P Q (Some a) (Some b) x y h k = ((h.0, k.0), ap (λ (l : _). (l, b)) h.1 ∙ ap (λ (r : _). (x, r)) k.1)

byte_below : (n : ℕ) → n < 256 → byte (Some n) ≡ Some n
unfolding byte
byte_below n below = rw (lt-ltb n 256 below) refl

byte_above : (n : ℕ) → 256 ≤ n → byte (Some n) ≡ None
unfolding byte
byte_above n above = rw (le-ltb n 256 above) refl

byte_none : byte None ≡ None
unfolding byte
byte_none = refl

pub byte_is : (n : ℕ) → SomeIff (byte (fitting n)) (n < 256) n
byte_is n = grind (arith, cases_lt, fitting_below, byte_below, byte_above, fitting_above, byte_none)

pub byte_some : (o : Option ℕ) (n : ℕ) → byte o ≡ Some n → o ≡ Some n
unfolding byte
byte_some None n e = absurd cc
byte_some (Some m) n e = ap (λ (x : ℕ). Some x) (cond_some (ltb m 256) m n e).1

pub byte_refused : (o : Option ℕ) (n : ℕ) → byte o ≡ None → o ≡ Some n → 256 ≤ n
byte_refused o n refused e = grind (arith, cases_lt, none-some, byte_below)

-- the value of a step that did not fail
pub bind_some : {A B : Type 0} (o : Option A) (f : A → Option B) (y : B) → (o >>= f) ≡ Some y → (x : A) × (o ≡ Some x) × (f x ≡ Some y)
bind_some None f y e = absurd cc
bind_some (Some x) f y e = (x, refl, e)

-- ---- the word

abbrev pub command_of : Act → Command
command_of Load = commands.Load
command_of (Store word) = commands.Store
command_of (Lock (MaskSwap arg datum)) = commands.MaskSwap
command_of (Lock (CompareSwap arg datum)) = commands.CompareSwap
command_of (Lock (FetchAdd datum)) = commands.FetchAdd
command_of (Lock (BoundedAdd arg datum)) = commands.BoundedAdd
command_of (Lock (WrapAdd arg datum)) = commands.WrapAdd

pub command_again : (act : Act) (rest : List ℕ) → command_read (act_word act ++ rest) ≡ Some (command_of act, rest)
unfolding after command_read
command_again (Lock (MaskSwap arg datum)) rest = refl
command_again _ rest = refl

-- ---- the operands

-- what is read as the operands of act, and is act if they fit
abbrev ReadAs : Act → Option (Option Act × List ℕ) → List ℕ → Type 0
ReadAs act read rest = (o : Option Act) × (read ≡ Some (o, rest)) × SomeIff o (ActFits act) act

one_again : (f : ℕ → Act) (n : ℕ) (rest : List ℕ) → Ends rest
    → (o : Option Act) × (one f (field n ++ rest) ≡ Some (o, rest)) × SomeIff o (n < 2 ^ 64) (f n)
one_again f n rest ends = (option_map f (fitting n), rw (field_again n rest ends) refl, mapped (n < 2 ^ 64) f (fitting n) n (fitting_is n))

pub pair_again : (a d : ℕ) (rest : List ℕ) → Ends rest → pair_read ((field a ++ field d) ++ rest) ≡ Some (both (fitting a) (fitting d), rest)
unfolding pair_read
pair_again a d rest ends = rw (append_assoc (field a) (field d) rest, field_again a (field d ++ rest) (ends_field d rest), field_again d rest ends) refl

two_again : (f : ℕ → ℕ → LockOp) (a d : ℕ) (rest : List ℕ) → Ends rest
    → (o : Option Act) × (two f ((field a ++ field d) ++ rest) ≡ Some (o, rest)) × SomeIff o ((a < 2 ^ 64) × (d < 2 ^ 64)) (Lock (f a d))
two_again f a d rest ends = (
  option_map (λ p. Lock (f p.0 p.1)) (both (fitting a) (fitting d)),
  rw (pair_again a d rest ends) refl,
  mapped ((a < 2 ^ 64) × (d < 2 ^ 64)) (λ p. Lock (f p.0 p.1)) (both (fitting a) (fitting d)) (a, d)
      (both_is (a < 2 ^ 64) (d < 2 ^ 64) (fitting a) (fitting d) a d (fitting_is a) (fitting_is d)),
)

operands_again : (act : Act) (rest : List ℕ) → Ends rest → ReadAs act (operands_read (command_of act) (act_operands act ++ rest)) rest
unfolding operands_read
operands_again Load rest ends = (Some Load, refl, (tt, refl))
operands_again (Store word) rest ends = one_again Store word rest ends
operands_again (Lock (MaskSwap arg datum)) rest ends = two_again MaskSwap arg datum rest ends
operands_again (Lock (CompareSwap arg datum)) rest ends = two_again CompareSwap arg datum rest ends
operands_again (Lock (FetchAdd datum)) rest ends = one_again (λ n. Lock (FetchAdd n)) datum rest ends
operands_again (Lock (BoundedAdd arg datum)) rest ends = two_again BoundedAdd arg datum rest ends
operands_again (Lock (WrapAdd arg datum)) rest ends = two_again WrapAdd arg datum rest ends

ends_operands : (act : Act) (rest : List ℕ) → Ends rest → Ends (act_operands act ++ rest)
ends_operands Load rest ends = ends
ends_operands (Store word) rest ends = ends_field word rest
ends_operands (Lock (MaskSwap arg datum)) rest ends = rw append_assoc (ends_field arg (field datum ++ rest))
ends_operands (Lock (CompareSwap arg datum)) rest ends = rw append_assoc (ends_field arg (field datum ++ rest))
ends_operands (Lock (FetchAdd datum)) rest ends = ends_field datum rest
ends_operands (Lock (BoundedAdd arg datum)) rest ends = rw append_assoc (ends_field arg (field datum ++ rest))
ends_operands (Lock (WrapAdd arg datum)) rest ends = rw append_assoc (ends_field arg (field datum ++ rest))

-- what bytes begin with as the operands of a command
abbrev FoundAs : Command → List ℕ → Option Act → List ℕ → Type 0
FoundAs command bytes o rest = (act : Act) × (command_of act ≡ command) × (bytes ≡ act_operands act ++ rest) × SomeIff o (ActFits act) act

-- what is made of a number that was read
abbrev pub number_as : {A : Type 0} → (ℕ → A) → Option ℕ × List ℕ → Option (Option A × List ℕ)
number_as f x = Some (option_map f x.0, x.1)

pub number_made : {A : Type 0} (f : ℕ → A) (text : ℕ → List ℕ) (read : List ℕ → Option (Option ℕ × List ℕ))
    → ((bytes : List ℕ) (value : Option ℕ) (rest : List ℕ) → read bytes ≡ Some (value, rest)
    → (n : ℕ) × (bytes ≡ text n ++ rest) × (value ≡ fitting n)) → (bytes : List ℕ) (o : Option A) (rest : List ℕ)
    → (read bytes >>= number_as f) ≡ Some (o, rest) → (n : ℕ) × (bytes ≡ text n ++ rest) × SomeIff o (n < 2 ^ 64) (f n)
number_made {A} f text read found bytes o rest e =
    let s = bind_some (read bytes) (number_as f) (o, rest) e in
    let n = found bytes s.0.0 s.0.1 s.1 in
    let parts = some_pair_parts (option_map f s.0.0) o s.0.1 rest s.2 in (
      n.0,
      n.1 ∙ ap (λ (l : List ℕ). text n.0 ++ l) parts.1,
      subst (λ (v : Option A). SomeIff v (n.0 < 2 ^ 64) (f n.0)) (ap (option_map f) (sym n.2) ∙ parts.0)
          (mapped (n.0 < 2 ^ 64) f (fitting n.0) n.0 (fitting_is n.0)),
    )

one_found : (f : ℕ → Act) (bytes : List ℕ) (o : Option Act) (rest : List ℕ) → one f bytes ≡ Some (o, rest)
    → (n : ℕ) × (bytes ≡ field n ++ rest) × SomeIff o (n < 2 ^ 64) (f n)
one_found f bytes o rest e = number_made f field field_read field_found bytes o rest e

pub pair_found : (bytes : List ℕ) (o : Option (ℕ × ℕ)) (rest : List ℕ) → pair_read bytes ≡ Some (o, rest)
    → (a : ℕ) × (d : ℕ) × (bytes ≡ (field a ++ field d) ++ rest) × (o ≡ both (fitting a) (fitting d))
unfolding pair_read
pair_found bytes o rest e =
    let s = bind_some (field_read bytes) (λ first. field_read first.1 >>= λ second. Some (both first.0 second.0, second.1)) (o, rest) e in
    let t = bind_some (field_read s.0.1) (λ second. Some (both s.0.0 second.0, second.1)) (o, rest) s.2 in
    let first = field_found bytes s.0.0 s.0.1 s.1 in
    let second = field_found s.0.1 t.0.0 t.0.1 t.1 in
    let parts = some_pair_parts (both s.0.0 t.0.0) o t.0.1 rest t.2 in
    let all : bytes ≡ (field first.0 ++ field second.0) ++ rest =
    first.1 ∙ ap (λ (l : List ℕ). field first.0 ++ l) (second.1 ∙ ap (λ (l : List ℕ). field second.0 ++ l) parts.1)
    ∙ sym (append_assoc (field first.0) (field second.0) rest) in
    (first.0, second.0, all, sym parts.0 ∙ ap (λ (v : Option ℕ). both v t.0.0) first.2 ∙ ap (λ (v : Option ℕ). both (fitting first.0) v) second.2)

two_found : (f : ℕ → ℕ → LockOp) (bytes : List ℕ) (o : Option Act) (rest : List ℕ) → two f bytes ≡ Some (o, rest)
    → (a : ℕ) × (d : ℕ) × (bytes ≡ (field a ++ field d) ++ rest) × SomeIff o ((a < 2 ^ 64) × (d < 2 ^ 64)) (Lock (f a d))
two_found f bytes o rest e =
    let g : ℕ × ℕ → Act = λ p. Lock (f p.0 p.1) in
    let s = bind_some (pair_read bytes) (λ x. Some (option_map g x.0, x.1)) (o, rest) e in
    let found = pair_found bytes s.0.0 s.0.1 s.1 in
    let a = found.0 in
    let d = found.1 in
    let parts = some_pair_parts (option_map g s.0.0) o s.0.1 rest s.2 in (
      a,
      d,
      found.2 ∙ ap (λ (l : List ℕ). (field a ++ field d) ++ l) parts.1,
      subst (λ (v : Option Act). SomeIff v ((a < 2 ^ 64) × (d < 2 ^ 64)) (Lock (f a d))) (ap (option_map g) (sym found.3) ∙ parts.0)
          (mapped ((a < 2 ^ 64) × (d < 2 ^ 64)) g (both (fitting a) (fitting d)) (a, d)
          (both_is (a < 2 ^ 64) (d < 2 ^ 64) (fitting a) (fitting d) a d (fitting_is a) (fitting_is d))),
    )

pub operands_found : (command : Command) (bytes : List ℕ) (o : Option Act) (rest : List ℕ) → operands_read command bytes ≡ Some (o, rest)
    → FoundAs command bytes o rest
unfolding operands_read
operands_found commands.Load bytes o rest e = grind (arith, some_pair_parts)
operands_found commands.Store bytes o rest e = let s = one_found Store bytes o rest e in (Store s.0, refl, s.1, s.2)
operands_found commands.MaskSwap bytes o rest e = let s = two_found MaskSwap bytes o rest e in (Lock (MaskSwap s.0 s.1), refl, s.2, s.3)
operands_found commands.CompareSwap bytes o rest e = let s = two_found CompareSwap bytes o rest e in (Lock (CompareSwap s.0 s.1), refl, s.2, s.3)
operands_found commands.FetchAdd bytes o rest e = let s = one_found (λ n. Lock (FetchAdd n)) bytes o rest e in (Lock (FetchAdd s.0), refl, s.1, s.2)
operands_found commands.BoundedAdd bytes o rest e = let s = two_found BoundedAdd bytes o rest e in (Lock (BoundedAdd s.0 s.1), refl, s.2, s.3)
operands_found commands.WrapAdd bytes o rest e = let s = two_found WrapAdd bytes o rest e in (Lock (WrapAdd s.0 s.1), refl, s.2, s.3)

-- ---- the operation

-- each number fits its place in an `Op`
abbrev pub OpFits : Op → Type 0
OpFits op = (op.line < 256) × ((op.word < 256) × ActFits op.act)

made_of : (l w : Option ℕ) (o : Option Act) (line word : ℕ) (act : Act) → SomeIff l (line < 256) line → SomeIff w (word < 256) word
    → SomeIff o (ActFits act) act
    → SomeIff {T = Op} (l >>= λ x. w >>= λ y. o >>= λ a. Some (record { line = x; word = y; act = a })) ((line < 256) × ((word < 256) × ActFits act))
    (record { line = line; word = word; act = act })
made_of None w o line word act h k m = λ all. h all.0
made_of (Some x) None o line word act h k m = λ all. k all.1.0
made_of (Some x) (Some y) None line word act h k m = λ all. m all.1.1
made_of (Some x) (Some y) (Some a) line word act h k m = ((h.0, (k.0, m.0)), cc (h.1, k.1, m.1))

made_is : (line word : ℕ) (o : Option Act) (act : Act) → SomeIff o (ActFits act) act
    → SomeIff {T = Op} (made (fitting line) (fitting word) o) ((line < 256) × ((word < 256) × ActFits act)) (record { line = line; word = word; act = act })
unfolding made
made_is line word o act h = made_of (byte (fitting line)) (byte (fitting word)) o line word act (byte_is line) (byte_is word) h

act_word_is : (act : Act) → command_word (command_of act) ≡ act_word act
act_word_is (Lock (MaskSwap arg datum)) = refl
act_word_is _ = refl

pub operation_again : (op : Op) (rest : List ℕ) → Ends rest
    → (o : Option Op) × (operation_read (operation op ++ rest) ≡ Some (o, rest)) × SomeIff o (OpFits op) op
unfolding operation operation_after operation_read
operation_again op rest ends =
    let last = act_operands op.act ++ rest in
    let regrouped : (act_word op.act ++ (field op.line ++ (field op.word ++ act_operands op.act))) ++ rest ≡ act_word op.act
    ++ (field op.line ++ (field op.word ++ last)) = simp append_assoc in
    let act = operands_again op.act rest ends in (
      made (fitting op.line) (fitting op.word) act.0,
      rw (
        regrouped,
        command_again op.act (field op.line ++ (field op.word ++ last)),
        field_again op.line (field op.word ++ last) (ends_field op.word last),
        field_again op.word last (ends_operands op.act rest ends),
        act.1,
      ) refl,
      made_is op.line op.word act.0 op.act act.2,
    )

pub operation_found : (bytes : List ℕ) (o : Option Op) (rest : List ℕ) → operation_read bytes ≡ Some (o, rest)
    → (op : Op) × (bytes ≡ operation op ++ rest) × SomeIff o (OpFits op) op
unfolding operation operation_after operation_read command_read
operation_found bytes o rest e =
    let a = bind_some (spelled command_word all_commands bytes)
    (λ c. field_read c.1 >>= λ line. field_read line.1 >>= λ word. operands_read c.0 word.1 >>= λ act. Some (made line.0 word.0 act.0, act.1)) (o, rest)
    e in
    let b = bind_some (field_read a.0.1) (λ line. field_read line.1 >>= λ word. operands_read a.0.0 word.1 >>= λ act. Some (made line.0 word.0 act.0, act.1))
    (o, rest) a.2 in
    let c = bind_some (field_read b.0.1) (λ word. operands_read a.0.0 word.1 >>= λ act. Some (made b.0.0 word.0 act.0, act.1)) (o, rest) b.2 in
    let d = bind_some (operands_read a.0.0 c.0.1) (λ act. Some (made b.0.0 c.0.0 act.0, act.1)) (o, rest) c.2 in
    let line = field_found a.0.1 b.0.0 b.0.1 b.1 in
    let word = field_found b.0.1 c.0.0 c.0.1 c.1 in
    let act = operands_found a.0.0 c.0.1 d.0.0 d.0.1 d.1 in
    let parts = some_pair_parts (made b.0.0 c.0.0 d.0.0) o d.0.1 rest d.2 in
    let first : bytes ≡ act_word act.0 ++ a.0.1 =
    spelled_found command_word all_commands bytes a.0.0 a.0.1 a.1
    ∙ ap (λ (k : Command). command_word k ++ a.0.1) (sym act.1) ∙ ap (λ (w : List ℕ). w ++ a.0.1) (act_word_is act.0) in
    let third : b.0.1 ≡ field word.0 ++ (act_operands act.0 ++ rest) =
    word.1 ∙ ap (λ (l : List ℕ). field word.0 ++ l) (act.2 ∙ ap (λ (l : List ℕ). act_operands act.0 ++ l) parts.1) in
    let second : a.0.1 ≡ field line.0 ++ (field word.0 ++ (act_operands act.0 ++ rest)) = line.1 ∙ ap (λ (l : List ℕ). field line.0 ++ l) third in
    let regrouped : (act_word act.0 ++ (field line.0 ++ (field word.0 ++ act_operands act.0))) ++ rest ≡ act_word act.0
    ++ (field line.0 ++ (field word.0 ++ (act_operands act.0 ++ rest))) = simp append_assoc in
    let seen : made (fitting line.0) (fitting word.0) d.0.0 ≡ o =
    ap (λ (v : Option ℕ). made v (fitting word.0) d.0.0) (sym line.2) ∙ ap (λ (v : Option ℕ). made b.0.0 v d.0.0) (sym word.2) ∙ parts.0 in
    let op : Op = record { line = line.0; word = word.0; act = act.0 } in (
      op,
      first ∙ ap (λ (l : List ℕ). act_word act.0 ++ l) second ∙ sym regrouped,
      subst (λ (v : Option Op). SomeIff v (OpFits op) op) seen (made_is line.0 word.0 d.0.0 act.0 act.3),
    )

-- ---- operations are short

two_short : (a d : ℕ) → (a < 2 ^ 64) × (d < 2 ^ 64) → length (field a ++ field d) ≤ 42
two_short a d fits = omega (arith, length-append (field a) (field d), field_short a fits.0, field_short d fits.1)

word_short : (act : Act) → length (act_word act) ≤ 12
word_short (Lock (MaskSwap arg datum)) = omega arith
word_short _ = omega arith

operands_short : (act : Act) → ActFits act → length (act_operands act) ≤ 42
operands_short Load fits = omega arith
operands_short (Store word) fits = omega (arith, field_short word fits)
operands_short (Lock (MaskSwap arg datum)) fits = two_short arg datum fits
operands_short (Lock (CompareSwap arg datum)) fits = two_short arg datum fits
operands_short (Lock (FetchAdd datum)) fits = omega (arith, field_short datum fits)
operands_short (Lock (BoundedAdd arg datum)) fits = two_short arg datum fits
operands_short (Lock (WrapAdd arg datum)) fits = two_short arg datum fits

pub operation_short : (op : Op) → OpFits op → length (operation op) ≤ 96
unfolding operation
operation_short op fits = grind (arith, length-append, word_short, field_short, operands_short)
