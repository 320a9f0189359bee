-- What the private readers of the code answer, step by step from left to right: what is read, and the bytes
-- after it. No public contract rests on these words: Script, Schedule and Log say what a text is, and laws in proofs/
-- join the two.
use Rattle.std.specs.Prelude.{◌≡◌, ℕ, ◌+◌, ◌-◌, ◌*◌, ◌^◌, Bool, ◌<◌, ◌≤◌, ◌⊎◌, List, [], ◌∷◌, ◌++◌, length, Option, Some, None, option_map}
use Rattle.std.specs.Prelude.{option_and_then, nat_lt, nat_le, ◌&&◌, ◌==◌, if◌then◌else◌, codes}
use denote.Ref.{Bor}
use Rattle.sci_words.specs.declared.operation.LockOp.{LockOp}
use Rattle.sci_words.specs.declared.operation.LockOp.TheVariants.{MaskSwap, CompareSwap, FetchAdd, BoundedAdd, WrapAdd}
use Rattle.sci_words.specs.declared.operation.{Act.{Act, TheVariants.{Load, Store, Lock}}, Op.{Op}}
use Rattle.sci_words.specs.declared.limits.TheConstants.{MAX_TEXT_LINE_BYTES}
use Rattle.sci_text.specs.declared.fault.TextFaultKind.{TextFaultKind}
use Rattle.sci_text.specs.declared.fault.TextFaultKind.TheVariants.{Syntax, Range, TooMany, Read, Write, Memory}
use Rattle.sci_text.specs.declared.operation.Command.{Command}
use Rattle.sci_text.specs.declared.operation.Command.TheVariants as commands

infixl 10 ◌>>=◌
abbrev pub ◌>>=◌ : {A B : Type 0} → Option A → (A → Option B) → Option B
o >>= f = option_and_then f o

-- what a function returned, seen by view, is what reading gives
abbrev pub Gives : {X Y : Type 0} → (X → Y) → Option X → Option Y → Type 0
Gives view None read = read ≡ None
Gives view (Some x) read = read ≡ Some (view x)

abbrev pub is_digit : ℕ → Bool
is_digit b = nat_le 48 b && nat_le b 57

-- a number that fits 64 bits
abbrev pub fitting : ℕ → Option ℕ
fitting n = if nat_lt n (2 ^ 64) then Some n else None

-- the number with one more digit at its end
unfoldable pub with_digit : Option ℕ → ℕ → Option ℕ
with_digit None digit = None
with_digit (Some n) digit = fitting (n * 10 + (digit - 48))

unfoldable pub digits_read : Option ℕ → List ℕ → Option ℕ × List ℕ
digits_read number [] = (number, [])
digits_read number (b ∷ bytes) = if is_digit b then digits_read (with_digit number b) bytes else (number, b ∷ bytes)

unfoldable pub number_read : List ℕ → Option (Option ℕ × List ℕ)
number_read [] = None
number_read (b ∷ bytes) = if b == 48 then Some (Some 0, bytes) else (if is_digit b then Some (digits_read (Some (b - 48)) bytes) else None)

unfoldable pub field_read : List ℕ → Option (Option ℕ × List ℕ)
field_read [] = None
field_read (b ∷ bytes) = if b == 32 then number_read bytes else None

-- the bytes after a word, if they begin with it
unfoldable pub after : List ℕ → List ℕ → Option (List ℕ)
after [] bytes = Some bytes
after (c ∷ word) [] = None
after (c ∷ word) (b ∷ bytes) = if b == c then after word bytes else None

-- a number below 256
unfoldable pub byte : Option ℕ → Option ℕ
byte None = None
byte (Some n) = if nat_lt n 256 then Some n else None

-- ---- words and pairs

abbrev pub otherwise : {A : Type 0} → Option A → Option A → Option A
otherwise None second = second
otherwise (Some x) second = Some x

-- what the word at the front of bytes stands for, and the bytes after it
abbrev pub spelled : {A : Type 0} → (A → List ℕ) → List A → List ℕ → Option (A × List ℕ)
spelled word_of [] bytes = None
spelled word_of (x ∷ more) bytes = otherwise (option_map (λ rest. (x, rest)) (after (word_of x) bytes)) (spelled word_of more bytes)

abbrev pub both : {A B : Type 0} → Option A → Option B → Option (A × B)
both o p = o >>= λ a. option_map (λ b. (a, b)) p

-- ---- operations

abbrev pub command_word : Command → List ℕ
command_word commands.Load = codes "load"
command_word commands.Store = codes "store"
command_word commands.MaskSwap = codes "mask-swap"
command_word commands.CompareSwap = codes "compare-swap"
command_word commands.FetchAdd = codes "fetch-add"
command_word commands.BoundedAdd = codes "bounded-add"
command_word commands.WrapAdd = codes "wrap-add"

abbrev pub all_commands : List Command
all_commands = commands.Load ∷ commands.Store ∷ commands.MaskSwap ∷ commands.CompareSwap ∷ commands.FetchAdd ∷ commands.BoundedAdd ∷ commands.WrapAdd ∷ []

unfoldable pub command_read : List ℕ → Option (Command × List ℕ)
command_read bytes = spelled command_word all_commands bytes

unfoldable pub pair_read : List ℕ → Option (Option (ℕ × ℕ) × List ℕ)
pair_read bytes = do
  first ← field_read bytes
  second ← field_read first.1
  Some (both first.0 second.0, second.1)

abbrev pub one : (ℕ → Act) → List ℕ → Option (Option Act × List ℕ)
one f bytes = field_read bytes >>= λ x. Some (option_map f x.0, x.1)

abbrev pub two : (ℕ → ℕ → LockOp) → List ℕ → Option (Option Act × List ℕ)
two f bytes = pair_read bytes >>= λ x. Some (option_map (λ p. Lock (f p.0 p.1)) x.0, x.1)

unfoldable pub operands_read : Command → List ℕ → Option (Option Act × List ℕ)
operands_read commands.Load bytes = Some (Some Load, bytes)
operands_read commands.Store bytes = one Store bytes
operands_read commands.MaskSwap bytes = two MaskSwap bytes
operands_read commands.CompareSwap bytes = two CompareSwap bytes
operands_read commands.FetchAdd bytes = one (λ datum. Lock (FetchAdd datum)) bytes
operands_read commands.BoundedAdd bytes = two BoundedAdd bytes
operands_read commands.WrapAdd bytes = two WrapAdd bytes

unfoldable pub made : Option ℕ → Option ℕ → Option Act → Option Op
made line word act = do
  l ← byte line
  w ← byte word
  a ← act
  Some (record { line = l; word = w; act = a })

-- the operation whose word stands before the bytes
unfoldable pub operation_after : Command → List ℕ → Option (Option Op × List ℕ)
operation_after command bytes = do
  line ← field_read bytes
  word ← field_read line.1
  act ← operands_read command word.1
  Some (made line.0 word.0 act.0, act.1)

unfoldable pub operation_read : List ℕ → Option (Option Op × List ℕ)
operation_read bytes = do
  command ← command_read bytes
  operation_after command.0 command.1

-- ---- lines

-- the bytes are a line and the rest, and the new value is the old one with what the line says
pub record Adds {V X : Type 0} (line_of : X → List ℕ) (added_to : V → X → V) (old new : V) (bytes rest : List ℕ) : Type 0 where
  pub said : X
  pub parts : bytes ≡ line_of said ++ rest
  pub added : new ≡ added_to old said

-- what was read, as the bytes that are left
abbrev pub read_of : {X : Type 0} → X × Bor (List ℕ) → X × List ℕ
read_of x = (x.0, x.1.now)

-- why nothing comes of a line, from what was read of it: nothing was, or it is too long, or a number doesn't fit
abbrev pub IsUnsaid : {X : Type 0} → List ℕ → Option (Option X × List ℕ) → TextFaultKind → Type 0
IsUnsaid bytes read Syntax = (read ≡ None) ⊎ ((o : _) × (rest : List ℕ) × (read ≡ Some (o, rest)) × (length rest + MAX_TEXT_LINE_BYTES + 1 < length bytes))
IsUnsaid bytes read Range = (rest : List ℕ) × (read ≡ Some (None, rest)) × (length bytes ≤ length rest + MAX_TEXT_LINE_BYTES + 1)
IsUnsaid bytes read TooMany = ⊥
IsUnsaid bytes read Read = ⊥
IsUnsaid bytes read Write = ⊥
IsUnsaid bytes read Memory = ⊥
