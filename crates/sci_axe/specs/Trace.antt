-- The text of a trace: its lines one after another, and the first fault.
use Rattle.std.specs.Prelude.{◌≡◌, ◌<◌, ◌+◌, ℕ, ◌==◌, Bool, true, false, if◌then◌else◌, List, [], ◌∷◌, ◌++◌, ◌⊎◌, Option, Some, None, length}
use Rattle.std.specs.{BTreeMap.{get}, Ordering.{nat_cmp}}
use Rattle.sci_words.specs.declared.limits.TheConstants.{MAX_NODES}
use Rattle.sci_text.specs.declared.fault.{TextFault.{TextFault}, TextFaultKind.{TextFaultKind}}
use Rattle.sci_text.specs.declared.fault.TextFaultKind.TheVariants.{Syntax, Range, TooMany, Read, Write, Memory}
use Rattle.sci_judge.specs.declared.{access.Access.{Access}, trace.Trace.{Trace}}
use Rattle.sci_axe.specs.declared.line.{LastWord.{LastWord}, Said.{Said, TheVariants.{Nothing, Did, Ended}}}
use Rattle.sci_axe.specs.Line.{line_read}

-- the first line, without its line feed, and the bytes after it
unfoldable pub line_split : List ℕ → List ℕ × List ℕ
line_split [] = ([], [])
line_split (b ∷ bytes) = if b == 10 then ([], bytes) else (b ∷ (line_split bytes).0, (line_split bytes).1)

-- the lines at the front of bytes say these things, the first of them on the line of this number, and a rest is left
abbrev pub AreSaid : List Said → (number : ℕ) → (bytes rest : List ℕ) → Type 0
AreSaid [] number bytes rest = bytes ≡ rest
AreSaid (said ∷ more) number bytes rest =
    (0 < length bytes) × (line_read number (line_split bytes).0 ≡ Some (Some said)) × AreSaid more (number + 1) (line_split bytes).1 rest

-- the operations that lines say
abbrev pub accesses_of : List Said → List Access
accesses_of [] = []
accesses_of (Nothing ∷ more) = accesses_of more
accesses_of (Did access ∷ more) = access ∷ accesses_of more
accesses_of (Ended last ∷ more) = accesses_of more

-- ---- last words, by address

abbrev pub LastWords : Type 0
LastWords = ℕ → Option ℕ

abbrev pub no_words : LastWords
no_words address = None

-- what is known behind a line
abbrev pub learnt : LastWords → Said → LastWords
learnt known (Ended last) address = if address == last.address then Some last.word else known address
learnt known Nothing address = known address
learnt known (Did access) address = known address

-- what is known behind lines
abbrev pub learnt_from : LastWords → List Said → LastWords
learnt_from known [] = known
learnt_from known (said ∷ more) = learnt_from (learnt known said) more

-- whether no other word is known
abbrev pub is_free_for : Option ℕ → ℕ → Bool
is_free_for None word = true
is_free_for (Some known) word = known == word

-- a line doesn't say another last word than one that is known
abbrev pub Agrees : LastWords → Said → Type 0
Agrees known (Ended last) = is_free_for (known last.address) last.word ≡ true
Agrees known Nothing = Unit {0}
Agrees known (Did access) = Unit {0}

-- no line says another last word than one that is known before it
abbrev pub AreAgreed : LastWords → List Said → Type 0
AreAgreed known [] = Unit {0}
AreAgreed known (said ∷ more) = Agrees known said × AreAgreed (learnt known said) more

-- ---- the whole text

-- bytes are the text of a trace: each line says something, these are the operations, and these the last words
pub record IsTrace (bytes : List ℕ) (trace : Trace) : Type 0 where
  pub said : List Said
  pub lines : AreSaid said 1 bytes []
  pub agreed : AreAgreed no_words said
  pub accesses : trace.accesses.items ≡ accesses_of said
  pub last : (address : ℕ) → get nat_cmp trace.last address ≡ learnt_from no_words said address

-- a line of the right form, whose numbers are within their limits, says another last word than one that is known
abbrev pub Contradicts : LastWords → (number : ℕ) → List ℕ → Type 0
Contradicts known number bytes =
    (last : LastWord) × (line_read number bytes ≡ Some (Some (Ended last))) × (is_free_for (known last.address) last.word ≡ false)

-- what is wrong with a line, behind lines by which these last words are known
abbrev pub IsWrong : LastWords → (number : ℕ) → List ℕ → TextFaultKind → Type 0
IsWrong known number bytes Syntax = line_read number bytes ≡ None
IsWrong known number bytes Range = (line_read number bytes ≡ Some None) ⊎ Contradicts known number bytes
IsWrong known number bytes TooMany = ⊥
IsWrong known number bytes Read = ⊥
IsWrong known number bytes Write = ⊥
IsWrong known number bytes Memory = ⊥

-- the first line that is wrong
pub record IsTraceFault (bytes : List ℕ) (line : ℕ) (kind : TextFaultKind) : Type 0 where
  pub said : List Said
  pub rest : List ℕ
  pub before : AreSaid said 1 bytes rest
  pub agreed : AreAgreed no_words said
  pub more : 0 < length rest
  pub place : line ≡ length said + 1
  pub wrong : IsWrong (learnt_from no_words said) line (line_split rest).0 kind

-- the processor is one of sixteen
abbrev pub IsKnown : Said → Type 0
IsKnown Nothing = Unit {0}
IsKnown (Did access) = access.processor < MAX_NODES
IsKnown (Ended last) = Unit {0}

-- the operations with what a line says
abbrev pub IsAdded : Said → List Access → List Access → Type 0
IsAdded Nothing old new = new ≡ old
IsAdded (Did access) old new = new ≡ old ++ access ∷ []
IsAdded (Ended last) old new = new ≡ old

-- the last words that a trace has
abbrev pub known_in : Trace → LastWords
known_in trace address = get nat_cmp trace.last address

-- the first line of bytes says something, which is added, and a rest is left
pub record AddsLine (number : ℕ) (bytes rest : List ℕ) (old new : Trace) : Type 0 where
  pub said : Said
  pub reads : line_read number (line_split bytes).0 ≡ Some (Some said)
  pub left : rest ≡ (line_split bytes).1
  pub added : IsAdded said old.accesses.items new.accesses.items
  pub last : (address : ℕ) → known_in new address ≡ learnt (known_in old) said address
  pub agrees : Agrees (known_in old) said
  pub known : IsKnown said

-- why the first line of bytes adds nothing: it is wrong, or memory was refused
abbrev pub IsLineRefusal : LastWords → ℕ → List ℕ → TextFault → Type 0
IsLineRefusal known number bytes fault =
    ((fault.line ≡ number) × IsWrong known number (line_split bytes).0 fault.kind) ⊎ ((fault.kind ≡ Memory) × (fault.line ≡ 0))
