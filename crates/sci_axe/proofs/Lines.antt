-- Lines of a trace, one after another.
use Rattle.std.proofs.Common.{◌≡◌, ℕ, ◌+◌, ◌<◌, ◌≤◌, List, [], ◌∷◌, ◌++◌, length, take, drop, Some, None, refl, sym, ap, subst, ◌∙◌, arith}
use Rattle.std.proofs.Common.{inl, inr}
use Rattle.std.proofs.lemmas.{Bool.{cases_eq, eq-eqb, ne_eqb}, List.{length-append}}
use Rattle.sci_judge.specs.declared.access.Access.{Access}
use Rattle.sci_axe.specs.declared.line.{LastWord.{LastWord}, Said.{Said, TheVariants.{Nothing, Did, Ended}}}
use Rattle.sci_axe.specs.Line.{line_read}
use Rattle.sci_axe.specs.Trace.{Agrees, AreAgreed, AreSaid, IsAdded, IsKnown, LastWords, accesses_of, learnt, learnt_from, line_split, no_words}
use Rattle.sci_axe.specs.Trace.{is_free_for}
use Rattle.std.proofs.Common.{true, Option}
use Rattle.sci_words.specs.declared.limits.TheConstants.{MAX_NODES}
use Rattle.sci_judge.specs.Access.{AreKnown}
use Rattle.std.proofs.lemmas.List.Elements.{All-push}

-- ---- where a line ends

split_end : (b : ℕ) (bytes : List ℕ) → b ≡ 10 → line_split (b ∷ bytes) ≡ ([], bytes)
unfolding line_split
split_end b bytes is = rw (eq-eqb b 10 is) refl

split_more : (b : ℕ) (bytes : List ℕ) → (b ≡ 10 → ⊥) → line_split (b ∷ bytes) ≡ (b ∷ (line_split bytes).0, (line_split bytes).1)
unfolding line_split
split_more b bytes not_ = rw (ne_eqb b 10 not_) refl

pub split_none : line_split [] ≡ ([], [])
unfolding line_split
split_none = refl

split_long : (bytes : List ℕ) → length (line_split bytes).1 ≤ length bytes
split_long [] = rw split_none (omega arith)
split_long (b ∷ bytes) = elim (cases_eq b 10) [
  | inl is ↦ rw (split_end b bytes is) (omega arith)
  | inr not_ ↦ let more = split_long bytes in rw (split_more b bytes not_) (omega arith)
]

pub split_shorter : (bytes : List ℕ) → 0 < length bytes → length (line_split bytes).1 < length bytes
split_shorter [] some = absurd (omega arith)
split_shorter (b ∷ bytes) some = grind (arith, cases_eq, split_end, split_long, split_more)

-- no line feed up to a place
abbrev pub IsWithin : List ℕ → ℕ → Type 0
IsWithin bytes place = line_split bytes ≡ (take place bytes ++ (line_split (drop place bytes)).0, (line_split (drop place bytes)).1)

drop_all : (xs : List ℕ) → drop (length xs) xs ≡ []
drop_all [] = refl
drop_all (x ∷ xs) = drop_all xs

take_all : (xs : List ℕ) → take (length xs) xs ≡ xs
take_all [] = refl
take_all (x ∷ xs) = ap (λ (ys : List ℕ). x ∷ ys) (take_all xs)

append_one : (xs : List ℕ) (b : ℕ) (ys : List ℕ) → (xs ++ b ∷ []) ++ ys ≡ xs ++ b ∷ ys
append_one [] b ys = refl
append_one (x ∷ xs) b ys = ap (λ (zs : List ℕ). x ∷ zs) (append_one xs b ys)

-- ---- what lines say

pub said_push : (said : List Said) (number : ℕ) (bytes rest : List ℕ) (next : Said) → AreSaid said number bytes rest → 0 < length rest
    → line_read (number + length said) (line_split rest).0 ≡ Some (Some next) → AreSaid (said ++ next ∷ []) number bytes (line_split rest).1
said_push [] number bytes rest next before some reads =
    subst (λ (xs : List ℕ). AreSaid (next ∷ []) number xs (line_split rest).1) (sym before)
    (some, ap (λ (k : ℕ). line_read k (line_split rest).0) (omega arith) ∙ reads, refl)
said_push (s ∷ said) number bytes rest next before some reads = (
  before.0,
  before.1,
  said_push said (number + 1) (line_split bytes).1 rest next before.2 some
      (ap (λ (k : ℕ). line_read k (line_split rest).0) (omega arith) ∙ reads),
)

pub nothing_more : (said : List Said) → accesses_of (said ++ Nothing ∷ []) ≡ accesses_of said
nothing_more [] = refl
nothing_more (Nothing ∷ said) = nothing_more said
nothing_more (Did a ∷ said) = ap (λ (xs : List Access). a ∷ xs) (nothing_more said)
nothing_more (Ended l ∷ said) = nothing_more said

pub ended_more : (said : List Said) (last : LastWord) → accesses_of (said ++ Ended last ∷ []) ≡ accesses_of said
ended_more [] last = refl
ended_more (Nothing ∷ said) last = ended_more said last
ended_more (Did a ∷ said) last = ap (λ (xs : List Access). a ∷ xs) (ended_more said last)
ended_more (Ended l ∷ said) last = ended_more said last

pub access_more : (said : List Said) (access : Access) → accesses_of (said ++ Did access ∷ []) ≡ accesses_of said ++ access ∷ []
access_more [] access = refl
access_more (Nothing ∷ said) access = access_more said access
access_more (Did a ∷ said) access = ap (λ (xs : List Access). a ∷ xs) (access_more said access)
access_more (Ended l ∷ said) access = access_more said access

added_more : (said : List Said) (next : Said) (accesses new : List Access) → accesses ≡ accesses_of said → IsAdded next accesses new
    → new ≡ accesses_of (said ++ next ∷ [])
added_more said Nothing accesses new are added = added ∙ (are ∙ sym (nothing_more said))
added_more said (Did access) accesses new are added =
    added ∙ (ap (λ (xs : List Access). xs ++ access ∷ []) are ∙ sym (access_more said access))
added_more said (Ended last) accesses new are added = added ∙ (are ∙ sym (ended_more said last))

-- ---- last words

learnt_push : (said : List Said) (known : LastWords) (next : Said) (address : ℕ)
    → learnt_from known (said ++ next ∷ []) address ≡ learnt (learnt_from known said) next address
learnt_push [] known next address = refl
learnt_push (s ∷ said) known next address = learnt_push said (learnt known s) next address

agreed_push : (said : List Said) (known : LastWords) (next : Said) → AreAgreed known said → Agrees (learnt_from known said) next
    → AreAgreed known (said ++ next ∷ [])
agreed_push [] known next before agrees = (agrees, tt)
agreed_push (s ∷ said) known next before agrees = (before.0, agreed_push said (learnt known s) next before.1 agrees)

learnt_same : (f g : LastWords) (next : Said) (address : ℕ) → ((at : ℕ) → f at ≡ g at) → learnt f next address ≡ learnt g next address
learnt_same f g Nothing address same = same address
learnt_same f g (Did access) address same = same address
learnt_same f g (Ended last) address same = rw (same address) refl

agrees_same : (f g : LastWords) (next : Said) → ((at : ℕ) → f at ≡ g at) → Agrees f next → Agrees g next
agrees_same f g Nothing same agrees = tt
agrees_same f g (Did access) same agrees = tt
agrees_same f g (Ended last) same agrees = subst (λ (known : Option ℕ). is_free_for known last.word ≡ true) (same last.address) agrees

-- what is read so far
pub record IsReadTo (bytes rest : List ℕ) (number : ℕ) (accesses : List Access) (known : LastWords) : Type 0 where
  pub said : List Said
  pub lines : AreSaid said 1 bytes rest
  pub agreed : AreAgreed no_words said
  pub are : accesses ≡ accesses_of said
  pub last : (address : ℕ) → known address ≡ learnt_from no_words said address
  pub place : number ≡ length said + 1
  pub few : number + length rest ≤ length bytes + 1

pub read_none : (bytes : List ℕ) (accesses : List Access) (known : LastWords) → accesses ≡ [] → ((address : ℕ) → known address ≡ None)
    → IsReadTo bytes bytes 1 accesses known
read_none bytes accesses known none free = record {
  said = [];
  lines = refl;
  agreed = tt;
  are = none;
  last = free;
  place = omega arith;
  few = omega arith;
}

-- a line more
pub read_more : (bytes rest more : List ℕ) (number : ℕ) (accesses new : List Access) (known after : LastWords) (said : Said)
    → IsReadTo bytes rest number accesses known → 0 < length rest
    → line_read number (line_split rest).0 ≡ Some (Some said) → more ≡ (line_split rest).1 → IsAdded said accesses new
    → ((address : ℕ) → after address ≡ learnt known said address) → Agrees known said → IsReadTo bytes more (number + 1) new after
read_more bytes rest more number accesses new known after said is some reads left added knows agrees =
    let shorter = split_shorter rest some in
    let few = is.few in
    let place = is.place in
    let long = length-append is.said (said ∷ []) in
    let less : length more ≡ length (line_split rest).1 = ap length left in record {
      said = is.said ++ said ∷ [];
      lines = subst (AreSaid (is.said ++ said ∷ []) 1 bytes) (sym left)
          (said_push is.said 1 bytes rest said is.lines some (ap (λ (k : ℕ). line_read k (line_split rest).0) (omega arith) ∙ reads));
      agreed = agreed_push is.said no_words said is.agreed (agrees_same known (learnt_from no_words is.said) said is.last agrees);
      are = added_more is.said said accesses new is.are added;
      last = λ address. knows address ∙ (learnt_same known (learnt_from no_words is.said) said address is.last
          ∙ sym (learnt_push is.said no_words said address));
      place = omega arith;
      few = omega arith;
    }

pub known_more : (accesses new : List Access) (said : Said) → AreKnown accesses → IsKnown said → IsAdded said accesses new → AreKnown new
known_more accesses new Nothing known is added = subst AreKnown (sym added) known
known_more accesses new (Did access) known is added =
    subst AreKnown (sym added) (All-push (λ a. a.processor < MAX_NODES) accesses access known is)
known_more accesses new (Ended last) known is added = subst AreKnown (sym added) known
