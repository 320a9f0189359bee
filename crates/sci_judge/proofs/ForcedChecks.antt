-- What the checks of makers in the order of versions show.
use Rattle.std.proofs.Common.{◌≡◌, ℕ, zero, suc, ◌-◌, ◌<◌, ◌+◌, Bool, true, false, List, Some, sym, ap, subst, ◌∙◌, arith, inl, inr}
use Rattle.std.specs.Prelude.{slice_get}
use Rattle.std.specs.Prelude.{◌⊎◌}
use Rattle.std.proofs.lemmas.Bool.{cases_eq}
use Rattle.sci_judge.specs.declared.{access.Access.{Access}, forcing.Maker.{Maker}}
use Rattle.sci_judge.specs.Access.{is_making, is_writing, left_by}
use Rattle.sci_judge.specs.{Witness.{ComesBefore, IsAt}}
use Rattle.sci_judge.specs.Forced.{IsAbove, IsBehindPrevious, IsHeld, IsMaker, IsUnder, IsWordBefore}

pub word_behind : (accesses : List Access) (makers : List Maker) (index place word : ℕ) (access : Access) → 0 < index
    → IsMaker accesses makers (index - 1) place access → word ≡ left_by access.kind → IsWordBefore accesses makers index word
word_behind accesses makers zero place word access some maker leaves = absurd (omega arith)
word_behind accesses makers (suc index) place word access some maker leaves =
    (place, access, subst (λ (k : ℕ). IsMaker accesses makers k place access) (omega arith) maker, sym leaves)

pub behind : (timed : Bool) (accesses : List Access) (makers : List Maker) (index before place : ℕ) (other access : Access) → 0 < index
    → IsMaker accesses makers (index - 1) before other
    → ((is_writing other.kind ≡ true) × (is_writing access.kind ≡ false)) ⊎ ComesBefore timed before place other access
    → IsBehindPrevious timed accesses makers index place access
behind timed accesses makers zero before place other access some maker comes = tt
behind timed accesses makers (suc index) before place other access some maker comes =
    (before, other, subst (λ (k : ℕ). IsMaker accesses makers k before other) (omega arith) maker, comes)

pub above : (timed : Bool) (accesses : List Access) (makers : List Maker) (version there place : ℕ) (other access : Access) → 0 < version
    → IsMaker accesses makers (version - 1) there other
    → ((is_writing other.kind ≡ true) × (left_by other.kind ≡ left_by access.kind)) ⊎ ComesBefore timed there place other access
    → IsAbove timed accesses makers place version access
above timed accesses makers zero there place other access some maker shows = tt
above timed accesses makers (suc version) there place other access some maker shows =
    (there, other, subst (λ (k : ℕ). IsMaker accesses makers k there other) (omega arith) maker, shows)

-- the operation at a place is one
pub one_access : (accesses : List Access) (place : ℕ) (a b : Access) → IsAt accesses place a → IsAt accesses place b → a ≡ b
one_access accesses place a b at_a at_b = let same : Some a ≡ Some b = sym at_a ∙ at_b in cc

pub held_load : (timed : Bool) (accesses : List Access) (makers : List Maker) (place version : ℕ) (access : Access) → is_making access.kind ≡ false
    → IsAbove timed accesses makers place version access → IsUnder timed accesses makers place version access
    → IsHeld timed accesses makers place version access
held_load timed accesses makers place version access load low high = grind arith

pub held_maker : (timed : Bool) (accesses : List Access) (makers : List Maker) (place there version : ℕ) (access other : Access) → is_making access.kind ≡ true
    → 0 < version → IsMaker accesses makers (version - 1) there other → there ≡ place → IsHeld timed accesses makers place version access
held_maker timed accesses makers place there version access other making some maker same = record {
  maker = λ _. (omega arith, other, subst (λ (k : ℕ). IsMaker accesses makers (version - 1) k other) same maker);
  load = λ load. absurd (let no_ : true ≡ false = sym making ∙ load in cc);
}

-- one operation more
pub held_more : (timed : Bool) (accesses : List Access) (versions : List ℕ) (makers : List Maker) (index version : ℕ)
    → ((access : Access) → IsAt accesses index access → IsHeld timed accesses makers index version access) → slice_get versions index ≡ Some version
    → ((place : ℕ) (access : Access) → place < index → IsAt accesses place access
    → (v : ℕ) × (slice_get versions place ≡ Some v) × IsHeld timed accesses makers place v access)
    → (place : ℕ) (access : Access) → place < index + 1 → IsAt accesses place access
    → (v : ℕ) × (slice_get versions place ≡ Some v) × IsHeld timed accesses makers place v access
held_more timed accesses versions makers index version here found before place access lt at = elim (cases_eq place index) [
  | inl same ↦ (
    version,
    ap (slice_get versions) same ∙ found,
    subst (λ (k : ℕ). IsHeld timed accesses makers k version access) (sym same) (here access (ap (slice_get accesses) (sym same) ∙ at)),
  )
  | inr other ↦ before place access (omega arith) at
]

-- one maker more
pub ranked_more : (P : ℕ → Type 0) (index : ℕ) → P index → ((k : ℕ) → k < index → P k) → (k : ℕ) → k < index + 1 → P k
ranked_more P index here before k lt = grind (arith, cases_eq)
