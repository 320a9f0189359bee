-- The parts of a trace, whose addresses are shared out.
use Rattle.std.specs.Prelude.{◌≡◌, ◌<◌, ◌↔◌, ℕ, ◌==◌, leb, if◌then◌else◌, Bool, List, length, Option, None, Result, IfOk, count_by, filter, slice_index_or}
use Rattle.std.specs.List.{All, AllPairs, Contains}
use Rattle.sci_judge.specs.declared.{judging.{Judgement.{Judgement}, SiteVersions.{SiteVersions}}, trace.Trace.{Trace}}
use Rattle.sci_judge.specs.declared.judging.Judgement.TheVariants.{Coherent, NotCoherent, Undecided}
use Rattle.sci_judge.specs.Judgement.{IsExplainedAt, IsJudgement, Names, addresses_of, last_at}

-- the number of the part that an address is in, from 0: how many of the cuts aren't above it
abbrev pub part_of : (cuts : List ℕ) → (address : ℕ) → ℕ
part_of cuts address = count_by (λ cut. leb cut address) cuts

abbrev pub is_in_part : (cuts : List ℕ) → (part address : ℕ) → Bool
is_in_part cuts part address = part_of cuts address == part

-- the last word at an address in a part, if the trace has it
abbrev pub last_in : (cuts : List ℕ) → (part : ℕ) → Trace → (address : ℕ) → Option ℕ
last_in cuts part trace address = if is_in_part cuts part address then last_at address trace else None

-- a trace has the operations and the last words of another one at the addresses in a part
pub record IsPart (cuts : List ℕ) (part : ℕ) (whole there : Trace) : Type 0 where
  pub accesses : there.accesses.items ≡ filter (λ access. is_in_part cuts part access.address) whole.accesses.items
  pub last : (address : ℕ) → last_at address there ≡ last_in cuts part whole address

-- versions explain all operations of a trace at each address in a part that the trace names, and at no others; the addresses rise
pub record ArePartExplained (timed : Bool) (cuts : List ℕ) (part : ℕ) (trace : Trace) (explained : List SiteVersions) : Type 0 where
  pub named : (address : ℕ) → (Names trace address × (part_of cuts address ≡ part)) ↔ Contains (addresses_of explained) address
  pub rising : AllPairs (λ x y. x < y) (addresses_of explained)
  pub each : All (IsExplainedAt timed trace) explained

-- what is answered of a part holds of the whole trace
abbrev pub IsPartJudged : (timed : Bool) → (cuts : List ℕ) → (part : ℕ) → Trace → Judgement → Type 0
IsPartJudged timed cuts part trace (Coherent explained) = ArePartExplained timed cuts part trace explained.items
IsPartJudged timed cuts part trace (NotCoherent address there witness) = IsJudgement timed trace (NotCoherent address there witness)
IsPartJudged timed cuts part trace (Undecided address) = Unit {0}

-- each of these judgements, if there is one, is of the part at its place
abbrev pub AreJudged : {E : Type 0} → (timed : Bool) → (cuts : List ℕ) → Trace → List (Result Judgement E) → Type 0
AreJudged {E = E} timed cuts trace judgements =
    (part : ℕ) (d : Result Judgement E) → part < length judgements → IfOk (slice_index_or judgements part d) (IsPartJudged timed cuts part trace)
