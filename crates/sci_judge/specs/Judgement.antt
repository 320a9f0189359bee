-- What the judge answers.
use Rattle.std.specs.Prelude.{◌≡◌, ◌<◌, ◌⊎◌, ◌↔◌, ◌==◌, ℕ, Bool, true, false, List, map, Option, IsSome, filter}
use Rattle.std.specs.{BTreeMap.{get}, List.{All, AllPairs, Contains, list_any}, Ordering.{nat_cmp}}
use Rattle.sci_judge.specs.declared.{access.Access.{Access}, finding.{Finding.{Finding}, Freedom.{Freedom}}, trace.Trace.{Trace}}
use Rattle.sci_judge.specs.declared.finding.Finding.TheVariants as found
use Rattle.sci_judge.specs.declared.finding.Freedom.TheVariants as freedom
use Rattle.sci_judge.specs.declared.judging.{SiteVersions.{SiteVersions}, Judgement.{Judgement}}
use Rattle.sci_judge.specs.declared.judging.Judgement.TheVariants as judged
use Rattle.sci_judge.specs.{Coherent.{IsCoherent}, Forced.{AreForced, AreFree}, Stamped.{IsExplainedBy}, Witness.{IsWitness}}

-- what is said of other versions than these holds
abbrev pub IsFreedom : (timed : Bool) → List Access → (last : Option ℕ) → (versions : List ℕ) → Freedom → Type 0
IsFreedom timed accesses last versions freedom.Forced = AreForced timed accesses last versions
IsFreedom timed accesses last versions (freedom.Free others) = AreFree timed accesses last versions others.items
IsFreedom timed accesses last versions freedom.Unknown = Unit {0}

-- others are known; or nothing is
abbrev pub is_free : Freedom → Bool
is_free freedom.Forced = false
is_free (freedom.Free others) = true
is_free freedom.Unknown = false

abbrev pub is_unknown : Freedom → Bool
is_unknown freedom.Forced = false
is_unknown (freedom.Free others) = false
is_unknown freedom.Unknown = true

-- what is found of operations at one address holds of them
abbrev pub IsFinding : (timed : Bool) → List Access → (last : Option ℕ) → Finding → Type 0
IsFinding timed accesses last (found.Coherent versions freedom) =
    IsExplainedBy timed accesses last versions.items × IsFreedom timed accesses last versions.items freedom
IsFinding timed accesses last (found.NotCoherent witness) = IsWitness timed accesses last witness × (IsCoherent timed accesses last → ⊥)
IsFinding timed accesses last found.Undecided = Unit {0}

-- ---- all addresses

abbrev pub is_at : ℕ → Access → Bool
is_at address access = access.address == address

-- the operations at an address, in the order of the trace
abbrev pub at_address : ℕ → List Access → List Access
at_address address accesses = filter (is_at address) accesses

-- the last word at an address, if the trace has it
abbrev pub last_at : ℕ → Trace → Option ℕ
last_at address trace = get nat_cmp trace.last address

-- the trace has an operation or a last word at this address
abbrev pub Names : Trace → ℕ → Type 0
Names trace address = (list_any (is_at address) trace.accesses.items ≡ true) ⊎ IsSome (last_at address trace)

-- the operations at one address and the last word there have this answer
abbrev pub IsFoundAt : (timed : Bool) → Trace → (address : ℕ) → Finding → Type 0
IsFoundAt timed trace address finding = IsFinding timed (at_address address trace.accesses.items) (last_at address trace) finding

-- the addresses whose operations are explained
abbrev pub addresses_of : List SiteVersions → List ℕ
addresses_of explained = map (λ there. there.address) explained

-- versions explain the operations at an address, and what is said of others holds
abbrev pub IsExplainedAt : (timed : Bool) → Trace → SiteVersions → Type 0
IsExplainedAt timed trace there = IsFoundAt timed trace there.address (found.Coherent there.versions there.freedom)

-- Versions explain the operations at each address that a trace names. The addresses are those that it names, each once, and rise.
pub record AreExplained (timed : Bool) (trace : Trace) (explained : List SiteVersions) : Type 0 where
  pub named : (address : ℕ) → Names trace address ↔ Contains (addresses_of explained) address
  pub rising : AllPairs (λ x y. x < y) (addresses_of explained)
  pub each : All (IsExplainedAt timed trace) explained

-- what is answered of a trace holds of it: at each address that it names, or at the one that is answered
abbrev pub IsJudgement : (timed : Bool) → Trace → Judgement → Type 0
IsJudgement timed trace (judged.Coherent explained) = AreExplained timed trace explained.items
IsJudgement timed trace (judged.NotCoherent address there witness) =
    (there.items ≡ at_address address trace.accesses.items) × IsFoundAt timed trace address (found.NotCoherent witness)
IsJudgement timed trace (judged.Undecided address) = Unit {0}
