-- What the judge says of a trace, as structs.
use Rattle.std.specs.Prelude.{◌≡◌, ◌∷◌, [], ℕ, ◌==◌, Bool, not, if◌then◌else◌, List, Option, Some, None, length, map, slice_get}
use Rattle.std.specs.List.{flat_map, list_any}
use Rattle.sci_judge.specs.declared.{access.Access.{Access}, trace.Trace.{Trace}, consistency.Consistency.{Consistency}}
use Rattle.sci_judge.specs.declared.judging.{Judgement.{Judgement}, SiteVersions.{SiteVersions}}
use Rattle.sci_judge.specs.declared.judging.Judgement.TheVariants.{Coherent, NotCoherent, Undecided}
use Rattle.sci_judge.specs.declared.consistency.Consistency.TheVariants.{Sequential, Cycle, NotSequential, Unknown}
use Rattle.sci_judge.specs.declared.witness.{Step.{Step, TheVariants.{Follows, Swaps, Falls, Rises, Starts, Ends}}}
use Rattle.sci_judge.specs.declared.witness.Witness.{Witness, TheVariants.{Unwritten, UnwrittenLast, Early, Circle, Round}}
use Rattle.sci_judge.specs.{Consistency.{IsOrdering}, Judgement.{IsJudgement, is_free, is_unknown}}
use Rattle.sci_c_traces.specs.declared.{access.SciAccess.{SciAccess}, judgement.SciJudgement.{SciJudgement}, trace.SciLastWord.{SciLastWord}}
use Rattle.sci_c_traces.specs.Trace.{SaysTrace}

-- any number but 0 says yes
abbrev pub is_yes : ℕ → Bool
is_yes number = not (number == 0)

-- ---- numbers

-- 0 if the versions of all operations are forced, 1 if others are known at some address, and 2 if neither is
abbrev pub freedom_number : List SiteVersions → ℕ
freedom_number sites = if list_any (λ there. is_free there.freedom) sites then 1 else (if list_any (λ there. is_unknown there.freedom) sites then 2 else 0)

-- 0 if it wasn't asked
abbrev pub consistency_number : Option Consistency → ℕ
consistency_number None = 0
consistency_number (Some Sequential) = 1
consistency_number (Some (Cycle links)) = 2
consistency_number (Some NotSequential) = 3
consistency_number (Some Unknown) = 4

-- 1 to 5, since 0 is none
abbrev pub witness_number : Witness → ℕ
witness_number (Unwritten reader) = 1
witness_number UnwrittenLast = 2
witness_number (Early reader writer) = 3
witness_number (Circle steps) = 4
witness_number (Round maker through) = 5

-- ---- the operations that are named

-- the places that a step names
abbrev pub step_places : Step → List ℕ
step_places (Follows earlier later) = earlier ∷ later ∷ []
step_places (Swaps place) = place ∷ []
step_places (Falls place) = place ∷ []
step_places (Rises place) = place ∷ []
step_places (Starts place) = place ∷ []
step_places (Ends place) = place ∷ []

-- the places that a witness names, in its order
abbrev pub witness_places : Witness → List ℕ
witness_places (Unwritten reader) = reader ∷ []
witness_places UnwrittenLast = []
witness_places (Early reader writer) = reader ∷ writer ∷ []
witness_places (Circle steps) = flat_map step_places steps.items
witness_places (Round maker through) = maker ∷ through.items

-- the number by which the caller names an operation, which a trace has as its line; 0 at a place that isn't there
abbrev pub id_or : Option Access → ℕ
id_or None = 0
id_or (Some access) = access.line

abbrev pub id_at : List Access → ℕ → ℕ
id_at accesses place = id_or (slice_get accesses place)

-- the operations that a verdict names: those of the witness, or those of the cycle
abbrev pub cycle_ids : List Access → Option Consistency → List ℕ
cycle_ids accesses None = []
cycle_ids accesses (Some Sequential) = []
cycle_ids accesses (Some (Cycle links)) = map (λ link. id_at accesses link.place) links.items
cycle_ids accesses (Some NotSequential) = []
cycle_ids accesses (Some Unknown) = []

abbrev pub named_ids : Trace → Judgement → Option Consistency → List ℕ
named_ids trace (Coherent sites) consistency = cycle_ids trace.accesses.items consistency
named_ids trace (NotCoherent address there witness) consistency = map (id_at there.items) (witness_places witness)
named_ids trace (Undecided address) consistency = []

-- ---- the verdict

abbrev pub judgement_struct : Judgement → Option Consistency → (named : ℕ) → SciJudgement
judgement_struct (Coherent sites) consistency named =
    record { kind = 0; freedom = freedom_number sites.items; consistency = consistency_number consistency; witness = 0; address = 0; named = named }
judgement_struct (NotCoherent address there witness) consistency named =
    record { kind = 1; freedom = 0; consistency = 0; witness = witness_number witness; address = address; named = named }
judgement_struct (Undecided address) consistency named =
    record { kind = 2; freedom = 0; consistency = 0; witness = 0; address = address; named = named }

-- The struct is of a verdict that holds of a trace, and these are the operations that the verdict names.
pub record IsVerdictOn (timed ordered : Bool) (trace : Trace) (c : SciJudgement) (ids : List ℕ) : Type 0 where
  pub judgement : Judgement
  pub holds : IsJudgement timed trace judgement
  pub consistency : Option Consistency
  pub ordering : IsOrdering timed ordered trace judgement consistency
  pub named : ids ≡ named_ids trace judgement consistency
  pub struct_is : c ≡ judgement_struct judgement consistency (length ids)

-- the same of the trace that structs say
pub record IsTraceVerdict (accesses : List SciAccess) (last : List SciLastWord) (timed ordered : Bool) (c : SciJudgement) (ids : List ℕ) : Type 0 where
  pub trace : Trace
  pub says : SaysTrace accesses last trace
  pub verdict : IsVerdictOn timed ordered trace c ids
