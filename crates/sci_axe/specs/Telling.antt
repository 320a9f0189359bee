-- What is written of a judgement.
use Rattle.std.specs.Prelude.{ℕ, ◌==◌, nat_le, if◌then◌else◌, List, [], ◌∷◌, ◌++◌, codes, Option, Some, None, slice_index_or}
use Rattle.std.specs.List.{flat_map, list_any}
use Rattle.sci_text.specs.Number.{field, number}
use Rattle.sci_command.specs.declared.outcome.Outcome.{Outcome, TheVariants.{Done, Unlawful}}
use Rattle.sci_judge.specs.declared.access.{Access.{Access}, Kind.{Kind, TheVariants.{Load, Store, Atomic}}}
use Rattle.sci_judge.specs.declared.witness.{Step.{Step, TheVariants.{Follows, Swaps, Falls, Rises, Starts, Ends}}}
use Rattle.sci_judge.specs.declared.witness.Witness.{Witness, TheVariants.{Unwritten, UnwrittenLast, Early, Circle, Round}}
use Rattle.sci_judge.specs.declared.judging.{Judgement.{Judgement, TheVariants.{Coherent, NotCoherent, Undecided}}, SiteVersions.{SiteVersions}}
use Rattle.sci_judge.specs.declared.consistency.Consistency.{Consistency}
use Rattle.sci_judge.specs.declared.consistency.Consistency.TheVariants as consistency
use Rattle.sci_judge.specs.declared.cycle.{Link.{Link}, Reason.{Reason}}
use Rattle.sci_judge.specs.declared.cycle.Reason.TheVariants as reason
use Rattle.sci_judge.specs.Judgement.{at_address, is_free, is_unknown}

-- ---- operations

-- `M[A]`
unfoldable pub memory_text : ℕ → List ℕ
memory_text address = codes "M[" ++ (number address ++ codes "]")

unfoldable pub wrote_text : ℕ → ℕ → List ℕ
wrote_text address word = memory_text address ++ (codes " := " ++ number word)

unfoldable pub found_text : ℕ → ℕ → List ℕ
found_text address word = memory_text address ++ (codes " == " ++ number word)

-- `M[A] := V`, `M[A] == V`, or `{ M[A] == V; M[A] := W }`
unfoldable pub kind_text : ℕ → Kind → List ℕ
kind_text address (Load word) = found_text address word
kind_text address (Store word) = wrote_text address word
kind_text address (Atomic read wrote) = codes "{ " ++ (found_text address read ++ (codes "; " ++ (wrote_text address wrote ++ codes " }")))

-- `line L: P: ` and what was done
unfoldable pub access_text : Access → List ℕ
access_text access = codes "line" ++ (field access.line ++ (codes ": " ++ (number access.processor ++ (codes ": " ++ kind_text access.address access.kind))))

-- an operation that there is not
abbrev pub no_access : Access
no_access = record { processor = 0; address = 0; kind = Load 0; begin = 0; end = 0; line = 0 }

abbrev pub access_at : List Access → ℕ → Access
access_at accesses place = slice_index_or accesses place no_access

-- the operation at a place, behind some words
unfoldable pub told_at : List Access → List ℕ → ℕ → List ℕ
told_at accesses words place = words ++ access_text (access_at accesses place)

-- ---- witnesses

-- two operations of one processor in this order, or two that are apart in time
unfoldable pub order_text : List Access → (earlier later : ℕ) → List ℕ
order_text accesses earlier later =
    if nat_le later earlier
    then codes " (time)\n"
    else if (access_at accesses earlier).processor == (access_at accesses later).processor then codes " (program order)\n" else codes " (time)\n"

-- that one operation comes before another, and why
unfoldable pub pair_text : List Access → (earlier later : ℕ) → List ℕ
pair_text accesses earlier later =
    told_at accesses [] earlier ++ (told_at accesses (codes " comes before ") later ++ order_text accesses earlier later)

-- that what an atomic read and wrote stand together
unfoldable pub joint_text : List Access → ℕ → List ℕ
joint_text accesses place = told_at accesses (codes "nothing comes between the two of ") place ++ codes "\n"

-- that a word is left before it is written
unfoldable pub early_text : List Access → (reader writer : ℕ) → List ℕ
early_text accesses reader writer =
    told_at accesses [] reader ++ (told_at accesses (codes " comes before ") writer ++ codes ", which alone writes this word\n")

unfoldable pub step_text : List Access → Step → List ℕ
step_text accesses (Follows earlier later) = pair_text accesses earlier later
step_text accesses (Swaps place) = joint_text accesses place
step_text accesses (Falls place) = joint_text accesses place
step_text accesses (Rises place) = joint_text accesses place
step_text accesses (Starts place) = told_at accesses (codes "0 at the start comes before ") place ++ codes "\n"
step_text accesses (Ends place) = told_at accesses [] place ++ codes " comes before the last word\n"

-- that one operation comes before the first of some, each of them before the next one, and the last one before another operation
unfoldable pub turn_text : List Access → (from : ℕ) → (through : List ℕ) → (to : ℕ) → List ℕ
turn_text accesses from [] to = pair_text accesses from to
turn_text accesses from (next ∷ through) to = pair_text accesses from next ++ turn_text accesses next through to

unfoldable pub witness_text : List Access → Witness → List ℕ
witness_text accesses (Unwritten reader) = told_at accesses [] reader ++ codes " finds a word that nobody wrote\n"
witness_text accesses UnwrittenLast = codes "nobody wrote the last word\n"
witness_text accesses (Early reader writer) = early_text accesses reader writer
witness_text accesses (Circle steps) = flat_map (step_text accesses) steps.items
witness_text accesses (Round maker through) = turn_text accesses maker through.items maker

-- ---- judgements

-- whether the versions of the operations are forced at each address
abbrev pub versions_text : List SiteVersions → List ℕ
versions_text sites =
    if list_any (λ there. is_free there.freedom) sites then codes "versions free\n"
    else (if list_any (λ there. is_unknown there.freedom) sites then codes "versions undecided\n" else codes "versions forced\n")

unfoldable pub judgement_text : Judgement → List ℕ
judgement_text (Coherent sites) = codes "coherent\n" ++ versions_text sites.items
judgement_text (NotCoherent address accesses witness) = codes "not coherent at" ++ (field address ++ (codes "\n" ++ witness_text accesses.items witness))
judgement_text (Undecided address) = codes "undecided at" ++ (field address ++ codes "\n")

-- ---- cycles

-- the lines of steps between words, each behind two blanks
unfoldable pub inner_text : List Access → Step → List ℕ
inner_text accesses step = codes "  " ++ step_text accesses step

-- why the operation at a place stands before another one in every order
unfoldable pub reason_text : List Access → (place : ℕ) → Reason → List ℕ
reason_text accesses place reason.Program = codes " (program order)\n"
reason_text accesses place reason.ReadsFrom = codes " (reads from)\n"
reason_text accesses place (reason.Words steps) =
    codes " (order of words)\n" ++ flat_map (inner_text (at_address (access_at accesses place).address accesses)) steps.items

unfoldable pub link_text : List Access → Link → (to : ℕ) → List ℕ
link_text accesses link to =
    told_at accesses [] link.place ++ (told_at accesses (codes " comes before ") to ++ reason_text accesses link.place link.reason)

-- that the operation of one link stands before that of the first of some, each of them before that of the next one, and the last
-- one before an operation
unfoldable pub links_text : List Access → Link → List Link → (to : ℕ) → List ℕ
links_text accesses link [] to = link_text accesses link to
links_text accesses link (next ∷ links) to = link_text accesses link next.place ++ links_text accesses next links to

unfoldable pub cycle_text : List Access → List Link → List ℕ
cycle_text accesses [] = []
cycle_text accesses (link ∷ links) = links_text accesses link links link.place

-- that no order explains all operations, with a cycle
unfoldable pub no_order_text : List Access → List Link → List ℕ
no_order_text accesses links = codes "not sequentially consistent\n" ++ cycle_text accesses links

-- whether one order explains all operations, if that is asked for
unfoldable pub consistency_text : List Access → Option Consistency → List ℕ
consistency_text accesses None = []
consistency_text accesses (Some consistency.Sequential) = codes "sequentially consistent\n"
consistency_text accesses (Some (consistency.Cycle links)) = no_order_text accesses links.items
consistency_text accesses (Some consistency.NotSequential) = codes "not sequentially consistent\n"
consistency_text accesses (Some consistency.Unknown) = codes "order unknown\n"

-- how the command ends
abbrev pub outcome_of : Judgement → Option Consistency → Outcome
outcome_of (Coherent sites) None = Done
outcome_of (Coherent sites) (Some consistency.Sequential) = Done
outcome_of (Coherent sites) (Some (consistency.Cycle links)) = Unlawful
outcome_of (Coherent sites) (Some consistency.NotSequential) = Unlawful
outcome_of (Coherent sites) (Some consistency.Unknown) = Unlawful
outcome_of (NotCoherent address accesses witness) order = Unlawful
outcome_of (Undecided address) order = Unlawful
