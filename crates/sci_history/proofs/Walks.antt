-- From one entry that is left first to another: the steps come back to a node where they were.
use Rattle.std.proofs.Common.{◌≡◌, ℕ, zero, suc, ◌+◌, ◌-◌, ◌*◌, ◌<◌, ◌≤◌, List, [], ◌∷◌, ◌++◌, length, get_or, set, take, drop, replicate, Option, Some}
use Rattle.std.proofs.{Common.{None, refl, sym, ap, subst, arith}, lemmas.Bool.{cases_eq}}
use Rattle.std.proofs.lemmas.List.{length-append, length-drop, take_all, get_or-set_same, get_or-set_other}
use Rattle.std.proofs.lemmas.List.Sums.{sum_by-set, count_by-le-length}
use Rattle.std.specs.{Prelude.{IfSome, count_by, is_some}, List.{AllByRecursion}}
use Rattle.sci_words.specs.declared.limits.TheConstants.{MAX_NODES}
use Rattle.sci_history.specs.declared.{entry.Entry.{Entry}, order_verdict.Step.{Step}}
use Rattle.sci_history.specs.{Cycle.{IsInLog, IsChain, IsRound, IsCycle}, Placed.{log_of}}
use Rattle.sci_history.specs.Placing.{IsFirstLeft, LeadsTo}
use Rattle.sci_history.proofs.{Order.{all-append}, Waits.{chain_joined, chain_dropped}}

-- the steps from a place on begin with the entry of this node that is left first
pub record IsStarted (logs : List (List Entry)) (next : List ℕ) (steps : List Step) (node start : ℕ) : Type 0 where
  pub first : Step
  pub rest : List Step
  pub from : drop start steps ≡ first ∷ rest
  pub begins : IsFirstLeft logs next node first

-- so far, with the nodes that were met, and where the steps are with each
pub record IsWalking (logs : List (List Entry)) (next : List ℕ) (starts : List (Option ℕ)) (steps : List Step) (node met : ℕ) : Type 0 where
  pub known : node < MAX_NODES
  pub left : get_or next node 0 < length (log_of logs node)
  pub entries : AllByRecursion (IsInLog logs) steps
  pub chain : (end : Step) → IsFirstLeft logs next node end → IsChain steps end
  pub started : (m : ℕ) → IfSome (get_or starts m None) (λ start. IsStarted logs next steps m start)
  pub marked : count_by is_some starts ≡ met
  pub few : length steps ≤ 2 * met

none_started : (P : ℕ → Type 0) (count m : ℕ) → IfSome (get_or (replicate count None) m None) P
none_started P zero m = tt
none_started P (suc count) zero = tt
none_started P (suc count) (suc m) = none_started P count m

pub walk_begins : (logs : List (List Entry)) (next : List ℕ) (steps : List Step) (node : ℕ) → steps ≡ [] → node < MAX_NODES
    → get_or next node 0 < length (log_of logs node) → IsWalking logs next (replicate 16 None) steps node 0
walk_begins logs next steps node none lt left = grind (arith, none_started)

-- ---- one step more

dropped : (steps added : List Step) (start : ℕ) (x : Step) (rest : List Step) → drop start steps ≡ x ∷ rest → drop start (steps ++ added) ≡ x ∷ (rest ++ added)
dropped steps added zero x rest e = ap (λ (s : List Step). s ++ added) e
dropped [] added (suc start) x rest e = cc
dropped (s ∷ steps) added (suc start) x rest e = dropped steps added start x rest e

still_started : (logs : List (List Entry)) (next : List ℕ) (steps added : List Step) (m start : ℕ) → IsStarted logs next steps m start
    → IsStarted logs next (steps ++ added) m start
still_started logs next steps added m start is =
    record { first = is.first; rest = is.rest ++ added; from = dropped steps added start is.first is.rest is.from; begins = is.begins }

still_all : (logs : List (List Entry)) (next : List ℕ) (steps added : List Step) (m : ℕ) (start : Option ℕ) → IfSome start (λ i. IsStarted logs next steps m i)
    → IfSome start (λ i. IsStarted logs next (steps ++ added) m i)
still_all logs next steps added m None is = tt
still_all logs next steps added m (Some start) is = still_started logs next steps added m start is

at_end : (steps added : List Step) → drop (length steps) (steps ++ added) ≡ added
at_end [] added = refl
at_end (s ∷ steps) added = at_end steps added

marked_more : (starts : List (Option ℕ)) (node start met : ℕ) → node < length starts → get_or starts node None ≡ None → count_by is_some starts ≡ met
    → count_by is_some (set starts node (Some start)) ≡ met + 1
marked_more starts node start met lt unmet marked = grind (arith, sum_by-set)

pub walk_more : (logs : List (List Entry)) (next : List ℕ) (starts : List (Option ℕ)) (steps added new : List Step) (node to met : ℕ)
    → length starts ≡ MAX_NODES → get_or starts node None ≡ None → new ≡ steps ++ added → LeadsTo logs next added node to → to < MAX_NODES
    → get_or next to 0 < length (log_of logs to) → IsWalking logs next starts steps node met
    → IsWalking logs next (set starts node (Some (length steps))) new to (met + 1)
walk_more logs next starts steps added new node to met long unmet is leads lt left walking = grind (
  arith,
  all-append,
  chain_joined,
  cases_eq,
  get_or-set_same,
  at_end,
  get_or-set_other,
  still_all,
  marked_more,
  length-append,
)

-- ---- the end

all_from : (P : Step → Type 0) (steps : List Step) (n : ℕ) → AllByRecursion P steps → AllByRecursion P (drop n steps)
all_from P steps zero all = all
all_from P [] (suc n) all = tt
all_from P (s ∷ steps) (suc n) all = all_from P steps n all.1

drop_within : (steps : List Step) (n : ℕ) (x : Step) (rest : List Step) → drop n steps ≡ x ∷ rest → n ≤ length steps
drop_within steps zero x rest e = omega arith
drop_within [] (suc n) x rest e = cc
drop_within (s ∷ steps) (suc n) x rest e = let le = drop_within steps n x rest e in omega arith

pub walk_closes : (logs : List (List Entry)) (next : List ℕ) (starts : List (Option ℕ)) (steps : List Step) (node met start : ℕ)
    → get_or starts node None ≡ Some start → IsWalking logs next starts steps node met → IsCycle logs (drop start steps)
walk_closes logs next starts steps node met start at walking =
    let started = subst (λ (o : Option ℕ). IfSome o (λ i. IsStarted logs next steps node i)) at (walking.started node) in
    let chain = chain_dropped steps started.first start (walking.chain started.first started.begins) in
    record {
      entries = all_from (IsInLog logs) steps start walking.entries;
      round = subst IsRound (sym started.from) (subst (λ (s : List Step). IsChain s started.first) started.from chain);
    }

-- no more nodes are met than there are
pub walk_ends : (logs : List (List Entry)) (next : List ℕ) (starts : List (Option ℕ)) (steps : List Step) (node met : ℕ) → length starts ≡ MAX_NODES
    → IsWalking logs next starts steps node met → met ≤ MAX_NODES
walk_ends logs next starts steps node met long walking = let few = count_by-le-length is_some starts in let marked = walking.marked in omega arith

-- the rest of a list, as a slice of it
pub sliced : (steps now : List Step) (start : ℕ) → now ≡ steps → take (length now - start) (drop start now) ≡ drop start steps
sliced steps now start is = grind (arith, length-drop, take_all)

-- a cycle is short
pub walk_short : (logs : List (List Entry)) (next : List ℕ) (starts : List (Option ℕ)) (steps : List Step) (node met start : ℕ) → length starts ≡ MAX_NODES
    → IsWalking logs next starts steps node met → length (drop start steps) ≤ 2 * MAX_NODES
walk_short logs next starts steps node met start long walking = grind (arith, walk_ends, length-drop)
