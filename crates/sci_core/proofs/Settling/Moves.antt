-- What is found under way can be brought on; if nothing is found, nothing is under way.
use Rattle.std.proofs.Common.{◌≡◌, ℕ, suc, get_or, ◌*◌, ◌+◌, ◌<◌, ◌≤◌, true, false, List, [], ◌∷◌, length, Some, None, refl, sym, ap, subst, ◌∙◌, arith}
use Rattle.std.proofs.{Common.{inl, inr}, Math.Nat.{mul-le-mul_left}, lemmas.Bool.{cases_lt}}
use Rattle.std.proofs.lemmas.List.{get_or_past, nil_from_length, Sums.{sum_by-cons}}
use Rattle.std.specs.{Prelude.{IsSome}, List.{sum_by}}
use Rattle.sci_words.specs.declared.event.Event.{Event}
use Rattle.sci_cache.specs.Cache.{Letter}
use Rattle.sci_core.specs.declared.lane.LaneKind.TheVariants.{Requests, Answers}
use Rattle.sci_core.specs.Core.{Core, IsEnabled, lane_at, lane_of, node_at, stepping}
use Rattle.sci_core.specs.Draining.{IsDrained, answer_weight, brings_on, is_asking, lane_weight, moves_on, weight}
use Rattle.sci_core.specs.{Node.{NodeOf, no_node}, Reached.{IsReached}, Settling.{Leads}, WellFormed.{IsWellFormed}}
use Rattle.sci_core.proofs.{Basics.Options.{found}, Tidy.Burdens.{light}}
use Rattle.sci_core.proofs.Settling.{Drains.{accept_on, place_of, reply_on, serve_on, weighs}, Leading.{leads_more}}
use Rattle.sci_core.proofs.WellFormed.WellFormedSteps.{reachable, reached_well}
use Rattle.sci_words.specs.declared.event.Event.TheVariants as event

-- ---- nothing is found

none_waits : (core : Core) → IsWellFormed core → ((n : ℕ) → n < core.size.nodes → (node_at core n).waiting ≡ None) → (n : ℕ) → (node_at core n).waiting ≡ None
none_waits core well none n = grind (arith, cases_lt, get_or_past)

none_carried : (core : Core) → IsWellFormed core → ((from to : ℕ) → from < core.size.nodes → to < core.size.nodes → length (lane_of core Requests from to) ≡ 0)
    → ((from to : ℕ) → from < core.size.nodes → to < core.size.nodes → length (lane_of core Answers from to) ≡ 0) → (place : ℕ) → lane_at core place ≡ []
none_carried core well requests answers place =
    elim (cases_lt place (2 * core.size.nodes * core.size.nodes)) [
      | inl below ↦ elim (place_of core.size.nodes place well.sizes.some_node below) [
        | inl at ↦ ap (lane_at core) (sym at.here) ∙ nil_from_length (lane_of core Requests at.from at.to) (requests at.from at.to at.sender at.receiver)
        | inr at ↦ ap (lane_at core) (sym at.here) ∙ nil_from_length (lane_of core Answers at.from at.to) (answers at.from at.to at.sender at.receiver)
      ]
      | inr past ↦ get_or_past core.lanes place [] (subst (λ (k : ℕ). k ≤ place) (sym well.sizes.lanes_long) past)
    ]

pub nothing_found : (core : Core) → IsReached core → ((n : ℕ) → n < core.size.nodes → (node_at core n).waiting ≡ None)
    → ((from to : ℕ) → from < core.size.nodes → to < core.size.nodes → length (lane_of core Answers from to) ≡ 0)
    → ((from to : ℕ) → from < core.size.nodes → to < core.size.nodes → length (lane_of core Requests from to) ≡ 0)
    → IsDrained core
nothing_found core reached waiting answers requests = grind (arith, reached_well, none_waits, none_carried)

-- ---- something is found

some_letter : (lane : List Letter) → 0 < length lane → (letter : Letter) × (rest : List Letter) × (lane ≡ letter ∷ rest)
some_letter [] some = absurd (omega arith)
some_letter (letter ∷ rest) some = (letter, rest, refl)

pub reply_found : (core : Core) (n : ℕ) → n < core.size.nodes → IsSome (node_at core n).waiting → IsEnabled core (event.Reply n)
reply_found core n lt some = let answer = found (node_at core n).waiting some in reply_on core n answer.0 lt answer.1

pub accept_found : (core : Core) (from n : ℕ) → IsReached core → from < core.size.nodes → n < core.size.nodes → 0 < length (lane_of core Answers from n)
    → IsEnabled core (event.Accept from n)
accept_found core from n reached f lt not = let front = some_letter (lane_of core Answers from n) not in
    accept_on core from n front.0 front.1 (reachable core reached) f lt front.2

pub serve_found : (core : Core) (from n : ℕ) → IsReached core → from < core.size.nodes → n < core.size.nodes
    → ((m : ℕ) → m < core.size.nodes → (node_at core m).waiting ≡ None) → 0 < length (lane_of core Requests from n) → IsEnabled core (event.Serve from n)
serve_found core from n reached f lt free not = let front = some_letter (lane_of core Requests from n) not in
    serve_on core from n front.0 front.1 (reachable core reached) f lt (free n lt) front.2

-- ---- each move lowers the weight by one

on_asks : (e : Event) → brings_on e ≡ true → is_asking e ≡ false
on_asks (event.Serve from n) is = refl
on_asks (event.Reply n) is = refl
on_asks (event.Accept from n) is = refl
on_asks _ is = cc

on_moves : (e : Event) → brings_on e ≡ true → moves_on e ≡ true
on_moves (event.Serve from n) is = refl
on_moves (event.Reply n) is = refl
on_moves (event.Accept from n) is = refl
on_moves _ is = cc

pub move_weighs : (core new : Core) (e : Event) → IsReached core → brings_on e ≡ true → stepping core e ≡ Some new → weight core ≡ weight new + 1
move_weighs core new e reached is steps = grind (arith, weighs, reached_well, on_asks, on_moves)

-- what is drained weighs nothing
sum_none : {X : Type 0} (f : X → ℕ) (xs : List X) (d : X) → ((i : ℕ) → f (get_or xs i d) ≡ 0) → sum_by f xs ≡ 0
sum_none f [] d none = refl
sum_none f (x ∷ xs) d none =
    let sum = sum_by-cons f x xs in
    let this = none 0 in
    let rest = sum_none f xs d (λ i. none (suc i)) in
    omega arith

pub drained_weighs : (core : Core) → IsDrained core → weight core ≡ 0
drained_weighs core drained =
    let parts = sum_none (λ (part : NodeOf). answer_weight part.waiting) core.parts no_node (λ n. ap answer_weight (drained.waiting n)) in
    let lanes = sum_none lane_weight core.lanes [] (λ place. ap lane_weight (drained.lanes place)) in
    omega arith

-- the weight of what is under way is a small number
pub few_moves : (core : Core) → IsReached core → weight core ≤ 3072
few_moves core reached = grind (arith, light, reachable, mul-le-mul_left)

-- moves so far, and what they leave
pub record Drained (old new : Core) (count : ℕ) : Type 0 where
  pub leads : Leads brings_on old new count
  pub weighs : count + weight new ≡ weight old

pub drained_more : (old mid new : Core) (e : Event) (count : ℕ) → Drained old mid count → IsReached mid → brings_on e ≡ true → stepping mid e ≡ Some new
    → Drained old new (count + 1)
drained_more old mid new e count so reached is steps = grind (arith, move_weighs, leads_more, weighs)
