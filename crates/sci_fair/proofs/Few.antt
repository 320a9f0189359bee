-- Between two Performs few steps change the rank of a line: each that does makes the machine worth less, and no step makes it worth more.
use Rattle.std.proofs.Common.{◌≡◌, ◌≢◌, ◌≤◌, ◌<◌, ◌+◌, ◌&&◌, if◌then◌else◌, ℕ, zero, suc, Bool, true, false, arith, rules, List, [], ◌∷◌}
use Rattle.std.proofs.Common.{Option, Some, None, Ok, refl, sym, ap, subst, ◌∙◌, inl, inr}
use Rattle.std.proofs.lemmas.{Bool.{cases_Bool, cases_eq, cases_lt}, List.{get_or_past}}
use Rattle.sci_words.specs.{declared.{event.Event.{Event, TheVariants.{Issue}}, operation.Op.{Op}}, Operation.{is_maker}}
use Rattle.sci_cache.specs.{State.{CacheState}, Cache.{CacheOf, line_of}}
use Rattle.sci_core.specs.declared.pending.Pending.{Pending}
use Rattle.sci_core.specs.{Core.{Core, node_at, side, stepping}, Node.{NodeOf, may_issue, node_issuing, pending_on}}
use Rattle.sci_core.specs.{Reached.{IsReached}, Size.{Size}}
use Rattle.sci_core.proofs.{Basics.Options.{of_some}, History.Pendings.{issue_puts}, Settling.Drains.{some_node}}
use Rattle.sci_core.proofs.WellFormed.WellFormedSteps.{reached_stepping, reached_well, size_either}
use Rattle.sci_policy.specs.{Lines.{state_on}, Policy.{PolicyOf, has, next_policy, turned}}
use Rattle.sci_turn.proofs.Working.{stepped}
use Rattle.sci_fair.specs.Rank.{CannotPerform, can_perform, counts_use, level, level_on, rank, work_in, work_on}
use Rattle.sci_fair.specs.{Steady.{IsTurnAlone, Working, WorksByTurns, level_at}, Steps.{AreSteps, HasChanged, IsStep, Issues, Turns, most_changes}}
use Rattle.sci_fair.proofs.{FirstWants.{performs_can}, RankTables.{issue_lowers, level_rank, level_within}, ReadCarries.{changed_by, issued_cache}}
use Rattle.sci_fair.proofs.{ReadSteps.{changed_out}, SteadyTurns.{Turned, level_fewer, turned_alone}, Used.{next_marks}}
use Rattle.sci_fair.proofs.{Sums.{sum_least, sum_less, sum_most, sum_same, sum_to}, WholeTurns.{turned_level}, Works.{work_good}}

-- ---- what a node's lines are worth

-- whether what is pending on a line can be performed
abbrev pub can_on : NodeOf → ℕ → Bool
can_on node line = can_perform (work_on node line) (state_on node line)

-- a line on which nothing can be performed may come to be used, once until something is
abbrev pub reserve : Bool → ℕ
reserve true = 0
reserve false = 48

-- its level, and that
abbrev pub line_worth : PolicyOf → NodeOf → ℕ → ℕ
line_worth policy node line = level_on policy node line + reserve (can_on node line)

abbrev pub node_worth : ℕ → PolicyOf → NodeOf → ℕ
node_worth lines policy node = sum_to (line_worth policy node) lines

abbrev pub worth_at : Working → ℕ → ℕ
worth_at w n = node_worth w.core.size.lines (w.policies n) (node_at w.core n)

-- what all nodes are worth
abbrev pub worth : Working → ℕ
worth w = sum_to (worth_at w) w.core.size.nodes

reserve_within : (can : Bool) → reserve can ≤ 48
reserve_within true = omega arith
reserve_within false = omega arith

pub worth_within : (w : Working) → worth w ≤ most_changes w.core.size
worth_within w = grind (arith, sum_most, level_within, reserve_within)

-- ---- one line of a node that can perform nothing

-- it is worth no more, and if it is worth as much it has the same level
pub record LineKept (p q : PolicyOf) (node next : NodeOf) (line : ℕ) : Type 0 where
  pub low : line_worth q next line ≤ line_worth p node line
  pub same : line_worth q next line ≡ line_worth p node line → level_on q next line ≡ level_on p node line

pub kept_lower : (p q : PolicyOf) (node next : NodeOf) (line : ℕ) → CannotPerform node → level_on q next line ≤ level_on p node line
    → LineKept p q node next line
kept_lower p q node next line cannot lower = grind (arith, reserve_within)

-- it may be used anew, but then it is ready
pub kept_ready : (p q : PolicyOf) (node next : NodeOf) (line : ℕ) → CannotPerform node → can_on next line ≡ true
    → level_on q next line ≤ level_on p node line + 47 → LineKept p q node next line
kept_ready p q node next line cannot can lower = grind arith

-- ---- an Issue

-- what an Issue leaves of its node
pub record Issued (old new : Core) (n : ℕ) (op : Op) : Type 0 where
  pub some : n < old.size.nodes
  pub others : (m : ℕ) → m ≢ n → node_at new m ≡ node_at old m
  pub state : (line : ℕ) → state_on (node_at new n) line ≡ state_on (node_at old n) line
  pub was : work_on (node_at old n) op.line ≡ None
  pub now : work_on (node_at new n) op.line ≡ Some (is_maker op)
  pub work : (line : ℕ) → line ≢ op.line → work_on (node_at new n) line ≡ work_on (node_at old n) line
  pub inside : op.line < old.size.lines
  pub size : new.size ≡ old.size

pub size_of_step : (core new : Core) (e : Event) → IsReached core → stepping core e ≡ Some new → new.size ≡ core.size
size_of_step core new e reached steps = size_either {T = ℕ} {E = ℕ} (Ok 0) core new e reached steps (λ refused. (let clash : false ≡ true = refused in cc))

pub pending_inside : (core : Core) (n line : ℕ) (p : Pending) → IsReached core → n < core.size.nodes → pending_on (node_at core n) line ≡ Some p
    → line < core.size.lines
pending_inside core n line p reached some is = grind (arith, cases_lt, reached_well, get_or_past)

pub issued : (old new : Core) (n : ℕ) (op : Op) → IsReached old → stepping old (Issue n op) ≡ Some new → Issued old new n op
issued old new n op reached steps =
    let some = some_node old new (Issue n op) steps in
    let node = node_at old n in
    let out = changed_out old new n (node_issuing node op) (stepped old new n (Issue n op) (side node (Issue n op)) some refl refl steps) in
    let changed = changed_by old new n out.0 reached some (λ k. ap (λ (c : Core). node_at c k) (sym out.2)) in
    let puts = issue_puts node out.0 op ((reached_well old reached).each_part n some).fits out.1 in
    let cache = of_some (λ (m : NodeOf). m.cache ≡ node.cache) (node_issuing node op) out.0 out.1 (issued_cache (may_issue node op) node op) in
    let size = size_of_step old new (Issue n op) reached steps in
    let pends = ap (λ (m : NodeOf). pending_on m op.line) changed.own ∙ puts.pending in
    record {
      some = some;
      others = changed.others;
      state = λ line. ap (λ (m : NodeOf). state_on m line) changed.own ∙ ap (λ (c : CacheOf). (line_of c line).state) cache;
      was = ap work_in puts.free;
      now = ap work_in pends;
      work = λ line other. ap work_in (ap (λ (m : NodeOf). pending_on m line) changed.own ∙ puts.others line other);
      inside = subst (λ (z : Size). op.line < z.lines) size
          (pending_inside new n op.line _ (reached_stepping old new (Issue n op) reached steps) (subst (λ (z : Size). n < z.nodes) (sym size) some) pends);
      size = size;
    }

-- what is nothing can't be performed, so no more is kept in reserve
issued_reserve : (old new : Core) (n : ℕ) (op : Op) → Issued old new n op → (line : ℕ)
    → reserve (can_on (node_at new n) line) ≤ reserve (can_on (node_at old n) line)
issued_reserve old new n op is line = elim (cases_eq line op.line) [
  | inl here ↦
      let none : can_on (node_at old n) line ≡ false =
      subst (λ (l : ℕ). can_on (node_at old n) l ≡ false) (sym here)
      (nothing_can (work_on (node_at old n) op.line) (state_on (node_at old n) op.line) is.was) in
      let full = ap reserve none in
      let most = reserve_within (can_on (node_at new n) line) in
      omega (arith, full, most)
  | inr other ↦
      let same : can_on (node_at new n) line ≡ can_on (node_at old n) line =
      ap (λ (w : Option Bool). can_perform w (state_on (node_at new n) line)) (is.work line other)
      ∙ ap (can_perform (work_on (node_at old n) line)) (is.state line) in
      let is_same = ap reserve same in
      omega (arith, is_same)
]
  where
    none_can : (s : CacheState) → can_perform None s ≡ false
    none_can s = search rules

    nothing_can : (work : Option Bool) (s : CacheState) → work ≡ None → can_perform work s ≡ false
    nothing_can work s none = ap (λ (w : Option Bool). can_perform w s) none ∙ none_can s

issued_level : (old new : Core) (n : ℕ) (op : Op) (policy : PolicyOf) → Issued old new n op → (line : ℕ) → line ≢ op.line
    → level_on policy (node_at new n) line ≡ level_on policy (node_at old n) line
issued_level old new n op policy is line other = grind arith

issued_falls : (old new : Core) (n : ℕ) (op : Op) (policy : PolicyOf) → Issued old new n op
    → level_on policy (node_at new n) op.line < level_on policy (node_at old n) op.line
issued_falls old new n op policy is = grind (arith, issue_lowers)

-- an Issue makes the machine worth less
pub issue_falls : (old new : Working) (n : ℕ) (op : Op) → IsReached old.core → stepping old.core (Issue n op) ≡ Some new.core → new.policies ≡ old.policies
    → worth new < worth old
issue_falls old new n op reached steps policies =
    let is = issued old.core new.core n op reached steps in
    let lines = old.core.size.lines in
    let p = old.policies n in
    let node = node_at old.core n in
    let next = node_at new.core n in
    let falls = issued_falls old.core new.core n op p is in
    let each : (l : ℕ) → l < lines → line_worth p next l ≤ line_worth p node l =
    λ l _. (
    let more = issued_reserve old.core new.core n op is l in
    elim (cases_eq l op.line) [
      | inl here ↦
          let low : level_on p next l ≤ level_on p node l =
          subst (λ (k : ℕ). level_on p next k ≤ level_on p node k) (sym here) (omega (arith, falls)) in
          omega (arith, more, low)
      | inr other ↦ (let same = issued_level old.core new.core n op p is l other in omega (arith, more, same))
    ]
    ) in
    let more = issued_reserve old.core new.core n op is op.line in
    let levels = sum_less (line_worth p next) (line_worth p node) lines op.line each is.inside (omega (arith, falls, more)) in
    worth_less old new n is.size is.some policies is.others levels
  where
    at_lines : (old new : Working) (m : ℕ) → new.core.size ≡ old.core.size → new.policies ≡ old.policies
        → worth_at new m ≡ node_worth old.core.size.lines (old.policies m) (node_at new.core m)
    at_lines old new m size policies =
        ap (λ (z : Size). node_worth z.lines (new.policies m) (node_at new.core m)) size
        ∙ ap (λ (ps : ℕ → PolicyOf). node_worth old.core.size.lines (ps m) (node_at new.core m)) policies

    worth_less : (old new : Working) (n : ℕ) → new.core.size ≡ old.core.size → n < old.core.size.nodes → new.policies ≡ old.policies
        → ((m : ℕ) → m ≢ n → node_at new.core m ≡ node_at old.core m)
        → node_worth old.core.size.lines (old.policies n) (node_at new.core n) < worth_at old n → worth new < worth old
    worth_less old new n size some policies others less =
        let own = at_lines old new n size policies in
        let all : worth new ≡ sum_to (worth_at new) old.core.size.nodes = ap (λ (z : Size). sum_to (worth_at new) z.nodes) size in
        let sums = sum_less (worth_at new) (worth_at old) old.core.size.nodes n (λ m _. elim (cases_eq m n) [
          | inl here ↦ (let low : worth_at new m ≤ worth_at old m =
              subst (λ (k : ℕ). worth_at new k ≤ worth_at old k) (sym here) (omega (arith, own, less)) in low)
          | inr other ↦
              let mine = at_lines old new m size policies in
              let same = ap (node_worth old.core.size.lines (old.policies m)) (others m other) in
              omega (arith, mine, same)
        ]) some (omega (arith, own, less)) in
        omega (arith, all, sums)

-- ---- a turn

-- what a whole turn of a node that can perform nothing leaves of its lines
pub turn_line : (n : ℕ) (old new : Working) → CannotPerform (node_at old.core n) → IsTurnAlone n old new → Turned n old new → (line : ℕ)
    → LineKept (old.policies n) (new.policies n) (node_at old.core n) (node_at new.core n) line
turn_line n old new cannot turn is line =
    let p3 = is.trace.p3 in
    let node = node_at old.core n in
    let last = node_at new.core n in
    let p = old.policies n in
    let same = turned_level n (turned p) p3 old.core new.core line is.ended in
    let low = is.ended.lower line in
    elim is.trace.last [
      | inl ends ↦ kept_lower p (new.policies n) node last line cannot
          (let as_is = ap (λ (q : PolicyOf). level_on q last line) ends in omega (arith, same, low, as_is))
      | inr ends ↦
          subst (λ (q : PolicyOf). LineKept p q node last line) (sym ends) (elim (cases_Bool (has (next_policy p3 last).used line)) [
            | inr none ↦ kept_lower p (next_policy p3 last) node last line cannot
                (let less = fewer_level p3 (next_policy p3 last) last (λ used. (let clash : false ≡ true = sym none ∙ used in cc)) in
                omega (arith, same, low, less))
            | inl used ↦ elim (next_marks p3 last line used) [
              | inl was ↦ kept_lower p (next_policy p3 last) node last line cannot
                  (let less = fewer_level p3 (next_policy p3 last) last (λ _. was) in omega (arith, same, low, less))
              | inr ready ↦
                  let some : n < new.core.size.nodes = subst (λ (z : Size). n < z.nodes) (sym is.ended.size) turn.some in
                  let can = performs_can n last line (record { core = new.core; reached = is.ended.reached; some = some; here = refl }) ready.1 in
                  let more = used_more (has p3.used line) (has (next_policy p3 last).used line) (work_on last line) (state_on last line) in
                  kept_ready p (next_policy p3 last) node last line cannot can (omega (arith, same, low, more))
            ]
          ])
    ]
  where
    fewer_level : (q r : PolicyOf) (node : NodeOf) → (has r.used line ≡ true → has q.used line ≡ true) → level_on r node line ≤ level_on q node line
    fewer_level q r node fewer = level_fewer (has q.used line) (has r.used line) (work_on node line) (state_on node line) fewer

    more_by : (a b : Bool) (m : ℕ) → (if a then 47 else 0) + m ≤ (if b then 47 else 0) + m + 47
    more_by true true m = omega arith
    more_by true false m = omega arith
    more_by false true m = omega arith
    more_by false false m = omega arith

    used_more : (before after : Bool) (work : Option Bool) (s : CacheState) → level after work s ≤ level before work s + 47
    used_more before after work s = more_by (counts_use s && after) (counts_use s && before) (rank work s)

-- what it leaves of the machine
pub record TurnKept (n : ℕ) (old new : Working) : Type 0 where
  pub low : worth new ≤ worth old
  pub same : worth new ≡ worth old → (m line : ℕ) → m < old.core.size.nodes → line < old.core.size.lines → level_at new m line ≡ level_at old m line

pub turn_worth : (n : ℕ) (old new : Working) → CannotPerform (node_at old.core n) → IsTurnAlone n old new → Turned n old new → TurnKept n old new
turn_worth n old new cannot turn is =
    let lines = old.core.size.lines in
    let line_low : (line : ℕ) → line < lines
    → line_worth (new.policies n) (node_at new.core n) line ≤ line_worth (old.policies n) (node_at old.core n) line =
    λ line _. (turn_line n old new cannot turn is line).low in
    let own_low = sum_least (line_worth (new.policies n) (node_at new.core n)) (line_worth (old.policies n) (node_at old.core n)) lines line_low in
    let at : (m : ℕ) → worth_at new m ≡ node_worth lines (new.policies m) (node_at new.core m) =
    λ m. ap (λ (z : Size). node_worth z.lines (new.policies m) (node_at new.core m)) is.ended.size in
    let other_same : (m : ℕ) → m ≢ n → worth_at new m ≡ worth_at old m =
    λ m other. at m ∙ (ap (λ (q : PolicyOf). node_worth lines q (node_at new.core m)) (turn.others m other)
    ∙ ap (node_worth lines (old.policies m)) (is.ended.others m other)) in
    let each : (m : ℕ) → m < old.core.size.nodes → worth_at new m ≤ worth_at old m =
    λ m _. elim (cases_eq m n) [
      | inl here ↦ (let own = at n in subst (λ (k : ℕ). worth_at new k ≤ worth_at old k) (sym here) (omega (arith, own, own_low)))
      | inr other ↦ (let same = other_same m other in omega (arith, same))
    ] in
    let all : worth new ≡ sum_to (worth_at new) old.core.size.nodes = ap (λ (z : Size). sum_to (worth_at new) z.nodes) is.ended.size in
    let least = sum_least (worth_at new) (worth_at old) old.core.size.nodes each in
    record {
      low = omega (arith, all, least);
      same = λ same m line some inside. elim (cases_eq m n) [
        | inl here ↦
            let one = sum_same (worth_at new) (worth_at old) old.core.size.nodes n each (omega (arith, all, same)) turn.some in
            let own = at n in
            let this = sum_same (line_worth (new.policies n) (node_at new.core n)) (line_worth (old.policies n) (node_at old.core n)) lines line line_low
            (omega (arith, one, own)) inside in
            subst (λ (k : ℕ). level_at new k line ≡ level_at old k line) (sym here) ((turn_line n old new cannot turn is line).same this)
        | inr other ↦
            ap (λ (q : PolicyOf). level_on q (node_at new.core m) line) (turn.others m other)
            ∙ ap (λ (part : NodeOf). level_on (old.policies m) part line) (is.ended.others m other)
      ];
    }

-- ---- many steps

-- what a step leaves
record StepKept (old new : Working) : Type 0 where
  good : WorksByTurns new.core
  size : new.core.size ≡ old.core.size
  low : worth new ≤ worth old
  falls : HasChanged old new → worth new < worth old

step_kept : (old new : Working) → WorksByTurns old.core → IsStep old new → StepKept old new
step_kept old new good (Issues n op steps policies) =
    let falls = issue_falls old new n op good.reached steps policies in
    record {
      good = work_good old.core new.core (Issue n op) good tt steps;
      size = size_of_step old.core new.core (Issue n op) good.reached steps;
      low = omega (arith, falls);
      falls = λ changed. falls;
    }
step_kept old new good (Turns n cannot turn) =
    let is = turned_alone n old new good cannot turn in
    let kept = turn_worth n old new cannot turn is in
    let low = kept.low in
    record {
      good = is.good;
      size = is.ended.size;
      low = low;
      falls = λ changed. elim (cases_lt (worth new) (worth old)) [
        | inl lt ↦ lt
        | inr high ↦
            let same = kept.same (omega (arith, low, high)) changed.node changed.line changed.some_node changed.some_line in
            absurd (changed.other (level_rank _ _ _ _ _ _ same))
      ];
    }

few_by : (count : ℕ) (first : Working) (later : List Working) → WorksByTurns first.core → AreSteps count first later → count ≤ worth first
few_by count first [] good none = omega (arith, none)
few_by zero first (next ∷ later) good steps = omega arith
few_by (suc count) first (next ∷ later) good steps =
    let kept = step_kept first next good steps.0 in
    elim steps.1 [
      | inl change ↦
          let rest = few_by count next later kept.good change.1 in
          let falls = kept.falls change.0 in
          omega (arith, rest, falls)
      | inr others ↦
          let rest = few_by (suc count) next later kept.good others in
          let low = kept.low in
          omega (arith, rest, low)
    ]

pub changes_few : (count : ℕ) (first : Working) (later : List Working) → WorksByTurns first.core → AreSteps count first later
    → count ≤ most_changes first.core.size
changes_few count first later good steps = grind (arith, few_by, worth_within)
