-- Between two Performs turns don't go on for long: what the machine is worth never rises; and where it stays for 1,253 windows, nothing is
-- issued, all turns are steady, and nothing is pending.
use Rattle.std.proofs.Common.{◌≡◌, ◌<◌, ◌≤◌, ◌+◌, ◌*◌, ℕ, zero, suc, arith, List, [], ◌∷◌, ◌++◌}
use Rattle.std.proofs.Common.{Some, refl, sym, ap, subst, ◌∙◌, inl, inr}
use Rattle.std.proofs.Math.Nat.{one-mul, suc-mul, zero-mul}
use Rattle.std.proofs.lemmas.{Bool.{cases_eq, cases_lt}, List.{append_assoc, get_or_past}}
use Rattle.sci_words.specs.declared.{event.Event.{Event}, operation.Op.{Op}}
use Rattle.sci_core.specs.{Core.{Core, node_at, stepping}, Node.{NodeOf, pending_on}, Reached.{IsReached}}
use Rattle.sci_core.specs.Size.{Size}
use Rattle.sci_core.proofs.WellFormed.WellFormedSteps.{reached_well}
use Rattle.sci_policy.specs.{Policy.{PolicyOf}}
use Rattle.sci_fair.specs.{Later.{AreWorked, HasRest, IsCountedTurn, IsLaterTurn, NothingPends, Remaining, performs_in}}
use Rattle.sci_fair.specs.Rank.{CannotPerform, level_on}
use Rattle.sci_fair.specs.Steady.{AreSteadyTurns, AreTurns, HasWindows, IsSteadyTurn, IsTurnAlone, Working, WorksByTurns, level_at}
use Rattle.sci_fair.specs.Steps.{most_changes}
use Rattle.sci_fair.proofs.{Descents.{turns_join, turns_part, windows_fewer, windows_part}, Few.{TurnKept, issue_falls, size_of_step, turn_worth, worth}}
use Rattle.sci_fair.proofs.{Few.{worth_within}, Standstill.{steady_none}, SteadyTurns.{Turned, turned_alone}, WholeTurns.{out_level}, Works.{work_good}}
use Rattle.sci_words.specs.declared.event.Event.TheVariants as event

-- ---- what is issued or performed

-- what events by which operations are issued and performed leave
record WorkedKept (events : List Event) (policies : ℕ → PolicyOf) (old new : Core) : Type 0 where
  good : WorksByTurns new
  size : new.size ≡ old.size
  -- if none is performed
  lower : performs_in events ≡ 0 → worth (record { core = new; policies = policies }) ≤ worth (record { core = old; policies = policies })
  issues : performs_in events ≡ 0 → worth (record { core = new; policies = policies }) ≡ worth (record { core = old; policies = policies })
      → (events ≡ []) × (old ≡ new)

issue_kept : (n : ℕ) (op : Op) (events : List Event) (policies : ℕ → PolicyOf) (old mid new : Core) → WorksByTurns old
    → stepping old (event.Issue n op) ≡ Some mid → WorkedKept events policies mid new → WorkedKept (event.Issue n op ∷ events) policies old new
issue_kept n op events policies old mid new good steps rest = grind (arith, issue_falls, size_of_step)

perform_kept : (n line : ℕ) (events : List Event) (policies : ℕ → PolicyOf) (old mid new : Core) → WorksByTurns old
    → stepping old (event.Perform n line) ≡ Some mid → WorkedKept events policies mid new → WorkedKept (event.Perform n line ∷ events) policies old new
perform_kept n line events policies old mid new good steps rest = grind (arith, size_of_step)

worked_kept : (events : List Event) (policies : ℕ → PolicyOf) (old new : Core) → WorksByTurns old → AreWorked events old new
    → WorkedKept events policies old new
worked_kept [] policies old new good worked = record {
  good = subst WorksByTurns worked good;
  size = ap (λ (c : Core). c.size) (sym worked);
  lower = λ none. (let same = ap (λ (c : Core). worth (record { core = c; policies = policies })) worked in omega (arith, same));
  issues = λ none same. (refl, worked);
}
worked_kept (event.Issue n op ∷ events) policies old new good worked =
    issue_kept n op events policies old worked.0 new good worked.2
    (worked_kept events policies worked.0 new (work_good old worked.0 (event.Issue n op) good tt worked.2) worked.3)
worked_kept (event.Perform n line ∷ events) policies old new good worked =
    perform_kept n line events policies old worked.0 new good worked.2
    (worked_kept events policies worked.0 new (work_good old worked.0 (event.Perform n line) good tt worked.2) worked.3)
worked_kept (event.Ask n line k ∷ events) policies old new good worked = absurd worked.1
worked_kept (event.Serve from n ∷ events) policies old new good worked = absurd worked.1
worked_kept (event.Refuse from n ∷ events) policies old new good worked = absurd worked.1
worked_kept (event.Reply n ∷ events) policies old new good worked = absurd worked.1
worked_kept (event.Accept from n ∷ events) policies old new good worked = absurd worked.1

-- ---- a turn

-- a line beyond the machine's has the level that it had, whatever is remembered of it
past_same : (old new : Core) (p q : PolicyOf) (n line : ℕ) → IsReached old → IsReached new → new.size ≡ old.size → n < old.size.nodes
    → old.size.lines ≤ line → pending_on (node_at new n) line ≡ pending_on (node_at old n) line
    → level_on q (node_at new n) line ≡ level_on p (node_at old n) line
past_same old new p q n line one two size some past work = grind (arith, reached_well, get_or_past, out_level)

-- where the machine is worth as much as before, the turn is steady
turn_steady : (n : ℕ) (old new : Working) → WorksByTurns old.core → CannotPerform (node_at old.core n) → IsTurnAlone n old new → Turned n old new
    → TurnKept n old new → worth new ≡ worth old → IsSteadyTurn n old new
turn_steady n old new good cannot turn is kept same = record {
  alone = turn;
  cannot = cannot;
  same = λ m line. (
      let ended = is.ended in
      elim (cases_eq m n) [
        | inr other ↦
            ap (λ (q : PolicyOf). level_on q (node_at new.core m) line) (turn.others m other)
            ∙ ap (λ (part : NodeOf). level_on (old.policies m) part line) (ended.others m other)
        | inl here ↦
            let own : level_at new n line ≡ level_at old n line = elim (cases_lt line old.core.size.lines) [
              | inl inside ↦ kept.same same n line turn.some inside
              | inr past ↦ past_same old.core new.core (old.policies n) (new.policies n) n line good.reached ended.reached ended.size turn.some past
                  (ended.work line)
            ] in
            subst (λ (k : ℕ). level_at new k line ≡ level_at old k line) (sym here) own
      ]
      );
}

-- what a turn leaves, before which operations were issued and performed
record LaterKept (performed n : ℕ) (old new : Working) : Type 0 where
  good : WorksByTurns new.core
  size : new.core.size ≡ old.core.size
  lower : performed ≡ 0 → worth new ≤ worth old
  steady : performed ≡ 0 → worth new ≡ worth old → IsSteadyTurn n old new

later_kept : (performed n : ℕ) (old new : Working) → WorksByTurns old.core → IsLaterTurn performed n old new → LaterKept performed n old new
later_kept performed n old new good later =
    let mid : Working = record { core = later.mid; policies = old.policies } in
    let worked = worked_kept later.works old.policies old.core later.mid good later.worked in
    let is = turned_alone n mid new worked.good later.cannot later.turn in
    let kept = turn_worth n mid new later.cannot later.turn is in
    let turn_low = kept.low in
    record {
      good = is.good;
      size = is.ended.size ∙ worked.size;
      lower = λ none. (let low = worked.lower (later.many ∙ none) in omega (arith, low, turn_low));
      steady = λ none same. (
          let low = worked.lower (later.many ∙ none) in
          let stays : worth mid ≡ worth old = omega (arith, low, turn_low, same) in
          let issued = worked.issues (later.many ∙ none) stays in
          let then_ = turn_steady n mid new worked.good later.cannot later.turn is kept (omega (arith, low, turn_low, same)) in
          subst (λ (c : Core). IsSteadyTurn n (record { core = c; policies = old.policies }) new) (sym issued.1) then_
          );
    }

-- ---- many turns

-- so much for each operation that is left to perform
budget : ℕ → ℕ → ℕ
budget most zero = 0
budget most (suc left) = budget most left + suc most

budget_least : (most a b : ℕ) → b ≤ a → budget most b ≤ budget most a
unfolding budget
budget_least most zero zero le = omega arith
budget_least most zero (suc b) le = absurd (omega (arith, le))
budget_least most (suc a) zero le = omega arith
budget_least most (suc a) (suc b) le = let rest = budget_least most a b (omega (arith, le)) in omega (arith, rest)

budget_less : (most a b : ℕ) → b < a → budget most b + suc most ≤ budget most a
unfolding budget
budget_less most zero b lt = absurd (omega (arith, lt))
budget_less most (suc a) b lt = let rest = budget_least most a b (omega (arith, lt)) in omega (arith, rest)

budget_is : (most left : ℕ) → budget most left ≡ left * suc most
unfolding budget
budget_is most zero = sym (zero-mul (suc most))
budget_is most (suc left) = let rest = budget_is most left in let more = suc-mul left (suc most) in omega (arith, rest, more)

-- where all turns are steady in this many windows, nothing is pending
abbrev Stop : ℕ → Type 0
Stop wide = (order : List ℕ) (first last : Working) → WorksByTurns first.core → AreSteadyTurns order first last → HasWindows first.core.size.nodes wide order
    → NothingPends first.core

-- a stretch in which nothing changes and all turns are steady, and at whose beginning nothing is pending
pub record Still {X : Type 0} (at : X → Working) (left : X → ℕ) (IsTurn : ℕ → X → X → Type 0) (nodes wide : ℕ) (order : List ℕ) (first last : X) : Type 0 where
  pub before : List ℕ
  pub still : List ℕ
  pub after : List ℕ
  pub whole : order ≡ before ++ (still ++ after)
  pub begin : X
  pub end : X
  pub leads : AreTurns IsTurn before first begin
  pub turns : AreTurns IsTurn still begin end
  pub later : AreTurns IsTurn after end last
  pub windows : HasWindows nodes wide still
  pub steady : AreSteadyTurns still (at begin) (at end)
  pub kept : left end ≡ left begin
  pub rests : NothingPends (at begin).core

-- A turn changes something for good: something was issued or performed. Or it only tries.
pub data Advances {X : Type 0} (at : X → Working) (left : X → ℕ) (n : ℕ) (a b : X) : Type 0 where
  Changes : WorksByTurns (at b).core → (at b).core.size ≡ (at a).core.size → left b < left a → Advances at left n a b
  Tries : IsLaterTurn 0 n (at a) (at b) → left b ≤ left a → Advances at left n a b

module _ (wide : ℕ) (stops : Stop wide) {X : Type 0} (at : X → Working) (left : X → ℕ) (IsTurn : ℕ → X → X → Type 0)
    (later : (n : ℕ) (a b : X) → WorksByTurns (at a).core → IsTurn n a b → Advances at left n a b) where
  -- what is left of turns that change something
  abbrev rest_of : Size → X → ℕ
  rest_of size a = budget (most_changes size) (left a) + worth (at a)

  within : (size : Size) (a : X) → (at a).core.size ≡ size → worth (at a) ≤ most_changes size
  within size a is = subst (λ (z : Size). worth (at a) ≤ most_changes z) is (worth_within (at a))

  -- what a turn leaves
  record Step (size : Size) (n : ℕ) (a b : X) : Type 0 where
    good : WorksByTurns (at b).core
    sized : (at b).core.size ≡ size
    lower : rest_of size b ≤ rest_of size a
    steady : rest_of size b ≡ rest_of size a → IsSteadyTurn n (at a) (at b) × (left b ≡ left a)

  same_left : (most a b x y : ℕ) → b ≤ a → y ≤ x → budget most b + y ≡ budget most a + x → b ≡ a
  same_left most a b x y le low same = grind (arith, cases_lt, budget_less)

  step_by : (size : Size) (n : ℕ) (a b : X) → WorksByTurns (at a).core → (at a).core.size ≡ size → Advances at left n a b → Step size n a b
  step_by size n a b good is (Changes works same fewer) =
      let less = budget_less (most_changes size) (left a) (left b) fewer in
      let low = within size b (same ∙ is) in
      let falls : rest_of size b < rest_of size a = omega (arith, less, low) in
      record { good = works; sized = same ∙ is; lower = omega (arith, falls); steady = λ stays. absurd (omega (arith, falls, stays)) }
  step_by size n a b good is (Tries turn fewer) =
      let most = most_changes size in
      let kept = later_kept 0 n (at a) (at b) good turn in
      let low = kept.lower refl in
      let least = budget_least most (left a) (left b) fewer in
      record {
        good = kept.good;
        sized = kept.size ∙ is;
        lower = omega (arith, low, least);
        steady = λ stays. (
          kept.steady refl (omega (arith, low, least, stays)),
          same_left most (left a) (left b) (worth (at a)) (worth (at b)) fewer low stays,
        );
      }

  record Going (size : Size) (order : List ℕ) (first last : X) : Type 0 where
    good : WorksByTurns (at last).core
    sized : (at last).core.size ≡ size
    lower : rest_of size last ≤ rest_of size first
    steady : rest_of size last ≡ rest_of size first → AreSteadyTurns order (at first) (at last) × (left last ≡ left first)

  goes : (size : Size) (order : List ℕ) (first last : X) → WorksByTurns (at first).core → (at first).core.size ≡ size → AreTurns IsTurn order first last
      → Going size order first last
  goes size [] first last good is turns = record {
    good = subst (λ (x : X). WorksByTurns (at x).core) turns good;
    sized = subst (λ (x : X). (at x).core.size ≡ size) turns is;
    lower = (let same = ap (rest_of size) turns in omega (arith, same));
    steady = λ same. (ap at turns, ap left (sym turns));
  }
  goes size (n ∷ order) first last good is turns =
      let next = turns.0 in
      let step = step_by size n first next good is (later n first next good turns.1) in
      let rest = goes size order next last step.good step.sized turns.2 in
      let low = rest.lower in
      let low_one = step.lower in
      record {
        good = rest.good;
        sized = rest.sized;
        lower = omega (arith, low, low_one);
        steady = λ same. (
            let one = step.steady (omega (arith, low, low_one, same)) in
            let others = rest.steady (omega (arith, low, low_one, same)) in
            ((at next, one.0, others.0), others.1 ∙ one.1)
            );
      }

  -- here, where nothing changes in this many windows
  still_here : (size : Size) (order before after : List ℕ) (first mid last : X) → order ≡ before ++ after → WorksByTurns (at first).core
      → (at first).core.size ≡ size → AreTurns IsTurn before first mid → AreTurns IsTurn after mid last → HasWindows size.nodes wide before
      → AreSteadyTurns before (at first) (at mid) × (left mid ≡ left first) → Still at left IsTurn size.nodes wide order first last
  still_here size order before after first mid last whole good is turns later windows steady = record {
    before = [];
    still = before;
    after = after;
    whole = whole;
    begin = first;
    end = mid;
    leads = refl;
    turns = turns;
    later = later;
    windows = windows;
    steady = steady.0;
    kept = steady.1;
    rests = stops before (at first) (at mid) good steady.0 (subst (λ (z : Size). HasWindows z.nodes wide before) (sym is) windows);
  }

  still_later : (nodes : ℕ) (order before rest : List ℕ) (first mid last : X) → order ≡ before ++ rest → AreTurns IsTurn before first mid
      → Still at left IsTurn nodes wide rest mid last → Still at left IsTurn nodes wide order first last
  still_later nodes order before rest first mid last whole turns is = record {
    before = before ++ is.before;
    still = is.still;
    after = is.after;
    whole = whole ∙ (ap (λ (l : List ℕ). before ++ l) is.whole ∙ sym (append_assoc before is.before (is.still ++ is.after)));
    begin = is.begin;
    end = is.end;
    leads = turns_join IsTurn before is.before first mid is.begin turns is.leads;
    turns = is.turns;
    later = is.later;
    windows = is.windows;
    steady = is.steady;
    kept = is.kept;
    rests = is.rests;
  }

  still_by : (k : ℕ) (size : Size) (order : List ℕ) (first last : X) → WorksByTurns (at first).core → (at first).core.size ≡ size
      → AreTurns IsTurn order first last → rest_of size first ≤ k → HasWindows size.nodes (suc k * wide) order
      → Still at left IsTurn size.nodes wide order first last
  still_by zero size order first last good is turns few windows =
      let nodes = size.nodes in
      let part = windows_part nodes wide 0 order (windows_fewer nodes (wide + 0) (1 * wide) order (omega (arith, one-mul wide)) windows) in
      let cut = turns_part IsTurn part.first part.rest first last (subst (λ (l : List ℕ). AreTurns IsTurn l first last) part.whole turns) in
      let going = goes size part.first first cut.0 good is cut.1 in
      let low = going.lower in
      still_here size order part.first part.rest first cut.0 last part.whole good is cut.1 cut.2 part.windows (going.steady (omega (arith, low, few)))
  still_by (suc k) size order first last good is turns few windows =
      let nodes = size.nodes in
      let more = suc-mul (suc k) wide in
      let part = windows_part nodes wide (suc k * wide) order
      (windows_fewer nodes (wide + suc k * wide) (suc (suc k) * wide) order (omega (arith, more)) windows) in
      let cut = turns_part IsTurn part.first part.rest first last (subst (λ (l : List ℕ). AreTurns IsTurn l first last) part.whole turns) in
      let mid = cut.0 in
      let going = goes size part.first first mid good is cut.1 in
      let low = going.lower in
      elim (cases_eq (rest_of size mid) (rest_of size first)) [
        | inl same ↦ still_here size order part.first part.rest first mid last part.whole good is cut.1 cut.2 part.windows (going.steady same)
        | inr other ↦ still_later nodes order part.first part.rest first mid last part.whole cut.1
            (still_by k size part.rest mid last going.good going.sized cut.2 (omega (arith, low, other, few)) part.later)
      ]

  -- this many windows have such a stretch
  pub has_still : (order : List ℕ) (first last : X) → WorksByTurns (at first).core → AreTurns IsTurn order first last
      → HasWindows (at first).core.size.nodes
      ((left first + 1) * (most_changes (at first).core.size + 1) * wide) order
      → Still at left IsTurn (at first).core.size.nodes wide order first last
  has_still order first last good turns windows =
      let size = (at first).core.size in
      let most = most_changes size in
      let few = within size first refl in
      let is = budget_is most (left first) in
      let all = suc-mul (left first) (suc most) in
      let one : left first + 1 ≡ suc (left first) = omega arith in
      let two : most + 1 ≡ suc most = omega arith in
      let count : (left first + 1) * (most + 1) ≡ suc (left first * suc most + most) =
      ap (λ (a : ℕ). a * (most + 1)) one ∙ (ap (λ (b : ℕ). suc (left first) * b) two ∙ omega (arith, all)) in
      let enough : HasWindows size.nodes (suc (left first * suc most + most) * wide) order =
      subst (λ (c : ℕ). HasWindows size.nodes (c * wide) order) count windows in
      still_by (left first * suc most + most) size order first last good refl turns (omega (arith, few, is)) enough

-- ---- the law

-- a turn before which something was performed leaves fewer to perform, and another tries
counted_advances : (n performed : ℕ) (a b : Remaining) → WorksByTurns a.working.core → IsLaterTurn performed n a.working b.working
    → b.performs + performed ≡ a.performs → Advances (λ (r : Remaining). r.working) (λ (r : Remaining). r.performs) n a b
counted_advances n zero a b good turn count = Tries turn (omega (arith, count))
counted_advances n (suc performed) a b good turn count =
    let kept = later_kept (suc performed) n a.working b.working good turn in Changes kept.good kept.size (omega (arith, count))

-- in this many windows for each operation that is performed, and as many more, nothing was pending at some moment
pub rests_before_long : (order : List ℕ) (first last : Remaining) → WorksByTurns first.working.core → AreTurns IsCountedTurn order first last
    → HasWindows first.working.core.size.nodes
    ((first.performs + 1) * (most_changes first.working.core.size + 1) * 1253) order
    → HasRest order first last
rests_before_long order first last good turns windows =
    let still = has_still 1253 steady_none (λ (r : Remaining). r.working) (λ (r : Remaining). r.performs) IsCountedTurn
    (λ n a b works turn. counted_advances n turn.0 a b works turn.1 turn.2) order first last good turns windows in
    record {
      before = still.before;
      after = still.still ++ still.after;
      whole = still.whole;
      moment = still.begin;
      leads = still.leads;
      later = turns_join IsCountedTurn still.still still.after still.begin still.end last still.turns still.later;
      rests = still.rests;
    }
