-- An operation that waits loses nothing to others: what its line is worth never rises, until it is performed.
use Rattle.std.proofs.Common.{◌≡◌, ◌≢◌, ◌≤◌, ◌<◌, ◌+◌, ℕ, zero, suc, Bool, true, false, arith, rules}
use Rattle.std.proofs.Common.{List, [], ◌∷◌, Option, Some, None, refl, sym, ap, subst, ◌∙◌, inl, inr}
use Rattle.std.proofs.Common.{get_or-set_other, if◌then◌else◌}
use Rattle.std.proofs.lemmas.Bool.{cases_eq, cases_lt, leb-true}
use Rattle.std.specs.{Prelude.{IsSome, nat_le}, List.{AllByRecursion}}
use Rattle.sci_words.specs.{declared.event.Event.{Event}, Operation.{is_maker}}
use Rattle.sci_cache.specs.{State.{CacheState}, Line.{LineState, untouched}}
use Rattle.sci_core.specs.declared.pending.Pending.{Pending}
use Rattle.sci_core.specs.{Core.{Core, node_at, side, stepping}, Node.{IsPendingOn, NodeOf, node_performing, pending_on}}
use Rattle.sci_core.proofs.{Basics.Options.{of_some}, Settling.Drains.{some_node}, Step.NodeSides.{PerformedAs, perform_as}}
use Rattle.sci_core.proofs.WellFormed.WellFormedSteps.{reached_well}
use Rattle.sci_policy.specs.{Lines.{state_on}}
use Rattle.sci_turn.proofs.Working.{stepped}
use Rattle.sci_fair.specs.{Changes.{rank_at}, Later.{AreWorked}, Rank.{rank, work_in, work_on}, Steady.{Working, WorksByTurns}}
use Rattle.sci_fair.specs.Waiting.{AreTurnsBeside, IsTurnBeside}
use Rattle.sci_fair.proofs.{Few.{issued, line_worth, reserve, size_of_step, turn_line}, RankTables.{level_rank}}
use Rattle.sci_fair.proofs.{ReadCarries.{changed_by}, ReadSteps.{performed_out}, SteadyTurns.{turned_alone}, Works.{work_good}}
use Rattle.sci_words.specs.declared.event.Event.TheVariants as event

module _ (n line : ℕ) where
  -- the line of node n is as it was
  abbrev IsLeft : Core → Core → Type 0
  IsLeft old new = (work_on (node_at new n) line ≡ work_on (node_at old n) line) × (state_on (node_at new n) line ≡ state_on (node_at old n) line)

  issue_leaves : (m : ℕ) (op : _) (old new : Core) (maker : Bool) → WorksByTurns old → stepping old (event.Issue m op) ≡ Some new
      → work_on (node_at old n) line ≡ Some maker → IsLeft old new
  issue_leaves m op old new maker good steps waits =
      let is = issued old new m op good.reached steps in
      elim (cases_eq n m) [
        | inr other ↦
            (ap (λ (part : NodeOf). work_on part line) (is.others n other), ap (λ (part : NodeOf). state_on part line) (is.others n other))
        | inl same ↦
            let busy : work_on (node_at old m) line ≡ Some maker = subst (λ (k : ℕ). work_on (node_at old k) line ≡ Some maker) same waits in
            let apart : line ≢ op.line =
            λ here. (let clash : Some maker ≡ None = sym busy ∙ (ap (work_on (node_at old m)) here ∙ is.was) in cc) in
            subst (λ (k : ℕ). (work_on (node_at new k) line ≡ work_on (node_at old k) line) × (state_on (node_at new k) line ≡ state_on (node_at old k) line))
            (sym same) (is.work line apart, is.state line)
      ]

  perform_leaves : (m at : ℕ) (old new : Core) → WorksByTurns old → stepping old (event.Perform m at) ≡ Some new → event.Perform m at ≢ event.Perform n line
      → IsLeft old new
  perform_leaves m at old new good steps apart =
      let node = node_at old m in
      let some = some_node old new (event.Perform m at) steps in
      let out = performed_out old new m (node_performing node at)
      (stepped old new m (event.Perform m at) (side node (event.Perform m at)) some refl refl steps) in
      let changed = changed_by old new m out.0.0 good.reached some (λ k. ap (λ (c : Core). node_at c k) (sym out.2)) in
      elim (cases_eq n m) [
        | inr other ↦
            (ap (λ (part : NodeOf). work_on part line) (changed.others n other), ap (λ (part : NodeOf). state_on part line) (changed.others n other))
        | inl same ↦
            let told = of_some (PerformedAs node at) (node_performing node at) out.0 out.1 (perform_as node at) in
            let fits = ((reached_well old good.reached).each_part m some).fits in
            let here = (of_some (IsPendingOn node.issued at) (pending_on node at) told.pending told.here (fits.each at)).here in
            let off : line ≢ at = λ is. apart (ap (λ (k : ℕ). event.Perform k at) (sym same) ∙ ap (event.Perform n) (sym is)) in
            let off_op : line ≢ told.pending.op.line = λ is. off (is ∙ here) in
            let next = changed.own ∙ sym told.next in
            subst (λ (k : ℕ). (work_on (node_at new k) line ≡ work_on (node_at old k) line) × (state_on (node_at new k) line ≡ state_on (node_at old k) line))
            (sym same) (
              ap (λ (part : NodeOf). work_on part line) next ∙ ap work_in (get_or-set_other node.pending at line None None off),
              ap (λ (part : NodeOf). state_on part line) next
                  ∙ ap (λ (l : LineState). l.state) (get_or-set_other node.cache.lines told.pending.op.line line _ untouched off_op),
            )
      ]

  record Left (old new : Core) : Type 0 where
    good : WorksByTurns new
    size : new.size ≡ old.size
    left : IsLeft old new

  then_left : (old mid new : Core) (e : Event) → WorksByTurns old → stepping old e ≡ Some mid → IsLeft old mid → Left mid new → Left old new
  then_left old mid new e good steps left rest = record {
    good = rest.good;
    size = rest.size ∙ size_of_step old mid e good.reached steps;
    left = (rest.left.0 ∙ left.0, rest.left.1 ∙ left.1);
  }

  works_leave : (events : List Event) (old new : Core) (maker : Bool) → WorksByTurns old → work_on (node_at old n) line ≡ Some maker
      → AreWorked events old new → AllByRecursion (λ e. e ≢ event.Perform n line) events → Left old new
  works_leave [] old new maker good waits worked leaves = record {
    good = subst WorksByTurns worked good;
    size = ap (λ (c : Core). c.size) (sym worked);
    left = (ap (λ (c : Core). work_on (node_at c n) line) (sym worked), ap (λ (c : Core). state_on (node_at c n) line) (sym worked));
  }
  works_leave (event.Issue m op ∷ events) old new maker good waits worked leaves =
      let mid = worked.0 in
      let left = issue_leaves m op old mid maker good worked.2 waits in
      then_left old mid new (event.Issue m op) good worked.2 left
      (works_leave events mid new maker (work_good old mid (event.Issue m op) good tt worked.2) (left.0 ∙ waits) worked.3 leaves.1)
  works_leave (event.Perform m at ∷ events) old new maker good waits worked leaves =
      let mid = worked.0 in
      let left = perform_leaves m at old mid good worked.2 leaves.0 in
      then_left old mid new (event.Perform m at) good worked.2 left
      (works_leave events mid new maker (work_good old mid (event.Perform m at) good tt worked.2) (left.0 ∙ waits) worked.3 leaves.1)
  works_leave (event.Ask m at k ∷ events) old new maker good waits worked leaves = absurd worked.1
  works_leave (event.Serve from m ∷ events) old new maker good waits worked leaves = absurd worked.1
  works_leave (event.Refuse from m ∷ events) old new maker good waits worked leaves = absurd worked.1
  works_leave (event.Reply m ∷ events) old new maker good waits worked leaves = absurd worked.1
  works_leave (event.Accept from m ∷ events) old new maker good waits worked leaves = absurd worked.1

  -- what the line is worth
  abbrev its_worth : Working → ℕ
  its_worth w = line_worth (w.policies n) (node_at w.core n) line

  record BesideKept (old new : Working) (maker : Bool) : Type 0 where
    good : WorksByTurns new.core
    size : new.core.size ≡ old.core.size
    waits : work_on (node_at new.core n) line ≡ Some maker
    low : its_worth new ≤ its_worth old
    falls : rank_at new.core n line ≢ rank_at old.core n line → its_worth new < its_worth old

  same_worth : (w v : Working) → w.policies n ≡ v.policies n → IsLeft v.core w.core → its_worth w ≡ its_worth v
  same_worth w v policies left = grind arith

  same_rank : (one two : Core) → IsLeft one two → rank_at two n line ≡ rank_at one n line
  same_rank one two left = ap (λ (o : Option Bool). rank o (state_on (node_at two n) line)) left.0 ∙ ap (rank (work_on (node_at one n) line)) left.1

  -- a turn of the node itself
  own_step : (old new : Working) (maker : Bool) → WorksByTurns old.core → work_on (node_at old.core n) line ≡ Some maker → IsTurnBeside n line n old new
      → BesideKept old new maker
  own_step old new maker good waits beside =
      let later = beside.later in
      let mid : Working = record { core = later.mid; policies = old.policies } in
      let left = works_leave later.works old.core later.mid maker good waits later.worked beside.leaves in
      let is = turned_alone n mid new left.good later.cannot later.turn in
      let kept = turn_line n mid new later.cannot later.turn is line in
      let same = same_worth mid old refl left.left in
      let low = kept.low in
      record {
        good = is.good;
        size = is.ended.size ∙ left.size;
        waits = ap work_in (is.ended.work line) ∙ (left.left.0 ∙ waits);
        low = omega (arith, low, same);
        falls = λ other. elim (cases_lt (its_worth new) (its_worth old)) [
          | inl lt ↦ lt
          | inr high ↦
              let level = kept.same (omega (arith, low, same, high)) in
              absurd (other (level_rank _ _ _ _ _ _ level ∙ same_rank old.core later.mid left.left))
        ];
      }

  -- a turn of another node
  other_step : (i : ℕ) (old new : Working) (maker : Bool) → WorksByTurns old.core → n ≢ i → work_on (node_at old.core n) line ≡ Some maker
      → IsTurnBeside n line i old new → BesideKept old new maker
  other_step i old new maker good other waits beside =
      let later = beside.later in
      let mid : Working = record { core = later.mid; policies = old.policies } in
      let left = works_leave later.works old.core later.mid maker good waits later.worked beside.leaves in
      let is = turned_alone i mid new left.good later.cannot later.turn in
      let node = is.ended.others n other in
      let stays : IsLeft later.mid new.core = (ap (λ (part : NodeOf). work_on part line) node, ap (λ (part : NodeOf). state_on part line) node) in
      let same = same_worth mid old refl left.left in
      let then_ = same_worth new mid (later.turn.others n other) stays in
      record {
        good = is.good;
        size = is.ended.size ∙ left.size;
        waits = stays.0 ∙ (left.left.0 ∙ waits);
        low = omega (arith, same, then_);
        falls = λ changed. absurd (changed (same_rank later.mid new.core stays ∙ same_rank old.core later.mid left.left));
      }

  beside_step : (i : ℕ) (old new : Working) (maker : Bool) → WorksByTurns old.core → work_on (node_at old.core n) line ≡ Some maker
      → IsTurnBeside n line i old new → BesideKept old new maker
  beside_step i old new maker good waits beside = elim (cases_eq n i) [
    | inl same ↦ own_step old new maker good waits (subst (λ (k : ℕ). IsTurnBeside n line k old new) (sym same) beside)
    | inr other ↦ other_step i old new maker good other waits beside
  ]

  few_beside : (changes : ℕ) (order : List ℕ) (first last : Working) (maker : Bool) → WorksByTurns first.core
      → work_on (node_at first.core n) line ≡ Some maker → AreTurnsBeside n line changes order first last → changes ≤ its_worth first
  few_beside changes [] first last maker good waits turns = (let none = turns.0 in omega (arith, none))
  few_beside zero (i ∷ order) first last maker good waits turns = omega arith
  few_beside (suc changes) (i ∷ order) first last maker good waits turns =
      let kept = beside_step i first turns.0 maker good waits turns.1 in
      elim turns.2 [
        | inl change ↦
            let rest = few_beside changes order turns.0 last maker kept.good kept.waits change.1 in
            let falls = kept.falls change.0 in
            omega (arith, rest, falls)
        | inr others ↦
            let rest = few_beside (suc changes) order turns.0 last maker kept.good kept.waits others in
            let low = kept.low in
            omega (arith, rest, low)
      ]

  -- with an operation pending no rank is above 9
  pending_rank : (maker : Bool) (s : CacheState) → nat_le (rank (Some maker) s) 9 ≡ true
  pending_rank maker s = search rules

  bits_within : (b can : Bool) (r : ℕ) → r ≤ 9 → (if b then 47 else 0) + r + reserve can ≤ 104
  bits_within true true r low = omega (arith, low)
  bits_within true false r low = omega (arith, low)
  bits_within false true r low = omega (arith, low)
  bits_within false false r low = omega (arith, low)

  worth_pending : (w : Working) (maker : Bool) → work_on (node_at w.core n) line ≡ Some maker → its_worth w ≤ 104
  worth_pending w maker waits = grind (arith, bits_within, leb-true, pending_rank)

  some_work : (o : Option Pending) → IsSome o → (maker : Bool) × (work_in o ≡ Some maker)
  some_work None some = cc
  some_work (Some p) some = (is_maker p.op, refl)

  pub waiting_changes : (changes : ℕ) (order : List ℕ) (first last : Working) → WorksByTurns first.core → IsSome (pending_on (node_at first.core n) line)
      → AreTurnsBeside n line changes order first last → changes ≤ 104
  waiting_changes changes order first last good some turns = grind (arith, some_work, few_beside, worth_pending)
