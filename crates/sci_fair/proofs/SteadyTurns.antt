-- A steady turn, event by event.
use Rattle.std.proofs.Common.{◌≡◌, ◌<◌, ◌≤◌, ◌+◌, ℕ, Bool, true, false, ◌&&◌, if◌then◌else◌, List, [], ◌∷◌, ◌++◌, Ok, Option, refl, sym, ap, subst, ◌∙◌}
use Rattle.std.proofs.Common.{arith, inl, inr, rules, ◌⊎◌}
use Rattle.std.proofs.lemmas.Bool.{cases_Bool}
use Rattle.sci_core.proofs.WellFormed.WellFormedSteps.{reached_stepping, size_either}
use Rattle.sci_words.specs.declared.event.Event.{Event}
use Rattle.sci_core.specs.{Core.{Core, node_at}, Node.{NodeOf}, Reached.{IsReached}, Size.{Size}}
use Rattle.sci_cache.specs.State.{CacheState}
use Rattle.sci_policy.specs.{Lines.{is_head, state_on}, Policy.{PolicyOf, has, next_policy, turned}, Turn.{is_accept, is_ask}}
use Rattle.sci_fair.specs.{Lanes.{AreOpen}, Rank.{CannotPerform, counts_use, level, level_on, rank, work_on}}
use Rattle.sci_fair.specs.Steady.{IsSteadyTurn, IsTurnAlone, Working, WorksByTurns}
use Rattle.sci_fair.proofs.{Opens.{turn_open}, Steadied.{Change, GoesBy, IsSame, steady_from}, Trace.{Does, Trace, does_then, is_taking, trace}}
use Rattle.sci_fair.proofs.{RankTables.{rank_within}, Used.{IsReadyHead, IsUsedStill, asks_still, next_marks, used_stays}}
use Rattle.sci_fair.specs.Reads.{ReadsFit}
use Rattle.sci_fair.proofs.{AnswersGo.{between_last}, ReadSteps.{turn_reads}}
use Rattle.sci_fair.proofs.WholeTurns.{HasTurned, level_in, turn_begins, turned_level, turns_on}

-- what a turn is, of each of whose events this holds
pub record HeldBy (K : Change) (n : ℕ) (old new : Working) : Type 0 where
  pub trace : Trace n (old.policies n) old.core (new.policies n) new.core
  pub accepts : GoesBy K n (turned (old.policies n)) old.core trace.e1 trace.p1 trace.c1
  pub takes : GoesBy K n trace.p1 trace.c1 trace.e2 trace.p2 trace.c2
  pub before : (j : ℕ) (f : j < old.core.size.nodes) → GoesBy K n trace.p1 trace.c1 (trace.looks j f).first (trace.looks j f).p (trace.looks j f).c
  pub after : (j : ℕ) (f : j < old.core.size.nodes) → GoesBy K n (trace.looks j f).p (trace.looks j f).c (trace.looks j f).second trace.p2 trace.c2
  pub asks : GoesBy K n trace.p2 trace.c2 trace.e3 trace.p3 new.core
  pub good : WorksByTurns new.core
  pub size : new.core.size ≡ old.core.size

-- what a steady turn is
abbrev pub Held : ℕ → Working → Working → Type 0
Held = HeldBy IsSame

module _ (n : ℕ) (start : PolicyOf) (old : Core) (reached : IsReached old) (some : n < old.size.nodes) (cannot : CannotPerform (node_at old n)) where
  does_turned : (p : PolicyOf) (x : Core) (events : List Event) (q : PolicyOf) (y : Core) → HasTurned n start old p x → Does n p x events q y
      → HasTurned n start old q y
  does_turned p x [] q y turned does = subst (λ (r : PolicyOf). HasTurned n start old r y) does.0 (subst (HasTurned n start old p) does.1 turned)
  does_turned p x (e ∷ events) q y turned does =
      does_turned does.0 does.1 events q y (turns_on n start old reached some cannot x does.1 p does.0 e turned does.2 does.3) does.4

  does_open : (p : PolicyOf) (x : Core) (events : List Event) (q : PolicyOf) (y : Core) → HasTurned n start old p x → AreOpen x → Does n p x events q y
      → AreOpen y
  does_open p x [] q y turned opened does = subst AreOpen does.1 opened
  does_open p x (e ∷ events) q y turned opened does =
      let here : n < x.size.nodes = subst (λ (z : Size). n < z.nodes) (sym turned.size) some in
      does_open does.0 does.1 events q y (turns_on n start old reached some cannot x does.1 p does.0 e turned does.2 does.3)
      (turn_open x does.1 p does.0 n e turned.reached opened here does.2 does.3) does.4

-- how far a whole turn of a node that has the machine for itself has come, at each part of it
pub record Turned (n : ℕ) (old new : Working) : Type 0 where
  pub trace : Trace n (old.policies n) old.core (new.policies n) new.core
  pub begun : HasTurned n (turned (old.policies n)) old.core (turned (old.policies n)) old.core
  pub accepted : HasTurned n (turned (old.policies n)) old.core trace.p1 trace.c1
  pub accepted_open : AreOpen trace.c1
  pub taken : HasTurned n (turned (old.policies n)) old.core trace.p2 trace.c2
  pub taken_open : AreOpen trace.c2
  pub ended : HasTurned n (turned (old.policies n)) old.core trace.p3 new.core
  pub good : WorksByTurns new.core

-- whatever the node could perform, a machine works by turns still
pub does_works : (n : ℕ) (size : Size) (p : PolicyOf) (x : Core) (events : List Event) (q : PolicyOf) (y : Core) → n < size.nodes → x.size ≡ size → IsReached x
    → ReadsFit x → AreOpen x → Does n p x events q y → IsReached y × ReadsFit y × AreOpen y
does_works n size p x [] q y some is reached fit opened does =
    (subst IsReached does.1 reached, subst ReadsFit does.1 fit, subst AreOpen does.1 opened)
does_works n size p x (e ∷ events) q y some is reached fit opened does =
    let next = does.1 in
    let here : n < x.size.nodes = subst (λ (z : Size). n < z.nodes) (sym is) some in
    let same = size_either {T = ℕ} {E = ℕ} (Ok 0) x next e reached does.3 (λ refused. (let clash : false ≡ true = refused in cc)) in
    does_works n size does.0 next events q y some (same ∙ is) (reached_stepping x next e reached does.3)
    (turn_reads x next n p does.0 e reached fit here does.2 does.3) (turn_open x next p does.0 n e reached opened here does.2 does.3) does.4

pub alone_works : (n : ℕ) (old new : Working) → WorksByTurns old.core → IsTurnAlone n old new → WorksByTurns new.core × (new.core.size ≡ old.core.size)
alone_works n old new good turn =
    let before = old.core in
    let after = new.core in
    let t = trace n (old.policies n) (new.policies n) before after turn.progress good.reached turn.some good.between turn.whole in
    let late = does_then n t.p1 t.c1 t.e2 t.p2 t.c2 t.e3 t.p3 after t.takes t.asks in
    let all = does_then n (turned (old.policies n)) before t.e1 t.p1 t.c1 (t.e2 ++ t.e3) t.p3 after t.accepts late in
    let works = does_works n before.size (turned (old.policies n)) before (t.e1 ++ (t.e2 ++ t.e3)) t.p3 after turn.some refl good.reached good.fit good.opened
    all in (
      record {
        reached = works.0;
        fit = works.1;
        opened = works.2;
        between = between_last n before after turn.some good.between turn.short t.asked;
      },
      t.asked.since.size,
    )

pub turned_alone : (n : ℕ) (old new : Working) → WorksByTurns old.core → CannotPerform (node_at old.core n) → IsTurnAlone n old new → Turned n old new
turned_alone n old new good cannot turn =
    let before = old.core in
    let after = new.core in
    let t = trace n (old.policies n) (new.policies n) before after turn.progress good.reached turn.some good.between turn.whole in
    let begins = turned (old.policies n) in
    let begun = turn_begins n begins before good.reached good.fit in
    let first = does_turned n begins before good.reached turn.some cannot begins before t.e1 t.p1 t.c1 begun t.accepts in
    let first_open = does_open n begins before good.reached turn.some cannot begins before t.e1 t.p1 t.c1 begun good.opened t.accepts in
    let second = does_turned n begins before good.reached turn.some cannot t.p1 t.c1 t.e2 t.p2 t.c2 first t.takes in
    let second_open = does_open n begins before good.reached turn.some cannot t.p1 t.c1 t.e2 t.p2 t.c2 first first_open t.takes in
    let third = does_turned n begins before good.reached turn.some cannot t.p2 t.c2 t.e3 t.p3 after second t.asks in
    record {
      trace = t;
      begun = begun;
      accepted = first;
      accepted_open = first_open;
      taken = second;
      taken_open = second_open;
      ended = third;
      good = record {
        reached = third.reached;
        fit = third.fit;
        opened = does_open n begins before good.reached turn.some cannot t.p2 t.c2 t.e3 t.p3 after second second_open t.asks;
        between = between_last n before after turn.some good.between turn.short t.asked;
      };
    }

-- ---- the level with which a turn ends

pub level_fewer : (before after : Bool) (work : Option Bool) (s : CacheState) → (after ≡ true → before ≡ true) → level after work s ≤ level before work s
level_fewer before after work s fewer = grind arith

pub unused_low : (used : Bool) (work : Option Bool) (s : CacheState) → used ≡ false → level used work s ≤ 46
unused_low used work s none = grind (arith, rank_within)

used_high : (work : Option Bool) (s : CacheState) → counts_use s ≡ true → 47 ≤ level true work s
used_high work s counts = by_bit (counts_use s) (rank work s) counts
  where
    by_bit : (c : Bool) (r : ℕ) → c ≡ true → 47 ≤ (if c && true then 47 else 0) + r
    by_bit true r is = omega arith
    by_bit false r is = cc

head_counts : (s : CacheState) → is_head s ≡ true → counts_use s ≡ true
head_counts s is = search rules

accepts_ask_not : (e : Event) → is_accept e ≡ true → is_ask e ≡ false
accepts_ask_not e is = search rules

takes_ask_not : (e : Event) → is_taking e ≡ true → is_ask e ≡ false
takes_ask_not e is = search rules

module _ (n : ℕ) (old new : Working) (is : Turned n old new) (turn : IsSteadyTurn n old new) (line : ℕ) where
  abbrev begins : PolicyOf
  begins = turned (old.policies n)

  abbrev last_node : NodeOf
  last_node = node_at new.core n

  abbrev last_level : PolicyOf → ℕ
  last_level policy = level_on policy last_node line

  -- since the turn began the line wasn't read, or it isn't Head
  used_still : IsUsedStill begins.used n line is.trace.p3 new.core
  used_still =
      let t = is.trace in
      let first = used_stays is_accept accepts_ask_not n begins old.core t.e1 t.p1 t.c1 t.accepts t.are_accepts in
      let second = used_stays is_taking takes_ask_not n t.p1 t.c1 t.e2 t.p2 t.c2 t.takes t.are_takes in
      asks_still begins.used n line t.p2 t.c2 t.e3 t.p3 new.core is.taken.reached
      (subst (λ (z : Size). n < z.nodes) (sym is.taken.size) turn.alone.some) t.asks t.are_asks
      (inl (ap (λ (marks : List Bool). has marks line) (second ∙ first)))

  -- what the policy remembers at last puts the line no higher than before
  ended_by : (q : PolicyOf) → last_level q ≡ level_on begins (node_at old.core n) line
      → (has q.used line ≡ true → (has is.trace.p3.used line ≡ true) ⊎ IsReadyHead last_node line) → last_level q ≤ last_level is.trace.p3
  ended_by q same marks = elim (cases_Bool (has q.used line)) [
    | inr none ↦
        level_fewer (has is.trace.p3.used line) (has q.used line) (work_on last_node line) (state_on last_node line)
        (λ used. (let clash : false ≡ true = sym none ∙ used in cc))
    | inl used ↦ elim (marks used) [
      | inl was ↦ level_fewer (has is.trace.p3.used line) (has q.used line) (work_on last_node line) (state_on last_node line) (λ _. was)
      | inr ready ↦
          let high : 47 ≤ last_level q =
          subst (λ (b : Bool). 47 ≤ level b (work_on last_node line) (state_on last_node line)) (sym used)
          (used_high (work_on last_node line) (state_on last_node line) (head_counts (state_on last_node line) ready.0)) in
          elim used_still [
            | inr not_head ↦ (let clash : true ≡ false = sym ready.0 ∙ not_head in cc)
            | inl still ↦ elim (cases_Bool (has begins.used line)) [
              | inl was ↦
                  let one = ap (λ (b : Bool). level b (work_on last_node line) (state_on last_node line)) (used ∙ sym (still ∙ was)) in omega (arith, one)
              | inr none ↦
                  let low = unused_low (has begins.used line) (work_on (node_at old.core n) line) (state_on (node_at old.core n) line) none in
                  absurd (omega (arith, low, high, same))
            ]
          ]
    ]
  ]

  steady_ended : level_in old.core n line is.trace.p3 new.core ≡ level_in old.core n line begins old.core
  steady_ended =
      let low = is.ended.lower line in
      let p3 = is.trace.p3 in
      let levels = turned_level n begins p3 old.core new.core line is.ended in
      let same : last_level (new.policies n) ≡ level_on begins (node_at old.core n) line = turn.same n line in
      elim is.trace.last [
        | inl last ↦ (let one = ap last_level last in omega (arith, one, levels, same))
        | inr last ↦
            let one = ap last_level last in
            let high = ended_by (next_policy p3 last_node) (sym one ∙ same) (next_marks p3 last_node line) in
            omega (arith, one, high, low, levels, same)
      ]

pub steady_turn : (n : ℕ) (old new : Working) → WorksByTurns old.core → IsSteadyTurn n old new → Held n old new
steady_turn n old new good turn =
    let before = old.core in
    let after = new.core in
    let some = turn.alone.some in
    let cannot = turn.cannot in
    let is = turned_alone n old new good cannot turn.alone in
    let t = is.trace in
    let r = t.p3 in
    let begins = turned (old.policies n) in
    let same : (line : ℕ) → level_in before n line r after ≡ level_in before n line begins before = λ line. steady_ended n old new is turn line in
    record {
      trace = t;
      accepts = steady_from n begins before good.reached some cannot r after same begins before t.e1 t.p1 t.c1 (t.e2 ++ t.e3) is.begun good.opened t.accepts
          (does_then n t.p1 t.c1 t.e2 t.p2 t.c2 t.e3 r after t.takes t.asks);
      takes = steady_from n begins before good.reached some cannot r after same t.p1 t.c1 t.e2 t.p2 t.c2 t.e3 is.accepted is.accepted_open t.takes t.asks;
      before = λ j f. (
          let look = t.looks j f in
          steady_from n begins before good.reached some cannot r after same t.p1 t.c1 look.first look.p look.c (look.second ++ t.e3) is.accepted
          is.accepted_open look.before (does_then n look.p look.c look.second t.p2 t.c2 t.e3 r after look.after t.asks)
          );
      after = λ j f. (
          let look = t.looks j f in
          let there = does_turned n begins before good.reached some cannot t.p1 t.c1 look.first look.p look.c is.accepted look.before in
          let there_open = does_open n begins before good.reached some cannot t.p1 t.c1 look.first look.p look.c is.accepted is.accepted_open look.before in
          steady_from n begins before good.reached some cannot r after same look.p look.c look.second t.p2 t.c2 t.e3 there there_open look.after t.asks
          );
      asks = steady_from n begins before good.reached some cannot r after same t.p2 t.c2 t.e3 r after [] is.taken is.taken_open t.asks (refl, refl);
      good = is.good;
      size = is.ended.size;
    }
