-- Patience: a line that is long enough the head of a list with a next entry is marked, and stays so. Each turn of its node calls the policy
-- once at least, and after 64 calls each such line has its mark.
use Rattle.std.proofs.Common.{◌≡◌, ◌≢◌, ◌<◌, ◌≤◌, ◌+◌, ◌⊎◌, ℕ, zero, suc, nat_lt, Bool, true, false, arith, List, [], ◌∷◌, ◌++◌}
use Rattle.std.proofs.Common.{Option, Some, None, refl, sym, ap, subst, ◌∙◌, inl, inr}
use Rattle.std.proofs.lemmas.{Bool.{cases_Bool, cases_eq, ltb-true}}
use Rattle.std.specs.Prelude.{is_some}
use Rattle.sci_history.specs.Seen.{IsAmong}
use Rattle.sci_words.specs.declared.{event.{Event.{Event}}, limits.TheConstants.{MAX_LINES}}
use Rattle.sci_core.specs.{Core.{Core, node_at}, Node.{NodeOf, node_performing}, Size.{Size}}
use Rattle.sci_core.proofs.Basics.Options.{of_some}
use Rattle.sci_policy.specs.declared.{policy.TheConstants.{PATIENCE}, want.Want.{Want, TheVariants.{Perform, Ask}}}
use Rattle.sci_policy.specs.Lines.{state_on}
use Rattle.sci_policy.specs.Policy.{IsEnabledWant, PolicyOf, has, next_policy, next_wanted}
use Rattle.sci_policy.specs.Policy.{ticked, turned}
use Rattle.sci_policy.specs.Turn.{is_accept, is_ask}
use Rattle.sci_policy.proofs.{Patience.{next_patience}, Wants.{wanted_enabled}}
use Rattle.sci_turn.specs.Moves.{IsOwn}
use Rattle.sci_fair.specs.Steady.{AreSteadyTurns, HasWindows, IsSteadyTurn, Working, WorksByTurns}
use Rattle.sci_fair.proofs.Kept.{IsIn, kept_along}
use Rattle.sci_fair.proofs.Kept.{kept_event, kept_in}
use Rattle.sci_fair.proofs.{StateSteps.{state_step}}
use Rattle.sci_fair.proofs.{Steadied.{IsSteady, Steadily}, SteadyTurns.{Held, steady_turn}, Trace.{AreAll, AsksFirst, Ends_there, Makes_ask, is_taking}}
use Rattle.sci_fair.proofs.Awaiting.{accept_no_ask, taking_no_ask, waiting_step}
use Rattle.sci_fair.proofs.{Descents.{turns_join, turns_part, windows_fewer, windows_part}, HeldUp.{IsFree, free_turn}, Requests.{good_along, size_along}}
use Rattle.std.proofs.lemmas.List.{append_assoc}
use Rattle.sci_words.specs.declared.event.Event.TheVariants as event
use Rattle.sci_fair.proofs.Markings.{Marking, gone}

-- ---- calls of the policy

abbrev pub pred : ℕ → ℕ
pred zero = zero
pred (suc k) = k

-- The line of node n has its mark; or it will never have it; or fewer than this many calls of the policy are left until it has it.
pub data Called (m : Marking) (n line k : ℕ) (p : PolicyOf) (x : Core) : Type 0 where
  Marked : has (m.marks p) line ≡ true → Called m n line k p x
  Gone : IsIn (gone m) n line x → Called m n line k p x
  Counts : (j : ℕ) → k ≡ suc j → 63 ≤ p.patience + j → Called m n line k p x

-- the line could have its mark, but awaits an answer
abbrev pub IsHeld : Marking → ℕ → ℕ → Core → Type 0
IsHeld m n line x = (m.class (state_on (node_at x n) line) ≡ true) × (m.last (state_on (node_at x n) line) ≡ false)

-- what a turn may come to beside: the line awaits an answer, or an operation can be performed
abbrev pub Stops : Marking → ℕ → ℕ → Core → Type 0
Stops m n line x = IsHeld m n line x ⊎ ((at : ℕ) × (is_some (node_performing (node_at x n) at) ≡ true))

-- among these turns is one of the node that came to it
pub record Stopped (m : Marking) (n line : ℕ) (order : List ℕ) (first last : Working) : Type 0 where
  pub before : List ℕ
  pub after : List ℕ
  pub whole : order ≡ before ++ n ∷ after
  pub old : Working
  pub new : Working
  pub leads : AreSteadyTurns before first old
  pub turn : IsSteadyTurn n old new
  pub turns : AreSteadyTurns after new last
  pub good : WorksByTurns old.core
  pub held : Held n old new
  pub stops : Stops m n line new.core

stopped_later : (m : Marking) (n line i : ℕ) (order : List ℕ) (first next last : Working) → IsSteadyTurn i first next → Stopped m n line order next last
    → Stopped m n line (i ∷ order) first last
stopped_later m n line i order first next last turn stopped = record {
  before = i ∷ stopped.before;
  after = stopped.after;
  whole = ap (λ (l : List ℕ). i ∷ l) stopped.whole;
  old = stopped.old;
  new = stopped.new;
  leads = (next, turn, stopped.leads);
  turn = stopped.turn;
  turns = stopped.turns;
  good = stopped.good;
  held = stopped.held;
  stops = stopped.stops;
}

stopped_behind : (m : Marking) (n line : ℕ) (before order : List ℕ) (first mid last : Working) → AreSteadyTurns before first mid
    → Stopped m n line order mid last → Stopped m n line (before ++ order) first last
stopped_behind m n line [] order first mid last leads stopped = subst (λ (w : Working). Stopped m n line order w last) (sym leads) stopped
stopped_behind m n line (i ∷ before) order first mid last leads stopped =
    stopped_later m n line i (before ++ order) first leads.0 last leads.1 (stopped_behind m n line before order leads.0 mid last leads.2 stopped)

stopped_before : (m : Marking) (n line : ℕ) (order rest : List ℕ) (first mid last : Working) → AreSteadyTurns rest mid last
    → Stopped m n line order first mid → Stopped m n line (order ++ rest) first last
stopped_before m n line order rest first mid last later stopped = grind (arith, append_assoc, turns_join)

module _ (m : Marking) (n line : ℕ) (small : line < MAX_LINES) where
  counted : (j k : ℕ) (p : PolicyOf) (x : Core) → nat_lt (p.patience + 1) PATIENCE ≡ true → k ≡ suc j → 63 ≤ p.patience + j
      → (next_policy p (node_at x n)).patience ≡ p.patience + 1 → Called m n line (pred k) (next_policy p (node_at x n)) x
  counted zero k p x lasts is few next = grind (arith, ltb-true)
  counted (suc j) k p x lasts is few next = Counts j (ap pred is) (omega (arith, few, next))

  -- a call
  call : (p : PolicyOf) (x : Core) (k : ℕ) → ((l : ℕ) → next_wanted p (node_at x n) ≡ Some (Perform l) → ⊥) → Called m n line k p x
      → Called m n line (pred k) (next_policy p (node_at x n)) x ⊎ IsHeld m n line x
  call p x k other called =
      let node = node_at x n in
      elim (cases_Bool (m.class (state_on node line))) [
        | inr out ↦ inl (Gone out)
        | inl is ↦ elim (cases_Bool (m.last (state_on node line))) [
          | inr not_yet ↦ inr (is, not_yet)
          | inl there ↦ inl (elim called [
            | Marked marked ↦ Marked (m.stays p node line small marked is)
            | Gone out ↦ (let clash : true ≡ false = sym is ∙ out in cc)
            | Counts j same few ↦ elim (cases_Bool (nat_lt (p.patience + 1) PATIENCE)) [
              | inr ends ↦ Marked (m.sets p node line small ends there)
              | inl lasts ↦ counted j k p x lasts same few (next_patience p node lasts)
            ]
          ])
        ]
      ]

  weaker : (k : ℕ) (p : PolicyOf) (x : Core) → Called m n line (pred k) p x → Called m n line k p x
  weaker zero p x called = called
  weaker (suc zero) p x (Counts j same few) = let clash : 0 ≡ suc j = same in absurd (omega (arith, clash))
  weaker (suc (suc k)) p x (Counts j same few) = Counts (suc j) (ap suc same) (omega (arith, few))
  weaker (suc k) p x (Marked marked) = Marked marked
  weaker (suc k) p x (Gone out) = Gone out

  -- ---- an ask

  -- what a step of the node's keeps
  held_on : (p : PolicyOf) (x : Core) (e : Event) (q : PolicyOf) (y : Core) → IsSteady n p x e q y → is_ask e ≡ true → IsHeld m n line x → IsHeld m n line y
  held_on p x e q y steady kind held =
      let s = state_on (node_at x n) line in
      let t = state_on (node_at y n) line in
      let same = waiting_step e line s t (state_step n p x q y line e steady) kind (m.held s held.0 held.1) in
      (ap m.class same ∙ held.0, ap m.last same ∙ held.1)

  moved : (k : ℕ) (p : PolicyOf) (x : Core) (e : Event) (q r : PolicyOf) (y : Core) → IsSteady n p x e q y → Called m n line k r x → Called m n line k r y
  moved k p x e q r y steady (Marked marked) = Marked marked
  moved k p x e q r y steady (Gone out) = Gone (kept_event (gone m) n line p x e q y steady out)
  moved k p x e q r y steady (Counts j same few) = Counts j same few

  asked : (k : ℕ) (p : PolicyOf) (x : Core) (e : Event) (q : PolicyOf) (y : Core) → IsSteady n p x e q y → is_ask e ≡ true → Called m n line k p x
      → Called m n line (pred k) q y ⊎ IsHeld m n line y
  asked k p x (event.Ask i at j) q y steady kind called =
      let decides = steady.own.decides in
      elim (call p x k (λ l performs. (let clash : Some (Ask at j) ≡ Some (Perform l) = sym decides.0 ∙ performs in cc)) called) [
        | inr held ↦ inr (held_on p x (event.Ask i at j) q y steady kind held)
        | inl on ↦ inl (moved (pred k) p x (event.Ask i at j) q q y steady (subst (λ (r : PolicyOf). Called m n line (pred k) r x) (sym decides.1) on))
      ]
  asked k p x (event.Serve from i) q y steady kind called = cc
  asked k p x (event.Refuse from i) q y steady kind called = cc
  asked k p x (event.Accept from i) q y steady kind called = cc
  asked k p x (event.Reply i) q y steady kind called = cc
  asked k p x (event.Issue i op) q y steady kind called = cc
  asked k p x (event.Perform i at) q y steady kind called = cc

  held_all : (p : PolicyOf) (x : Core) (events : List Event) (q : PolicyOf) (y : Core) → AreAll is_ask events → Steadily n p x events q y → IsHeld m n line x
      → IsHeld m n line y
  held_all p x [] q y kinds steady held = subst (IsHeld m n line) steady.1 held
  held_all p x (e ∷ events) q y kinds steady held =
      held_all steady.0 steady.1 events q y kinds.1 steady.3 (held_on p x e steady.0 steady.1 steady.2 kinds.0 held)

  asked_all : (k : ℕ) (p : PolicyOf) (x : Core) (events : List Event) (q : PolicyOf) (y : Core) → AreAll is_ask events → Steadily n p x events q y
      → Called m n line k p x → Called m n line k q y ⊎ IsHeld m n line y
  asked_all k p x [] q y kinds steady called =
      inl (subst (λ (c : Core). Called m n line k q c) steady.1 (subst (λ (r : PolicyOf). Called m n line k r x) steady.0 called))
  asked_all k p x (e ∷ events) q y kinds steady called = elim (asked k p x e steady.0 steady.1 steady.2 kinds.0 called) [
    | inr held ↦ inr (held_all steady.0 steady.1 events q y kinds.1 steady.3 held)
    | inl on ↦ asked_all k steady.0 steady.1 events q y kinds.1 steady.3 (weaker k steady.0 steady.1 on)
  ]

  asked_some : (k : ℕ) (p : PolicyOf) (x : Core) (events rest : List Event) (e : Event) (q : PolicyOf) (y : Core) → events ≡ e ∷ rest → AreAll is_ask events
      → Steadily n p x events q y → Called m n line k p x → Called m n line (pred k) q y ⊎ IsHeld m n line y
  asked_some k p x [] rest e q y is kinds steady called = cc
  asked_some k p x (one ∷ events) rest e q y is kinds steady called = elim (asked k p x one steady.0 steady.1 steady.2 kinds.0 called) [
    | inr held ↦ inr (held_all steady.0 steady.1 events q y kinds.1 steady.3 held)
    | inl on ↦ asked_all (pred k) steady.0 steady.1 events q y kinds.1 steady.3 on
  ]

  -- ---- the rest of a turn

  own_policy : (p : PolicyOf) (x : Core) (e : Event) (q : PolicyOf) → IsOwn n p x e q → (is_ask e ≡ true → ⊥)
      → (m.marks q ≡ m.marks p) × (q.patience ≡ p.patience)
  own_policy p x (event.Serve from i) q own other =
      (ap m.marks own.decides.1 ∙ m.served p (Some from), ap (λ (r : PolicyOf). r.patience) own.decides.1)
  own_policy p x (event.Refuse from i) q own other =
      (ap m.marks own.decides.1 ∙ m.served p (Some from), ap (λ (r : PolicyOf). r.patience) own.decides.1)
  own_policy p x (event.Accept from i) q own other = (ap m.marks own.decides, ap (λ (r : PolicyOf). r.patience) own.decides)
  own_policy p x (event.Reply i) q own other = (ap m.marks own.decides, ap (λ (r : PolicyOf). r.patience) own.decides)
  own_policy p x (event.Ask i at j) q own other = absurd (other refl)
  own_policy p x (event.Issue i op) q own other = let no = own.kind.kind in cc
  own_policy p x (event.Perform i at) q own other = let no = own.kind.kind in cc

  same_policy : (k : ℕ) (p q : PolicyOf) (x : Core) → m.marks q ≡ m.marks p → q.patience ≡ p.patience → Called m n line k p x → Called m n line k q x
  same_policy k p q x marks patience (Marked marked) = Marked (subst (λ (l : List Bool). has l line ≡ true) (sym marks) marked)
  same_policy k p q x marks patience (Gone out) = Gone out
  same_policy k p q x marks patience (Counts j same few) = Counts j same (omega (arith, few, patience))

  taken_all : (k : ℕ) (kind : Event → Bool) → ((e : Event) → kind e ≡ true → is_ask e ≡ true → ⊥) → (p : PolicyOf) (x : Core) (events : List Event)
      → (q : PolicyOf) (y : Core) → AreAll kind events → Steadily n p x events q y → Called m n line k p x → Called m n line k q y
  taken_all k kind never p x [] q y kinds steady called =
      subst (λ (c : Core). Called m n line k q c) steady.1 (subst (λ (r : PolicyOf). Called m n line k r x) steady.0 called)
  taken_all k kind never p x (e ∷ events) q y kinds steady called =
      let same = own_policy p x e steady.0 steady.2.own (never e kinds.0) in
      taken_all k kind never steady.0 steady.1 events q y kinds.1 steady.3
      (moved k p x e steady.0 steady.0 steady.1 steady.2 (same_policy k p steady.0 x same.0 same.1 called))

  -- when the node's turn comes to its asks
  pub called_asks : (k : ℕ) (old new : Working) → (held : Held n old new) → Called m n line k (old.policies n) old.core
      → Called m n line k held.trace.p2 held.trace.c2
  called_asks k old new held called =
      let t = held.trace in
      let p = old.policies n in
      let begun = same_policy k p (turned p) old.core (m.turns p) refl called in
      let accepted = taken_all k is_accept accept_no_ask (turned p) old.core t.e1 t.p1 t.c1 t.are_accepts held.accepts begun in
      taken_all k is_taking taking_no_ask t.p1 t.c1 t.e2 t.p2 t.c2 t.are_takes held.takes accepted

  performs_there : (p : PolicyOf) (core : Core) (at : ℕ) → next_wanted p (node_at core n) ≡ Some (Perform at)
      → is_some (node_performing (node_at core n) at) ≡ true
  performs_there p core at performs =
      of_some (IsEnabledWant (node_at core n)) (next_wanted p (node_at core n)) (Perform at) performs
      (wanted_enabled (ticked p (node_at core n)) (node_at core n))

  called_once : (k : ℕ) (p : PolicyOf) (x : Core) (want : Option Want) → next_wanted p (node_at x n) ≡ want → Called m n line k p x
      → Called m n line (pred k) (next_policy p (node_at x n)) x ⊎ Stops m n line x
  called_once k p x (Some (Perform at)) is called = inr (inr (at, performs_there p x at is))
  called_once k p x None is called = elim (call p x k (λ l performs. (let clash : None ≡ Some (Perform l) = sym is ∙ performs in cc)) called) [
    | inl on ↦ inl on
    | inr held ↦ inr (inl held)
  ]
  called_once k p x (Some (Ask at j)) is called =
      elim (call p x k (λ l performs. (let clash : Some (Ask at j) ≡ Some (Perform l) = sym is ∙ performs in cc)) called) [
        | inl on ↦ inl on
        | inr held ↦ inr (inl held)
      ]

  called_last : (k : ℕ) (p after : PolicyOf) (x : Core) → (after ≡ p) ⊎ (after ≡ next_policy p (node_at x n)) → Called m n line k p x
      → Called m n line k after x ⊎ Stops m n line x
  called_last k p after x (inl same) called = inl (subst (λ (r : PolicyOf). Called m n line k r x) (sym same) called)
  called_last k p after x (inr next) called = elim (called_once k p x (next_wanted p (node_at x n)) refl called) [
    | inl on ↦ inl (subst (λ (r : PolicyOf). Called m n line k r x) (sym next) (weaker k (next_policy p (node_at x n)) x on))
    | inr stops ↦ inr stops
  ]

  called_first : (k : ℕ) (old new : Working) → (held : Held n old new)
      → AsksFirst n held.trace.p2 held.trace.c2 held.trace.e3 (new.policies n) new.core → Called m n line k held.trace.p2 held.trace.c2
      → Called m n line (pred k) (new.policies n) new.core ⊎ Stops m n line new.core
  called_first k old new held (Makes_ask at j rest wants is) called =
      let t = held.trace in
      elim (asked_some k t.p2 t.c2 t.e3 rest (event.Ask n at j) t.p3 new.core is t.are_asks held.asks called) [
        | inl on ↦ called_last (pred k) t.p3 (new.policies n) new.core t.last on
        | inr held_ ↦ inr (inl held_)
      ]
  called_first k old new held (Ends_there same none policy ends) called =
      let t = held.trace in
      elim (called_once k t.p2 t.c2 (next_wanted t.p2 (node_at t.c2 n)) refl called) [
        | inl on ↦ inl (subst (λ (c : Core). Called m n line (pred k) (new.policies n) c) same
            (subst (λ (r : PolicyOf). Called m n line (pred k) r t.c2) (sym policy) on))
        | inr stops ↦ inr (subst (Stops m n line) same stops)
      ]

  own_called : (k : ℕ) (old new : Working) → (held : Held n old new) → Called m n line k (old.policies n) old.core
      → Called m n line (pred k) (new.policies n) new.core ⊎ Stops m n line new.core
  own_called k old new held called = called_first k old new held held.trace.first (called_asks k old new held called)

  same_node : (k : ℕ) (p : PolicyOf) (x y : Core) → node_at y n ≡ node_at x n → Called m n line k p x → Called m n line k p y
  same_node k p x y node (Marked marked) = Marked marked
  same_node k p x y node (Gone out) = Gone (subst (λ (part : NodeOf). m.class (state_on part line) ≡ false) (sym node) out)
  same_node k p x y node (Counts j same few) = Counts j same few

  other_called : (k i : ℕ) (old new : Working) → (held : Held i old new) → n ≢ i → new.policies n ≡ old.policies n
      → Called m n line k (old.policies n) old.core → Called m n line k (new.policies n) new.core
  other_called k i old new held other policy called =
      subst (λ (r : PolicyOf). Called m n line k r new.core) (sym policy)
      (same_node k (old.policies n) old.core new.core (held.trace.asked.since.others n other) called)

  -- ---- many turns

  abbrev CalledAt : ℕ → Working → Type 0
  CalledAt k w = Called m n line k (w.policies n) w.core

  stops_here : (i : ℕ) (order : List ℕ) (first next last : Working) → n ≡ i → WorksByTurns first.core → IsSteadyTurn i first next
      → AreSteadyTurns order next last → (held : Held n first next) → Stops m n line next.core → Stopped m n line (i ∷ order) first last
  stops_here i order first next last same good turn later held stops = record {
    before = [];
    after = order;
    whole = ap (λ (j : ℕ). j ∷ order) (sym same);
    old = first;
    new = next;
    leads = refl;
    turn = subst (λ (j : ℕ). IsSteadyTurn j first next) (sym same) turn;
    turns = later;
    good = good;
    held = held;
    stops = stops;
  }

  -- a turn of any node
  any_called : (k i : ℕ) (order : List ℕ) (first next last : Working) → WorksByTurns first.core → IsSteadyTurn i first next → AreSteadyTurns order next last
      → CalledAt k first → CalledAt k next ⊎ Stopped m n line (i ∷ order) first last
  any_called k i order first next last good turn later called = elim (cases_eq n i) [
    | inr other ↦ inl (other_called k i first next (steady_turn i first next good turn) other (turn.alone.others n other) called)
    | inl same ↦
        let held = steady_turn n first next good (subst (λ (j : ℕ). IsSteadyTurn j first next) (sym same) turn) in
        elim (own_called k first next held called) [
          | inl on ↦ inl (weaker k (next.policies n) next.core on)
          | inr stops ↦ inr (stops_here i order first next last same good turn later held stops)
        ]
  ]

  pub called_along : (k : ℕ) (order : List ℕ) (first last : Working) → WorksByTurns first.core → AreSteadyTurns order first last → CalledAt k first
      → CalledAt k last ⊎ Stopped m n line order first last
  called_along k [] first last good turns called = inl (subst (CalledAt k) turns called)
  called_along k (i ∷ order) first last good turns called =
      let next = turns.0 in
      elim (any_called k i order first next last good turns.1 turns.2 called) [
        | inr stopped ↦ inr stopped
        | inl on ↦ elim (called_along k order next last (steady_turn i first next good turns.1).good turns.2 on) [
          | inl done ↦ inl done
          | inr stopped ↦ inr (stopped_later m n line i order first next last turns.1 stopped)
        ]
      ]

  -- turns among which is one of the node
  called_window : (k : ℕ) (order : List ℕ) (first last : Working) → WorksByTurns first.core → IsAmong n order → AreSteadyTurns order first last
      → CalledAt k first → CalledAt (pred k) last ⊎ Stopped m n line order first last
  called_window k [] first last good among turns called = elim among [ ]
  called_window k (i ∷ order) first last good (inl same) turns called =
      let next = turns.0 in
      let held = steady_turn n first next good (subst (λ (j : ℕ). IsSteadyTurn j first next) (sym same) turns.1) in
      elim (own_called k first next held called) [
        | inr stops ↦ inr (stops_here i order first next last same good turns.1 turns.2 held stops)
        | inl on ↦ elim (called_along (pred k) order next last held.good turns.2 on) [
          | inl done ↦ inl done
          | inr stopped ↦ inr (stopped_later m n line i order first next last turns.1 stopped)
        ]
      ]
  called_window k (i ∷ order) first last good (inr later) turns called =
      let next = turns.0 in
      elim (any_called k i order first next last good turns.1 turns.2 called) [
        | inr stopped ↦ inr stopped
        | inl on ↦ elim (called_window k order next last (steady_turn i first next good turns.1).good later turns.2 on) [
          | inl done ↦ inl done
          | inr stopped ↦ inr (stopped_later m n line i order first next last turns.1 stopped)
        ]
      ]

  pub called_windows : (k nodes : ℕ) (order : List ℕ) (first last : Working) → WorksByTurns first.core → n < nodes → AreSteadyTurns order first last
      → HasWindows nodes k order → CalledAt k first → CalledAt 0 last ⊎ Stopped m n line order first last
  called_windows zero nodes order first last good some turns windows called = called_along 0 order first last good turns called
  called_windows (suc k) nodes order first last good some turns windows called =
      let window = windows.0 in
      let rest = windows.1 in
      let part = turns_part IsSteadyTurn window rest first last (subst (λ (l : List ℕ). AreSteadyTurns l first last) windows.2 turns) in
      let mid = part.0 in
      elim (called_window (suc k) window first mid good (windows.3 n some) part.1 called) [
        | inr stopped ↦ inr (subst (λ (l : List ℕ). Stopped m n line l first last) (sym windows.2)
            (stopped_before m n line window rest first mid last part.2 stopped))
        | inl on ↦ elim (called_windows k nodes rest mid last (good_along window first mid good part.1) some part.2 windows.4 on) [
          | inl done ↦ inl done
          | inr stopped ↦ inr (subst (λ (l : List ℕ). Stopped m n line l first last) (sym windows.2)
              (stopped_behind m n line window rest first mid last part.1 stopped))
        ]
      ]

  -- so in 64 windows the line has its mark, or will never have it
  pub called_at_last : (nodes : ℕ) (order : List ℕ) (first last : Working) → WorksByTurns first.core → n < nodes → AreSteadyTurns order first last
      → HasWindows nodes 64 order → CalledAt 0 last ⊎ Stopped m n line order first last
  called_at_last nodes order first last good some turns windows =
      called_windows 64 nodes order first last good some turns windows (Counts 63 refl (omega arith))

-- ---- the turn in which it has its mark

-- a turn of the node in which nothing holds it up, and in which the line has its mark when the node begins to ask
pub record MarkedTurn (m : Marking) (n line : ℕ) (first last : Working) : Type 0 where
  pub before : List ℕ
  pub old : Working
  pub leads : AreSteadyTurns before first old
  pub new : Working
  pub turn : IsSteadyTurn n old new
  pub good : WorksByTurns old.core
  pub held : Held n old new
  pub free : IsFree n old new held
  pub later : List ℕ
  pub turns : AreSteadyTurns later new last
  pub marked : has (m.marks held.trace.p2) line ≡ true
  pub is : m.class (state_on (node_at held.trace.c2 n) line) ≡ true

module _ (m : Marking) (n line : ℕ) (small : line < MAX_LINES) where
  -- what can't have its mark never could again
  still_class : (old new : Working) → (held : Held n old new) → (b : Bool) → m.class (state_on (node_at held.trace.c2 n) line) ≡ b
      → (order : List ℕ) (last : Working) → AreSteadyTurns order new last → m.class (state_on (node_at last.core n) line) ≡ true
      → m.class (state_on (node_at held.trace.c2 n) line) ≡ true
  still_class old new held true is order last turns class = is
  still_class old new held false is order last turns class =
      let ended = (kept_in (gone m) n line old new held).ended is in
      let at_last = kept_along (gone m) n line order new last held.good turns ended in
      let clash : true ≡ false = sym class ∙ at_last in cc

  marked_of : (p : PolicyOf) (x : Core) → m.class (state_on (node_at x n) line) ≡ true → Called m n line 0 p x → has (m.marks p) line ≡ true
  marked_of p x is (Counts j same few) = absurd (omega (arith, same))
  marked_of p x is (Gone out) = let clash : true ≡ false = sym is ∙ out in cc
  marked_of p x is (Marked marked) = marked

  -- within 135 windows, if it could have its mark to their end
  pub marked_turn : (order : List ℕ) (first last : Working) → WorksByTurns first.core → n < first.core.size.nodes → AreSteadyTurns order first last
      → HasWindows first.core.size.nodes 135 order → m.class (state_on (node_at last.core n) line) ≡ true
      → MarkedTurn m n line first last ⊎ Stopped m n line order first last
  marked_turn order first last good some turns windows class =
      let nodes = first.core.size.nodes in
      let part = windows_part nodes 64 71 order (windows_fewer nodes (64 + 71) 135 order (omega arith) windows) in
      let all : AreSteadyTurns (part.first ++ part.rest) first last = subst (λ (l : List ℕ). AreSteadyTurns l first last) part.whole turns in
      let cut = turns_part IsSteadyTurn part.first part.rest first last all in
      let mid = cut.0 in
      let good_mid = good_along part.first first mid good cut.1 in
      let size = size_along part.first first mid good cut.1 in
      let n_mid : n < mid.core.size.nodes = subst (λ (z : Size). n < z.nodes) (sym size) some in
      let c = free_turn n 0 part.rest mid last good_mid n_mid cut.2
      (windows_fewer mid.core.size.nodes (71 + 0) 71 part.rest (omega arith) (subst (λ (z : Size). HasWindows z.nodes 71 part.rest) (sym size) part.later)) in
      elim (called_at_last m n line small nodes part.first first mid good some cut.1 part.windows) [
        | inr stopped ↦ inr (subst (λ (l : List ℕ). Stopped m n line l first last) (sym part.whole)
            (stopped_before m n line part.first part.rest first mid last cut.2 stopped))
        | inl called ↦ elim (called_along m n line small 0 c.before mid c.old good_mid c.leads called) [
          | inr stopped ↦
              let there = stopped_before m n line c.before (c.node ∷ c.after) mid c.old last (c.new, c.turn, c.turns) stopped in
              inr (subst (λ (l : List ℕ). Stopped m n line l first last) (sym part.whole)
              (stopped_behind m n line part.first part.rest first mid last cut.1 (subst (λ (l : List ℕ). Stopped m n line l mid last) (sym c.whole) there)))
          | inl on ↦
              let held = c.done.held in
              let t = held.trace in
              let is = still_class c.old c.new held (m.class (state_on (node_at t.c2 n) line)) refl c.after last c.turns class in
              inl (record {
                before = part.first ++ c.before;
                leads = turns_join IsSteadyTurn part.first c.before first mid c.old cut.1 c.leads;
                old = c.old;
                new = c.new;
                turn = subst (λ (i : ℕ). IsSteadyTurn i c.old c.new) c.done.own c.turn;
                good = c.done.good;
                held = held;
                free = c.done.free;
                later = c.after;
                turns = c.turns;
                marked = marked_of t.p2 t.c2 is (called_asks m n line small 0 c.old c.new held on);
                is = is;
              })
        ]
      ]
