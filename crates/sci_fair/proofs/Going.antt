-- A whole turn of a node that has the machine for itself, event by event, whatever it changes; and what is issued and performed before it.
use Rattle.std.proofs.Common.{◌≡◌, ◌<◌, ℕ, Bool, true, false, List, [], ◌∷◌, Ok, Some, refl, sym, ap, subst, ◌∙◌, inl, inr}
use Rattle.std.proofs.lemmas.Bool.{cases_eq}
use Rattle.sci_words.specs.declared.{event.Event.{Event}, operation.Op.{Op}}
use Rattle.sci_cache.specs.{State.{CacheState}, Performing.{Performed, performing}, Cache.{CacheOf, line_of}, Line.{LineState, line_in, untouched}}
use Rattle.sci_core.specs.declared.lane.LaneKind.{LaneKind}
use Rattle.sci_core.specs.{Core.{Core, lane_of, node_at, side, stepping}, Node.{NodeOf, may_issue, node_issuing, node_performing}, Reached.{IsReached}}
use Rattle.sci_core.specs.Size.{Size}
use Rattle.sci_core.proofs.{Basics.{Lists.{at_place_set}, Options.{of_some}}, Settling.Drains.{some_node}, Step.NodeSides.{PerformedAs, perform_as}}
use Rattle.sci_core.proofs.WellFormed.WellFormedSteps.{reached_stepping, size_either}
use Rattle.sci_policy.specs.{Lines.{state_on}, Policy.{PolicyOf, turned}}
use Rattle.sci_turn.proofs.Working.{stepped}
use Rattle.sci_fair.specs.{Lanes.{AreOpen}, Later.{AreWorked}, Reads.{ReadsFit}, Steady.{IsTurnAlone, Working, WorksByTurns}}
use Rattle.sci_fair.proofs.{Opens.{turn_open}, ReadCarries.{changed_by, issued_cache}, ReadSteps.{changed_out, performed_out, turn_reads}}
use Rattle.sci_fair.proofs.{Few.{size_of_step}, Steadied.{Change, GoesBy}, SteadyTurns.{HeldBy, alone_works, does_works}, Trace.{Does, trace}}
use Rattle.sci_fair.proofs.Works.{work_good}
use Rattle.sci_words.specs.declared.event.Event.TheVariants as event

-- ---- a turn

abbrev pub Whatever : Change
Whatever x y = Unit {0}

going_from : (n : ℕ) (size : Size) (p : PolicyOf) (x : Core) (events : List Event) (q : PolicyOf) (y : Core) → n < size.nodes → x.size ≡ size → IsReached x
    → ReadsFit x → AreOpen x → Does n p x events q y → GoesBy Whatever n p x events q y
going_from n size p x [] q y some is reached fit opened does = does
going_from n size p x (e ∷ events) q y some is reached fit opened does =
    let next = does.1 in
    let here : n < x.size.nodes = subst (λ (z : Size). n < z.nodes) (sym is) some in
    let same = size_either {T = ℕ} {E = ℕ} (Ok 0) x next e reached does.3 (λ refused. (let clash : false ≡ true = refused in cc)) in (
      does.0,
      next,
      record { reached = reached; fit = fit; opened = opened; some = here; own = does.2; steps = does.3; same = tt },
      going_from n size does.0 next events q y some (same ∙ is) (reached_stepping x next e reached does.3)
          (turn_reads x next n p does.0 e reached fit here does.2 does.3) (turn_open x next p does.0 n e reached opened here does.2 does.3) does.4,
    )

pub turn_going : (n : ℕ) (old new : Working) → WorksByTurns old.core → IsTurnAlone n old new → HeldBy Whatever n old new
turn_going n old new good turn =
    let before = old.core in
    let some = turn.some in
    let t = trace n (old.policies n) (new.policies n) before new.core turn.progress good.reached some good.between turn.whole in
    let begins = turned (old.policies n) in
    let first = does_works n before.size begins before t.e1 t.p1 t.c1 some refl good.reached good.fit good.opened t.accepts in
    let size1 = t.accepted.since.size in
    let second = does_works n before.size t.p1 t.c1 t.e2 t.p2 t.c2 some size1 first.0 first.1 first.2 t.takes in
    let works = alone_works n old new good turn in
    record {
      trace = t;
      accepts = going_from n before.size begins before t.e1 t.p1 t.c1 some refl good.reached good.fit good.opened t.accepts;
      takes = going_from n before.size t.p1 t.c1 t.e2 t.p2 t.c2 some size1 first.0 first.1 first.2 t.takes;
      before = λ j f. (
          let look = t.looks j f in
          going_from n before.size t.p1 t.c1 look.first look.p look.c some size1 first.0 first.1 first.2 look.before
          );
      after = λ j f. (
          let look = t.looks j f in
          let there = does_works n before.size t.p1 t.c1 look.first look.p look.c some size1 first.0 first.1 first.2 look.before in
          going_from n before.size look.p look.c look.second t.p2 t.c2 some look.so.so.since.size there.0 there.1 there.2 look.after
          );
      asks = going_from n before.size t.p2 t.c2 t.e3 t.p3 new.core some t.taken.so.since.size second.0 second.1 second.2 t.asks;
      good = works.0;
      size = works.1;
    }

-- ---- what is issued and performed before it

-- a test of states that no operation changes
abbrev pub IsLeftBy : (CacheState → Bool) → Type 0
IsLeftBy test = (s : CacheState) (op : Op) (done : Performed) → performing s op ≡ Some done → test s ≡ true → test done.next ≡ true

-- no lane changes, nor the size, and what passes the test still does
pub record WorkedOn (test : CacheState → Bool) (old new : Core) : Type 0 where
  pub good : WorksByTurns new
  pub size : new.size ≡ old.size
  pub lanes : (kind : LaneKind) (from to : ℕ) → lane_of new kind from to ≡ lane_of old kind from to
  pub states : (n line : ℕ) → test (state_on (node_at old n) line) ≡ true → test (state_on (node_at new n) line) ≡ true

module _ (test : CacheState → Bool) (left : IsLeftBy test) where
  worked_then : (old mid new : Core) → WorkedOn test old mid → WorkedOn test mid new → WorkedOn test old new
  worked_then old mid new one two = record {
    good = two.good;
    size = two.size ∙ one.size;
    lanes = λ kind from to. two.lanes kind from to ∙ one.lanes kind from to;
    states = λ n line is. two.states n line (one.states n line is);
  }

  issue_works : (m : ℕ) (op : Op) (old new : Core) → WorksByTurns old → stepping old (event.Issue m op) ≡ Some new → WorkedOn test old new
  issue_works m op old new good steps =
      let node = node_at old m in
      let some = some_node old new (event.Issue m op) steps in
      let out = changed_out old new m (node_issuing node op) (stepped old new m (event.Issue m op) (side node (event.Issue m op)) some refl refl steps) in
      let changed = changed_by old new m out.0 good.reached some (λ k. ap (λ (c : Core). node_at c k) (sym out.2)) in
      let cache = of_some (λ (part : NodeOf). part.cache ≡ node.cache) (node_issuing node op) out.0 out.1 (issued_cache (may_issue node op) node op) in
      record {
        good = work_good old new (event.Issue m op) good tt steps;
        size = size_of_step old new (event.Issue m op) good.reached steps;
        lanes = λ kind from to. ap (λ (c : Core). lane_of c kind from to) (sym out.2);
        states = λ n line is. elim (cases_eq n m) [
          | inr other ↦ subst (λ (part : NodeOf). test (state_on part line) ≡ true) (sym (changed.others n other)) is
          | inl same ↦
              let here : test (state_on node line) ≡ true = subst (λ (k : ℕ). test (state_on (node_at old k) line) ≡ true) same is in
              let there : test (state_on (node_at new m) line) ≡ true =
              subst (λ (s : CacheState). test s ≡ true)
              (sym (ap (λ (part : NodeOf). state_on part line) changed.own ∙ ap (λ (c : CacheOf). (line_of c line).state) cache)) here in
              subst (λ (k : ℕ). test (state_on (node_at new k) line) ≡ true) (sym same) there
        ];
      }

  perform_works : (m at : ℕ) (old new : Core) → WorksByTurns old → stepping old (event.Perform m at) ≡ Some new → WorkedOn test old new
  perform_works m at old new good steps =
      let node = node_at old m in
      let some = some_node old new (event.Perform m at) steps in
      let out = performed_out old new m (node_performing node at)
      (stepped old new m (event.Perform m at) (side node (event.Perform m at)) some refl refl steps) in
      let changed = changed_by old new m out.0.0 good.reached some (λ k. ap (λ (c : Core). node_at c k) (sym out.2)) in
      let told = of_some (PerformedAs node at) (node_performing node at) out.0 out.1 (perform_as node at) in
      let next = changed.own ∙ sym told.next in
      let line_is = told.pending.op.line in
      record {
        good = work_good old new (event.Perform m at) good tt steps;
        size = size_of_step old new (event.Perform m at) good.reached steps;
        lanes = λ kind from to. ap (λ (c : Core). lane_of c kind from to) (sym out.2);
        states = λ n line is. elim (cases_eq n m) [
          | inr other ↦ subst (λ (part : NodeOf). test (state_on part line) ≡ true) (sym (changed.others n other)) is
          | inl same ↦
              let here : test (state_on node line) ≡ true = subst (λ (k : ℕ). test (state_on (node_at old k) line) ≡ true) same is in
              let part = line_in (line_of node.cache line_is) told.did.next in
              let set = at_place_set (λ (k : ℕ) (l : LineState). test (state_on node k) ≡ true → test l.state ≡ true) node.cache.lines line_is part untouched
              (λ k was. was) (λ was. left (state_on node line_is) told.pending.op told.did told.performs was) line in
              let there : test (state_on (node_at new m) line) ≡ true =
              subst (λ (p : NodeOf). test (state_on p line) ≡ true) (sym next) (set here) in
              subst (λ (k : ℕ). test (state_on (node_at new k) line) ≡ true) (sym same) there
        ];
      }

  pub works_on : (events : List Event) (old new : Core) → WorksByTurns old → AreWorked events old new → WorkedOn test old new
  works_on [] old new good worked = record {
    good = subst WorksByTurns worked good;
    size = ap (λ (c : Core). c.size) (sym worked);
    lanes = λ kind from to. ap (λ (c : Core). lane_of c kind from to) (sym worked);
    states = λ n line is. subst (λ (c : Core). test (state_on (node_at c n) line) ≡ true) worked is;
  }
  works_on (event.Issue m op ∷ events) old new good worked =
      let one = issue_works m op old worked.0 good worked.2 in worked_then old worked.0 new one (works_on events worked.0 new one.good worked.3)
  works_on (event.Perform m at ∷ events) old new good worked =
      let one = perform_works m at old worked.0 good worked.2 in worked_then old worked.0 new one (works_on events worked.0 new one.good worked.3)
  works_on (event.Ask m at k ∷ events) old new good worked = absurd worked.1
  works_on (event.Serve from m ∷ events) old new good worked = absurd worked.1
  works_on (event.Refuse from m ∷ events) old new good worked = absurd worked.1
  works_on (event.Reply m ∷ events) old new good worked = absurd worked.1
  works_on (event.Accept from m ∷ events) old new good worked = absurd worked.1
