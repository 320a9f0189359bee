use Rattle.std.proofs.Common.{arith, true, false, ◌≡◌, ◌<◌, ℕ, List, [], ◌∷◌, ◌++◌, length, map, None, refl, sym, ap, subst, ◌∙◌, inl, inr}
use Rattle.std.proofs.lemmas.{Bool.{cases_lt}, List.{append-nil, get_or_default, map-append, Edits.{get_or-remove_below}}}
use Rattle.std.specs.{List.{remove}, Prelude.{slice_index_or}}
use Rattle.sci_core.specs.{Node.{NodeOf, node_performing}, Work.{IsLogged}}
use Rattle.sci_drive.specs.{Calls.{Answered, Call, HasHeard}, Driving.{DriverOf, IsDriven, IsInOrder}}
use Rattle.sci_policy.specs.Deeds.{Deed, Performs}
use Rattle.sci_drive.specs.Rounds.{ArePerformed, IsTried, performed}
use Rattle.sci_drive.proofs.{GateCalls.{answer_call, heard_on, no_calls}, Drives.{grows, left_of, performs}}
use Rattle.sci_drive.proofs.{InOrder.{performs_in_order}, DriverRounds.{one_more_performed, tried_on}}
use Rattle.sci_drive.proofs.driver.Driver.perform.Goals as goal

-- src/driver.rt:132:9
pub loop-place-preserved-in-Some : goal.loop-place-preserved-in-Some
loop-place-preserved-in-Some g c =
    let at = c.loop-place in
    let now = at.self-inside in
    let driver : DriverOf = record { script = now.script.now; issuing = now.issuing; next = now.next; pending = now.pending.items; was_done = now.was_done } in
    let old = g.W.Worker.node at.worker in
    let new = g.W.Worker.node c.perform.new.self in
    let long = c.len.ensures.value in
    let test = c.loop-place-test.true in
    let within : at.place < length driver.pending = omega (arith, long, test) in
    let line : ℕ = slice_index_or c.deref.result.now at.place 0 in
    let logged : IsLogged old new line c.in-Some.entry = c.in-Some.ensures.performed in
    let here : slice_index_or driver.pending at.place line ≡ line =
    ap (λ (l : List ℕ). slice_index_or l at.place line) (sym c.deref.ensures.0)
    ∙ get_or_default c.deref.result.now at.place line 0 (subst (λ (l : List ℕ). at.place < length l) (sym c.deref.ensures.0) within) in
    let first : DriverOf = left_of c.self.view_is in
    let later : DriverOf = record driver { pending = remove driver.pending at.place } in
    let made = performs driver old new at.place line c.in-Some.entry at.invariant.driven logged within here in
    let undone : driver.was_done ≡ true → ⊥ =
    λ was. (let free = (at.invariant.done was).1 in let short : length driver.pending ≡ 0 = ap (λ (l : List ℕ). length l) free in absurd (omega arith)) in
    let awaited = at.invariant.driven.pending line (record { serial = c.in-Some.entry.serial; op = c.in-Some.entry.op }) logged.pending in
    let start = g.W.Worker.node c.args.worker.now in
    let own : IsLogged old new c.in-Some.entry.op.line c.in-Some.entry = subst (λ (l : ℕ). IsLogged old new l c.in-Some.entry) (sym awaited.on) logged in
    let earlier = at.invariant.performed.0 in
    let did : g.W.Worker.does at.worker (performed c.in-Some.entry ∷ []) c.perform.new.self =
    subst (λ (l : ℕ). g.W.Worker.does at.worker (Performs l c.in-Some.entry ∷ []) c.perform.new.self) (sym awaited.on) c.in-Some.ensures.does in
    let tried_then : (k : ℕ) → k < at.place → k < length c.remove.new.self.items → IsTried (slice_index_or c.remove.new.self.items k 0) start new = λ k lt _.
    (let was : IsTried (slice_index_or driver.pending k 0) start old = at.invariant.tried k lt (omega (arith, within)) in
    let same : slice_index_or c.remove.new.self.items k 0 ≡ slice_index_or driver.pending k 0 =
    ap (λ (l : List ℕ). slice_index_or l k 0) c.remove.ensures.items ∙ get_or-remove_below driver.pending at.place 0 k lt within in
    subst (λ (l : ℕ). IsTried l start new) (sym same) (tried_on (slice_index_or driver.pending k 0) start old new c.in-Some.entry was own)) in
    let hears = g.G.Gate.hears in
    let was_heard = at.invariant.performed.2 in
    let calls = map Answered earlier in
    let heard : HasHeard hears c.args.gate.now c.answered.new.self first later start new (map Answered (earlier ++ c.in-Some.entry ∷ [])) =
    subst (λ (l : List Call). HasHeard hears c.args.gate.now c.answered.new.self first later start new l)
    (sym (map-append Answered earlier (c.in-Some.entry ∷ [])))
    (heard_on hears g.met.G.Gate.hears_on c.args.gate.now at.gate c.answered.new.self first driver later start old new calls
    (Answered c.in-Some.entry ∷ []) was_heard
    (c.answered.ensures, answer_call driver later old new c.in-Some.entry refl refl undone awaited.submitted logged.log)) in record {
      driven = subst (λ (lines : List ℕ). IsDriven (record driver { pending = lines }) new) (sym c.remove.ensures.items) made;
      script = at.invariant.script;
      issuing = at.invariant.issuing;
      stays = g.met.W.Worker.stays_through c.args.worker.now at.worker c.perform.new.self at.invariant.stays c.perform.ensures.stays;
      more = λ _. grows (g.W.Worker.node c.args.worker.now).log old.log new.log c.in-Some.entry at.answered at.invariant.more at.invariant.same logged.log;
      same = λ no. absurd (apart no);
      order = λ was. subst (λ (lines : List ℕ). IsInOrder (record driver { pending = lines }) new) (sym c.remove.ensures.items)
          (performs_in_order driver old new at.place line c.in-Some.entry at.invariant.driven logged within here (at.invariant.order was));
      done = λ was. absurd (undone was);
      performed = (
        earlier ++ c.in-Some.entry ∷ [],
        one_more_performed start old new earlier c.in-Some.entry at.invariant.performed.1 own,
        subst (λ (lines : List ℕ). HasHeard hears c.args.gate.now c.answered.new.self first (record driver { pending = lines }) start new
            (map Answered (earlier ++ c.in-Some.entry ∷ []))) (sym c.remove.ensures.items) heard,
        subst (λ (deeds : List Deed). g.W.Worker.does c.args.worker.now deeds c.perform.new.self) (sym (map-append performed earlier (c.in-Some.entry ∷ [])))
            (g.met.W.Worker.does_on c.args.worker.now at.worker c.perform.new.self (map performed earlier) (performed c.in-Some.entry ∷ [])
            at.invariant.performed.3 did),
      );
      told = at.invariant.told;
      tried = tried_then;
    }
  where
    apart : true ≡ false → ⊥
    apart e = cc

pub loop-place-init : goal.loop-place-init
loop-place-init g c =
    let first : DriverOf = left_of c.self.view_is in
    let node = g.W.Worker.node c.args.worker.now in
    record {
      driven = rw c.self.view_is c.requires.driven;
      script = refl;
      issuing = refl;
      stays = g.met.W.Worker.stays_itself c.args.worker.now;
      more = λ no. absurd (apart no);
      same = λ _. refl;
      order = λ was. was;
      done = c.self.invariant.1;
      performed = (
        [],
        refl,
        (g.met.G.Gate.hears_nothing c.args.gate.now, no_calls first first node node refl refl refl),
        g.met.W.Worker.does_nothing c.args.worker.now,
      );
      told = refl;
      tried = λ k lt within. absurd (omega arith);
    }
  where
    apart : false ≡ true → ⊥
    apart e = cc

pub loop-place-preserved : goal.loop-place-preserved
loop-place-preserved g c =
    let at = c.loop-place in
    let now = at.self-inside in
    let driver : DriverOf = record { script = now.script.now; issuing = now.issuing; next = now.next; pending = now.pending.items; was_done = now.was_done } in
    let first : DriverOf = left_of c.self.view_is in
    let start = g.W.Worker.node c.args.worker.now in
    let old = g.W.Worker.node at.worker in
    let new = g.W.Worker.node c.perform.new.self in
    let same : new ≡ old = c.perform.ensures.same c.in-None.is in
    let log : new.log ≡ old.log = ap (λ (n : NodeOf). n.log) same in
    let line : ℕ = slice_index_or c.deref.result.now at.place 0 in
    let cannot : node_performing old line ≡ None = c.perform.ensures.none c.in-None.is in
    let on : line ≡ slice_index_or driver.pending at.place 0 = ap (λ (l : List ℕ). slice_index_or l at.place 0) c.deref.ensures.0 in
    let earlier = at.invariant.performed.0 in
    let tried_here : IsTried (slice_index_or driver.pending at.place 0) start new = record {
      node = old;
      earlier = at.invariant.performed.0;
      first = at.invariant.performed.1;
      cannot = subst (λ (l : ℕ). node_performing old l ≡ None) on cannot;
      later = [];
      rest = sym same;
    } in
    record {
      driven = subst (IsDriven driver) (sym same) at.invariant.driven;
      script = at.invariant.script;
      issuing = at.invariant.issuing;
      stays = g.met.W.Worker.stays_through c.args.worker.now at.worker c.perform.new.self at.invariant.stays c.perform.ensures.stays;
      more = subst (λ (n : NodeOf). at.answered ≡ true → length start.log < length n.log) (sym same) at.invariant.more;
      same = λ no. log ∙ at.invariant.same no;
      order = λ was. subst (IsInOrder driver) (sym same) (at.invariant.order was);
      done = at.invariant.done;
      performed = (
        earlier,
        subst (ArePerformed start earlier) (sym same) at.invariant.performed.1,
        subst (λ (n : NodeOf). HasHeard g.G.Gate.hears c.args.gate.now at.gate first driver start n (map Answered earlier)) (sym same)
            at.invariant.performed.2,
        subst (λ (deeds : List Deed). g.W.Worker.does c.args.worker.now deeds c.perform.new.self) (append-nil (map performed earlier))
            (g.met.W.Worker.does_on c.args.worker.now at.worker c.perform.new.self (map performed earlier) [] at.invariant.performed.3
            (c.perform.ensures.idle c.in-None.is)),
      );
      tried = λ k lt within. elim (cases_lt k at.place) [
        | inl low ↦ subst (IsTried (slice_index_or driver.pending k 0) start) (sym same) (at.invariant.tried k low within)
        | inr high ↦
            let here : at.place ≡ k = omega arith in
            subst (λ (i : ℕ). IsTried (slice_index_or driver.pending i 0) start new) here tried_here
      ];
      told = at.invariant.told;
    }

pub returns-clause-tried : goal.returns-clause-tried
returns-clause-tried g c = λ line there.
    let at = c.loop-place in
    let pending = at.self-inside.pending.items in
    let long = c.len.ensures.value in
    let past = c.loop-place-test.false in
    let within = there.1 in
    let here : slice_index_or pending there.0 0 ≡ line = get_or_default pending there.0 0 line within ∙ there.2 in
    subst (λ (l : ℕ). IsTried l (g.W.Worker.node c.args.worker.now) (g.W.Worker.node at.worker)) here (at.invariant.tried there.0 (omega arith) within)
