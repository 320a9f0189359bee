-- A round submits, performs and takes a turn, and may tell the gate at its end.
use Rattle.std.proofs.Common.{◌≡◌, Bool, true, false, List, [], ◌∷◌, ◌++◌, map, rules, refl, subst, sym, ap, ◌∙◌, arith}
use Rattle.std.proofs.lemmas.List.{append-nil}
use Rattle.std.specs.{Prelude.{◌↔◌, IfOk, IsErr, Ok, Err, Result}, declared.alloc.AllocError.{AllocError}}
use Rattle.sci_policy.specs.{declared.progress.Progress.{Progress}, Deeds.{Deed, Turns}, Worker.{IsNodeTurn}}
use Rattle.sci_drive.specs.{declared.driver.Round.{Round}, Calls.{HasHeard, end_told}, Driving.{DriverOf, IsAnswered, IsDriven, IsInOrder}}
use Rattle.sci_drive.specs.Rounds.{IsDrivenRound, HasDone, HasPerformed, performed, turn_of}
use Rattle.sci_drive.proofs.{Drives.{tells, turns}, GateCalls.{done_call, no_calls}, InOrder.{tells_in_order, turns_in_order}}
use Rattle.sci_drive.proofs.{DriverRounds.{goes, has_performed}, driver.Driver.round.Goals.{After-turn}}
use Rattle.sci_drive.proofs.driver.Driver.round.Goals as goal

-- what the turn leaves, and what the round is then
driven : (g : _) (c : After-turn g) → IsDriven c.perform-answered.new.self (g.W.Worker.node c.turn.new.self)
driven g c = turns c.perform-answered.new.self (g.W.Worker.node c.perform-answered.new.worker) (g.W.Worker.node c.turn.new.self) c.turn.ensures.work
    c.perform-answered.ensures.driven

ordered : (g : _) (c : After-turn g) → IsInOrder c.args.self.now (g.W.Worker.node c.args.worker.now)
    → IsInOrder c.perform-answered.new.self (g.W.Worker.node c.turn.new.self)
ordered g c was = turns_in_order c.perform-answered.new.self (g.W.Worker.node c.perform-answered.new.worker) (g.W.Worker.node c.turn.new.self)
    c.turn.ensures.work (c.perform-answered.ensures.order (c.submit.ensures.order was))

-- the deeds before the turn
abbrev before : (g : _) (c : After-turn g) → List Deed
before g c = c.submit.ensures.submits.1 ++ map performed c.perform-answered.ensures.performed.0

-- what performing leaves of the driver
left : (g : _) (c : After-turn g) (done : Bool)
    → HasPerformed c.submit.new.self (record c.perform-answered.new.self { was_done = done }) c.perform-answered.ensures.performed.0
left g c done =
    let performs = c.perform-answered.ensures in
    let is = has_performed c.submit.new.self c.perform-answered.new.self (g.W.Worker.node c.submit.new.worker)
    (g.W.Worker.node c.perform-answered.new.worker) performs.performed.0 c.submit.ensures.driven performs.driven performs.performed.1 performs.script
    performs.issuing in
    record { script = is.script; issuing = is.issuing; next = is.next; fewer = is.fewer }

gone : (g : _) (c : After-turn g) (later : g.row.G.Denot) (done : Bool) (result : Result Round AllocError)
    → IfOk result (λ round. IsNodeTurn (g.W.Worker.node c.perform-answered.new.worker) (g.W.Worker.node c.turn.new.self) round.progress)
    → HasHeard g.G.Gate.hears c.perform-answered.new.gate later c.perform-answered.new.self (record c.perform-answered.new.self { was_done = done })
    (g.W.Worker.node c.perform-answered.new.worker) (g.W.Worker.node c.turn.new.self) (end_told c.perform-answered.new.self.was_done done)
    → IfOk result (λ round. (done ≡ true) ↔ IsAnswered c.perform-answered.new.self)
    → (IsErr result → done ≡ c.perform-answered.new.self.was_done)
    → IsDrivenRound g.G.Gate.hears (before g c ++ turn_of result) c.args.gate.now later c.args.self.now (record c.perform-answered.new.self { was_done = done })
    (g.W.Worker.node c.args.worker.now) (g.W.Worker.node c.turn.new.self) result
gone g c later done result turn ending answered stopped =
    let submits = c.submit.ensures.submits in
    let performs = c.perform-answered.ensures.performed in
    let driver = c.perform-answered.new.self in
    let as_before : driver.was_done ≡ c.args.self.now.was_done = c.perform-answered.ensures.told ∙ c.submit.ensures.told in
    goes g.G.Gate.hears g.met.G.Gate.hears_on c.args.gate.now c.submit.new.gate c.perform-answered.new.gate later c.args.self.now c.submit.new.self driver
    (record driver { was_done = done }) (g.W.Worker.node c.args.worker.now) (g.W.Worker.node c.submit.new.worker)
    (g.W.Worker.node c.perform-answered.new.worker) (g.W.Worker.node c.turn.new.self) result submits.0 submits.1 performs.0 submits.2 submits.3 performs.1
    performs.2 (left g c done) c.perform-answered.ensures.tried c.turn.ensures.work turn
    (subst (λ (was : Bool). HasHeard g.G.Gate.hears c.perform-answered.new.gate later driver (record driver { was_done = done })
    (g.W.Worker.node c.perform-answered.new.worker) (g.W.Worker.node c.turn.new.self) (end_told was done)) as_before ending)
    answered (λ err. stopped err ∙ as_before)

-- and the worker has done them, and a turn
did : (g : _) (c : After-turn g) (progress : Progress) → g.W.Worker.does c.perform-answered.new.worker (Turns progress ∷ []) c.turn.new.self
    → g.W.Worker.does c.args.worker.now (before g c ++ Turns progress ∷ []) c.turn.new.self
did g c progress turn = g.met.W.Worker.does_on c.args.worker.now c.perform-answered.new.worker c.turn.new.self (before g c) (Turns progress ∷ [])
    (g.met.W.Worker.does_on c.args.worker.now c.submit.new.worker c.perform-answered.new.worker c.submit.ensures.submits.1
    (map performed c.perform-answered.ensures.performed.0) c.submit.ensures.submits.4 c.perform-answered.ensures.performed.3) turn

-- the gate isn't told anything behind the turn
no_end : (done : Bool) → end_told done done ≡ []
no_end true = refl
no_end false = refl

quiet : (g : _) (c : After-turn g) → HasHeard g.G.Gate.hears c.perform-answered.new.gate c.perform-answered.new.gate c.perform-answered.new.self
    c.perform-answered.new.self (g.W.Worker.node c.perform-answered.new.worker) (g.W.Worker.node c.turn.new.self)
    (end_told c.perform-answered.new.self.was_done c.perform-answered.new.self.was_done)
quiet g c = grind (arith, no_end, no_calls)

pub returns-in_err-progress-clause-driven : goal.returns-in_err-progress-clause-driven
returns-in_err-progress-clause-driven g c = driven g (goal.at.returns-in_err-progress-clause-driven g c).After-turn

-- a turn that was refused
has_stopped : {W E : Type 0} (does : W → List Deed → W → Type 0) (stopped : W → W → Type 0) (deeds : List Deed) (x y z : W) (result : Result Round E)
    → IsErr result → does x (deeds ++ []) y → stopped y z → HasDone does stopped (deeds ++ turn_of result) x z result
has_stopped does stopped deeds x y z (Ok round) err did stop = absurd (cc)
has_stopped does stopped deeds x y z (Err refused) err did stop = (y, did, stop)

pub returns-in_err-progress-clause-goes : goal.returns-in_err-progress-clause-goes
returns-in_err-progress-clause-goes g c =
    let at = (goal.at.returns-in_err-progress-clause-goes g c).After-turn in
    let deeds = before g at in
    let did : g.W.Worker.does c.args.worker.now deeds at.perform-answered.new.worker =
    g.met.W.Worker.does_on c.args.worker.now at.submit.new.worker at.perform-answered.new.worker at.submit.ensures.submits.1
    (map performed at.perform-answered.ensures.performed.0) at.submit.ensures.submits.4 at.perform-answered.ensures.performed.3 in (
      deeds ++ turn_of c.from_residual.result,
      gone g at at.perform-answered.new.gate at.perform-answered.new.self.was_done c.from_residual.result (search rules) (quiet g at) (search rules)
          (λ err. refl),
      has_stopped g.W.Worker.does g.W.Worker.stopped deeds c.args.worker.now at.perform-answered.new.worker at.turn.new.self c.from_residual.result
          (search rules) (subst (λ (ds : List Deed). g.W.Worker.does c.args.worker.now ds at.perform-answered.new.worker) (sym (append-nil deeds)) did)
          (at.turn.ensures.stopped (search rules)),
    )

pub returns-then-not-self-clause-driven : goal.returns-then-not-self-clause-driven
returns-then-not-self-clause-driven g c = grind (arith, tells, driven)

pub returns-then-not-self-clause-order : goal.returns-then-not-self-clause-order
returns-then-not-self-clause-order g c = grind (arith, tells_in_order, ordered)

pub returns-then-not-self-clause-goes : goal.returns-then-not-self-clause-goes
returns-then-not-self-clause-goes g c =
    let at = (goal.at.returns-then-not-self-clause-goes g c).After-turn in
    let start = g.W.Worker.node c.args.worker.now in
    let node = g.W.Worker.node c.turn.new.self in
    let was : DriverOf = c.perform-answered.new.self in
    let not_yet : was.was_done ≡ false = sym (ap (λ (d : DriverOf). d.was_done) c.self.view_is) ∙ c.if-not-self.true in
    let result : Result Round AllocError = Ok (record { answered = c.perform-answered.result; progress = c.in_ok-progress.progress }) in
    let deeds = before g at ++ turn_of result in
    let old = g.W.Worker.node c.perform-answered.new.worker in
    let ending : HasHeard g.G.Gate.hears c.perform-answered.new.gate c.done.new.self was (record was { was_done = true }) old node
    (end_told was.was_done true) =
    subst (λ (done : Bool). HasHeard g.G.Gate.hears c.perform-answered.new.gate c.done.new.self was (record was { was_done = true }) old node
    (end_told done true)) (sym not_yet) (c.done.ensures, done_call was (record was { was_done = true }) old node refl not_yet refl c.turn.ensures.work.log)
    in (
      deeds,
      subst (λ (d : DriverOf).
          IsDrivenRound g.G.Gate.hears deeds c.args.gate.now c.done.new.self c.args.self.now (record d { was_done = true }) start node result)
          (sym c.self.view_is)
          (gone g at c.done.new.self true result c.in_ok-progress.ensures.turn ending (λ _. c.is_answered.ensures.0 cc, λ _. refl)
          (λ err. absurd (cc))),
      did g at c.in_ok-progress.progress c.in_ok-progress.ensures.does,
    )

pub returns-else-is_answered-clause-driven : goal.returns-else-is_answered-clause-driven
returns-else-is_answered-clause-driven g c = driven g (goal.at.returns-else-is_answered-clause-driven g c).After-turn

pub returns-else-is_answered-clause-order : goal.returns-else-is_answered-clause-order
returns-else-is_answered-clause-order g c = ordered g (goal.at.returns-else-is_answered-clause-order g c).After-turn

pub returns-else-is_answered-clause-goes : goal.returns-else-is_answered-clause-goes
returns-else-is_answered-clause-goes g c =
    let at = (goal.at.returns-else-is_answered-clause-goes g c).After-turn in (
      before g at ++ Turns c.in_ok-progress.progress ∷ [],
      gone g at at.perform-answered.new.gate at.perform-answered.new.self.was_done _ c.in_ok-progress.ensures.turn (quiet g at) (search rules) (λ err. refl),
      did g at c.in_ok-progress.progress c.in_ok-progress.ensures.does,
    )
