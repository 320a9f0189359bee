-- Round after round, with what is asked and the rests between them.
use Rattle.std.proofs.Common.{◌+◌, ◌++◌, true, false, arith, ◌∙◌, rules}
use Rattle.sci_drive.specs.Resting.{in_a_row, is_rest_due}
use Rattle.sci_drive.proofs.GateRests.{after_asked, after_rest, after_round, ended, gone_on, has_not_gone, row_is_short}
use Rattle.sci_drive.proofs.DriverRounds.{behind_last, behind_round, one_round_more}
use Rattle.sci_drive.proofs.driver.Driver.go_on.Goals as goal

pub loop-turn-init : goal.loop-turn-init
loop-turn-init g c = grind (arith, has_not_gone)

pub returns-in_err-round-clause-calls : goal.returns-in_err-round-clause-calls
returns-in_err-round-clause-calls g c =
    let start = g.W.Worker.node c.args.worker.now in
    let before = g.W.Worker.node c.loop-turn.worker in
    let node = g.W.Worker.node c.round.new.worker in
    let heard = c.round.ensures.goes.1.heard in
    let all = gone_on g.G.Gate.hears g.met.G.Gate.hears_nothing g.met.G.Gate.hears_on c.args.gate.now c.loop-turn.gate c.round.new.gate c.args.self.now
    c.loop-turn.self c.round.new.self start before node c.loop-turn.turn c.loop-turn.restless heard.calls c.loop-turn.invariant.gone heard.heard
    heard.are in
    (all.calls, all.heard, all.are, search rules)

pub returns-then-is_over-clause-calls : goal.returns-then-is_over-clause-calls
returns-then-is_over-clause-calls g c =
    let start = g.W.Worker.node c.args.worker.now in
    let before = g.W.Worker.node c.loop-turn.worker in
    let node = g.W.Worker.node c.round.new.worker in
    let round = c.in_ok-round.round in
    let few = c.loop-turn.invariant.few in
    let gone = after_round g.G.Gate.hears g.met.G.Gate.hears_nothing g.met.G.Gate.hears_on c.args.gate.now c.loop-turn.gate c.round.new.gate c.args.self.now
    c.loop-turn.self c.round.new.self start before node c.loop-turn.turn c.loop-turn.restless round few c.loop-turn.invariant.gone
    c.round.ensures.goes.1.heard c.in_ok-round.ensures.answered in
    let whole = ended g.G.Gate.hears g.met.G.Gate.hears_nothing g.met.G.Gate.hears_on c.args.gate.now c.round.new.gate c.is_over.new.gate c.args.self.now
    c.round.new.self start node (c.loop-turn.turn + 1) (in_a_row round c.loop-turn.restless) c.is_over.result (row_is_short round c.loop-turn.restless few)
    gone c.is_over.ensures.asked c.if-is_over.true in
    (whole.0, whole.1, whole.2, (λ _. whole.3, whole.4))

pub loop-turn-preserved : goal.loop-turn-preserved
loop-turn-preserved g c =
    let was = c.loop-turn.invariant in
    let start = g.W.Worker.node c.args.worker.now in
    let before = g.W.Worker.node c.loop-turn.worker in
    let node = g.W.Worker.node c.round.new.worker in
    let self = c.round.new.self in
    let hears = g.G.Gate.hears in
    let nothing = g.met.G.Gate.hears_nothing in
    let on = g.met.G.Gate.hears_on in
    let round = c.in_ok-round.round in
    let first = c.args.gate.now in
    let row = in_a_row round c.loop-turn.restless in
    let gone = after_round hears nothing on first c.loop-turn.gate c.round.new.gate c.args.self.now c.loop-turn.self self start before node c.loop-turn.turn
    c.loop-turn.restless round was.few was.gone c.round.ensures.goes.1.heard c.in_ok-round.ensures.answered in
    let asked = after_asked hears nothing on first c.round.new.gate c.is_over.new.gate c.args.self.now self start node (c.loop-turn.turn + 1) row
    c.is_over.result gone c.is_over.ensures.asked in
    let few = c.rest_if_due-restless.ensures.few in
    let last = behind_round hears nothing on self c.round.new.gate c.is_over.new.gate c.rest_if_due-restless.new.gate c.is_over.result round
    c.loop-turn.restless c.rest_if_due-restless.result c.if-is_over.false c.is_over.ensures.asked c.rest_if_due-restless.ensures.rests
    c.rest_if_due-restless.ensures.goes_on in
    record {
      driven = c.round.ensures.driven;
      script = c.round.ensures.script ∙ was.script;
      issuing = c.round.ensures.issuing ∙ was.issuing;
      stays = g.met.W.Worker.stays_through c.args.worker.now c.loop-turn.worker c.round.new.worker was.stays c.round.ensures.stays;
      few = omega arith;
      order = λ first. c.round.ensures.order (was.order first);
      gone = after_rest hears nothing on first c.is_over.new.gate c.rest_if_due-restless.new.gate c.args.self.now self start node (c.loop-turn.turn + 1) row
          c.rest_if_due-restless.result (is_rest_due round c.loop-turn.restless) (row_is_short round c.loop-turn.restless was.few) asked
          c.rest_if_due-restless.ensures.rests c.rest_if_due-restless.ensures.goes_on;
      rounds = (
        was.rounds.0 ++ c.in_ok-round.ensures.goes.0,
        g.met.W.Worker.does_on c.args.worker.now c.loop-turn.worker c.round.new.worker was.rounds.0 c.in_ok-round.ensures.goes.0 was.rounds.1
            c.in_ok-round.ensures.goes.2,
        one_round_more hears nothing on first c.loop-turn.gate c.round.new.gate c.rest_if_due-restless.new.gate c.args.self.now c.loop-turn.self self
            start before node c.loop-turn.turn c.loop-turn.restless c.rest_if_due-restless.result round false was.rounds.0 c.in_ok-round.ensures.goes.0
            was.rounds.2 c.in_ok-round.ensures.goes.1 last,
      );
    }

pub returns-then-is_over-clause-rounds : goal.returns-then-is_over-clause-rounds
returns-then-is_over-clause-rounds g c =
    let start = g.W.Worker.node c.args.worker.now in
    let before = g.W.Worker.node c.loop-turn.worker in
    let node = g.W.Worker.node c.round.new.worker in
    let hears = g.G.Gate.hears in
    let nothing = g.met.G.Gate.hears_nothing in
    let on = g.met.G.Gate.hears_on in
    let round = c.in_ok-round.round in
    let was = c.loop-turn.invariant.rounds in
    let goes = c.in_ok-round.ensures.goes in
    let row = in_a_row round c.loop-turn.restless in (
      row,
      was.0 ++ goes.0,
      g.met.W.Worker.does_on c.args.worker.now c.loop-turn.worker c.round.new.worker was.0 goes.0 was.1 goes.2,
      one_round_more hears nothing on c.args.gate.now c.loop-turn.gate c.round.new.gate c.is_over.new.gate c.args.self.now c.loop-turn.self c.round.new.self
          start before node c.loop-turn.turn c.loop-turn.restless row round true was.0 goes.0 was.2 goes.1
          (behind_last hears nothing on c.round.new.self c.round.new.gate c.is_over.new.gate c.is_over.result round c.loop-turn.restless c.if-is_over.true
          c.is_over.ensures.asked),
    )
