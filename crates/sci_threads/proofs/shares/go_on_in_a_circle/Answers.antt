use Rattle.std.proofs.Common.{◌+◌, ◌-◌, arith}
use Rattle.sci_threads.proofs.Going.{all_ended, all_fewer, all_on, all_stay}
use Rattle.sci_threads.proofs.shares.go_on_in_a_circle.Goals as goal

pub loop-round-init : goal.loop-round-init
loop-round-init g c = grind (arith, all_stay)

pub go_round-requires : goal.go_round-requires
go_round-requires g c = record { well = c.loop-round.invariant.0 }

pub returns-then-not-go_round-clause-gone : goal.returns-then-not-go_round-clause-gone
returns-then-not-go_round-clause-gone g c =
    all_on g.G.Gate.hears g.met.G.Gate.hears_nothing g.met.G.Gate.hears_on c.args.shares.now c.loop-round.shares c.go_round.new.shares
    c.loop-round.auto.shares c.loop-round.invariant.1 c.go_round.ensures.gone

pub loop-round-preserved : goal.loop-round-preserved
loop-round-preserved g c =
    let test = c.loop-round-test.true in (
      c.go_round.ensures.well,
      all_on g.G.Gate.hears g.met.G.Gate.hears_nothing g.met.G.Gate.hears_on c.args.shares.now c.loop-round.shares c.go_round.new.shares
          c.loop-round.auto.shares c.loop-round.invariant.1 c.go_round.ensures.gone,
      all_fewer g.G.Gate.hears (c.args.turns - c.loop-round._round) (c.args.turns - (c.loop-round._round + 1)) c.loop-round.shares c.go_round.new.shares
          (omega arith) c.go_round.auto.shares c.go_round.ensures.gone c.go_round.ensures.fewer c.loop-round.invariant.2,
    )

pub returns-clause-well : goal.returns-clause-well
returns-clause-well g c = c.loop-round.invariant.0

pub returns-clause-gone : goal.returns-clause-gone
returns-clause-gone g c = c.loop-round.invariant.1

pub returns-clause-ended : goal.returns-clause-ended
returns-clause-ended g c = grind (arith, all_ended)
