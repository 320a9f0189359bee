use Rattle.sci_threads.proofs.Going.{stays, then_on}
use Rattle.sci_threads.proofs.share.Share.run.Goals as goal

pub loop-look-init : goal.loop-look-init
loop-look-init g c = (c.requires.well, stays g.G.Gate.hears g.met.G.Gate.hears_nothing g.met.G.Gate.hears_on c.args.self.now)

pub go_on-requires : goal.go_on-requires
go_on-requires g c = record { well = c.loop-look.invariant.0 }

pub returns-then-has_ended-clause-gone : goal.returns-then-has_ended-clause-gone
returns-then-has_ended-clause-gone g c =
    then_on g.G.Gate.hears g.met.G.Gate.hears_nothing g.met.G.Gate.hears_on c.args.self.now c.loop-look.self c.go_on.new.self
    c.loop-look.invariant.1 c.go_on.ensures.gone

pub returns-then-not-all_begun-clause-gone : goal.returns-then-not-all_begun-clause-gone
returns-then-not-all_begun-clause-gone g c =
    then_on g.G.Gate.hears g.met.G.Gate.hears_nothing g.met.G.Gate.hears_on c.args.self.now c.loop-look.self c.go_on.new.self
    c.loop-look.invariant.1 c.go_on.ensures.gone

pub loop-look-preserved : goal.loop-look-preserved
loop-look-preserved g c = (
  c.go_on.ensures.well,
  then_on g.G.Gate.hears g.met.G.Gate.hears_nothing g.met.G.Gate.hears_on c.args.self.now c.loop-look.self c.go_on.new.self
      c.loop-look.invariant.1 c.go_on.ensures.gone,
)

pub returns-clause-well : goal.returns-clause-well
returns-clause-well g c = c.loop-look.invariant.0

pub returns-clause-gone : goal.returns-clause-gone
returns-clause-gone g c = c.loop-look.invariant.1
