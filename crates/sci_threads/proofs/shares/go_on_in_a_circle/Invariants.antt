use Rattle.std.proofs.Common.{◌-◌, All}
use Rattle.sci_threads.specs.Shares.{AllGoOn, AreWell, HasAtMost}
use Rattle.sci_threads.proofs.shares.go_on_in_a_circle.Given as goal

abbrev pub invariant-loop-round : goal.invariant-loop-round
invariant-loop-round g l = AreWell l.shares × AllGoOn g.G.Gate.hears l.fn.shares l.shares × All (HasAtMost (l.turns - l._round)) l.shares
