use Rattle.sci_threads.specs.Shares.{IsLaterShare, IsWell}
use Rattle.sci_threads.proofs.share.Share.run.Given as goal

abbrev pub invariant-loop-look : goal.invariant-loop-look
invariant-loop-look g l = IsWell l.self.driver l.self.station.end l.self.finished × IsLaterShare g.G.Gate.hears l.fn.self l.self
