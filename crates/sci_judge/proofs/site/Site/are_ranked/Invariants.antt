use Rattle.std.proofs.Common.{◌<◌, ℕ}
use Rattle.sci_judge.specs.Forced.{IsRanked}
use Rattle.sci_judge.proofs.site.Site.are_ranked.Given as goal

-- the makers so far are ranked
abbrev pub invariant-loop-index : goal.invariant-loop-index
invariant-loop-index l = (index : ℕ) → index < l.index → IsRanked l.self.timed l.self.accesses.now l.self.last l.versions l.makers index
