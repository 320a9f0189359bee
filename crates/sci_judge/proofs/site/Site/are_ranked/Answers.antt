use Rattle.sci_judge.specs.Forced.{IsRanked}
use Rattle.sci_judge.proofs.ForcedChecks.{ranked_more}
use Rattle.sci_judge.proofs.site.Site.are_ranked.Goals as goal

pub loop-index-preserved : goal.loop-index-preserved
loop-index-preserved c =
    let s = c.args.self.now in
    ranked_more (IsRanked s.timed s.accesses.now s.last c.args.versions.now c.args.makers.now) c.loop-index.index
    (c.is_ranked.ensures c.if-not-is_ranked.false) c.loop-index.invariant
