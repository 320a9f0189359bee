use Rattle.sci_judge.proofs.Forced.{forced}
use Rattle.sci_judge.proofs.site.Site.are_forced_by.Goals as goal

pub returns : goal.returns
returns c = λ is.
    let s = c.args.self.now in
    forced s.timed s.accesses.now s.last c.args.versions.now c.args.makers.now c.requires (c.in_ok-once.ensures is)
    (c.are_ranked.ensures c.if-not-are_ranked.false) (c.are_held.ensures c.if-not-are_held.false)
