use Rattle.sci_station.proofs.Remembering.{remembers_issued}
use Rattle.sci_station.proofs.post.StationPost.issue.Goals as goal

pub invariant_of-self : goal.invariant_of-self
invariant_of-self c =
    let s = c.self.inside in
    remembers_issued s.end c.issue.new.self s.unanswered s.kept c.args.op c.issue.result c.self.invariant c.issue.ensures.shown c.issue.ensures.same
    c.issue.ensures.issued c.issue.ensures.unchanged
