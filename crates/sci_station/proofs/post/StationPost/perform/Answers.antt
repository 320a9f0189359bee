use Rattle.sci_station.proofs.Remembering.{remembers_performed}
use Rattle.sci_station.proofs.post.StationPost.perform.Goals as goal

pub invariant_of-self : goal.invariant_of-self
invariant_of-self c =
    let s = c.self.inside in
    remembers_performed s.end c.perform.new.self s.unanswered s.kept c.args.line c.perform.result c.self.invariant c.perform.ensures.shown
    c.perform.ensures.same c.perform.ensures.performed c.perform.ensures.unchanged
