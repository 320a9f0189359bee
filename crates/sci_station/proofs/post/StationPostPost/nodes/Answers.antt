use Rattle.std.proofs.Common.{◌≡◌, ◌∙◌, subst}
use Rattle.sci_lanes.specs.Telling.{state_of}
use Rattle.sci_station.specs.Posts.{StationPostOf}
use Rattle.sci_station.proofs.Posts.{post_nodes}
use Rattle.sci_station.proofs.post.StationPostPost.nodes.Goals as goal

pub returns : goal.returns
returns c = subst (λ (p : StationPostOf). c.nodes.result ≡ (state_of p.end.part).size.nodes) c.self.view_is
    (c.nodes.ensures ∙ post_nodes c.self.inside.end c.self.invariant.shown)
