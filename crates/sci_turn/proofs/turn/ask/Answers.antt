use Rattle.std.proofs.Common.{ap, sym, subst, ◌∙◌}
use Rattle.sci_cache.specs.Cache.{letter_of}
use Rattle.sci_core.specs.{declared.lane.LaneKind.TheVariants.{Requests}, Node.{NodeOf, node_asking}}
use Rattle.sci_turn.specs.Posts.{MaySend}
use Rattle.sci_turn.proofs.AtPosts.{may_ask}
use Rattle.sci_words.specs.declared.event.Event.TheVariants as event
use Rattle.sci_turn.proofs.turn.ask.Goals as goal

pub send-requires : goal.send-requires
send-requires g c =
    let post = g.P.Post.post c.args.post.now in
    let asked = c.in-Some.ensures.asked in
    let asks = ap (λ (m : NodeOf). node_asking m c.args.line c.args.kind) (sym c.node.ensures.node) ∙ asked.1 in
    subst (λ n. MaySend post Requests (letter_of c.in-Some.request) (event.Ask n c.args.line c.args.kind)) (sym c.me.ensures)
    (may_ask post c.args.line c.args.kind asked.0 (letter_of c.in-Some.request) c.node.ensures.post asks)
