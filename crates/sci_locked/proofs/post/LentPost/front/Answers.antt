use Rattle.std.proofs.Common.{sym}
use Rattle.sci_cache.specs.Cache.{letter_of}
use Rattle.sci_core.specs.Core.{lane_of}
use Rattle.sci_locked.proofs.Lanes.{front_of}
use Rattle.sci_turn.proofs.Idling.{no_front}
use Rattle.sci_locked.proofs.post.LentPost.front.Goals as goal

pub unreachable-requires : goal.unreachable-requires
unreachable-requires c = c.requires.sees
    (no_front (lane_of c.args.self.now.machine.now c.args.kind c.args.from c.args.self.now.node) (sym c.in-None.ensures.front))

pub returns : goal.returns
returns c = front_of (lane_of c.args.self.now.machine.now c.args.kind c.args.from c.args.self.now.node) (letter_of c.in-Some.packet.now)
    (sym c.in-Some.ensures.front)
