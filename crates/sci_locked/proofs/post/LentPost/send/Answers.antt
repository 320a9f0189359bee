use Rattle.std.proofs.Common.{◌<◌, ℕ, length, refl, subst, arith}
use Rattle.sci_cache.specs.Cache.{letter_of}
use Rattle.sci_core.specs.Core.{lane_of}
use Rattle.sci_locked.proofs.Lanes.{alone_sends, room_sent}
use Rattle.sci_locked.proofs.post.LentPost.send.Goals as goal

pub returns-clause-sent : goal.returns-clause-sent
returns-clause-sent c = λ _.
    let lent = c.args.self.now in
    alone_sends lent.node lent.machine.now c.make.new.self c.args.event.now c.requires.own c.in_ok-make.ensures.ok c.make.ensures.size

pub returns-clause-stays : goal.returns-clause-stays
returns-clause-stays c =
    let lent = c.args.self.now in
    let may = c.requires in
    let few : length (lane_of lent.machine.now c.args.kind lent.node (letter_of c.args.packet.now).target) < 4 =
    subst (λ (t : ℕ). length (lane_of lent.machine.now c.args.kind lent.node t) < 4) c.get-to.ensures.number (let long = c.count.ensures in
    let cells = c.from.ensures in let test = c.if-count-from.false in omega arith)
    in (
      refl,
      room_sent lent.machine.now c.make.new.self lent.node c.args.kind may.next (letter_of c.args.packet.now) c.args.event.now lent.some may.own
          may.side_is c.in_ok-make.ensures.ok few,
    )
