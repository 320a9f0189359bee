use Rattle.std.proofs.Common.{refl}
use Rattle.sci_locked.proofs.Lanes.{alone_takes, room_taken}
use Rattle.sci_locked.proofs.post.LentPost.take.Goals as goal

pub returns-clause-taken : goal.returns-clause-taken
returns-clause-taken c = λ letter front.
    let lent = c.args.self.now in
    alone_takes lent.node lent.machine.now c.make.new.self c.args._kind c.args._from letter c.args.event.now c.requires.may front c.in_ok-make.ensures.ok
    c.make.ensures.size

pub returns-clause-stays : goal.returns-clause-stays
returns-clause-stays c =
    let lent = c.args.self.now in
    let may = c.requires.may.1 in (
      refl,
      room_taken lent.machine.now c.make.new.self lent.node c.args._from c.args._kind may.taking c.args.event.now lent.some may.own may.side_is
          c.in_ok-make.ensures.ok,
    )
