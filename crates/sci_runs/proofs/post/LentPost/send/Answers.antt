use Rattle.std.proofs.Common.{◌<◌, ℕ, length, refl, subst, arith}
use Rattle.sci_cache.specs.Cache.{letter_of}
use Rattle.sci_core.specs.Core.{Core, lane_of}
use Rattle.sci_locked.proofs.Lanes.{room_sent}
use Rattle.sci_runs.specs.Recorded.{course_of}
use Rattle.sci_runs.proofs.{Posting.{adds_one, made_on}, Sparing.{spares_step}}
use Rattle.sci_runs.proofs.post.LentPost.send.Goals as goal

pub returns-clause-sent : goal.returns-clause-sent
returns-clause-sent c = λ _.
    let lent = c.args.self.now in
    made_on lent.node (course_of lent.recorder.now) (course_of c.happen.new.self) c.args.event.now c.requires.own c.in_ok-happen.ensures.done
    c.in_ok-happen.ensures.recorded c.happen.ensures.size

pub returns-clause-stays : goal.returns-clause-stays
returns-clause-stays c =
    let lent = c.args.self.now in
    let old = lent.recorder.now in
    let new = c.happen.new.self in
    let may = c.requires in
    let to = (letter_of c.args.packet.now).target in
    let long = c.count.ensures in
    let cells = c.from.ensures in
    let test = c.if-count-from.false in
    let few : length (lane_of old.core c.args.kind lent.node to) < 4 =
    subst (λ (core : Core). length (lane_of core c.args.kind lent.node to) < 4) c.machine-2.ensures
    (subst (λ (t : ℕ). length (lane_of c.machine-2.result.now c.args.kind lent.node t) < 4) c.get-to.ensures.number (omega (arith, long, cells, test)))
    in (
      refl,
      refl,
      spares_step lent.node old.core new.core c.args.event.now c.requires.own c.in_ok-happen.ensures.done c.happen.ensures.size,
      adds_one lent.node old.schedule.events new.schedule.events c.args.event.now c.requires.own c.in_ok-happen.ensures.recorded,
      c.happen.ensures.keeps,
      room_sent old.core new.core lent.node c.args.kind may.next (letter_of c.args.packet.now) c.args.event.now lent.some may.own may.side_is
          c.in_ok-happen.ensures.done few,
    )
