use Rattle.std.proofs.Common.{refl, ap}
use Rattle.sci_text.specs.Schedule.{ScheduleValue}
use Rattle.sci_locked.proofs.Lanes.{room_taken}
use Rattle.sci_runs.specs.Recorded.{course_of}
use Rattle.sci_runs.proofs.{Posting.{adds_either, room_either, takes_front}, Sparing.{spares_either}}
use Rattle.sci_runs.proofs.post.LentPost.take.Goals as goal

pub returns-clause-taken : goal.returns-clause-taken
returns-clause-taken c =
    let lent = c.args.self.now in
    takes_front c.happen.result lent.node (course_of lent.recorder.now) (course_of c.happen.new.self) c.args._kind c.args._from c.args.event.now c.requires.may
    c.happen.ensures.done c.happen.ensures.recorded c.happen.ensures.size

pub returns-clause-stays : goal.returns-clause-stays
returns-clause-stays c =
    let lent = c.args.self.now in
    let old = lent.recorder.now in
    let new = c.happen.new.self in (
      refl,
      refl,
      spares_either c.happen.result lent.node old.core new.core c.args.event.now c.requires.may.1.own c.happen.ensures.done
          (λ is. (c.happen.ensures.same is).0) c.happen.ensures.size,
      adds_either c.happen.result lent.node old.schedule.events new.schedule.events c.args.event.now c.requires.may.1.own c.happen.ensures.recorded
          (λ is. ap (λ (s : ScheduleValue). s.events) (c.happen.ensures.same is).1),
      c.happen.ensures.keeps,
      room_either c.happen.result old.core new.core c.args.event.now
          (λ steps. room_taken old.core new.core lent.node c.args._from c.args._kind c.requires.may.1.taking c.args.event.now lent.some c.requires.may.1.own
          c.requires.may.1.side_is steps)
          (λ is. (c.happen.ensures.same is).0) c.happen.ensures.done,
    )
