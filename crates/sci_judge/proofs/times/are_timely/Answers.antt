use Rattle.std.proofs.Common.{sym, subst}
use Rattle.sci_judge.specs.{Times.{HasEnds}}
use Rattle.sci_judge.proofs.{Once.{no_access}, Timely.{timely_all, timely_more, timely_past}}
use Rattle.sci_judge.proofs.times.are_timely.Goals.{then-place-versions+else-not-is_behind, else-place-versions}
use Rattle.sci_judge.proofs.times.are_timely.Goals as goal

pub loop-place-preserved : goal.loop-place-preserved
loop-place-preserved c = elim c.if-place-versions.branch [
  | then-place-versions+else-not-is_behind w ↦
      let ends = w.deref-then-place-versions.result.now in
      let has = subst (HasEnds c.args.accesses.now c.args.versions.now) (sym w.deref-then-place-versions.ensures.value) c.in_ok-sorted.ensures.ends in
      timely_more c.args.accesses.now c.args.versions.now ends c.loop-place.place no_access has w.if-place-versions.true w.if-not-is_behind.ensures
      c.loop-place.invariant
  | else-place-versions w ↦
      timely_past c.args.accesses.now c.args.versions.now c.loop-place.place w.if-place-versions.false c.loop-place.invariant
]

pub returns : goal.returns
returns c = λ _. timely_all c.args.accesses.now c.args.versions.now c.loop-place.place c.loop-place-test.false c.loop-place.invariant
