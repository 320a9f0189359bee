-- The packets so far were taken or left.
use Rattle.std.proofs.Common.{◌≡◌, ◌≤◌, ◌+◌, length}
use Rattle.sci_c.specs.Turning.{TakesAt, UpTo, stage}
use Rattle.sci_c.proofs.turning.take_all.Given as goal

abbrev pub invariant-loop-i : goal.invariant-loop-i
invariant-loop-i l = record {
  takes : UpTo (TakesAt l.fn.came) l.i (stage l.initial.controller l.initial.taken l.initial.room l.initial.used) (stage l.controller l.taken l.room l.used);
  marks : length l.taken ≡ length l.initial.taken;
  few : l.used ≤ l.initial.used + l.i;
  size : length l.room ≡ length l.initial.room;
}
