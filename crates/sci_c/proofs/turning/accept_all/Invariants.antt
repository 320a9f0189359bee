-- The packets so far were accepted or left.
use Rattle.std.proofs.Common.{◌≡◌, ℕ, List, length}
use Rattle.sci_c_values.specs.declared.packet.SciPacket.{SciPacket}
use Rattle.sci_c.specs.Turning.{AcceptsAt, UpTo, stage}
use Rattle.sci_c.proofs.turning.accept_all.Given as goal

abbrev pub invariant-loop-i : goal.invariant-loop-i
invariant-loop-i l = record {
  accepts : (room : List SciPacket) (used : ℕ)
      → UpTo (AcceptsAt l.fn.came) l.i (stage l.initial.controller l.initial.taken room used) (stage l.controller l.taken room used);
  marks : length l.taken ≡ length l.initial.taken;
}
