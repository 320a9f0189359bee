use Rattle.std.proofs.Common.{Bool, true, false, arith}
use Rattle.std.specs.Bool.{OnTrue}
use Rattle.sci_judge.proofs.Timely.{behind_most}
use Rattle.sci_judge.proofs.times.is_behind.Goals as goal

on_true : (b : Bool) (P Q : Type 0) → (P → Q) → OnTrue b P → OnTrue b Q
on_true true P Q f h = f h
on_true false P Q f h = h

pub returns : goal.returns
returns c = grind (arith, on_true, behind_most)
