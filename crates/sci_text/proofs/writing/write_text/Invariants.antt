use Rattle.std.proofs.Common.{◌≡◌, ◌≤◌, ◌-◌, false, length, take}
use Rattle.std.specs.Io.KnownBytes.{Appends}
use Rattle.sci_text.specs.Tap.{has_failed, is_called_again, tapped}
use Rattle.sci_text.proofs.writing.write_text.Given as goal

-- what is written so far
abbrev pub invariant-writes : goal.invariant-writes
invariant-writes g l = record {
  within : l.written ≤ length l.text;
  unfailed : has_failed l.writer ≡ false;
  taken : Appends (g.W.Write.contents (tapped l.fn.writer)) (g.W.Write.contents (tapped l.writer)) (take l.written l.text);
  again : is_called_again l.writer ≡ is_called_again l.fn.writer;
}

abbrev pub decreases-writes : goal.decreases-writes
decreases-writes g l = length l.text - l.written
