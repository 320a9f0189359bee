use Rattle.std.proofs.Common.{◌≡◌, ◌-◌, ◌<◌, ◌≤◌, false, length}
use Rattle.std.specs.Io.KnownBytes.{Consumes}
use Rattle.sci_words.specs.declared.limits.TheConstants.{MAX_INPUT_BYTES}
use Rattle.sci_text.specs.Tap.{tapped, has_failed, is_called_again}
use Rattle.sci_text.proofs.reading.read_input.Given as goal

-- what was read is what the reader had before
abbrev pub invariant-reads : goal.invariant-reads
invariant-reads g l = record {
  unfailed : has_failed l.reader ≡ false;
  again : is_called_again l.reader ≡ is_called_again l.fn.reader;
  taken : Consumes (g.R.Read.remaining (tapped l.fn.reader)) (g.R.Read.remaining (tapped l.reader)) l.input.items;
  block : 0 < length l.block.items;
  few : length l.input.items ≤ MAX_INPUT_BYTES;
}

abbrev pub decreases-reads : goal.decreases-reads
decreases-reads g l = MAX_INPUT_BYTES - length l.input.items
