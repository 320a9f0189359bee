use Rattle.std.proofs.Common.{◌≡◌, ◌*◌, ◌≤◌, take}
use Rattle.sci_words.specs.declared.limits.TheConstants.{MAX_OPERATIONS}
use Rattle.sci_text.specs.LogValue.{entry_count}
use Rattle.sci_reports.proofs.numbered.entries_before.Given as goal

-- the entries of the nodes so far
abbrev pub invariant-loop-lower : goal.invariant-loop-lower
invariant-loop-lower l = record {
  counted : l.count ≡ entry_count (take l.lower l.logs);
  few : l.count ≤ l.lower * MAX_OPERATIONS;
}
