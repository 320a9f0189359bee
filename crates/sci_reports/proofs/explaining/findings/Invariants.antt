use Rattle.std.proofs.Common.{◌≡◌, ◌≤◌, ◌<◌, ℕ, [], get_or, length, take}
use Rattle.sci_reports.specs.{EntryLines.{numbered_lists, numbered_on}, Finding.{AreFindings}}
use Rattle.sci_reports.proofs.explaining.findings.Given as goal

-- what is found on the lines so far, and the lists of entries that are left
abbrev pub invariant-loop-line : goal.invariant-loop-line
invariant-loop-line l = record {
  found : AreFindings l.log.before l.log.logs l.log.last.value 0 (take l.line l.faults) l.findings.items;
  lines : length l.lists.items ≡ length l.log.last.value;
  left : (other : ℕ) → l.line ≤ other → other < length l.log.last.value
      → get_or (numbered_lists l.lists.items) other [] ≡ numbered_on other l.log.before l.log.logs;
}
