use Rattle.std.proofs.Common.{◌≡◌, ℕ, take}
use Rattle.sci_reports.specs.{EntryLines.{entries_in}, Faulty.{is_made_by, is_one_of}}
use Rattle.sci_reports.proofs.faulty.versions_made.Given as goal

-- the versions of the makers so far
abbrev pub invariant-loop-at : goal.invariant-loop-at
invariant-loop-at l = (version : ℕ) → is_one_of l.versions.items version ≡ is_made_by (take l.at-index (entries_in l.entries)) version
