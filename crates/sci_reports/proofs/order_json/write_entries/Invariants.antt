use Rattle.std.proofs.Common.{take}
use Rattle.std.specs.List.{flat_map}
use Rattle.sci_history.specs.Audit.{entries_of}
use Rattle.sci_json.specs.Members.{Adds}
use Rattle.sci_reports.specs.OrderJson.{entry_object}
use Rattle.sci_reports.proofs.order_json.write_entries.Given as goal

-- the entries so far
abbrev pub invariant-loop-entry : goal.invariant-loop-entry
invariant-loop-entry l = Adds l.fn.out l.out (flat_map entry_object (entries_of (take l.entry-index l.order)))
