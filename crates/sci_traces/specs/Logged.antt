-- The entry that an event has put at the end of a log.
use Rattle.std.specs.Prelude.{ℕ, ◌-◌, nat_lt, length, slice_get, Option, None, if◌then◌else◌}
use Rattle.sci_words.specs.declared.event.Event.{Event}
use Rattle.sci_history.specs.declared.entry.Entry.{Entry}
use Rattle.sci_core.specs.Core.{Core, node_at}
use Rattle.sci_words.specs.declared.event.Event.TheVariants as event

-- the last entry of a node's log
abbrev pub last_entry : Core → ℕ → Option Entry
last_entry core n = if nat_lt n core.size.nodes then slice_get (node_at core n).log (length (node_at core n).log - 1) else None

-- the entry that a Perform has put at the end of its node's log
abbrev pub entry_logged : Core → Event → Option Entry
entry_logged next (event.Perform n line) = last_entry next n
entry_logged next (event.Issue n op) = None
entry_logged next (event.Ask n line kind) = None
entry_logged next (event.Serve from n) = None
entry_logged next (event.Refuse from n) = None
entry_logged next (event.Reply n) = None
entry_logged next (event.Accept from n) = None
