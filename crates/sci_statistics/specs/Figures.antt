-- The figures of a schedule: each is a count of passages that meet a test, or a sum over passages.
use Rattle.std.specs.Prelude.{ℕ, ◌-◌, true, false, not, List, filter, count_by, length}
use Rattle.sci_packets.specs.declared.command.Command.TheVariants.{Cread, Claim, Clear, Purge, Roll, Wback, Cdata, Purged, Rolled, Wbok}
use Rattle.sci_statistics.specs.declared.kind.Access.TheVariants.{Load, Maker}
use Rattle.sci_words.specs.declared.event.EventKind.{EventKind}
use Rattle.sci_words.specs.declared.event.EventKind.TheVariants.{Issue, Perform, Ask, Serve, Refuse, Reply, Accept}
use Rattle.sci_statistics.specs.declared.{levels.Level.TheVariants.{Members}, passage.Passage.{Passage}}
use Rattle.sci_statistics.specs.declared.event_figures.{Tally.{Tally}, EventFigures.{EventFigures}}
use Rattle.sci_statistics.specs.declared.line_figures.LineFigures.{LineFigures}
use Rattle.sci_statistics.specs.{declared.node_figures.NodeFigures.{NodeFigures}, Levels.{level_figures}}
use Rattle.sci_statistics.specs.Measures.{comes, enters, has_made, has_sent, is_at, is_on, serves}

-- ---- events

-- how many events of a kind were enabled, and how many were not
abbrev pub tally_of : EventKind → List Passage → Tally
tally_of kind passages = record { enabled = count_by (comes kind true) passages; not_enabled = count_by (comes kind false) passages }

unfoldable pub event_figures : List Passage → EventFigures
event_figures passages = record {
  all = record { enabled = count_by (λ p. p.enabled) passages; not_enabled = count_by (λ p. not p.enabled) passages };
  issue = tally_of Issue passages;
  perform = tally_of Perform passages;
  ask = tally_of Ask passages;
  serve = tally_of Serve passages;
  refuse = tally_of Refuse passages;
  reply = tally_of Reply passages;
  accept = tally_of Accept passages;
}

-- ---- nodes

-- the events of a node
abbrev pub at_node : ℕ → List Passage → List Passage
at_node n passages = filter (is_at n) passages

-- of the events of one node
unfoldable pub node_figures : List Passage → NodeFigures
node_figures passages = record {
  issued = count_by (comes Issue true) passages;
  performed = count_by (comes Perform true) passages;
  pending = count_by (comes Issue true) passages - count_by (comes Perform true) passages;
  sent = count_by has_sent passages;
  served = count_by (comes Serve true) passages;
}

-- ---- lines

-- the enabled events about a line
abbrev pub on_line : ℕ → List Passage → List Passage
on_line line passages = filter (is_on line) passages

-- of the enabled events about one line
unfoldable pub line_figures : List Passage → LineFigures
line_figures passages = record {
  loads = count_by (has_made Load) passages;
  makers = count_by (has_made Maker) passages;
  joins = count_by enters passages;
  purges = count_by (serves Purge Purged) passages;
  rollouts = count_by (serves Roll Rolled) passages;
  write_backs = count_by (serves Wback Wbok) passages;
  clears = count_by (serves Clear Wbok) passages;
  claims = count_by (serves Claim Wbok) passages;
  hand_overs = count_by (serves Cread Cdata) passages;
  members = level_figures Members passages;
  events = length passages;
}
