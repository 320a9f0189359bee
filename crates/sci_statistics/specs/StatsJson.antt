-- What `stats --json` writes: the figures as one JSON object.
use Rattle.std.specs.Prelude.{ℕ, List, ◌++◌, codes, count_by, map}
use Rattle.std.specs.List.{flat_map}
use Rattle.json.specs.Token.{Token}
use Rattle.sci_packets.specs.declared.command.TheConstants.Command.{ALL}
use Rattle.sci_json.specs.Members.{array_member, number_member, object_line, object_member, object_of, text_member}
use Rattle.sci_statistics.specs.declared.{coverage.Coverage.{Coverage}, event_figures.{EventFigures.{EventFigures}, Tally.{Tally}}}
use Rattle.sci_statistics.specs.declared.{line_figures.LineFigures.{LineFigures}, node_figures.NodeFigures.{NodeFigures}, passage.Passage.{Passage}}
use Rattle.sci_statistics.specs.declared.{transition.Transition.{Transition}, waits.{NodeWaits.{NodeWaits}, WaitFigures.{WaitFigures}}}
use Rattle.sci_statistics.specs.{Coverage.{times}, Figures.{at_node, event_figures, line_figures, node_figures, on_line}, Transitions.{kind_name, table}}
use Rattle.sci_statistics.specs.{StatsRows.{command_row, line_rows, node_rows, packet_rows}, Waits.{node_waits}}
use Rattle.sci_statistics.specs.PairNames.{has_come, has_never_come, met_word, place_word, what_word}

-- ---- parts

-- figures, each by its name
unfoldable pub row_member : List ℕ × ℕ → List Token
row_member row = number_member row.0 row.1

abbrev pub row_members : List (List ℕ × ℕ) → List Token
row_members rows = flat_map row_member rows

-- ---- figures

unfoldable pub tally_members : Tally → List Token
tally_members tally = number_member (codes "enabled") tally.enabled ++ number_member (codes "not_enabled") tally.not_enabled

unfoldable pub tally_member : List ℕ → Tally → List Token
tally_member name tally = object_member name (tally_members tally)

-- of all events, and of those of each kind
unfoldable pub event_members : EventFigures → List Token
event_members figures =
    tally_members figures.all
    ++ (tally_member (codes "issue") figures.issue
    ++ (tally_member (codes "perform") figures.perform
    ++ (tally_member (codes "ask") figures.ask
    ++ (tally_member (codes "serve") figures.serve
    ++ (tally_member (codes "refuse") figures.refuse
    ++ (tally_member (codes "reply") figures.reply ++ tally_member (codes "accept") figures.accept))))))

-- of all packets, and of those with each command
unfoldable pub packet_members : List Passage → List Token
packet_members passages = row_members (packet_rows passages) ++ row_members (map (command_row passages) ALL)

-- of a line; the mean list is `list_total` over `events`
unfoldable pub line_members : ℕ → LineFigures → List Token
line_members line figures =
    number_member (codes "line") line
    ++ (row_members (line_rows figures)
    ++ (number_member (codes "list_total") figures.members.total ++ number_member (codes "events") figures.events))

-- the mean wait is `total` over `count`
unfoldable pub wait_members : WaitFigures → List Token
wait_members waits =
    number_member (codes "count") waits.count
    ++ (number_member (codes "least") waits.least
    ++ (number_member (codes "total") waits.total ++ number_member (codes "greatest") waits.greatest))

unfoldable pub wait_member : List ℕ → WaitFigures → List Token
wait_member name waits = object_member name (wait_members waits)

unfoldable pub node_members : ℕ → NodeFigures → NodeWaits → List Token
node_members n figures waits =
    number_member (codes "node") n
    ++ (row_members (node_rows figures)
    ++ (wait_member (codes "wait") waits.all
    ++ (wait_member (codes "wait_loads") waits.loads ++ wait_member (codes "wait_makers") waits.makers)))

-- the same, from the passages
unfoldable pub line_object : List Passage → ℕ → List Token
line_object passages line = object_of (line_members line (line_figures (on_line line passages)))

unfoldable pub node_object : List Passage → ℕ → List Token
node_object passages n = object_of (node_members n (node_figures (at_node n passages)) (node_waits n passages))

-- of all passages, and of these lines and nodes
unfoldable pub stats_members : List ℕ → List ℕ → List Passage → List Token
stats_members lines nodes passages =
    object_member (codes "events") (event_members (event_figures passages))
    ++ (object_member (codes "packets") (packet_members passages)
    ++ (array_member (codes "lines") (flat_map (line_object passages) lines) ++ array_member (codes "nodes") (flat_map (node_object passages) nodes)))

-- ---- transitions

unfoldable pub pair_members : Coverage → Transition → List Token
pair_members coverage t =
    text_member (codes "place") (place_word t.state)
    ++ (text_member (codes "state") (kind_name t.state)
    ++ (text_member (codes "met") (met_word t.met)
    ++ (text_member (codes "what") (what_word t.met) ++ number_member (codes "count") (times coverage t))))

unfoldable pub pair_object : Coverage → Transition → List Token
pair_object coverage t = object_of (pair_members coverage t)

-- how many of some pairs came, how many never did, and how often each came
unfoldable pub coverage_members : Coverage → List Transition → List Token
coverage_members coverage pairs =
    number_member (codes "met") (count_by (has_come coverage) pairs)
    ++ (number_member (codes "never") (count_by (has_never_come coverage) pairs)
    ++ array_member (codes "pairs") (flat_map (pair_object coverage) pairs))

-- the same of the pairs of the tables
abbrev pub coverage_json : Coverage → List ℕ
coverage_json coverage = object_line (coverage_members coverage table)
