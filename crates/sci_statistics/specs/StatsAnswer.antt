-- What `stats` writes for its input.
use Rattle.std.specs.Prelude.{◌≡◌, ◌<◌, ◌⊎◌, ℕ, ◌+◌, ◌*◌, ◌/◌, ◌%◌, Bool, List, [], ◌∷◌, ◌++◌, codes, map, Option, Some, None, if◌then◌else◌}
use Rattle.std.specs.List.{flat_map}
use Rattle.sci_packets.specs.{declared.command.{TheConstants.Command.{ALL}}}
use Rattle.sci_statistics.specs.declared.line_figures.LineFigures.{LineFigures}
use Rattle.sci_statistics.specs.declared.{passage.Passage.{Passage}}
use Rattle.sci_statistics.specs.declared.waits.{NodeWaits.{NodeWaits}, WaitFigures.{WaitFigures}}
use Rattle.sci_statistics.specs.declared.counting.StatsRequest.{StatsRequest}
use Rattle.sci_statistics.specs.Figures.{at_node, event_figures, line_figures, node_figures, on_line}
use Rattle.sci_statistics.specs.{Passages.{passages}}
use Rattle.sci_json.specs.Members.{object_line}
use Rattle.sci_statistics.specs.{StatsJson.{stats_members}, Waits.{node_waits}}
use Rattle.sci_statistics.specs.StatsRows.{command_row, event_rows, line_rows, node_rows, packet_rows, shown}
use Rattle.sci_command.specs.Beginning.{before}
use Rattle.sci_text.specs.{declared.fault.TextFaultKind.{TextFaultKind, TheVariants.{Range}}, Number.{number, field}}
use Rattle.sci_text.specs.Schedule.{ScheduleValue, IsSchedule, schedule_text}
use Rattle.sci_command.specs.{declared.outcome.Outcome.{Outcome}, Answer.{IsDoneBy}, Input.{IsReadAs}}
use Rattle.sci_command.specs.AskedLine.{HasLine, IsAskedFault}

-- ---- figures

-- a line: the group, the name of the figure in it, and its value
unfoldable pub figure_text : List ℕ → List ℕ × ℕ → List ℕ
figure_text group figure = group ++ (figure.0 ++ (field figure.1 ++ 10 ∷ []))

abbrev pub figures_text : List ℕ → List (List ℕ × ℕ) → List ℕ
figures_text group figures = flat_map (figure_text group) figures

-- the two places of a mean behind the point
abbrev pub hundredths_of : ℕ → ℕ → ℕ
hundredths_of total count = total * 100 / count % 100

-- a line of a mean, to two places: the group, the name, and what was added up over how many
unfoldable pub mean_text : List ℕ → List ℕ → ℕ → ℕ → List ℕ
mean_text group name total count =
    group ++ (name ++ (field (total / count) ++ (46 ∷ (48 + hundredths_of total count / 10) ∷ (48 + hundredths_of total count % 10) ∷ 10 ∷ [])))

-- the group of a line or a node: its name and its number
unfoldable pub group_of : List ℕ → ℕ → List ℕ
group_of name n = name ++ (number n ++ codes ".")

-- of all packets, and of those with each command
unfoldable pub packets_text : List Passage → List ℕ
packets_text passages =
    figures_text (codes "packets.") (packet_rows passages) ++ figures_text (codes "packets.") (map (command_row passages) ALL)

-- what happened to a line
unfoldable pub line_text : ℕ → LineFigures → List ℕ
line_text line figures =
    figures_text (group_of (codes "line.") line) (line_rows figures)
    ++ mean_text (group_of (codes "line.") line) (codes "mean_list") figures.members.total figures.events

-- the least, the mean and the greatest of some waits
unfoldable pub wait_text : List ℕ → WaitFigures → List ℕ
wait_text group waits =
    figure_text group (codes "least", waits.least)
    ++ (mean_text group (codes "mean") waits.total waits.count ++ figure_text group (codes "greatest", waits.greatest))

-- the group of some waits of a node
abbrev pub wait_group : ℕ → List ℕ → List ℕ
wait_group n name = group_of (codes "node.") n ++ name

-- how long the operations of a node waited: all of them, loads, and makers
unfoldable pub waits_text : ℕ → NodeWaits → List ℕ
waits_text n waits =
    wait_text (wait_group n (codes "wait.")) waits.all
    ++ (wait_text (wait_group n (codes "wait.loads.")) waits.loads ++ wait_text (wait_group n (codes "wait.makers.")) waits.makers)

-- ---- the answer

-- the same, from the passages
unfoldable pub line_part : List Passage → ℕ → List ℕ
line_part passages line = line_text line (line_figures (on_line line passages))

-- what a node did, and how long its operations waited
unfoldable pub node_part : List Passage → ℕ → List ℕ
node_part passages n = figures_text (group_of (codes "node.") n) (node_rows (node_figures (at_node n passages))) ++ waits_text n (node_waits n passages)

-- of all passages, and of these lines and nodes
unfoldable pub passages_text : List ℕ → List ℕ → List Passage → List ℕ
passages_text lines nodes passages =
    figures_text (codes "events.") (event_rows (event_figures passages))
    ++ (packets_text passages ++ (flat_map (line_part passages) lines ++ flat_map (node_part passages) nodes))

-- the same in lines, or as one JSON object
abbrev pub passages_shown : Bool → List ℕ → List ℕ → List Passage → List ℕ
passages_shown json lines nodes passages = if json then object_line (stats_members lines nodes passages) else passages_text lines nodes passages

-- the figures of a schedule, of the lines and the nodes that are shown
abbrev pub stats_text : StatsRequest → ScheduleValue → List ℕ
stats_text request s = passages_shown request.json (shown request.line s.lines) (shown request.node s.nodes) (passages (before s) s.events)

-- the machine of a schedule has the node, if one is asked for
abbrev pub HasNode : Option ℕ → ScheduleValue → Type 0
HasNode None schedule = Unit {0}
HasNode (Some n) schedule = n < schedule.nodes

-- the input is the text of a schedule whose machine has the line and the node that are asked for, and its figures are written
pub record IsStatsOf (request : StatsRequest) (input text : List ℕ) : Type 0 where
  pub schedule : ScheduleValue
  pub good : IsSchedule schedule
  pub read : input ≡ schedule_text schedule
  pub has_line : HasLine request.line schedule
  pub has_node : HasNode request.node schedule
  pub written : text ≡ stats_text request schedule

-- the input is the text of a schedule whose machine doesn't have the node
pub record LacksNode (asked : Option ℕ) (input : List ℕ) : Type 0 where
  pub schedule : ScheduleValue
  pub good : IsSchedule schedule
  pub read : input ≡ schedule_text schedule
  pub lacks : HasNode asked schedule → ⊥

-- why there is no answer: the input has a fault, or its machine doesn't have the line or the node
abbrev pub IsStatsFault : StatsRequest → TextFaultKind → Option (List ℕ) → Bool → ℕ → Type 0
IsStatsFault request kind input failed at =
    IsAskedFault request.line kind input failed at ⊎ ((kind ≡ Range) × (at ≡ 0) × IsReadAs input failed (LacksNode request.node))

-- what `stats` writes, and how it ends, for the bytes of a reader, which has failed or not
abbrev pub IsStatsAnswer : StatsRequest → Option (List ℕ) → Bool → List ℕ → Outcome → Type 0
IsStatsAnswer request = IsDoneBy (IsStatsOf request) (IsStatsFault request)
