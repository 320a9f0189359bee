-- What an event does, as a JSON object.
use Rattle.std.specs.Prelude.{ℕ, true, false, List, [], ◌++◌, codes, Option, Some, None}
use Rattle.json.specs.Token.{Token}
use Rattle.sci_words.specs.{declared.event.Event.{Event}, Event.{kind_word}}
use Rattle.sci_history.specs.declared.entry.Entry.{Entry}
use Rattle.sci_cache.specs.Cache.{Letter}
use Rattle.sci_core.specs.{declared.obstacle.Obstacle.{Obstacle}, Core.{Core, node_of, stepping}}
use Rattle.sci_core.specs.Obstacles.{obstacle_name, obstacle_to}
use Rattle.sci_text.specs.Schedule.{event_word}
use Rattle.sci_json.specs.Members.{number_member, object_line, object_member, optional_member, text_member, truth_member}
use Rattle.sci_json.specs.Parts.{entry_members, home_members, operation_members, packet_members, state_members}
use Rattle.sci_traces.specs.{declared.json_event.When.{When, TheVariants.{Before, After}}, Logged.{entry_logged}}
use Rattle.sci_statistics.specs.Standing.{cache_at, home_at}
use Rattle.sci_traces.specs.Standing.{said}
use Rattle.sci_statistics.specs.About.{letter_sent, letter_taken, line_changed}
use Rattle.sci_words.specs.declared.event.Event.TheVariants as event

-- the sender and the node of an event that takes a packet
unfoldable pub taking_members : ℕ → ℕ → List Token
taking_members from n = number_member (codes "from") from ++ number_member (codes "node") n

-- the node and the line of an event that names both
unfoldable pub naming_members : ℕ → ℕ → List Token
naming_members n line = number_member (codes "node") n ++ number_member (codes "line") line

-- what an event has beside its word
unfoldable pub part_members : Event → List Token
part_members (event.Issue n op) = number_member (codes "node") n ++ operation_members op
part_members (event.Perform n line) = naming_members n line
part_members (event.Ask n line kind) = naming_members n line ++ text_member (codes "request") (kind_word kind)
part_members (event.Serve from n) = taking_members from n
part_members (event.Refuse from n) = taking_members from n
part_members (event.Accept from n) = taking_members from n
part_members (event.Reply n) = number_member (codes "node") n

-- a packet, if there is one
unfoldable pub packet_member : List ℕ → Option Letter → List Token
packet_member name None = []
packet_member name (Some letter) = object_member name (packet_members letter)

-- the state of a line in a node's cache, if there are both
unfoldable pub cache_member : List ℕ → Core → ℕ → ℕ → List Token
cache_member name core n line = said (λ state. object_member name (state_members state)) (cache_at core n line)

-- the state of a line's home, if it is at this node
unfoldable pub home_member : List ℕ → Core → ℕ → ℕ → List Token
home_member name core n line = said (λ state. object_member name (home_members state)) (home_at core n line)

-- the names of the states before an event, and after it
unfoldable pub cache_name : When → List ℕ
cache_name Before = codes "cache_before"
cache_name After = codes "cache_after"

unfoldable pub home_name : When → List ℕ
home_name Before = codes "home_before"
home_name After = codes "home_after"

-- the states of a line at a node, if there is a line
unfoldable pub standing_members : When → Core → ℕ → Option ℕ → List Token
standing_members when core n None = []
standing_members when core n (Some line) = cache_member (cache_name when) core n line ++ home_member (home_name when) core n line

-- the entry of an operation that was performed, if there is one
unfoldable pub logged_member : Option Entry → List Token
logged_member None = []
logged_member (Some entry) = object_member (codes "entry") (entry_members entry)

unfoldable pub obstacle_member : Option Obstacle → List Token
obstacle_member None = []
obstacle_member (Some obstacle) = text_member (codes "obstacle") (obstacle_name obstacle)

-- the packets that an event sends and takes
unfoldable pub moved_members : Core → Event → List Token
moved_members core e = packet_member (codes "sent") (letter_sent core e) ++ packet_member (codes "taken") (letter_taken core e)

-- the line, if there is one and no word of the event names it
unfoldable pub line_member : Event → Option ℕ → List Token
line_member (event.Issue n op) line = []
line_member (event.Perform n on) line = []
line_member (event.Ask n on kind) line = []
line_member (event.Serve from n) line = optional_member (codes "line") line
line_member (event.Refuse from n) line = optional_member (codes "line") line
line_member (event.Reply n) line = optional_member (codes "line") line
line_member (event.Accept from n) line = optional_member (codes "line") line

-- the states of the line that an event may change, at its node
abbrev pub changed_members : When → Core → Core → Event → List Token
changed_members when before core e = standing_members when core (node_of e) (line_changed before e)

-- what comes of an event that leads to this state, or isn't enabled
unfoldable pub outcome_members : Core → Event → Option Core → List Token
outcome_members core e None = truth_member (codes "enabled") false
    ++ (obstacle_member (obstacle_to core e) ++ (line_member e (line_changed core e) ++ changed_members Before core core e))
outcome_members core e (Some next) =
    truth_member (codes "enabled") true
    ++ (moved_members core e ++ (changed_members Before core core e ++ (changed_members After core next e ++ logged_member (entry_logged next e))))

-- the number of the event's line, its word, what it has beside, and what comes of it
unfoldable pub event_members : Core → ℕ → Event → List Token
event_members core k e = number_member (codes "number") k
    ++ (text_member (codes "event") (event_word e) ++ (part_members e ++ outcome_members core e (stepping core e)))

-- one object, and the line feed
unfoldable pub json_line : Core → ℕ → Event → List ℕ
json_line core k e = object_line (event_members core k e)
