-- The rows of a chart.
use Rattle.std.specs.Prelude.{◌≡◌, ◌≢◌, ℕ, ◌+◌, nat_le, nat_lt, Bool, true, false, ◌&&◌, ◌⊎◌, List, [], ◌∷◌, ◌++◌, filter, codes, Option, Some, None, is_some}
use Rattle.sci_words.specs.declared.event.Event.{Event, TheVariants.{Issue, Perform}}
use Rattle.sci_packets.specs.{declared.packet.Packet.{Packet}, Table.{IsRequest}}
use Rattle.sci_packets.specs.declared.body.Body.TheVariants.{Busy as BusyAnswer}
use Rattle.sci_cache.specs.Cache.{Letter, letter_of}
use Rattle.sci_core.specs.Core.{Core, step, stepping}
use Rattle.sci_statistics.specs.About.{line_about, letter_sent}
use Rattle.sci_command.specs.Beginning.{before}
use Rattle.sci_text.specs.{Number.{number, field}, Schedule.{ScheduleValue, event_word, event_details, first_node}}
use Rattle.sci_command.specs.{AskedLine.{is_asked}, PacketLine.{packet_line}}
use Rattle.sci_charts.specs.declared.charting.{ChartRequest.{ChartRequest}, TextLines.{TextLines}}
use Rattle.sci_charts.specs.declared.arrows.ArrowKind.{ArrowKind, TheVariants.{Request, Refused, Answer, Busy}}
use Rattle.sci_charts.specs.declared.elements.{Point.{Point}, Way.{Way}}
use Rattle.sci_charts.specs.Elements.{arrow_element, block_element, circle_element, cross_element, event_element, label_element}

-- ---- the events that are shown

-- an event of a schedule, with the state before it and the number of its line in the text
pub record Place : Type 0 where
  pub core : Core
  pub number : ℕ
  pub event : Event

-- the events from a state and a line on
abbrev pub places : Core → ℕ → List Event → List Place
places core k [] = []
places core k (e ∷ events) = record { core = core; number = k; event = e } ∷ places (step core e) (k + 1) events

-- whether a line of the text is one of those that are asked for
abbrev pub is_within : Option TextLines → ℕ → Bool
is_within None k = true
is_within (Some lines) k = nat_le lines.first k && nat_le k lines.last

-- whether it stands behind them
abbrev pub is_past : Option TextLines → ℕ → Bool
is_past None k = false
is_past (Some lines) k = nat_lt lines.last k

-- whether an event is shown: it is about the line of memory that is asked for, and stands on a line of the text that is
abbrev pub is_shown : ChartRequest → Place → Bool
is_shown request place = is_asked request.line (line_about place.core place.event) && is_within request.events place.number

-- the events that a chart shows; the first of a schedule stands in line 2
abbrev pub shown_places : ChartRequest → ScheduleValue → List Place
shown_places request s = filter (is_shown request) (places (before s) 2 s.events)

-- ---- their rows

-- the event with its line, as `2: reply 0`
unfoldable pub row_words : ℕ → Event → List ℕ
row_words k e = number k ++ (codes ": " ++ (event_word e ++ (field (first_node e) ++ event_details e)))

-- how an event looks that is enabled, or isn't
abbrev pub row_class : Bool → List ℕ
row_class true = []
row_class false = codes "dead"

-- the words of an event that is enabled or not, on a line of the schedule
pub record IsEvent (enabled : Bool) (k : ℕ) (e : Event) (text : List ℕ) : Type 0 where
  pub y : ℕ
  pub written : text ≡ event_element (row_class enabled) y (row_words k e)

-- what stands before the first row of a block: the end of the block before, and the names of the nodes
pub record IsBlock (text : List ℕ) : Type 0 where
  pub y : ℕ
  pub written : text ≡ block_element y

abbrev pub IsBegun : List ℕ → Type 0
IsBegun text = (text ≡ []) ⊎ IsBlock text

-- how a packet looks: whole, dashed, with long dashes, or dotted
abbrev pub kind_class : ArrowKind → List ℕ
kind_class Request = codes "q"
kind_class Refused = codes "x"
kind_class Answer = codes "a"
kind_class Busy = codes "b"

-- an arrow of this kind shows such a packet: a request, which is answered busy or not, an answer, or the answer busy
abbrev pub ShowsPacket : ArrowKind → Letter → Type 0
ShowsPacket Request letter = IsRequest letter.body
ShowsPacket Refused letter = IsRequest letter.body
ShowsPacket Answer letter = (IsRequest letter.body → ⊥) × (letter.body ≢ BusyAnswer)
ShowsPacket Busy letter = letter.body ≡ BusyAnswer

-- the arrow of a packet that is sent, with its whole line as the title
pub record IsArrow (letter : Letter) (text : List ℕ) : Type 0 where
  pub packet : Packet
  pub is_letter : letter_of packet ≡ letter
  pub title : List ℕ
  pub is_title : packet_line packet ≡ title ++ 10 ∷ []
  pub kind : ArrowKind
  pub is_kind : ShowsPacket kind letter
  pub way : Way
  pub written : text ≡ arrow_element (kind_class kind) way title

-- the arrow of what is sent, if anything is
abbrev pub IsSent : Option Letter → List ℕ → Type 0
IsSent None text = text ≡ []
IsSent (Some letter) text = IsArrow letter text

-- an event that isn't enabled sends nothing
abbrev pub if_enabled : Bool → Option Letter → Option Letter
if_enabled true letter = letter
if_enabled false letter = None

-- a mark of an event
pub record IsCross (text : List ℕ) : Type 0 where
  pub upper : Point
  pub lower : Point
  pub written : text ≡ cross_element upper lower

pub record IsCircle (class text : List ℕ) : Type 0 where
  pub centre : Point
  pub radius : ℕ
  pub written : text ≡ circle_element class centre radius

-- what stands at the column of its node: a cross if it isn't enabled, a circle if an operation is issued or performed, and
-- else nothing, since an arrow begins or ends there
abbrev pub IsMarked : Bool → Event → List ℕ → Type 0
IsMarked false e text = IsCross text
IsMarked true (Issue node op) text = IsCircle (codes "i") text
IsMarked true (Perform node line) text = IsCircle (codes "p") text
IsMarked true e text = text ≡ []

-- what is said beside it, if anything is
pub record IsSaid (text : List ℕ) : Type 0 where
  pub at : Point
  pub words : List ℕ
  pub title : List ℕ
  pub written : text ≡ label_element [] at words title

abbrev pub IsLabelled : List ℕ → Type 0
IsLabelled text = (text ≡ []) ⊎ IsSaid text

-- the row of an event that sends a packet or not: perhaps the beginning of a block, the arrow of the packet, its words, its mark and its label
pub record IsRow (enabled : Bool) (sent : Option Letter) (k : ℕ) (e : Event) (text : List ℕ) : Type 0 where
  pub block : List ℕ
  pub arrow : List ℕ
  pub event : List ℕ
  pub mark : List ℕ
  pub label : List ℕ
  pub is_begun : IsBegun block
  pub is_sent : IsSent sent arrow
  pub is_event : IsEvent enabled k e event
  pub is_marked : IsMarked enabled e mark
  pub is_labelled : IsLabelled label
  pub written : text ≡ block ++ (arrow ++ (event ++ (mark ++ (label ++ 10 ∷ []))))

abbrev pub IsRowAt : Bool → Place → List ℕ → Type 0
IsRowAt enabled place text = IsRow enabled (if_enabled enabled (letter_sent place.core place.event)) place.number place.event text

abbrev pub IsRowOf : Place → List ℕ → Type 0
IsRowOf place text = IsRowAt (is_some (stepping place.core place.event)) place text

-- one row for each place, in order
abbrev pub AreRows : List Place → List ℕ → Type 0
AreRows [] text = text ≡ []
AreRows (place ∷ places) text = (first : List ℕ) × ((rest : List ℕ) × (IsRowOf place first × (AreRows places rest × (text ≡ first ++ rest))))
