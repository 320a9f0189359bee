-- What `page` writes for its input. What a browser makes of it is tested.
use Rattle.std.specs.Prelude.{false, ◌≡◌, ◌<◌, ◌≤◌, ◌⊎◌, ℕ, Bool, true, List, [], ◌∷◌, ◌++◌, length, Option, None}
use Rattle.sci_words.specs.declared.stamped.Stamped.{Stamped}
use Rattle.sci_history.specs.declared.entry.Entry.{Entry}
use Rattle.sci_core.specs.Core.{stepping}
use Rattle.sci_text.specs.declared.fault.TextFaultKind.{TextFaultKind, TheVariants.{Range, TooMany}}
use Rattle.sci_text.specs.{FirstFault.{IsTold}, LogFault.{IsLogFault}, LogValue.{IsLogs, entry_count}, Script.{machine_line}}
use Rattle.sci_text.specs.{Schedule.{ScheduleValue, IsSchedule, schedule_text}, ScheduleFault.{IsScheduleFault}}
use Rattle.sci_command.specs.{declared.outcome.Outcome.{Outcome}, Answer.{IsDoneBy}, AskedLine.{HasLine, LacksLine}, Input.{IsReadAs}}
use Rattle.sci_reports.specs.declared.ordering.{NodeOrder.{NodeOrder, TheVariants.{Logged, BySerial}}}
use Rattle.sci_reports.specs.{ExplainAnswer.{IsExplanationOf}, OrderAnswer.{IsOrderOf}}
use Rattle.sci_traces.specs.{JsonEvent.{json_line}, ListsAnswer.{IsListed, listed_line}}
use Rattle.sci_charts.specs.{declared.charting.ChartRequest.{ChartRequest}, Rows.{Place, shown_places}}
use Rattle.sci_pages.specs.declared.limits.TheConstants.{MAX_PAGE_BYTES, MAX_PAGE_ENTRIES, MAX_PAGE_EVENTS}
use Rattle.sci_pages.specs.declared.{kind.PageKind.{PageKind, TheVariants.{Schedule, Log}}, log_data.TheConstants.{EXPLAINED, ORDERED, ORDERED_BY_SERIAL}}
use Rattle.sci_pages.specs.{PageKind.{kind_of}, PageText.{page_text}}

-- ---- the data of a schedule

-- of an event, what `trace` writes of it as JSON, and behind it what `lists` writes of it: one line, or none
pub record IsPart (place : Place) (text : List ℕ) : Type 0 where
  pub list : List ℕ
  pub listed : IsListed place.number (listed_line None place.core place.event) (stepping place.core place.event) list
  pub written : text ≡ json_line place.core place.number place.event ++ list

-- of each event, one after another
abbrev pub AreParts : List Place → List ℕ → Type 0
AreParts [] text = text ≡ []
AreParts (place ∷ places) text = (first : List ℕ) × ((rest : List ℕ) × (IsPart place first × (AreParts places rest × (text ≡ first ++ rest))))

-- the size of the machine, and the events of a schedule that are asked for, which are as few as a page can have
pub record AreData (request : ChartRequest) (schedule : ScheduleValue) (body : List ℕ) : Type 0 where
  pub parts : List ℕ
  pub are_parts : AreParts (shown_places request schedule) parts
  pub few : length (shown_places request schedule) ≤ MAX_PAGE_EVENTS
  pub written : body ≡ machine_line schedule.nodes schedule.lines schedule.slots ++ parts

-- the input is the text of a schedule whose machine has the line that is asked for, and these are its data
pub record AreDataOf (request : ChartRequest) (input body : List ℕ) : Type 0 where
  pub schedule : ScheduleValue
  pub good : IsSchedule schedule
  pub read : input ≡ schedule_text schedule
  pub has : HasLine request.line schedule
  pub are_data : AreData request schedule body

-- the input is the text of a schedule of which more events are asked for than a page can have
pub record HasManyEvents (request : ChartRequest) (input : List ℕ) : Type 0 where
  pub schedule : ScheduleValue
  pub good : IsSchedule schedule
  pub read : input ≡ schedule_text schedule
  pub long : MAX_PAGE_EVENTS < length (shown_places request schedule)

-- ---- the data of a log

-- what `explain` writes of a log
abbrev pub IsExplained : List ℕ → List ℕ → Type 0
IsExplained input text = (ends : Outcome) × IsExplanationOf false input text ends

-- what `order --show` writes of it, each node's entries in the order that is asked for
abbrev pub IsOrdered : NodeOrder → List ℕ → List ℕ → Type 0
IsOrdered keeps input text = (ends : Outcome) × IsOrderOf (record { keeps = keeps; shows = true; json = false }) input text ends

-- the input is the text of these logs with last contents, of any nodes
abbrev pub IsLogText : List ℕ → List (List Entry) → List Stamped → Type 0
IsLogText input logs last = (nodes : ℕ) × IsLogs input nodes logs last

-- The log itself, which has as few entries as a page can have, and behind a line that says the command what `explain`, `order` and
-- `order --by-serial` write of it.
pub record AreLogData (input body : List ℕ) : Type 0 where
  pub logs : List (List Entry)
  pub last : List Stamped
  pub read : IsLogText input logs last
  pub few : entry_count logs ≤ MAX_PAGE_ENTRIES
  pub explained : List ℕ
  pub is_explained : IsExplained input explained
  pub ordered : List ℕ
  pub is_ordered : IsOrdered Logged input ordered
  pub by_serial : List ℕ
  pub is_by_serial : IsOrdered BySerial input by_serial
  pub written : body ≡ input ++ (EXPLAINED.now ++ (explained ++ (ORDERED.now ++ (ordered ++ (ORDERED_BY_SERIAL.now ++ by_serial)))))

-- the input is the text of a log with more entries than a page can have
pub record HasManyEntries (input : List ℕ) : Type 0 where
  pub logs : List (List Entry)
  pub last : List Stamped
  pub read : IsLogText input logs last
  pub long : MAX_PAGE_ENTRIES < entry_count logs

-- neither a line nor some events are asked for
pub record AsksForAll (request : ChartRequest) : Type 0 where
  pub no_line : request.line ≡ None
  pub no_events : request.events ≡ None

-- ---- the page of either

abbrev pub AreDataFor : PageKind → ChartRequest → List ℕ → List ℕ → Type 0
AreDataFor Schedule request input body = AreDataOf request input body
AreDataFor Log request input body = AsksForAll request × AreLogData input body

abbrev pub IsFaultFor : PageKind → List ℕ → ℕ → TextFaultKind → Type 0
IsFaultFor Schedule = IsScheduleFault
IsFaultFor Log = IsLogFault

abbrev pub LacksFor : PageKind → ChartRequest → List ℕ → Type 0
LacksFor Schedule request input = LacksLine request.line input
LacksFor Log request input = AsksForAll request → ⊥

abbrev pub HasManyFor : PageKind → ChartRequest → List ℕ → Type 0
HasManyFor Schedule request input = HasManyEvents request input
HasManyFor Log request input = HasManyEntries input

-- the input is what it begins as, its page is written, and that isn't too big
pub record IsPageOf (request : ChartRequest) (title : Option (List ℕ)) (input text : List ℕ) : Type 0 where
  pub body : List ℕ
  pub are_data : AreDataFor (kind_of input) request input body
  pub written : text ≡ page_text (kind_of input) title body
  pub short : length text ≤ MAX_PAGE_BYTES

-- the first fault of a text as what it begins as
abbrev pub IsPagedFault : List ℕ → ℕ → TextFaultKind → Type 0
IsPagedFault input = IsFaultFor (kind_of input) input

-- the machine doesn't have the line that is asked for, or a part is asked for of a log
abbrev pub LacksPart : ChartRequest → List ℕ → Type 0
LacksPart request input = LacksFor (kind_of input) request input

-- the page would have too many bytes
pub record IsBigPage (request : ChartRequest) (title : Option (List ℕ)) (input : List ℕ) : Type 0 where
  pub body : List ℕ
  pub are_data : AreDataFor (kind_of input) request input body
  pub big : MAX_PAGE_BYTES < length (page_text (kind_of input) title body)

-- the page would have too many events, entries or bytes
abbrev pub IsLongPage : ChartRequest → Option (List ℕ) → List ℕ → Type 0
IsLongPage request title input = HasManyFor (kind_of input) request input ⊎ IsBigPage request title input

-- why there is no answer: the input has a fault, it doesn't have what is asked for, or the page would be too long
abbrev pub IsPageRefusal : ChartRequest → Option (List ℕ) → TextFaultKind → Option (List ℕ) → Bool → ℕ → Type 0
IsPageRefusal request title kind input failed at = IsTold IsPagedFault kind input failed at
    ⊎ (((kind ≡ Range) × (at ≡ 0) × IsReadAs input failed (LacksPart request))
    ⊎ ((kind ≡ TooMany) × (at ≡ 0) × IsReadAs input failed (IsLongPage request title)))

-- what `page` writes, and how it ends, for the bytes of a reader, which has failed or not
abbrev pub IsPageAnswer : ChartRequest → (title : Option (List ℕ)) → Option (List ℕ) → Bool → List ℕ → Outcome → Type 0
IsPageAnswer request title = IsDoneBy (IsPageOf request title) (IsPageRefusal request title)
