-- What `lists` writes for its input.
use Rattle.std.specs.Prelude.{◌≡◌, ℕ, ◌+◌, ◌%◌, ◌<◌, nat_lt, Bool, List, [], ◌∷◌, ◌++◌, codes, Option, Some, None, if◌then◌else◌}
use Rattle.std.specs.List.{flat_map}
use Rattle.sci_words.specs.declared.{stamped.Stamped.{Stamped}, event.Event.{Event}}
use Rattle.sci_cache.specs.State.{state_name}
use Rattle.sci_core.specs.{Core.{Core, step, stepping}, Shape.{IsAuthority}, Sharing.{last_at}}
use Rattle.sci_core.specs.SharingList.{IsSharingList}
use Rattle.sci_home.specs.Serving.{home_name}
use Rattle.sci_statistics.specs.About.{line_changed}
use Rattle.sci_command.specs.Beginning.{before}
use Rattle.sci_text.specs.{Number.{number, field}, Schedule.{ScheduleValue, IsSchedule, schedule_text}}
use Rattle.sci_command.specs.{declared.outcome.Outcome.{Outcome}, Answer.{IsDoneBy}, PacketLine.{contents_text}}
use Rattle.sci_command.specs.AskedLine.{HasLine, IsAskedFault, is_asked}
use Rattle.sci_statistics.specs.Standing.{cache_at, home_at}
use Rattle.sci_traces.specs.Standing.{said}

-- the line that an event may change, if the machine has it
abbrev pub line_within : Core → Option ℕ → Option ℕ
line_within core None = None
line_within core (Some line) = if nat_lt line core.size.lines then Some line else None

-- the name of a line's state in a node's cache; none if there is no such node or line
unfoldable pub name_text : Core → ℕ → ℕ → List ℕ
name_text core n line = said state_name (cache_at core n line)

-- the name of the state of a line's home; none if it isn't at this node
unfoldable pub home_name_text : Core → ℕ → ℕ → List ℕ
home_name_text core n line = said home_name (home_at core n line)

-- ` -> N `
unfoldable pub front_text : ℕ → List ℕ
front_text n = codes " -> " ++ (number n ++ codes " ")

-- a member of a list: ` -> N STATE`
unfoldable pub member_text : Core → ℕ → ℕ → List ℕ
member_text core line n = front_text n ++ name_text core n line

-- the node that may change the line or is about to, if there is one
unfoldable pub authority_text : Option ℕ → List ℕ
authority_text None = []
authority_text (Some n) = codes "; authority" ++ field n

-- the last contents, and the line feed
unfoldable pub last_text : Stamped → List ℕ
last_text contents = codes "; last" ++ (contents_text contents ++ 10 ∷ [])

abbrev pub IsAuthorityOf : Core → ℕ → Option ℕ → Type 0
IsAuthorityOf core line None = (n : ℕ) → n < core.size.nodes → IsAuthority core line n → ⊥
IsAuthorityOf core line (Some n) = IsAuthority core line n

-- the home of a line, its list, its authority and its last contents
unfoldable pub list_text : Core → ℕ → List ℕ → Option ℕ → List ℕ
list_text core line nodes authority =
    home_name_text core (line % core.size.nodes) line ++ (flat_map (member_text core line) nodes ++ (authority_text authority ++ last_text (last_at core line)))

pub record IsListLine (core : Core) (line : ℕ) (text : List ℕ) : Type 0 where
  pub nodes : List ℕ
  pub list : IsSharingList core line nodes
  pub authority : Option ℕ
  pub judged : IsAuthorityOf core line authority
  pub written : text ≡ list_text core line nodes authority

-- where an event stands in the schedule, and which line of memory it is about
unfoldable pub place_text : ℕ → ℕ → List ℕ
place_text k line = number k ++ (codes " line" ++ field line)

-- what is written of an event that is about this line, or none, and leads to this state, or isn't enabled
abbrev pub IsListed : ℕ → Option ℕ → Option Core → List ℕ → Type 0
IsListed k None next text = text ≡ []
IsListed k (Some line) None text = text ≡ []
IsListed k (Some line) (Some next) text = (list : List ℕ) × IsListLine next line list × (text ≡ place_text k line ++ (codes ": " ++ list))

-- the line of which an event's list is shown: the one that it may change, if that is asked for
abbrev pub listed_line : Option ℕ → Core → Event → Option ℕ
listed_line asked core e =
    if is_asked asked (line_within core (line_changed core e)) then line_within core (line_changed core e) else None

-- the lists behind each event, in the state to which it leads
abbrev pub AreListed : Option ℕ → Core → ℕ → List Event → List ℕ → Type 0
AreListed asked core k [] text = text ≡ []
AreListed asked core k (e ∷ events) text =
    (first : List ℕ) × ((rest : List ℕ)
    × (IsListed k (listed_line asked core e) (stepping core e) first × (AreListed asked (step core e) (k + 1) events rest × (text ≡ first ++ rest))))

-- The input is the text of a schedule whose machine has the line that is asked for, and the lists behind its events are
-- written. The first event stands in line 2.
pub record IsListsOf (asked : Option ℕ) (input text : List ℕ) : Type 0 where
  pub schedule : ScheduleValue
  pub good : IsSchedule schedule
  pub read : input ≡ schedule_text schedule
  pub has : HasLine asked schedule
  pub written : AreListed asked (before schedule) 2 schedule.events text

-- what `lists` writes, and how it ends, for the bytes of a reader, which has failed or not
abbrev pub IsListsAnswer : Option ℕ → Option (List ℕ) → Bool → List ℕ → Outcome → Type 0
IsListsAnswer asked = IsDoneBy (IsListsOf asked) (IsAskedFault asked)
