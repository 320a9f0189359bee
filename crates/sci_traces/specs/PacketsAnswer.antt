-- What `packets` writes for its input.
use Rattle.std.specs.{Prelude.{◌≡◌, ℕ, Bool, List, [], ◌∷◌, ◌++◌, map, Option}, List.{flat_map}}
use Rattle.std.specs.Option.{option_to_list}
use Rattle.sci_words.specs.declared.event.Event.{Event}
use Rattle.sci_packets.specs.{declared.packet.Packet.{Packet}, Spelling.{spelling}}
use Rattle.sci_cache.specs.Cache.{Letter, letter_of}
use Rattle.sci_core.specs.Core.{Core, along}
use Rattle.sci_statistics.specs.About.{letter_sent}
use Rattle.sci_command.specs.Beginning.{before}
use Rattle.sci_text.specs.{Schedule.{ScheduleValue, IsSchedule, schedule_text}, FirstFault.{IsTold}}
use Rattle.sci_text.specs.ScheduleFault.{IsScheduleFault}
use Rattle.sci_command.specs.{declared.outcome.Outcome.{Outcome}, Answer.{IsDoneBy}}

-- the packets that events send from a state on, one event after another
abbrev pub letters_sent : Core → List Event → List Letter
letters_sent core events = along (λ at e. option_to_list (letter_sent at e)) core events

-- bytes are those of packets, one after another, which are these letters
pub record AreSpelled (letters : List Letter) (bytes : List ℕ) : Type 0 where
  pub packets : List Packet
  pub same : map letter_of packets ≡ letters
  pub spelled : bytes ≡ flat_map spelling packets

-- the input is the text of a schedule, and the bytes of all packets that it sends are written
pub record IsPacketsOf (input bytes : List ℕ) : Type 0 where
  pub schedule : ScheduleValue
  pub good : IsSchedule schedule
  pub read : input ≡ schedule_text schedule
  pub written : AreSpelled (letters_sent (before schedule) schedule.events) bytes

-- what `packets` writes, and how it ends, for the bytes of a reader, which has failed or not
abbrev pub IsPacketsAnswer : Option (List ℕ) → Bool → List ℕ → Outcome → Type 0
IsPacketsAnswer = IsDoneBy IsPacketsOf (IsTold IsScheduleFault)
