-- What is seen of a run: what its operations replied, and the words that they left.
use Rattle.std.specs.Prelude.{◌≡◌, ◌↔◌, true, List, map, Option, Some, None, slice_index}
use Rattle.std.specs.List.{filter_map, flat_map}
use Rattle.sci_words.specs.declared.{operation.Reply.{Reply, TheVariants.{Stored, Got}}, stamped.Stamped.{Stamped}}
use Rattle.sci_history.specs.{declared.entry.Entry.{Entry}, Memory.{stamped_at}}
use Rattle.sci_history.specs.Sequential.{IsSequentiallyConsistent, by_serial}
use Rattle.sci_allowed.specs.declared.{outcome.{FinalWord.{FinalWord}, Replied.{Replied}}, place.Place.{Place}}
use Rattle.sci_outcomes.specs.declared.outcome.Sighting.{Sighting}

-- what an entry replied, if it is that of a load or a lock operation
abbrev pub replied_by : Entry → Reply → Option Replied
replied_by entry Stored = None
replied_by entry (Got word) = Some record { node = entry.node; serial = entry.serial; word = word }

abbrev pub replied : Entry → Option Replied
replied entry = replied_by entry entry.reply

-- what the entries of logs replied, by node, each log as it stands
abbrev pub replies_in : List (List Entry) → List Replied
replies_in logs = flat_map (filter_map replied) logs

-- what the word at a place holds
abbrev pub held_at : List Stamped → Place → FinalWord
held_at last place = record { line = place.line; word = place.word; value = slice_index (stamped_at last place.line).line place.word }

-- The outcome has what the loads and lock operations replied, by node and then by serial, and what the words at these places
-- hold at the end. It is in order if one memory of one thread explains the logs with each node's entries by serial.
pub record IsSeen (places : List Place) (logs : List (List Entry)) (last : List Stamped) (sighting : Sighting) : Type 0 where
  pub replies : sighting.outcome.replies.items ≡ replies_in (by_serial logs)
  pub words : sighting.outcome.last.items ≡ map (held_at last) places
  pub in_order : (sighting.in_order ≡ true) ↔ IsSequentiallyConsistent (by_serial logs) last
