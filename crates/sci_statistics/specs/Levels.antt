-- How many of the things that begin and end there are at once.
use Rattle.std.specs.Prelude.{ℕ, ◌-◌, Bool, ◌||◌, List, length, map, take, max, count_by, is_some, sum}
use Rattle.std.specs.List.{fold, range_with_len}
use Rattle.sci_packets.specs.declared.command.Command.TheVariants.{Purge, Roll, Wback, Clear, Purged, Rolled, Wbok}
use Rattle.sci_statistics.specs.declared.levels.Level.{Level, TheVariants.{Packets, Members}}
use Rattle.sci_statistics.specs.declared.{levels.LevelFigures.{LevelFigures}, passage.Passage.{Passage}}
use Rattle.sci_statistics.specs.Measures.{enters, has_sent, serves}

-- a packet is sent, or a cache enters the list
unfoldable pub begins : Level → Passage → Bool
begins Packets p = has_sent p
begins Members p = enters p

-- a packet is taken, or an entry leaves the list
unfoldable pub ends : Level → Passage → Bool
ends Packets p = is_some p.taken
ends Members p = serves Purge Purged p || (serves Roll Rolled p || (serves Wback Wbok p || serves Clear Wbok p))

-- how many have begun and not ended
abbrev pub level_of : Level → List Passage → ℕ
level_of level passages = count_by (begins level) passages - count_by (ends level) passages

-- the same of the first k events
abbrev pub level_at : Level → List Passage → ℕ → ℕ
level_at level passages k = level_of level (take k passages)

-- the same behind each event
abbrev pub levels : Level → List Passage → List ℕ
levels level passages = map (level_at level passages) (range_with_len 1 (length passages))

-- the most, and all added up
unfoldable pub level_figures : Level → List Passage → LevelFigures
level_figures level passages = record { greatest = fold max 0 (levels level passages); total = sum (levels level passages) }
