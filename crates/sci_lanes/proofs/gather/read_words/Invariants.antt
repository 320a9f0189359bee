-- The seat has read the words so far, and if these are some, they are those of a state.
use Rattle.std.proofs.Common.{◌≡◌, ◌≤◌, ◌<◌, []}
use Rattle.std.specs.Prelude.{vec_capacity, length}
use Rattle.sci_lanes.specs.{Cells.{word_count}, Gathering.{IsReadOff}}
use Rattle.sci_lanes.proofs.gather.read_words.Given as goal

abbrev pub invariant-loop-place : goal.invariant-loop-place
invariant-loop-place l =
    (l.seat.table_id ≡ l.table.shared.table_id)
    × (l.seat.me ≡ (record { parts = l.fn.seat.me.0.parts; words = l.words.items }, []))
    × (length l.words.items ≡ l.place)
    × (word_count l.nodes ≤ vec_capacity l.words)
    × (0 < l.place → IsReadOff (record { parts = l.fn.seat.me.0.parts; words = l.words.items }))
