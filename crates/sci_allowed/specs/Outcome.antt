-- The outcome of a run: what its operations replied, and the words that they left.
use Rattle.std.specs.Prelude.{◌≡◌, ◌<◌, ℕ, ◌+◌, ◌*◌, ◌==◌, ◌&&◌, Bool, List, filter, length, map, Option, Some, None, slice_index_or}
use Rattle.std.specs.List.{filter_map, flat_map, list_any, range_with_len}
use Rattle.std.specs.{BTreeSet.{BTreeSet, contains}, Cmp.Lexicographic.{slice_cmp}, Ordering.{nat_cmp, ordering_then}, declared.cmp.Ordering.{Ordering}}
use Rattle.sci_words.specs.declared.{limits.TheConstants.{WORDS_PER_LINE}, operation.Op.{Op}}
use Rattle.sci_words.specs.Operation.{is_maker}
use Rattle.sci_orders.specs.Positions.{Operations, Position, answer_at, own_of}
use Rattle.sci_orders.specs.declared.standing.Answer.{Answer, TheVariants.{Got}}
use Rattle.sci_allowed.specs.declared.outcome.{FinalWord.{FinalWord}, Outcome.{Outcome}, Replied.{Replied}}
use Rattle.sci_allowed.specs.declared.place.Place.{Place}

-- ---- the words that a script may write

-- whether an operation may write the word at a place
abbrev pub may_write : Place → Op → Bool
may_write place op = is_maker op && ((op.line == place.line) && (op.word == place.word))

abbrev pub is_written : List (ℕ × Op) → Place → Bool
is_written operations place = list_any (λ p. may_write place p.1) operations

-- the words of a line that some of the operations may write
abbrev pub written_on : List (ℕ × Op) → ℕ → List Place
written_on operations line = filter (is_written operations) (map (λ word. record { line = line; word = word }) (range_with_len 0 WORDS_PER_LINE))

-- the words of this many lines that some of the operations may write, by line, then by place
abbrev pub written_places : ℕ → List (ℕ × Op) → List Place
written_places lines operations = flat_map (written_on operations) (range_with_len 0 lines)

-- the order of words: by line, then by place
abbrev pub place_cmp : Place → Place → Ordering
place_cmp a b = ordering_then (nat_cmp a.line b.line) (nat_cmp a.word b.word)

-- the set has the words that operations may write
abbrev pub IsWritten : List (ℕ × Op) → BTreeSet Place → Type 0
IsWritten operations set = (place : Place) → contains place_cmp set place ≡ is_written operations place

-- the place is one of this many lines
abbrev pub IsPlaceWithin : ℕ → Place → Type 0
IsPlaceWithin lines place = (place.line < lines) × (place.word < WORDS_PER_LINE)

-- ---- what a position shows

-- what the operation with this serial replied, if it is a load or a lock operation
abbrev pub replied_at : ℕ → ℕ → Answer → Option Replied
replied_at node serial (Got word) = Some record { node = node; serial = serial; word = word }
replied_at node serial _ = None

-- what the operations of a node replied, by serial
abbrev pub replies_on : Operations → Position → ℕ → List Replied
replies_on operations p n = filter_map (λ i. replied_at n i (answer_at p n i)) (range_with_len 0 (length (own_of operations n)))

-- what all operations replied, by node
abbrev pub replies_at : Operations → Position → List Replied
replies_at operations p = flat_map (replies_on operations p) (range_with_len 0 (length operations))

-- what the word at a place holds, if these are all words
abbrev pub held_of : List ℕ → Place → FinalWord
held_of words place = record { line = place.line; word = place.word; value = slice_index_or words (place.line * WORDS_PER_LINE + place.word) 0 }

abbrev pub held_in : Position → Place → FinalWord
held_in p place = held_of p.words place

-- what is seen of a run: what its operations replied, by node and then by serial, and what words hold at its end
pub record Shown : Type 0 where
  pub replies : List Replied
  pub last : List FinalWord

-- what these operations replied, and what the words at these places hold
abbrev pub shown_at : Operations → List Place → Position → Shown
shown_at operations places p = record { replies = replies_at operations p; last = map (held_in p) places }

abbrev pub shown_of : Outcome → Shown
shown_of outcome = record { replies = outcome.replies.items; last = outcome.last.items }

-- ---- the order of outcomes: by their replies, then by their words, as numbers

abbrev pub replied_cmp : Replied → Replied → Ordering
replied_cmp a b = ordering_then (nat_cmp a.node b.node) (ordering_then (nat_cmp a.serial b.serial) (nat_cmp a.word b.word))

abbrev pub held_cmp : FinalWord → FinalWord → Ordering
held_cmp a b = ordering_then (nat_cmp a.line b.line) (ordering_then (nat_cmp a.word b.word) (nat_cmp a.value b.value))

abbrev pub outcome_cmp : Outcome → Outcome → Ordering
outcome_cmp a b = ordering_then (slice_cmp replied_cmp a.replies.items b.replies.items) (slice_cmp held_cmp a.last.items b.last.items)
