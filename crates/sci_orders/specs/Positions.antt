-- How far the operations of a script have come on one memory of one thread, and where they can come.
use Rattle.std.specs.List.{All, Contains, filter_map, list_any, range_with_len, sum_by}
use Rattle.std.specs.Prelude.{◌≡◌, ◌<◌, ◌≤◌, ℕ, zero, suc, ◌+◌, ◌*◌, ◌&&◌, ◌==◌, ◌++◌, not, nat_lt, Bool, true, false, if◌then◌else◌, List, [], ◌∷◌, length}
use Rattle.std.specs.Prelude.{map, replicate, slice_get, slice_index_or, slice_set, Option, Some, None, count_by, Vec}
use Rattle.sci_words.specs.Operation.{effect}
use Rattle.sci_words.specs.declared.limits.TheConstants.{WORDS_PER_LINE}
use Rattle.sci_words.specs.declared.operation.{Act.TheVariants.{Load}, Op.{Op}, Reply.{Reply, TheVariants.{Stored, Got}}}
use Rattle.sci_orders.specs.declared.standing.{Answer.{Answer}, Standing.{Standing}}
use Rattle.sci_orders.specs.declared.standing.Answer.TheVariants as answer

-- ---- the operations of a script

-- each node's operations, in their order
abbrev pub Operations : Type 0
Operations = List (List Op)

-- the lists of lists
abbrev pub lists_of : {X Z : Type 0} → List (Vec X Z) → List (List X)
lists_of vecs = map (λ vec. vec.items) vecs

abbrev pub own_of : Operations → ℕ → List Op
own_of operations n = slice_index_or operations n []

abbrev pub no_operation : Op
no_operation = record { act = Load; line = 0; word = 0 }

-- operation i of node n
abbrev pub operation_at : Operations → (n i : ℕ) → Op
operation_at operations n i = slice_index_or (own_of operations n) i no_operation

-- how many operations there are
abbrev pub operation_count : Operations → ℕ
operation_count operations = sum_by length operations

-- each operation is on one of these lines, and at a word of it
abbrev pub AreWithin : ℕ → Operations → Type 0
AreWithin lines operations = (n i : ℕ) → i < length (own_of operations n)
    → ((operation_at operations n i).line < lines) × ((operation_at operations n i).word < WORDS_PER_LINE)

-- ---- positions

-- what each operation that is issued has come to, by node, and each word of memory, by line, then by place
pub record Position : Type 0 where
  pub answers : List (List Answer)
  pub words : List ℕ

abbrev pub position_of : Standing → Position
position_of standing = record { answers = lists_of standing.answers.items; words = standing.words.items }

abbrev pub answers_of : Position → ℕ → List Answer
answers_of p n = slice_index_or p.answers n []

abbrev pub answer_at : Position → (n i : ℕ) → Answer
answer_at p n i = slice_index_or (answers_of p n) i answer.Stored

abbrev pub is_waiting : Answer → Bool
is_waiting answer.Waiting = true
is_waiting _ = false

-- how many operations of a node wait
abbrev pub waiting_at : Position → ℕ → ℕ
waiting_at p n = count_by is_waiting (answers_of p n)

-- nothing is issued, and all words are zero
abbrev pub opening_position : ℕ → Operations → Position
opening_position lines operations = record { answers = replicate (length operations) []; words = replicate (lines * WORDS_PER_LINE) 0 }

-- ---- Issue

-- operation j of a node waits on the line of operation i
abbrev pub blocks : List Op → List Answer → (i j : ℕ) → Bool
blocks own answers i j =
    is_waiting (slice_index_or answers j answer.Stored) && ((slice_index_or own j no_operation).line == (slice_index_or own i no_operation).line)

-- some operation of the node waits on the line of operation i
abbrev pub is_blocked : List Op → List Answer → (i : ℕ) → Bool
is_blocked own answers i = list_any (blocks own answers i) (range_with_len 0 (length answers))

-- operation i is the next one of its node, none waits there on its line, and fewer than the window wait there
abbrev pub may_issue_next : List Op → List Answer → (window i : ℕ) → Bool
may_issue_next own answers window i =
    (length answers == i)
    && (not (is_blocked own answers i) && nat_lt (count_by is_waiting answers) window)

abbrev pub with_issued_at : Position → ℕ → Position
with_issued_at p n = record p { answers = slice_set p.answers n (answers_of p n ++ answer.Waiting ∷ []) }

-- ---- Perform

abbrev pub answer_of : Reply → Answer
answer_of Stored = answer.Stored
answer_of (Got word) = answer.Got word

-- where the word of an operation stands
abbrev pub word_place : Op → ℕ
word_place op = op.line * WORDS_PER_LINE + op.word

abbrev pub with_performed_at : Op → Position → (n i : ℕ) → Position
with_performed_at op p n i = record {
  answers = slice_set p.answers n (slice_set (answers_of p n) i (answer_of (effect op (slice_index_or p.words (word_place op) 0)).1));
  words = slice_set p.words (word_place op) (effect op (slice_index_or p.words (word_place op) 0)).0;
}

-- ---- steps

abbrev pub step_as : Operations → ℕ → Position → (n i : ℕ) → Option Answer → Option Position
step_as operations window p n i None = if may_issue_next (own_of operations n) (answers_of p n) window i then Some (with_issued_at p n) else None
step_as operations window p n i (Some answer.Waiting) = Some (with_performed_at (operation_at operations n i) p n i)
step_as operations window p n i (Some _) = None

-- operation i of node n comes one step further, if it can
unfoldable pub step_at : Operations → ℕ → Position → (n i : ℕ) → Option Position
step_at operations window p n i = step_as operations window p n i (slice_get (answers_of p n) i)

-- the operation is on the line, if one is asked for
abbrev pub is_on : Option ℕ → Op → Bool
is_on None op = true
is_on (Some line) op = op.line == line

-- operation i of node n comes one step further, if it can and is on the line that is asked for
abbrev pub step_on : Operations → ℕ → Position → Option ℕ → (n i : ℕ) → Option Position
step_on operations window p line n i = if is_on line (operation_at operations n i) then step_at operations window p n i else None

-- the positions to which one step of a node leads, of an operation on a line or of any
abbrev pub steps_on : Operations → ℕ → Position → Option ℕ → ℕ → List Position
steps_on operations window p line n = filter_map (step_on operations window p line n) (range_with_len 0 (length (own_of operations n)))

-- one operation comes one step further, from p to q
pub record IsStep (operations : Operations) (window : ℕ) (p q : Position) : Type 0 where
  pub node : ℕ
  pub place : ℕ
  pub below : place < length (own_of operations node)
  pub step : step_at operations window p node place ≡ Some q

-- this number of steps leads from the opening to the position
abbrev pub IsReachedIn : ℕ → Operations → (window count : ℕ) → Position → Type 0
IsReachedIn lines operations window zero p = p ≡ opening_position lines operations
IsReachedIn lines operations window (suc count) p = (q : Position) × IsReachedIn lines operations window count q × IsStep operations window q p

-- the positions to which this number of steps leads: all of them, and no other
pub record AreReachedIn (lines : ℕ) (operations : Operations) (window count : ℕ) (positions : List Position) : Type 0 where
  pub each : All (IsReachedIn lines operations window count) positions
  pub all : (p : Position) → IsReachedIn lines operations window count p → Contains positions p

-- no position stands twice
abbrev pub AreOnce : List Position → Type 0
AreOnce [] = Unit {0}
AreOnce (p ∷ ps) = (Contains ps p → ⊥) × AreOnce ps

-- The position is one of this script: each node has an answer for some of its operations, from the first on, and each
-- operation has its word.
pub record Fits (operations : Operations) (p : Position) : Type 0 where
  pub nodes : length p.answers ≡ length operations
  pub issued : (n : ℕ) → length (answers_of p n) ≤ length (own_of operations n)
  pub words : (n i : ℕ) → i < length (own_of operations n) → word_place (operation_at operations n i) < length p.words
