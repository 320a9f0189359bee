-- The steps that a search looks at: where nodes may issue, the first of them does so before anything else is done, and where
-- nothing more comes to a line before an operation is performed there, one that waits there is.
use Rattle.std.specs.List.{All, Contains, list_all, list_any, range_with_len}
use Rattle.std.specs.Prelude.{◌≡◌, ◌⊎◌, ◌<◌, ◌≤◌, ◌==◌, ◌&&◌, ◌||◌, ◌++◌, not, ℕ, zero, suc, Bool, true, false, List, length, nat_lt, slice_index_or}
use Rattle.std.specs.Prelude.{Option, None, Some}
use Rattle.sci_words.specs.declared.operation.Op.{Op}
use Rattle.sci_orders.specs.Positions.{AreOnce, IsStep, Operations, Position, answers_of, is_waiting, may_issue_next, no_operation, opening_position}
use Rattle.sci_orders.specs.Positions.{operation_at, own_of, with_issued_at}
use Rattle.sci_orders.specs.declared.{orders.TheConstants.{MAX_STANDINGS}, standing.Answer.{Answer, TheVariants.{Stored}}}

-- a node has a next operation, and may issue it
pub record MayIssue (operations : Operations) (window : ℕ) (p : Position) (n : ℕ) : Type 0 where
  pub below : length (answers_of p n) < length (own_of operations n)
  pub may : may_issue_next (own_of operations n) (answers_of p n) window (length (answers_of p n)) ≡ true

-- operation j of a node waits on a line, if these are its operations and what they have come to
abbrev pub waits_on : List Op → List Answer → (line j : ℕ) → Bool
waits_on own answers line j = is_waiting (slice_index_or answers j Stored) && ((slice_index_or own j no_operation).line == line)

-- some operation of the node does
abbrev pub has_waiting : List Op → List Answer → ℕ → Bool
has_waiting own answers line = list_any (waits_on own answers line) (range_with_len 0 (length answers))

-- operation i of the node isn't issued yet, and is on the line
abbrev pub comes_to : List Op → (issued line i : ℕ) → Bool
comes_to own issued line i = not (nat_lt i issued) && ((slice_index_or own i no_operation).line == line)

-- the node has still to issue one there
abbrev pub has_to_come : List Op → (issued line : ℕ) → Bool
has_to_come own issued line = list_any (comes_to own issued line) (range_with_len 0 (length own))

-- before the node issues another one there, one that waits there is performed
abbrev pub is_held : List Op → List Answer → ℕ → Bool
is_held own answers line = has_waiting own answers line || not (has_to_come own (length answers) line)

-- A line is closed: some operation waits there, and nothing more comes there before one that waits is performed.
abbrev pub is_closed : Operations → Position → ℕ → Bool
is_closed operations p line =
    list_any (λ n. has_waiting (own_of operations n) (answers_of p n) line) (range_with_len 0 (length operations))
    && list_all (λ n. is_held (own_of operations n) (answers_of p n) line) (range_with_len 0 (length operations))

-- the first of the closed lines
pub record IsFirstClosed (operations : Operations) (p : Position) (line : ℕ) : Type 0 where
  pub closed : is_closed operations p line ≡ true
  pub first : (other : ℕ) → other < line → is_closed operations p other ≡ false

-- One operation comes one step further, from p to q. If some node may issue, the step is an Issue of the first such node; and else,
-- if some line is closed, an operation is performed on the first such line.
pub record IsEagerStep (operations : Operations) (window : ℕ) (p q : Position) : Type 0 where
  pub taken : IsStep operations window p q
  pub issues : (m : ℕ) → MayIssue operations window p m → (taken.place ≡ length (answers_of p taken.node)) × (taken.node ≤ m)
  pub performs : (line : ℕ) → IsFirstClosed operations p line
      → (taken.place ≡ length (answers_of p taken.node)) ⊎ ((operation_at operations taken.node taken.place).line ≡ line)

-- this number of such steps leads from the opening to the position
abbrev pub IsFoundIn : ℕ → Operations → (window count : ℕ) → Position → Type 0
IsFoundIn lines operations window zero p = p ≡ opening_position lines operations
IsFoundIn lines operations window (suc count) p = (q : Position) × IsFoundIn lines operations window count q × IsEagerStep operations window q p

-- the positions to which this number of such steps leads: all of them, and no other
pub record AreFoundIn (lines : ℕ) (operations : Operations) (window count : ℕ) (positions : List Position) : Type 0 where
  pub each : All (IsFoundIn lines operations window count) positions
  pub all : (p : Position) → IsFoundIn lines operations window count p → Contains positions p

-- some number of such steps leads to more positions than are looked at
pub record AreTooMany (lines : ℕ) (operations : Operations) (window : ℕ) : Type 0 where
  pub count : ℕ
  pub positions : List Position
  pub found : AreFoundIn lines operations window count positions
  pub once : AreOnce positions
  pub many : MAX_STANDINGS < length positions

-- ---- inside

-- the first closed line, or none is closed
abbrev pub IsChosen : Operations → Position → Option ℕ → Type 0
IsChosen operations p None = (line : ℕ) → is_closed operations p line ≡ false
IsChosen operations p (Some line) = IsFirstClosed operations p line

-- the first node that may issue has done so
pub record IsFirstIssue (operations : Operations) (window : ℕ) (p q : Position) : Type 0 where
  pub node : ℕ
  pub may : MayIssue operations window p node
  pub first : (m : ℕ) → MayIssue operations window p m → node ≤ m
  pub is : q ≡ with_issued_at p node

-- the positions to which one such step leads from some others: all of them, and no other
pub record AreStepsFrom (operations : Operations) (window : ℕ) (old new : List Position) : Type 0 where
  pub each : All (λ p. (q : Position) × Contains old q × IsEagerStep operations window q p) new
  pub all : (p q : Position) → Contains old q → IsEagerStep operations window q p → Contains new p

-- those to which one such step leads from p are added to others
pub record AddsSteps (operations : Operations) (window : ℕ) (p : Position) (old new : List Position) : Type 0 where
  pub steps : List Position
  pub are : new ≡ old ++ steps
  pub each : All (IsEagerStep operations window p) steps
  pub all : (q : Position) → IsEagerStep operations window p q → Contains steps q

-- one step leads from these positions to more than are looked at
pub record AreTooManyFrom (operations : Operations) (window : ℕ) (level : List Position) : Type 0 where
  pub positions : List Position
  pub steps : AreStepsFrom operations window level positions
  pub once : AreOnce positions
  pub many : MAX_STANDINGS < length positions
