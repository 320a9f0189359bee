-- The orders of a script: what its nodes may issue and perform, one event after another. And what is seen at their end.
use Rattle.std.specs.{List.{Contains}, Prelude.{◌≡◌, ◌<◌, ◌≤◌, ℕ, ◌+◌, ◌-◌, ◌*◌, ◌==◌, if◌then◌else◌, List, [], ◌∷◌, length, slice_index, slice_index_or}}
use Rattle.sci_words.specs.declared.{event.Event.{Event}, limits.TheConstants.{WORDS_PER_LINE}, operation.Op.{Op}, stamped.Stamped.{Stamped}}
use Rattle.sci_history.specs.{Memory.{stamped_at}, declared.entry.Entry.{Entry}}
use Rattle.sci_core.specs.{Core.{run}, Done.{done}, Sharing.{last_of}, Size.{Size}}
use Rattle.sci_orders.specs.{Positions.{Operations, Position, answer_at, answer_of, operation_at, operation_count, own_of}, Witness.{IsOperation, seen}}
use Rattle.sci_words.specs.declared.event.Event.TheVariants as event

-- each operation is one of the machine's, and no node has more than it may issue
pub record IsScriptOf (size : Size) (operations : Operations) : Type 0 where
  pub each : (n i : ℕ) → i < length (own_of operations n) → IsOperation size n (operation_at operations n i)
  pub few : (n : ℕ) → length (own_of operations n) ≤ size.limit

-- ---- the orders of a script

-- what an order issues at a node
abbrev pub issues_at : ℕ → List Event → List Op
issues_at n [] = []
issues_at n (event.Issue m op ∷ order) = if m == n then op ∷ issues_at n order else issues_at n order
issues_at n (_ ∷ order) = issues_at n order

-- one waits more, or less, at a node
abbrev pub one_more_at : ℕ → (ℕ → ℕ) → ℕ → ℕ
one_more_at n waiting m = if m == n then waiting m + 1 else waiting m

abbrev pub one_less_at : ℕ → (ℕ → ℕ) → ℕ → ℕ
one_less_at n waiting m = if m == n then waiting m - 1 else waiting m

-- a node issues only while fewer than the window wait there
abbrev pub AreFew : ℕ → (ℕ → ℕ) → List Event → Type 0
AreFew window waiting [] = Unit {0}
AreFew window waiting (event.Issue n op ∷ order) = (waiting n < window) × AreFew window (one_more_at n waiting) order
AreFew window waiting (event.Perform n line ∷ order) = AreFew window (one_less_at n waiting) order
AreFew window waiting (_ ∷ order) = AreFew window waiting order

-- An order of a script: each node issues its operations in their order, each while fewer than the window wait there, and
-- each of them is performed.
pub record IsOrderOf (operations : Operations) (window : ℕ) (order : List Event) : Type 0 where
  pub issued : (n : ℕ) → issues_at n order ≡ own_of operations n
  pub few : AreFew window (λ n. 0) order
  pub whole : length order ≡ operation_count operations * 2

-- ---- what is seen at the end

-- the entry is that of the operation that its node and serial name, and the position has its reply
pub record IsEntryAt (operations : Operations) (p : Position) (entry : Entry) : Type 0 where
  pub below : entry.serial < length (own_of operations entry.node)
  pub op : entry.op ≡ operation_at operations entry.node entry.serial
  pub reply : answer_at p entry.node entry.serial ≡ answer_of entry.reply

-- one of the entries is that of operation i of node n
abbrev pub HasEntry : List Entry → (n i : ℕ) → Type 0
HasEntry entries n i = (e : Entry) × Contains entries e × (e.node ≡ n) × (e.serial ≡ i)

-- the answers of the position are the replies of these entries, of which each operation has one, and its words are these contents
pub record IsOutcomeOf (size : Size) (operations : Operations) (entries : List Entry) (contents : List Stamped) (p : Position) : Type 0 where
  pub each : (e : Entry) → Contains entries e → IsEntryAt operations p e
  pub all : (n i : ℕ) → i < length (own_of operations n) → HasEntry entries n i
  pub words : (line word : ℕ) → line < size.lines → word < WORDS_PER_LINE
      → slice_index_or p.words (line * WORDS_PER_LINE + word) 0 ≡ slice_index (stamped_at contents line).line word

-- a schedule of the machine is a run of the script, and ends with this outcome
pub record HasRun (size : Size) (operations : Operations) (window : ℕ) (p : Position) (schedule : List Event) : Type 0 where
  pub runs : IsOrderOf operations window (seen size schedule)
  pub outcome : IsOutcomeOf size operations (done size schedule) (last_of (run size schedule)) p

-- one of these positions is the outcome of the schedule
abbrev pub IsAmong : Size → Operations → List Event → List Position → Type 0
IsAmong size operations schedule positions =
    (p : Position) × Contains positions p × IsOutcomeOf size operations (done size schedule) (last_of (run size schedule)) p
