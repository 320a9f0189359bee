-- Entries that are placed one after another, each when all that has to come before it on its line is placed.
use Rattle.std.specs.Prelude.{◌≡◌, ◌+◌, ◌-◌, ◌<◌, ◌≤◌, ℕ, true, false, Bool, if◌then◌else◌, List, [], ◌∷◌, ◌++◌, length, filter, count_by, map, drop}
use Rattle.std.specs.{Prelude.{slice_index_or, slice_get, Option, Some, None, nat_lt, ◌==◌}, Global.{Vec}}
use Rattle.std.specs.List.{AllByRecursion, flat_map, range_with_len}
use Rattle.sci_words.specs.declared.{limits.TheConstants.{MAX_NODES}, stamped.Stamped.{Stamped}}
use Rattle.sci_words.specs.Stamped.{zero_line, zero_stamped}
use Rattle.sci_history.specs.declared.{entry.Entry.{Entry}, order_verdict.Reason.{Reason}}
use Rattle.sci_history.specs.declared.order_verdict.{Reason.TheVariants.{ReadsFrom, FromRead, Coherence}, Step.{Step}}
use Rattle.sci_history.specs.{declared.placing.LineState.{LineState}, Cycle.{IsInLog, IsChain}, Audit.{AreWithin}}
use Rattle.sci_history.specs.{History.{IsHistory, words_at}, Lawful.{Lawful}}
use Rattle.sci_history.specs.Placed.{AreOwn, log_of, is_of_node, is_on_line, is_making, reads, maker_count, on_line, placed}

-- ---- lines

-- how many loads there are at each version up to the number of makers
pub record HasCounts (counts : List ℕ) (entries : List Entry) : Type 0 where
  pub long : length counts ≡ maker_count entries + 1
  pub each : (version : ℕ) → version ≤ maker_count entries → slice_index_or counts version 0 ≡ count_by (reads version) entries

-- lists in vectors
abbrev pub lists_of_counts : List (Vec ℕ) → List (List ℕ)
lists_of_counts lists = map (λ list. list.items) lists

-- a maker of the next version after the last load at this one, or a load at this version
pub record CanFollow (state : LineState) (entry : Entry) : Type 0 where
  pub maker : is_making entry ≡ true → (state.left ≡ 0) × (entry.version ≡ state.version + 1)
  pub load : is_making entry ≡ false → entry.version ≡ state.version

-- the line after an entry
abbrev pub state_after : List ℕ → LineState → Entry → LineState
state_after loads state entry =
    if is_making entry
    then record { version = entry.version; left = slice_index_or loads entry.version 0 }
    else record { version = state.version; left = state.left - 1 }

abbrev pub no_state : LineState
no_state = record { version = 0; left = 0 }

abbrev pub state_of : List LineState → ℕ → LineState
state_of lines line = slice_index_or lines line no_state

-- ---- what is placed, and what isn't

-- of each log the entries from a place on
unfoldable pub rests_of : List (List Entry) → List ℕ → List (List Entry)
rests_of logs next = map (λ node. drop (slice_index_or next node 0) (log_of logs node)) (range_with_len 0 MAX_NODES)

abbrev pub all_of : List (List Entry) → List Entry
all_of logs = flat_map (λ log. log) logs

-- The entries placed on a line are its history up to the line's state; as many loads at its version are left as it says,
-- and none at a version before.
pub record IsPlacedOn (logs rests : List (List Entry)) (order : List Entry) (line : ℕ) (state : LineState) : Type 0 where
  pub history : IsHistory (filter (is_on_line line) order) zero_stamped
      (record { line = words_at zero_line (placed logs line) state.version; version = state.version })
  pub left : state.left ≡ count_by (reads state.version) (on_line line rests)
  pub past : (version : ℕ) → version < state.version → count_by (reads version) (on_line line rests) ≡ 0

-- what is placed of each log, and what is left of it, are the log; nothing is placed twice
pub record IsPlacing (logs : List (List Entry)) (count : ℕ) (lines : List LineState) (rests : List (List Entry)) (order : List Entry) : Type 0 where
  pub sixteen : length rests ≡ MAX_NODES
  pub logged : (node : ℕ) → filter (is_of_node node) order ++ log_of rests node ≡ log_of logs node
  pub counts : (p : Entry → Bool) → count_by p order + count_by p (all_of rests) ≡ count_by p (all_of logs)
  pub each : (line : ℕ) → line < count → IsPlacedOn logs rests order line (state_of lines line)

-- the first entry of a node that isn't placed, if there is one, can't be placed next
abbrev pub IsStuckAt : List LineState → List (List Entry) → ℕ → Type 0
IsStuckAt lines rests node = (entry : Entry) (rest : List Entry) → log_of rests node ≡ entry ∷ rest → CanFollow (state_of lines entry.op.line) entry → ⊥

-- entries are placed until each node is stuck
pub record AreAllPlaced (logs : List (List Entry)) (count : ℕ) (rests : List (List Entry)) (order : List Entry) : Type 0 where
  pub lines : List LineState
  pub placing : IsPlacing logs count lines rests order
  pub stuck : (node : ℕ) → node < MAX_NODES → IsStuckAt lines rests node

-- logs that are lawful with some last contents, on this many lines, each with the number of its loads at each version
pub record AreOrderable (logs : List (List Entry)) (loads : List (List ℕ)) : Type 0 where
  pub last : List Stamped
  pub lawful : Lawful logs last
  pub own : AreOwn logs
  pub sixteen : length logs ≡ MAX_NODES
  pub within : AreWithin (length loads) logs
  pub counts : (line : ℕ) → line < length loads → HasCounts (slice_index_or loads line []) (on_line line logs)

-- ---- what an entry waits for

-- why the first entry comes after the second, if it does by what both are on their line
abbrev pub line_reason : Entry → Entry → Option Reason
line_reason x y =
    if y.op.line == x.op.line
    then (if is_making x
    then (if nat_lt y.version x.version then Some (if is_making y then Coherence else FromRead) else None)
    else (if is_making y then (if y.version == x.version then Some ReadsFrom else None) else None))
    else None

-- where an entry stands that is left and comes before this one on its line
pub record IsBlocker (logs : List (List Entry)) (next : List ℕ) (entry : Entry) (node place : ℕ) (reason : Reason) : Type 0 where
  pub other : Entry
  pub known : node < MAX_NODES
  pub left : slice_index_or next node 0 ≤ place
  pub here : slice_get (log_of logs node) place ≡ Some other
  pub after : line_reason entry other ≡ Some reason

-- each entry that is left first in its log comes after another that is left
abbrev pub AreBlocked : List (List Entry) → Type 0
AreBlocked rests = (node : ℕ) (entry : Entry) (rest : List Entry) → node < MAX_NODES → log_of rests node ≡ entry ∷ rest
    → ((m : ℕ) → AllByRecursion (λ y. line_reason entry y ≡ None) (log_of rests m)) → ⊥

-- ---- steps from one that is left first to another

-- the entry that is left first of a node
pub record IsFirstLeft (logs : List (List Entry)) (next : List ℕ) (node : ℕ) (x : Step) : Type 0 where
  pub logged : IsInLog logs x
  pub own : x.entry.node ≡ node
  pub first : x.place ≡ slice_index_or next node 0

-- steps that begin with the one of a node, and lead to the one of another
pub record LeadsTo (logs : List (List Entry)) (next : List ℕ) (steps : List Step) (from to : ℕ) : Type 0 where
  pub first : Step
  pub rest : List Step
  pub whole : steps ≡ first ∷ rest
  pub begins : IsFirstLeft logs next from first
  pub entries : AllByRecursion (IsInLog logs) steps
  pub chain : (end : Step) → IsFirstLeft logs next to end → IsChain steps end
  pub few : length steps ≤ 2
