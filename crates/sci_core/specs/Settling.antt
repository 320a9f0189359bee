-- Events that are made one after another, and the state where the machine has come to rest.
use Rattle.std.specs.Prelude.{◌≡◌, ◌<◌, ◌≤◌, ℕ, ◌+◌, ◌*◌, Bool, true, false, List, [], ◌∷◌, length, Some, is_some, count_by}
use Rattle.std.specs.List.{range_with_len, sum_by}
use Rattle.sci_words.specs.declared.{event.Event.{Event}, stamped.Stamped.{Stamped}}
use Rattle.sci_home.specs.declared.state.HomeState.TheVariants.{Home}
use Rattle.sci_history.specs.declared.entry.Entry.{Entry}
use Rattle.sci_core.specs.{Core.{Core, IsEnabled, node_at, run_from, step, stepping}, Draining.{IsDrained}, Node.{IsAtRest}, Work.{IsLogged}}
use Rattle.sci_core.specs.Sharing.{home_at}
use Rattle.sci_words.specs.declared.event.Event.TheVariants as event

-- ---- events that are made

-- every event but an Issue and a Refuse
abbrev pub settles : Event → Bool
settles (event.Issue n op) = false
settles (event.Refuse from n) = false
settles _ = true

-- every event but an Issue, a Refuse and a Perform
abbrev pub exchanges : Event → Bool
exchanges (event.Issue n op) = false
exchanges (event.Refuse from n) = false
exchanges (event.Perform n line) = false
exchanges _ = true

-- each of the events passes a test, and is enabled when it comes
abbrev pub AreMade : (Event → Bool) → Core → List Event → Type 0
AreMade may core [] = Unit {0}
AreMade may core (e ∷ events) = (may e ≡ true) × IsEnabled core e × AreMade may (step core e) events

-- that many such events lead from one state to another
pub record Leads (may : Event → Bool) (old new : Core) (count : ℕ) : Type 0 where
  pub events : List Event
  pub made : AreMade may old events
  pub counted : length events ≡ count
  pub then_ : run_from old events ≡ new

-- so does some number of them
pub record LeadsOn (may : Event → Bool) (old new : Core) : Type 0 where
  pub count : ℕ
  pub leads : Leads may old new count

-- the same operations are pending
pub record KeepsPending (old new : Core) : Type 0 where
  pub size : new.size ≡ old.size
  pub pending : (m : ℕ) → (node_at new m).pending ≡ (node_at old m).pending

-- After such events that perform nothing, node n performs the operation that is pending on a line. They are at most 11 for each
-- line with an entry that each node may have, and the four by which the node reads the line.
pub record IsPerformedNext (old new : Core) (n line : ℕ) (entry : Entry) : Type 0 where
  pub before : Core
  pub count : ℕ
  pub leads : Leads exchanges old before count
  pub lines : count ≤ 11 * (old.size.nodes * old.size.lines) + 4
  pub slots : count ≤ 11 * (old.size.nodes * old.size.slots) + 4
  pub performs : stepping before (event.Perform n line) ≡ Some new
  pub logged : IsLogged (node_at before n) (node_at new n) line entry

-- ---- at rest

-- Nothing is under way, no operation is pending, no cache has an entry, and each line's home has it alone.
pub record IsSettled (core : Core) : Type 0 where
  pub drained : IsDrained core
  pub rest : (n : ℕ) → IsAtRest (node_at core n)
  pub homes : (line : ℕ) → line < core.size.lines → (c : Stamped) × (home_at core line ≡ Home c)

-- how many operations are pending
abbrev pub pending_count : Core → ℕ
pending_count core = sum_by (λ n. count_by is_some (node_at core n).pending) (range_with_len 0 core.size.nodes)

-- The most events that it takes: 11 for each line with an entry that each node may have, of which there are no more
-- than lines, and no more than version slots; and 9 for each pending operation.
pub record IsWithin (core : Core) (count : ℕ) : Type 0 where
  pub lines : count ≤ 11 * (core.size.nodes * core.size.lines) + 9 * pending_count core
  pub slots : count ≤ 11 * (core.size.nodes * core.size.slots) + 9 * pending_count core
