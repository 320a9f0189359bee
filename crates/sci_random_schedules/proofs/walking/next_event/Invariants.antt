use Rattle.std.proofs.Common.{◌≡◌, ◌-◌, ℕ, List}
use Rattle.sci_words.specs.declared.event.Event.{Event}
use Rattle.sci_random.specs.Drawing.{after}
use Rattle.sci_random_schedules.specs.{declared.walking.TheConstants.{DRAWS}, Walking.{Draws}}
use Rattle.sci_random_schedules.proofs.walking.next_event.Given as goal

-- no draw so far was enabled: what the rest draws, all of them do
abbrev pub invariant-loop-draw : goal.invariant-loop-draw
invariant-loop-draw l = record {
  same : l.machine ≡ l.fn.machine;
  drawn : (event : Event) (later : List ℕ) → Draws (DRAWS - l._draw) l.fn.machine l.random event later
      → Draws DRAWS l.fn.machine (after l.fn.random) event later;
}
