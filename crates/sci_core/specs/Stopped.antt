-- Where a run stands that memory stopped.
use Rattle.std.specs.Prelude.{◌≡◌, ℕ, List, take, slice_get, Some, IsTrue}
use Rattle.sci_words.specs.declared.event.Event.{Event}
use Rattle.sci_core.specs.{Core.{Core, IsEnabled, run_from}, Fault.{is_sending}}

-- the state is the one where the events before some Ask or Reply lead, which is enabled there
pub record IsStoppedAt (old new : Core) (events : List Event) : Type 0 where
  pub place : ℕ
  pub event : Event
  pub refused : slice_get events place ≡ Some event
  pub stands : new ≡ run_from old (take place events)
  pub enabled : IsEnabled new event
  pub sends : IsTrue (is_sending event)
