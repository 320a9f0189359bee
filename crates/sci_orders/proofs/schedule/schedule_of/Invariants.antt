-- The schedule of the events so far.
use Rattle.std.proofs.Common.{◌≡◌, ℕ, take}
use Rattle.sci_core.specs.Size.{size_of}
use Rattle.sci_orders.specs.Witness.{schedule_of}
use Rattle.sci_orders.proofs.schedule.schedule_of.Given as goal

abbrev pub invariant-loop-event : goal.invariant-loop-event
invariant-loop-event l = (limit : ℕ) → l.events.items ≡ schedule_of (size_of l.extent limit) (take l.event-index l.order)
