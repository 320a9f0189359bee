-- Why an event of a walk isn't pushed.
use Rattle.std.proofs.Common.{◌≡◌, ◌<◌, length, arith, refl}
use Rattle.sci_words.specs.declared.{event.Event.{Event}, limits.TheConstants.{MAX_EVENTS}}
use Rattle.sci_text.specs.declared.fault.TextFaultKind.TheVariants.{Memory}
use Rattle.sci_text.specs.{declared.script.PushFault.{PushFault}, Schedule.{ScheduleValue, IsEventWithin, EventRefusal}}
use Rattle.sci_text.specs.Script.{kind_of}
use Rattle.sci_text.specs.declared.script.PushFault.TheVariants as push

-- an event of the machine is refused for want of memory alone, if there is room for it
pub memory_alone : (s : ScheduleValue) (event : Event) (fault : PushFault) → IsEventWithin s.nodes s.lines event → length s.events < MAX_EVENTS
    → EventRefusal s event fault → kind_of fault ≡ Memory
memory_alone s event push.Range within room refused = absurd (refused within)
memory_alone s event push.TooMany within room refused =
    let full = refused.1 in
    absurd (omega (arith, room, full))
memory_alone s event push.Memory within room refused = refl
