-- Why an event was not applied.
use Rattle.std.specs.Prelude.{◌≡◌, Bool, true, false, Option, None, IsSome, IsTrue}
use Rattle.sci_words.specs.declared.event.Event.{Event, TheVariants.{Ask, Reply}}
use Rattle.sci_core.specs.{declared.fault.ApplyFault.{ApplyFault, TheVariants.{NotEnabled, Memory}}, Core.{Core}}

-- the events that lengthen a lane
abbrev pub is_sending : Event → Bool
is_sending (Ask n line kind) = true
is_sending (Reply n) = true
is_sending _ = false

-- The fault that is reported of an event that would lead to this state, or to none: it is not enabled, or it is an Ask or a
-- Reply that is enabled, and memory was refused.
abbrev pub IsFaultOf : Option Core → Event → ApplyFault → Type 0
IsFaultOf next event NotEnabled = next ≡ None
IsFaultOf next event (Memory refused) = IsSome next × IsTrue (is_sending event)
