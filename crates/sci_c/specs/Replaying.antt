-- What the call answers that follows a schedule.
use Rattle.std.specs.Prelude.{◌≡◌, ℕ, List, Option, Some}
use Rattle.sci_core.specs.declared.dead.DeadEvents.{DeadEvents}
use Rattle.sci_core.specs.{Core.{Core, opening, run}, Coherent.{IsCoherent}, Dead.{dead_events, summary}}
use Rattle.sci_text.specs.Schedule.{IsSchedule, ScheduleValue, schedule_text}
use Rattle.sci_c_values.specs.{declared.dead.SciDead.{SciDead}, Dead.{dead_struct}}
use Rattle.sci_c.specs.{declared.thing.Thing.{Thing}, Kinds.{machine_in}, Machine.{size}}

-- the machine where the events of a schedule lead, each node of which may issue `limit` operations, and the events that weren't enabled
pub record IsLed (s : ScheduleValue) (limit : ℕ) (machine : Core) (dead : Option DeadEvents) : Type 0 where
  pub machine_is : machine ≡ run (size s.nodes s.lines s.slots limit) s.events
  pub coherent : IsCoherent machine
  pub dead_are : dead ≡ summary (dead_events (opening (size s.nodes s.lines s.slots limit)) 0 s.events)

-- an object keeps it, and the struct says which events weren't enabled
pub record IsKeptLed (s : ScheduleValue) (limit : ℕ) (c : SciDead) (new : Option Thing) : Type 0 where
  pub machine : Core
  pub dead : Option DeadEvents
  pub is_led : IsLed s limit machine dead
  pub is_in : machine_in new ≡ Some machine
  pub struct_is : c ≡ dead_struct dead

-- the bytes are the text of a schedule, which was followed
pub record IsReplayed (text : List ℕ) (limit : ℕ) (c : SciDead) (new : Option Thing) : Type 0 where
  pub schedule : ScheduleValue
  pub good : IsSchedule schedule
  pub text_is : text ≡ schedule_text schedule
  pub kept : IsKeptLed schedule limit c new
