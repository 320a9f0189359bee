-- The struct of the events of a schedule that weren't enabled.
use Rattle.std.specs.Prelude.{Option, Some, None}
use Rattle.sci_core.specs.declared.dead.DeadEvents.{DeadEvents}
use Rattle.sci_c_values.specs.{declared.dead.SciDead.{SciDead}, Obstacle.{obstacle_number}}

-- how many there are, the first of them and what stands in its way; all is 0 if there are none
abbrev pub dead_struct : Option DeadEvents → SciDead
dead_struct None = record { count = 0; place = 0; obstacle = 0 }
dead_struct (Some dead) = record { count = dead.count; place = dead.place; obstacle = obstacle_number (Some dead.obstacle) }
