-- The events of a schedule that aren't enabled when they come.
use Rattle.std.specs.Prelude.{ℕ, suc, List, [], ◌∷◌, ◌++◌, length, Option, Some, None, is_some, if◌then◌else◌}
use Rattle.sci_words.specs.declared.event.Event.{Event}
use Rattle.sci_core.specs.declared.{dead.DeadEvents.{DeadEvents}, obstacle.Obstacle.{Obstacle}}
use Rattle.sci_core.specs.{Core.{Core, step, stepping}, Obstacles.{obstacle_to}}

-- what stands in the way of an event, if it isn't enabled
abbrev pub obstacle_if_dead : Core → Event → Option Obstacle
obstacle_if_dead core e = if is_some (stepping core e) then None else obstacle_to core e

-- an event with this number of others before it, if something stands in its way
abbrev pub dead_at : ℕ → Option Obstacle → List (ℕ × Obstacle)
dead_at place None = []
dead_at place (Some obstacle) = (place, obstacle) ∷ []

-- each such event of a list, with the number of events before it and what stands in its way; `place` stand before the list
abbrev pub dead_events : Core → ℕ → List Event → List (ℕ × Obstacle)
dead_events core place [] = []
dead_events core place (e ∷ events) = dead_at place (obstacle_if_dead core e) ++ dead_events (step core e) (suc place) events

-- how many there are, and the first
abbrev pub summary : List (ℕ × Obstacle) → Option DeadEvents
summary [] = None
summary (first ∷ more) = Some (record { count = suc (length more); place = first.0; obstacle = first.1 })
