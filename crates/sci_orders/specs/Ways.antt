-- The ways from one position to another: each event brings one operation one step further.
use Rattle.std.specs.Prelude.{◌≡◌, ◌<◌, ℕ, ◌*◌, ◌==◌, if◌then◌else◌, List, [], ◌∷◌, length, map, slice_index_or, Vec}
use Rattle.sci_words.specs.declared.event.Event.{Event}
use Rattle.sci_orders.specs.{Eager.{AreFoundIn}, Positions.{IsStep, Operations, Position, answers_of, opening_position, operation_at, operation_count}}
use Rattle.sci_orders.specs.Positions.{position_of}
use Rattle.sci_orders.specs.declared.standing.Standing.{Standing}
use Rattle.sci_words.specs.declared.event.Event.TheVariants as event

-- the event by which operation i of node n comes one step further
abbrev pub event_at : Operations → Position → (n i : ℕ) → Event
event_at operations p n i =
    if length (answers_of p n) == i then event.Issue n (operation_at operations n i) else event.Perform n (operation_at operations n i).line

-- one operation comes one step further, from p to q, and this is the event
pub record IsStepBy (operations : Operations) (window : ℕ) (p q : Position) (e : Event) : Type 0 where
  pub taken : IsStep operations window p q
  pub is : e ≡ event_at operations p taken.node taken.place

-- the events lead from p to the last position, each by a step
abbrev pub LeadsTo : Operations → ℕ → Position → List Event → Position → Type 0
LeadsTo operations window p [] last = p ≡ last
LeadsTo operations window p (e ∷ order) last = (q : Position) × IsStepBy operations window p q e × LeadsTo operations window q order last

-- the events lead from the opening to the position, two for each operation
pub record IsWayTo (lines : ℕ) (operations : Operations) (window : ℕ) (p : Position) (order : List Event) : Type 0 where
  pub leads : LeadsTo operations window (opening_position lines operations) order p
  pub long : length order ≡ operation_count operations * 2

-- the positions that a search finds after each number of steps, from none on
abbrev pub AreLevels : ℕ → Operations → (window : ℕ) → List (List Position) → Type 0
AreLevels lines operations window levels =
    (k : ℕ) → k < length levels → AreFoundIn lines operations window k (slice_index_or levels k [])

-- the levels as positions
abbrev pub levels_of : {Z : Type 0} → List (Vec Standing Z) → List (List Position)
levels_of levels = map (λ level. map position_of level.items) levels
