-- An event that is drawn until one is enabled, or looked for, is enabled.
use Rattle.std.proofs.Common.{ℕ, zero, suc, List, [], ◌∷◌, refl, arith, inl, inr}
use Rattle.sci_words.specs.declared.event.Event.{Event}
use Rattle.sci_random.specs.Drawing.{after}
use Rattle.sci_core.specs.{Core.{Core, IsEnabled, step}, Settling.{AreMade}}
use Rattle.sci_orders.specs.Witness.{any_event}
use Rattle.sci_random_schedules.specs.{declared.walking.TheConstants.{DRAWS}, Walking.{Draws, IsNext, Walks}}
use Rattle.sci_random_schedules.proofs.laws.walks_are_enabled.Goals as goal

draws_enabled : (draws : ℕ) (core : Core) (state : List ℕ) (event : Event) (later : List ℕ) → Draws draws core state event later → IsEnabled core event
draws_enabled zero core state event later drawn = drawn.0.found.3
draws_enabled (suc draws) core state event later drawn = elim drawn.3 [
  | inl one ↦ one.0.3
  | inr more ↦ draws_enabled draws core drawn.1 event later more.1
]

next_enabled : (core : Core) (state : List ℕ) (event : Event) (later : List ℕ) → IsNext 0 core state event later → IsEnabled core event
next_enabled core state event later (inl any) = let few = any.0 in absurd (omega arith)
next_enabled core state event later (inr drawn) = draws_enabled DRAWS core (after state) event later drawn.1

walks_enabled : (core : Core) (state : List ℕ) (events : List Event) → Walks 0 core state events → AreMade any_event core events
walks_enabled core state [] walks = tt
walks_enabled core state (event ∷ events) walks =
    (refl, next_enabled core state event walks.0 walks.1, walks_enabled (step core event) walks.0 events walks.2)

pub returns : goal.returns
returns c = walks_enabled
