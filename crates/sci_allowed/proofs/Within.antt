-- The events of the schedule of a way are the machine's.
use Rattle.std.proofs.Common.{◌==◌, ℕ, ◌<◌, ◌≤◌, Bool, true, false, if◌then◌else◌, List, [], ◌∷◌, length, sym, subst, arith}
use Rattle.std.proofs.lemmas.List.Elements.{All-append, All-cons, All-from_recursion, All-head, All-tail}
use Rattle.sci_words.specs.declared.{event.Event.{Event}}
use Rattle.sci_text.specs.{Schedule.{AreEventsWithin, IsEventWithin}, Script.{IsWithin}}
use Rattle.sci_core.specs.Size.{Size}
use Rattle.sci_orders.specs.{Positions.{Operations, Position, answers_of, operation_at, own_of}, Ways.{LeadsTo}, Witness.{schedule_of, turn_of}}
use Rattle.sci_words.specs.declared.event.Event.TheVariants as event

module _ (size : Size) (some : 1 ≤ size.nodes) where
  turn_within : (e : Event) → IsEventWithin size.nodes size.lines e → AreEventsWithin size.nodes size.lines (turn_of size e)
  turn_within (event.Perform n line) (node, low) = grind arith
  turn_within e within = All-from_recursion (IsEventWithin size.nodes size.lines) (e ∷ []) (within, tt)

  pub schedule_within : (order : List Event) → AreEventsWithin size.nodes size.lines order → AreEventsWithin size.nodes size.lines (schedule_of size order)
  schedule_within [] all = all
  schedule_within (e ∷ order) all =
      All-append (IsEventWithin size.nodes size.lines) (turn_of size e) (schedule_of size order)
      (turn_within e (All-head (IsEventWithin size.nodes size.lines) e order all))
      (schedule_within order (All-tail (IsEventWithin size.nodes size.lines) e order all))

-- each operation of a node is within the machine
abbrev AreSharesWithin : (nodes lines : ℕ) → Operations → Type 0
AreSharesWithin nodes lines operations = (n i : ℕ) → i < length (own_of operations n) → IsWithin nodes lines n (operation_at operations n i)

module _ (nodes lines : ℕ) (operations : Operations) (known : AreSharesWithin nodes lines operations) where
  either_within : (b : Bool) (n i : ℕ) → i < length (own_of operations n)
      → IsEventWithin nodes lines (if b then event.Issue n (operation_at operations n i) else event.Perform n (operation_at operations n i).line)
  either_within true n i below = known n i below
  either_within false n i below = ((known n i below).known_node, (known n i below).known_line)

  pub way_within : (window : ℕ) (p last : Position) (order : List Event) → LeadsTo operations window p order last → AreEventsWithin nodes lines order
  way_within window p last [] leads = λ k d lt. absurd (omega arith)
  way_within window p last (e ∷ order) (q, step, leads) =
      All-cons (IsEventWithin nodes lines) e order
      (subst (IsEventWithin nodes lines) (sym step.is)
      (either_within (length (answers_of p step.taken.node) == step.taken.place) step.taken.node step.taken.place step.taken.below))
      (way_within window q last order leads)
