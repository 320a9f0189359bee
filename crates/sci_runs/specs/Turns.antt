-- In which order nodes take their turns.
use Rattle.std.specs.Prelude.{◌<◌, ◌≤◌, ◌==◌, ◌+◌, ◌*◌, ℕ, zero, suc, List, [], ◌∷◌, ◌++◌, Option, Some, None, count_by, length, nat_lt, if◌then◌else◌}
use Rattle.sci_random.specs.Drawing.{after, drawn, seeded}
use Rattle.sci_words.specs.declared.limits.TheConstants.{MAX_EVENTS}
use Rattle.sci_text.specs.Script.{ScriptValue}
use Rattle.sci_drive.specs.ScriptLogs.{size_for}
use Rattle.sci_fair.specs.Steps.{most_changes}
use Rattle.sci_policy.specs.declared.policy.TheConstants.{PATIENCE}
use Rattle.sci_runs.specs.declared.order.Order.{Order, TheVariants.{Circle, Drawn}}

-- the order at the start: a circle from node 0 on, or with a seed, drawn from it
abbrev pub first_order : Option ℕ → Order
first_order None = Circle 0
first_order (Some seed) = Drawn (seeded seed)

-- the node whose turn comes next, of this many
abbrev pub next_node : ℕ → Order → ℕ
next_node nodes (Circle next) = if nat_lt next nodes then next else 0
next_node nodes (Drawn state) = drawn nodes state

-- the order after that turn
abbrev pub next_order : ℕ → Order → Order
next_order nodes (Circle next) = Circle (next_node nodes (Circle next) + 1)
next_order nodes (Drawn state) = Drawn (after state)

-- the order after this many turns
abbrev pub order_after : ℕ → ℕ → Order → Order
order_after nodes zero order = order
order_after nodes (suc turns) order = next_order nodes (order_after nodes turns order)

-- the nodes that take the next turns, this many
abbrev pub turns_in : ℕ → ℕ → Order → List ℕ
turns_in nodes zero order = []
turns_in nodes (suc turns) order = turns_in nodes turns order ++ next_node nodes (order_after nodes turns order) ∷ []

-- among this many turns of an order, wherever they begin, each node has as many as its policy's patience
abbrev pub GivesTurns : ℕ → ℕ → Order → Type 0
GivesTurns nodes window order =
    (start n : ℕ) → n < nodes → PATIENCE ≤ count_by (λ m. m == n) (turns_in nodes window (order_after nodes start order))

-- as many turns as a run in a circle may take: 64 of each node for each event that a schedule can have, and 64 more
abbrev pub circle_turns : ℕ → ℕ
circle_turns nodes = PATIENCE * nodes * (MAX_EVENTS + 1)

-- As many windows of turns, in each of which each node has one, as finish a script whatever comes: an operation is issued and
-- performed, so that as much is done at most 2 times its operations, and between two such rounds machines change few times.
abbrev pub finishing_windows : ScriptValue → ℕ
finishing_windows script = (2 * length script.operations + 1) * (most_changes (size_for script) + 1) * 1253
