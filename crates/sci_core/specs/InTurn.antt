-- Nodes that have at most one operation pending at a time.
use Rattle.std.specs.Prelude.{◌≡◌, ℕ, List, take, IsSome}
use Rattle.sci_words.specs.declared.event.Event.{Event}
use Rattle.sci_core.specs.{Size.{Size}, Node.{NodeOf, pending_on}, Core.{node_at, run}}

-- an operation is pending on one line at most
abbrev pub HasOnePending : NodeOf → Type 0
HasOnePending node = (a b : ℕ) → IsSome (pending_on node a) → IsSome (pending_on node b) → a ≡ b

-- so it is at node n wherever the schedule is
abbrev pub IssuesInTurn : Size → List Event → ℕ → Type 0
IssuesInTurn size schedule n = (place : ℕ) → HasOnePending (node_at (run size (take place schedule)) n)
