-- What is under way, weighed by how many events bring it to its end.
use Rattle.std.specs.Prelude.{◌≡◌, ◌≤◌, ◌&&◌, ℕ, ◌+◌, ◌*◌, Bool, true, false, if◌then◌else◌, List, [], ◌∷◌, Option, Some, None, is_some}
use Rattle.std.specs.List.{sum_by, AllByRecursion}
use Rattle.sci_words.specs.declared.event.Event.{Event}
use Rattle.sci_packets.specs.Table.{is_request}
use Rattle.sci_cache.specs.Cache.{Letter}
use Rattle.sci_core.specs.Core.{Core, IsEnabled, lane_at, node_at, step, stepping}
use Rattle.sci_words.specs.declared.event.Event.TheVariants as event

-- ---- the weight

-- a request in a lane is served, its answer goes out, and is accepted
abbrev pub letter_weight : Letter → ℕ
letter_weight letter = if is_request letter.body then 3 else 1

abbrev pub lane_weight : List Letter → ℕ
lane_weight lane = sum_by letter_weight lane

abbrev pub answer_weight : Option Letter → ℕ
answer_weight None = 0
answer_weight (Some answer) = 2

-- 3 for each request in a lane, 2 for each answer that waits at a node, and 1 for each answer in a lane
abbrev pub weight : Core → ℕ
weight core = sum_by (λ part. answer_weight part.waiting) core.parts + sum_by lane_weight core.lanes

-- no more than three times as much as each node may have of lines with an entry
pub record IsLight (core : Core) : Type 0 where
  pub lines : weight core ≤ 3 * (core.size.nodes * core.size.lines)
  pub slots : weight core ≤ 3 * (core.size.nodes * core.size.slots)

-- nothing is under way
pub record IsDrained (core : Core) : Type 0 where
  pub waiting : (n : ℕ) → (node_at core n).waiting ≡ None
  pub lanes : (place : ℕ) → lane_at core place ≡ []

-- ---- the events that move a packet on

abbrev pub is_asking : Event → Bool
is_asking (event.Ask n line kind) = true
is_asking _ = false

-- a packet is taken, or an answer goes out
abbrev pub moves_on : Event → Bool
moves_on (event.Serve from n) = true
moves_on (event.Refuse from n) = true
moves_on (event.Reply n) = true
moves_on (event.Accept from n) = true
moves_on _ = false

-- the same without a refusal
abbrev pub brings_on : Event → Bool
brings_on (event.Serve from n) = true
brings_on (event.Reply n) = true
brings_on (event.Accept from n) = true
brings_on _ = false

abbrev pub one_if : Bool → ℕ
one_if true = 1
one_if false = 0

-- how many events of a list move a packet on: those that are enabled when they come
abbrev pub moves_made : Core → List Event → ℕ
moves_made core [] = 0
moves_made core (e ∷ events) = one_if (moves_on e && is_some (stepping core e)) + moves_made (step core e) events

-- none of these events is an Ask
abbrev pub AskNothing : List Event → Type 0
AskNothing events = AllByRecursion (λ e. is_asking e ≡ false) events

-- something is under way that can be brought on, or nothing is under way
pub data CanDrain (core : Core) : Type 0 where
  Drained : IsDrained core → CanDrain core
  Drains : (e : Event) → brings_on e ≡ true → IsEnabled core e → CanDrain core
