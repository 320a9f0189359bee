-- Which events a walk draws, from the state of its generator.
use Rattle.std.specs.Prelude.{nat_lt, slice_index_or}
use Rattle.std.specs.Prelude.{◌≡◌, ◌<◌, ◌≤◌, ◌⊎◌, ◌+◌, ◌-◌, ◌*◌, ◌/◌, ◌%◌, ◌==◌, ℕ, zero, suc, List, [], ◌∷◌, Option, Some, None, if◌then◌else◌, min, slice_get}
use Rattle.sci_words.specs.declared.event.{AskKind.TheVariants.{Mread}, Event.{Event}, TheConstants.AskKind.{ALL}}
use Rattle.sci_random.specs.Drawing.{IsActOf, after, drawn}
use Rattle.sci_core.specs.Core.{Core, IsEnabled, node_of, step, stepping}
use Rattle.sci_random_schedules.specs.declared.walking.TheConstants.{DRAWS}
use Rattle.sci_words.specs.declared.event.Event.TheVariants as event

-- ---- any event

-- the line that a state gives, mostly one of the first two
abbrev pub line_drawn : ℕ → List ℕ → ℕ
line_drawn lines state = drawn (if drawn 3 state == 0 then lines else min lines 2) (after state)

-- an event of this sort with these numbers: what else it has is drawn from a state, which leaves this one
abbrev pub IsOfSort : ℕ → ℕ → ℕ → ℕ → List ℕ → Event → List ℕ → Type 0
IsOfSort sort node from line state (event.Issue n op) later =
    (sort ≡ 0) × (n ≡ node) × (op.line ≡ line) × (op.word ≡ min (drawn 9 state) 7) × IsActOf (after state) op.act
    × (later ≡ after (after (after (after state))))
IsOfSort sort node from line state (event.Perform n l) later = ((sort ≡ 1) ⊎ (sort ≡ 2)) × (n ≡ node) × (l ≡ line) × (later ≡ state)
IsOfSort sort node from line state (event.Ask n l kind) later =
    ((sort ≡ 3) ⊎ (sort ≡ 4)) × (n ≡ node) × (l ≡ line) × (slice_get ALL (drawn 9 state) ≡ Some kind) × (later ≡ after state)
IsOfSort sort node from line state (event.Serve f n) later = ((sort ≡ 5) ⊎ (sort ≡ 6)) × (f ≡ from) × (n ≡ node) × (later ≡ state)
IsOfSort sort node from line state (event.Refuse f n) later = (sort ≡ 7) × (f ≡ from) × (n ≡ node) × (later ≡ state)
IsOfSort sort node from line state (event.Reply n) later = (sort ≡ 8) × (n ≡ node) × (later ≡ state)
IsOfSort sort node from line state (event.Accept f n) later = (sort ≡ 9) × (f ≡ from) × (n ≡ node) × (later ≡ state)

-- This event is drawn from a state, which leaves another: first its sort, then its node, the node that a packet is from, and
-- the line, of a machine of this size.
abbrev pub IsDrawn : ℕ → ℕ → List ℕ → Event → List ℕ → Type 0
IsDrawn nodes lines state event later =
    IsOfSort (drawn 10 state) (drawn nodes (after state)) (drawn nodes (after (after state))) (line_drawn lines (after (after (after state))))
    (after (after (after (after (after state))))) event later

-- ---- an enabled event

-- the same event at another node
abbrev pub moved_to : ℕ → Event → Event
moved_to n (event.Issue m op) = event.Issue n op
moved_to n (event.Perform m line) = event.Perform n line
moved_to n (event.Ask m line kind) = event.Ask n line kind
moved_to n (event.Serve from m) = event.Serve from n
moved_to n (event.Refuse from m) = event.Refuse from n
moved_to n (event.Reply m) = event.Reply n
moved_to n (event.Accept from m) = event.Accept from n

-- and at the node that stands this many steps behind its own, in a circle of this many nodes
abbrev pub steps_on : ℕ → ℕ → Event → Event
steps_on nodes steps event = moved_to ((node_of event + steps) % nodes) event

-- at the nodes fewer steps behind its own than this many, the event isn't enabled
abbrev pub IsNotBefore : Core → Event → ℕ → Type 0
IsNotBefore core first steps = (fewer : ℕ) → fewer < steps → stepping core (steps_on core.size.nodes fewer first) ≡ None

-- it is found at the first node in the circle at which it is enabled, or there is none
abbrev pub IsFound : Core → Event → Option Event → Type 0
IsFound core first None = IsNotBefore core first core.size.nodes
IsFound core first (Some event) =
    (steps : ℕ) × (steps < core.size.nodes) × (event ≡ steps_on core.size.nodes steps first) × IsEnabled core event × IsNotBefore core first steps

-- the events that take a packet from a node, and those that send an answer
abbrev pub passing : ℕ → ℕ → Event
passing from sort = if sort == 0 then event.Serve from 0 else if sort == 1 then event.Accept from 0 else event.Reply 0

-- What is looked for, one place after another, where no draw finds an enabled event: the nine asks of each line, and then three
-- events that pass a packet on, for each node that it may be from. All are of node 0.
abbrev pub looked_for : ℕ → ℕ → Event
looked_for lines place = if nat_lt place (9 * lines) then event.Ask 0 (place / 9) (slice_index_or ALL (place % 9) Mread)
    else passing ((place - 9 * lines) / 3) ((place - 9 * lines) % 3)

-- of these the first one that is enabled at some node
pub record IsFirstFound (core : Core) (event : Event) : Type 0 where
  pub place : ℕ
  pub within : place < 9 * core.size.lines + 3 * core.size.nodes
  pub found : IsFound core (looked_for core.size.lines place) (Some event)
  pub none_before : (earlier : ℕ) → earlier < place → IsFound core (looked_for core.size.lines earlier) None

-- Events are drawn until one is found that is enabled, this many at most. Then one is looked for.
abbrev pub Draws : ℕ → Core → List ℕ → Event → List ℕ → Type 0
Draws zero core state event later = IsFirstFound core event × (later ≡ state)
Draws (suc draws) core state event later =
    (first : Event) × (mid : List ℕ) × IsDrawn core.size.nodes core.size.lines state first mid
    × ((IsFound core first (Some event) × (later ≡ mid)) ⊎ (IsFound core first None × Draws draws core mid event later))

-- ---- a walk

-- The next event of a walk, and the state that is left: any event, in this many of a hundred, or else one that is enabled: one
-- that ten thousand draws find, or the first that is looked for.
abbrev pub IsNext : ℕ → Core → List ℕ → Event → List ℕ → Type 0
IsNext share core state event later =
    ((drawn 100 state < share) × IsDrawn core.size.nodes core.size.lines (after state) event later)
    ⊎ ((share ≤ drawn 100 state) × Draws DRAWS core (after state) event later)

-- these events are drawn one after another, each in the state of the machine to which those before it lead
abbrev pub Walks : ℕ → Core → List ℕ → List Event → Type 0
Walks share core state [] = Unit {0}
Walks share core state (event ∷ events) = (later : List ℕ) × IsNext share core state event later × Walks share (step core event) later events
