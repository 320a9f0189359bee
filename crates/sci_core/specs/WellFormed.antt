-- Plain facts of a machine's state: sizes, senders and receivers, and numbers in range.
use Rattle.std.specs.{Prelude.{◌≡◌, ℕ, ◌*◌, ◌/◌, ◌%◌, ◌<◌, ◌≤◌, false, slice_index_or, Option, IfSome}, List.{All}}
use Rattle.sci_words.specs.declared.limits.TheConstants.{CONTROLS}
use Rattle.sci_packets.specs.declared.body.Body.{Body, TheVariants.{Roll, Setback, Mgone, Purged, Fdata}}
use Rattle.sci_packets.specs.Table.{is_request, IsRequest}
use Rattle.sci_home.specs.{declared.state.HomeState.{HomeState}, Serving.{opening_home, IsForHome}}
use Rattle.sci_cache.specs.State.{CacheState, Joining, FreshJoining, Head, FreshHead, Below, Purging, Claiming, Rolling, Telling}
use Rattle.sci_cache.specs.Cache.{Letter, line_of, slots_taken}
use Rattle.sci_core.specs.{Node.{NodeOf, lines_of, IsNode}, Core.{Core, HasSize, node_at, lane_at}, Size.{Size}}
use Rattle.sci_home.specs.declared.state.HomeState.TheVariants as home

-- ---- every identifier names a node

abbrev pub IsBelow : ℕ → Option ℕ → Type 0
IsBelow nodes identifier = IfSome identifier (λ i. i < nodes)

abbrev pub NamesNodes : ℕ → CacheState → Type 0
NamesNodes nodes (Joining p sent) = p < nodes
NamesNodes nodes (FreshJoining p sent c) = p < nodes
NamesNodes nodes (Head f c) = IsBelow nodes f
NamesNodes nodes (FreshHead f c) = IsBelow nodes f
NamesNodes nodes (Below f b c) = IsBelow nodes f × (b < nodes)
NamesNodes nodes (Purging q c) = q < nodes
NamesNodes nodes (Claiming f c) = IsBelow nodes f
NamesNodes nodes (Rolling f b c) = IsBelow nodes f × (b < nodes)
NamesNodes nodes (Telling r w sent) = (r < nodes) × (w < nodes)
NamesNodes nodes _ = Unit {0}

abbrev pub HomeNamesNodes : ℕ → HomeState → Type 0
HomeNamesNodes nodes (home.Home c) = Unit {0}
HomeNamesNodes nodes (home.Fresh p c) = p < nodes
HomeNamesNodes nodes (home.Gone p) = p < nodes

abbrev pub BodyNamesNodes : ℕ → Body → Type 0
BodyNamesNodes nodes (Roll forward) = IsBelow nodes forward
BodyNamesNodes nodes (Setback backward) = backward < nodes
BodyNamesNodes nodes (Mgone old) = old < nodes
BodyNamesNodes nodes (Purged forward) = IsBelow nodes forward
BodyNamesNodes nodes (Fdata old c) = IsBelow nodes old
BodyNamesNodes nodes _ = Unit {0}

-- ---- nodes and lanes

-- a packet between two nodes of the machine, about one of its lines
pub record IsLetter (nodes lines : ℕ) (letter : Letter) : Type 0 where
  pub target : letter.target < nodes
  pub source : letter.source < nodes
  pub about : letter.line < lines
  pub names : BodyNamesNodes nodes letter.body

-- a request; one that a home serves goes to the line's home
pub record IsRequestLetter (nodes lines : ℕ) (letter : Letter) : Type 0 where
  pub letter_ok : IsLetter nodes lines letter
  pub asks : IsRequest letter.body
  pub home : IsForHome letter.body → letter.line % nodes ≡ letter.target

pub record IsAnswerLetter (nodes lines : ℕ) (letter : Letter) : Type 0 where
  pub letter_ok : IsLetter nodes lines letter
  pub answers : is_request letter.body ≡ false

-- a lane's packets go from its sender to its receiver; the lanes of requests stand before those of answers
pub record IsInLane (nodes lines place : ℕ) (letter : Letter) : Type 0 where
  pub from : letter.source ≡ place / nodes % nodes
  pub to : letter.target ≡ place % nodes
  pub request : place < nodes * nodes → IsRequestLetter nodes lines letter
  pub answer : nodes * nodes ≤ place → IsAnswerLetter nodes lines letter

-- the part of node n
pub record IsPart (size : Size) (n : ℕ) (part : NodeOf) : Type 0 where
  pub me : part.cache.me ≡ n
  pub all : part.cache.nodes ≡ size.nodes
  pub room : part.cache.slots ≡ size.slots
  pub each : lines_of part ≡ size.lines
  pub most : part.limit ≡ size.limit
  pub states : (line : ℕ) → NamesNodes size.nodes (line_of part.cache line).state
  pub homes : (place : ℕ) → HomeNamesNodes size.nodes (slice_index_or part.homes place opening_home)
  pub answer : IfSome part.waiting (λ letter. IsAnswerLetter size.nodes size.lines letter × (letter.source ≡ n))
  pub asks : (line : ℕ) → (line_of part.cache line).asks < CONTROLS
  -- each line with an entry takes a version slot
  pub few : slots_taken part.cache.lines ≤ part.cache.slots
  pub fits : IsNode part
  pub own : All (λ entry. entry.node ≡ n) part.log

pub record IsWellFormed (core : Core) : Type 0 where
  pub sizes : HasSize core
  pub each_part : (n : ℕ) → n < core.size.nodes → IsPart core.size n (node_at core n)
  pub each_lane : (place : ℕ) → All (IsInLane core.size.nodes core.size.lines place) (lane_at core place)
