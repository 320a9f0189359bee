-- Why an event isn't enabled: the first thing that stands in its way, in the order of these cases.
use Rattle.std.specs.Prelude.{ℕ, List, codes, Bool, nat_lt, not, if◌then◌else◌, Option, Some, None, is_some, is_none, option_map, Result, Ok, Err, slice_get}
use Rattle.sci_words.specs.declared.{limits.TheConstants.{WORDS_PER_LINE}, event.{AskKind.{AskKind}, Event.{Event}}}
use Rattle.sci_words.specs.declared.operation.Op.{Op}
use Rattle.sci_cache.specs.{declared.fault.AskFault.{AskFault}, Cache.{CacheOf, Letter, cache_asking}}
use Rattle.sci_core.specs.declared.{obstacle.Obstacle.{Obstacle}, submit.SubmitFault.{SubmitFault}}
use Rattle.sci_core.specs.declared.obstacle.Obstacle.TheVariants.{NoSuchNode, NoSuchSender, NoSuchLine, NoSuchWord, AlreadyPending, NoIssueLeft}
use Rattle.sci_core.specs.declared.obstacle.Obstacle.TheVariants.{NothingPending, NotAllowed, NotAsked, NoSlot, NothingUnderWay, AnswerWaits, SetbackComes}
use Rattle.sci_core.specs.declared.{obstacle.Obstacle.TheVariants.{NoAnswerWaits}, taking.Taking.{Taking}}
use Rattle.sci_core.specs.declared.taking.Taking.TheVariants.{Serve, Refuse, Accept}
use Rattle.sci_core.specs.Node.{NodeOf, lines_of, pending_on, is_setback, node_performing}
use Rattle.sci_core.specs.{Core.{Core, node_at, lane_of, node_of}, Taking.{lane_kind}}
use Rattle.sci_words.specs.declared.event.Event.TheVariants as event
use Rattle.sci_cache.specs.declared.fault.AskFault.TheVariants as fault
use Rattle.sci_core.specs.declared.submit.SubmitFault.TheVariants as submit

-- what stands in the way: this, unless the condition is met, and else the rest
abbrev pub unless : Bool → Obstacle → Option Obstacle → Option Obstacle
unless met obstacle rest = if met then rest else Some obstacle

-- why an operation can't be submitted, if it can't: the first cause that holds
abbrev pub submit_fault : NodeOf → Op → Option SubmitFault
submit_fault node op =
    if not (nat_lt op.line (lines_of node)) then Some submit.NoSuchLine
    else if not (nat_lt op.word WORDS_PER_LINE) then Some submit.NoSuchWord
    else if is_some (pending_on node op.line) then Some submit.LineTaken
    else if not (nat_lt node.issued node.limit) then Some submit.LogFull
    else None

-- the same cause, as that of an Issue
abbrev pub obstacle_of : SubmitFault → Obstacle
obstacle_of submit.NoSuchLine = NoSuchLine
obstacle_of submit.NoSuchWord = NoSuchWord
obstacle_of submit.LineTaken = AlreadyPending
obstacle_of submit.LogFull = NoIssueLeft

abbrev pub issue_obstacle : NodeOf → Op → Option Obstacle
issue_obstacle node op = option_map obstacle_of (submit_fault node op)

abbrev pub perform_obstacle : NodeOf → ℕ → Option Obstacle
perform_obstacle node line =
    unless (is_some (pending_on node line)) NothingPending
    (unless (is_some (node_performing node line)) NotAllowed None)

-- of what the cache asks
abbrev pub asked_obstacle : Result (CacheOf × Letter) AskFault → Option Obstacle
asked_obstacle (Ok asked) = None
asked_obstacle (Err fault.NotNow) = Some NotAsked
asked_obstacle (Err fault.NoSlot) = Some NoSlot

abbrev pub ask_obstacle : NodeOf → ℕ → AskKind → Option Obstacle
ask_obstacle node line kind = unless (nat_lt line (lines_of node)) NoSuchLine (asked_obstacle (cache_asking node.cache line kind))

abbrev pub reply_obstacle : NodeOf → Option Obstacle
reply_obstacle node = unless (is_some node.waiting) NoAnswerWaits None

-- of the oldest packet that comes
abbrev pub packet_obstacle : Taking → NodeOf → Letter → Option Obstacle
packet_obstacle Serve node request = unless (is_none node.waiting) AnswerWaits None
packet_obstacle Refuse node request = unless (is_none node.waiting) AnswerWaits (unless (not (is_setback request.body)) SetbackComes None)
packet_obstacle Accept node answer = None

abbrev pub front_obstacle : Taking → NodeOf → Option Letter → Option Obstacle
front_obstacle taking node None = Some NothingUnderWay
front_obstacle taking node (Some letter) = packet_obstacle taking node letter

abbrev pub take_obstacle : Core → Taking → ℕ → ℕ → Option Obstacle
take_obstacle core taking from n =
    unless (nat_lt from core.size.nodes) NoSuchSender
    (front_obstacle taking (node_at core n) (slice_get (lane_of core (lane_kind taking) from n) 0))

-- of an event whose node is there
abbrev pub obstacle_here : Core → Event → Option Obstacle
obstacle_here core (event.Issue n op) = issue_obstacle (node_at core n) op
obstacle_here core (event.Perform n line) = perform_obstacle (node_at core n) line
obstacle_here core (event.Ask n line kind) = ask_obstacle (node_at core n) line kind
obstacle_here core (event.Serve from n) = take_obstacle core Serve from n
obstacle_here core (event.Refuse from n) = take_obstacle core Refuse from n
obstacle_here core (event.Reply n) = reply_obstacle (node_at core n)
obstacle_here core (event.Accept from n) = take_obstacle core Accept from n

-- In a reached state, and for operands that are words, there is none exactly if the event is enabled.
abbrev pub obstacle_to : Core → Event → Option Obstacle
obstacle_to core event = unless (nat_lt (node_of event) core.size.nodes) NoSuchNode (obstacle_here core event)

-- the name of an obstacle
unfoldable pub obstacle_name : Obstacle → List ℕ
obstacle_name NoSuchNode = codes "no-such-node"
obstacle_name NoSuchSender = codes "no-such-sender"
obstacle_name NoSuchLine = codes "no-such-line"
obstacle_name NoSuchWord = codes "no-such-word"
obstacle_name AlreadyPending = codes "already-pending"
obstacle_name NoIssueLeft = codes "no-issue-left"
obstacle_name NothingPending = codes "nothing-pending"
obstacle_name NotAllowed = codes "not-allowed"
obstacle_name NotAsked = codes "not-asked"
obstacle_name NoSlot = codes "no-slot"
obstacle_name NothingUnderWay = codes "nothing-under-way"
obstacle_name AnswerWaits = codes "answer-waits"
obstacle_name SetbackComes = codes "setback-comes"
obstacle_name NoAnswerWaits = codes "no-answer-waits"
