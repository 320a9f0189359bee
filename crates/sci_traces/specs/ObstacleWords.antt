-- Why an event isn't enabled, in words.
use Rattle.std.specs.Prelude.{ℕ, List, [], ◌++◌, codes}
use Rattle.sci_words.specs.{declared.event.Event.{Event}, Event.{kind_word}}
use Rattle.sci_core.specs.declared.obstacle.Obstacle.{Obstacle}
use Rattle.sci_core.specs.declared.obstacle.Obstacle.TheVariants.{NoSuchNode, NoSuchSender, NoSuchLine, NoSuchWord, AlreadyPending, NoIssueLeft}
use Rattle.sci_core.specs.declared.obstacle.Obstacle.TheVariants.{NothingPending, NotAllowed, NotAsked, NoSlot, NothingUnderWay, AnswerWaits, SetbackComes}
use Rattle.sci_core.specs.{declared.obstacle.Obstacle.TheVariants.{NoAnswerWaits}, Core.{node_of}}
use Rattle.sci_text.specs.{Number.{field}, Schedule.{first_node}}
use Rattle.sci_words.specs.declared.event.Event.TheVariants as event

-- the line that an Issue, a Perform or an Ask names
unfoldable pub line_named : Event → ℕ
line_named (event.Issue n op) = op.line
line_named (event.Perform n line) = line
line_named (event.Ask n line kind) = line
line_named _ = 0

-- the word for what an Ask asks
unfoldable pub word_asked : Event → List ℕ
word_asked (event.Ask n line kind) = kind_word kind
word_asked _ = []

-- the kind of packet that an event takes
unfoldable pub packet_wanted : Event → List ℕ
packet_wanted (event.Accept from n) = codes "no answer from"
packet_wanted _ = codes "no request from"

-- `node N` and what is said of it
unfoldable pub node_words : ℕ → List ℕ → List ℕ
node_words n said = codes "node" ++ (field n ++ said)

-- `node N`, what is said of it, and a line
unfoldable pub node_line_words : ℕ → List ℕ → ℕ → List ℕ
node_line_words n said line = codes "node" ++ (field n ++ (said ++ field line))

-- `line L of node N is STATE` and what is said of it
unfoldable pub state_words : ℕ → ℕ → List ℕ → List ℕ → List ℕ
state_words n line state said = codes "line" ++ (field line ++ (codes " of node" ++ (field n ++ (codes " is " ++ (state ++ said)))))

-- `line L of node N is STATE, which doesn't ask KIND`
unfoldable pub unasked_words : ℕ → ℕ → List ℕ → List ℕ → List ℕ
unasked_words n line state kind = state_words n line state (codes ", which doesn't ask ") ++ kind

-- `no answer from J to N is under way`
unfoldable pub lacking_words : List ℕ → ℕ → ℕ → List ℕ
lacking_words wanted from n = wanted ++ (field from ++ (codes " to" ++ (field n ++ codes " is under way")))

-- `node N has an answer waiting: reply N first`
unfoldable pub waiting_words : ℕ → List ℕ
waiting_words n = node_line_words n (codes " has an answer waiting: reply") n ++ codes " first"

-- what stands in the way of an event at a node, where the line that it names is in this state
unfoldable pub obstacle_words : Obstacle → Event → List ℕ → List ℕ
obstacle_words NoSuchNode e state = codes "the machine has no such node"
obstacle_words NoSuchSender e state = codes "the machine has no such sender"
obstacle_words NoSuchLine e state = codes "the machine has no such line"
obstacle_words NoSuchWord e state = codes "a line has no such word"
obstacle_words AlreadyPending e state = node_line_words (node_of e) (codes " has an operation pending on line") (line_named e)
obstacle_words NoIssueLeft e state = node_words (node_of e) (codes " has issued all that it may")
obstacle_words NothingPending e state = node_line_words (node_of e) (codes " has no operation pending on line") (line_named e)
obstacle_words NotAllowed e state = state_words (node_of e) (line_named e) state (codes ", which doesn't allow the operation that is pending")
obstacle_words NotAsked e state = unasked_words (node_of e) (line_named e) state (word_asked e)
obstacle_words NoSlot e state = state_words (node_of e) (line_named e) state (codes ", and the node has no free slot")
obstacle_words NothingUnderWay e state = lacking_words (packet_wanted e) (first_node e) (node_of e)
obstacle_words AnswerWaits e state = waiting_words (node_of e)
obstacle_words SetbackComes e state = codes "a setback can't be refused"
obstacle_words NoAnswerWaits e state = node_words (node_of e) (codes " has no answer waiting")
