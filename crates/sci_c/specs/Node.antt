-- What the calls for nodes answer.
use Rattle.std.specs.Prelude.{◌≡◌, ℕ, List, Option, Some, None, IsSome, ◌<◌, ◌≤◌, ◌%◌, ◌⊎◌, slice_get}
use Rattle.sci_words.specs.declared.limits.TheConstants.{WORDS_PER_LINE}
use Rattle.sci_words.specs.declared.{event.{AskKind.{AskKind}, TheConstants.AskKind.{ALL}}, operation.Op.{Op}}
use Rattle.sci_words.specs.declared.stamped.Stamped.{Stamped}
use Rattle.sci_packets.specs.{declared.packet.Packet.{Packet}, Spelling.{spelling}}
use Rattle.sci_history.specs.declared.entry.Entry.{Entry}
use Rattle.sci_cache.specs.Cache.{letter_of}
use Rattle.sci_core.specs.declared.pending.Pending.{Pending}
use Rattle.sci_core.specs.Node.{NodeOf, node_issuing, node_performing, node_asking, node_replying, opening_node, pending_on, home_of, lines_of}
use Rattle.sci_home.specs.Serving.{current_of}
use Rattle.sci_c_values.specs.declared.{entry.SciEntry.{SciEntry}, operation.SciOp.{SciOp}}
use Rattle.sci_c_values.specs.{declared.stamped.SciStamped.{SciStamped}, Entry.{entry_struct}}
use Rattle.sci_c_values.specs.{Operation.{SaysOp, op_struct}, Stamped.{stamped_struct}}
use Rattle.sci_core.specs.Size.{Size}
use Rattle.sci_policy.specs.Policy.{opening_policy}
use Rattle.sci_c.specs.{declared.{controller.Controller.{Controller}, thing.Thing.{Thing}}, Kinds.{node_in}, Written.{StandOver}}

-- the node of a machine of this size in which no line was touched, and a policy that has nothing to remember
pub record IsOpeningNode (me : ℕ) (size : Size) (new : Option Thing) : Type 0 where
  pub controller : Controller
  pub is_in : node_in new ≡ Some controller
  pub node : controller.node ≡ opening_node me size
  pub policy : controller.policy ≡ opening_policy

-- the operation that the struct says is pending, with this serial
pub record IsIssue (c : SciOp) (serial : ℕ) (before after : NodeOf) : Type 0 where
  pub op : Op
  pub says : SaysOp c op
  pub issued : node_issuing before op ≡ Some after
  pub serial_is : serial ≡ before.issued

-- its line or its word is none of the machine's, or an operation is pending on the line
abbrev pub MayNotIssue : Op → NodeOf → Type 0
MayNotIssue op node = (lines_of node ≤ op.line) ⊎ ((WORDS_PER_LINE ≤ op.word) ⊎ IsSome (pending_on node op.line))

-- it would be issued, but the node has issued as many operations as it may
pub record HasIssuedAll (op : Op) (node : NodeOf) : Type 0 where
  pub line : op.line < lines_of node
  pub word : op.word < WORDS_PER_LINE
  pub free : pending_on node op.line ≡ None
  pub all : node.limit ≤ node.issued

-- the operation that the struct says is not issued, for this reason
pub record IsNoIssue (reason : Op → NodeOf → Type 0) (c : SciOp) (node : NodeOf) : Type 0 where
  pub op : Op
  pub says : SaysOp c op
  pub none : node_issuing node op ≡ None
  pub why : reason op node

-- the operation that was pending on the line is performed, and its entry ends the log
pub record IsPerformed (line : ℕ) (c : SciEntry) (before after : NodeOf) : Type 0 where
  pub entry : Entry
  pub performed : node_performing before line ≡ Some (after, entry)
  pub struct_is : c ≡ entry_struct entry

-- the node has asked, and the request stands over the first bytes
pub record IsAsk (line ask : ℕ) (bytes written : List ℕ) (used : ℕ) (before after : NodeOf) : Type 0 where
  pub kind : AskKind
  pub packet : Packet
  pub number : slice_get ALL ask ≡ Some kind
  pub asked : node_asking before line kind ≡ Some (after, letter_of packet)
  pub stand : StandOver (spelling packet) bytes written used

-- the node may not ask that
pub record IsNoAsk (line ask : ℕ) (node : NodeOf) : Type 0 where
  pub kind : AskKind
  pub number : slice_get ALL ask ≡ Some kind
  pub none : node_asking node line kind ≡ None

-- the answer that waited is taken, and stands over the first bytes
pub record IsReply (bytes written : List ℕ) (used : ℕ) (before after : NodeOf) : Type 0 where
  pub packet : Packet
  pub replied : node_replying before ≡ Some (after, letter_of packet)
  pub stand : StandOver (spelling packet) bytes written used

-- the operation that is pending on a line
pub record IsPendingOf (line : ℕ) (serial : ℕ) (c : SciOp) (node : NodeOf) : Type 0 where
  pub pending : Pending
  pub is_pending : pending_on node line ≡ Some pending
  pub serial_is : serial ≡ pending.serial
  pub struct_is : c ≡ op_struct pending.op

-- the home of the line is here, and has its contents
pub record IsHomeContents (line : ℕ) (c : SciStamped) (node : NodeOf) : Type 0 where
  pub here : line < lines_of node
  pub mine : line % node.cache.nodes ≡ node.cache.me
  pub contents : Stamped
  pub current : current_of (home_of node line) ≡ Some contents
  pub struct_is : c ≡ stamped_struct contents

-- the home of the line is at another node, or it doesn't have its contents
pub record HasNoContents (line : ℕ) (node : NodeOf) : Type 0 where
  pub here : line < lines_of node
  pub none : line % node.cache.nodes ≡ node.cache.me → current_of (home_of node line) ≡ None
