-- A node's part of the machine, and its side of each event. Each side is a function of the part alone, and of the
-- packet that it takes; None says that this side is not enabled.
use Rattle.std.specs.Prelude.{IsTrue, ◌≡◌, ℕ, ◌+◌, ◌/◌, ◌%◌, ◌<◌, ◌≤◌, replicate, count_by, IfSome, Bool, true, false, nat_lt, ◌&&◌, if◌then◌else◌, List}
use Rattle.std.specs.Prelude.{[], ◌∷◌, ◌++◌, length, slice_index_or, slice_set, Option, Some, None, is_some, is_none, option_map, Result, Ok, Err}
use Rattle.sci_words.specs.declared.{limits.TheConstants.{WORDS_PER_LINE}, event.AskKind.{AskKind}, operation.Op.{Op}}
use Rattle.sci_words.specs.{declared.operation.Reply.{Reply}, Operation.{has_words}}
use Rattle.sci_packets.specs.{declared.body.Body.{Body, TheVariants.{Setback, Busy}}, Table.{IsRequest}}
use Rattle.sci_history.specs.declared.entry.Entry.{Entry}
use Rattle.sci_home.specs.declared.state.HomeState.{HomeState}
use Rattle.sci_home.specs.Serving.{opening_home, is_for_home, IsForHome, home_serving}
use Rattle.sci_cache.specs.{declared.fault.AskFault.{AskFault}, State.{is_out}, Line.{untouched}}
use Rattle.sci_cache.specs.Cache.{CacheOf, Letter, line_of, cache_asking, cache_serving, cache_accepting, cache_performing}
use Rattle.sci_core.specs.{Size.{Size}, declared.pending.Pending.{Pending}}

pub record NodeOf : Type 0 where
  pub cache : CacheOf
  -- the homes that are here: that of line l stands at place l / N
  pub homes : List HomeState
  -- for each line the operation that is issued and not yet performed
  pub pending : List (Option Pending)
  -- how many operations were issued, and how many may be
  pub issued : ℕ
  pub limit : ℕ
  pub log : List Entry
  -- the answer that waits to be sent
  pub waiting : Option Letter

-- how many lines the machine has
abbrev pub lines_of : NodeOf → ℕ
lines_of node = length node.cache.lines

abbrev pub home_place : NodeOf → ℕ → ℕ
home_place node line = line / node.cache.nodes

abbrev pub home_of : NodeOf → ℕ → HomeState
home_of node line = slice_index_or node.homes (home_place node line) opening_home

abbrev pub pending_on : NodeOf → ℕ → Option Pending
pending_on node line = slice_index_or node.pending line None

-- no operation is pending, and no line has an entry
pub record IsAtRest (node : NodeOf) : Type 0 where
  pub none_pending : (line : ℕ) → pending_on node line ≡ None
  pub none_held : (line : ℕ) → is_out (line_of node.cache line).state ≡ true

-- ---- Issue

-- whether the line and the word of an operation are the machine's, and its operands are words
abbrev pub is_in_range : NodeOf → Op → Bool
is_in_range node op = (nat_lt op.line (lines_of node) && nat_lt op.word WORDS_PER_LINE) && has_words op.act

abbrev pub may_issue : NodeOf → Op → Bool
may_issue node op = is_in_range node op && (is_none (pending_on node op.line) && nat_lt node.issued node.limit)

-- the operation is pending, with the node's next serial
abbrev pub node_issued : NodeOf → Op → NodeOf
node_issued node op = record node {
  pending = slice_set node.pending op.line (Some (record { serial = node.issued; op = op }));
  issued = node.issued + 1;
}

abbrev pub node_issuing : NodeOf → Op → Option NodeOf
node_issuing node op = if may_issue node op then Some (node_issued node op) else None

-- ---- Perform

-- the entry of a pending operation with its reply, and the version that it read or made
abbrev pub entry_of : NodeOf → Pending → Reply → ℕ → Entry
entry_of node pending reply version = record { node = node.cache.me; serial = pending.serial; op = pending.op; reply = reply; version = version }

-- the entry ends the log, and the operation is no longer pending
abbrev pub node_logged : NodeOf → ℕ → CacheOf → Entry → NodeOf
node_logged node line cache entry = record node {
  cache = cache;
  pending = slice_set node.pending line None;
  log = node.log ++ entry ∷ [];
}

abbrev pub performed_by : NodeOf → ℕ → Pending → Option (CacheOf × Reply × ℕ) → Option (NodeOf × Entry)
performed_by node line pending =
    option_map (λ done. (node_logged node line done.0 (entry_of node pending done.1 done.2), entry_of node pending done.1 done.2))

abbrev pub performing_pending : NodeOf → ℕ → Option Pending → Option (NodeOf × Entry)
performing_pending node line None = None
performing_pending node line (Some pending) = performed_by node line pending (cache_performing node.cache pending.op)

abbrev pub node_performing : NodeOf → ℕ → Option (NodeOf × Entry)
node_performing node line = performing_pending node line (pending_on node line)

-- ---- Ask

abbrev pub asked_by : NodeOf → Result (CacheOf × Letter) AskFault → Option (NodeOf × Letter)
asked_by node (Err fault) = None
asked_by node (Ok asked) = Some (record node { cache = asked.0 }, asked.1)

-- the node after an ask about a line, and its request
abbrev pub node_asking : NodeOf → ℕ → AskKind → Option (NodeOf × Letter)
node_asking node line kind = if nat_lt line (lines_of node) then asked_by node (cache_asking node.cache line kind) else None

-- ---- Serve and Refuse

-- the answer to a request goes back to its sender
abbrev pub answering : Letter → Body → Letter
answering request body = record { target = request.source; source = request.target; control = request.control; line = request.line; body = body }

abbrev pub with_answer : NodeOf → Letter → Body → NodeOf
with_answer node request body = record node { waiting = Some (answering request body) }

abbrev pub served_at_home : NodeOf → ℕ → Option (HomeState × Body) → Option (NodeOf × Body)
served_at_home node line = option_map (λ served. (record node { homes = slice_set node.homes (home_place node line) served.0 }, served.1))

abbrev pub served_in_cache : NodeOf → Option (CacheOf × Body) → Option (NodeOf × Body)
served_in_cache node = option_map (λ served. (record node { cache = served.0 }, served.1))

abbrev pub serving_at_home : NodeOf → Letter → Option (NodeOf × Body)
serving_at_home node request = served_at_home node request.line (home_serving (home_of node request.line) request.source request.body)

abbrev pub serving_in_cache : NodeOf → Letter → Option (NodeOf × Body)
serving_in_cache node request = served_in_cache node (cache_serving node.cache request.line request.source request.body)

-- what the home or the cache does with a request, and what it answers
abbrev pub serving_request : NodeOf → Letter → Option (NodeOf × Body)
serving_request node request = if is_for_home request.body then serving_at_home node request else serving_in_cache node request

abbrev pub answered_by : Letter → Option (NodeOf × Body) → Option NodeOf
answered_by request = option_map (λ served. with_answer served.0 request served.1)

-- the node after it has served a request: the answer waits
abbrev pub node_serving : NodeOf → Letter → Option NodeOf
node_serving node request = if is_some node.waiting then None else answered_by request (serving_request node request)

-- what may not be refused
abbrev pub is_setback : Body → Bool
is_setback (Setback backward) = true
is_setback _ = false

abbrev pub node_refusing : NodeOf → Letter → Option NodeOf
node_refusing node request = if is_some node.waiting then None else (if is_setback request.body then None else Some (with_answer node request Busy))

-- ---- Reply

abbrev pub replied_by : NodeOf → Option Letter → Option (NodeOf × Letter)
replied_by node = option_map (λ answer. (record node { waiting = None }, answer))

-- the node without the answer that waits, and that answer
abbrev pub node_replying : NodeOf → Option (NodeOf × Letter)
node_replying node = replied_by node node.waiting

-- ---- Accept

abbrev pub accepted_by : NodeOf → Option CacheOf → Option NodeOf
accepted_by node = option_map (λ cache. record node { cache = cache })

abbrev pub node_accepting : NodeOf → Letter → Option NodeOf
node_accepting node answer = accepted_by node (cache_accepting node.cache answer.line answer.control answer.body)

-- ---- what holds of every node

-- the node of a machine of this size at the beginning: all lines Out and HOME, all else empty
abbrev pub opening_node : ℕ → Size → NodeOf
opening_node me size = record {
  cache = record { me = me; nodes = size.nodes; slots = size.slots; lines = replicate size.lines untouched };
  homes = replicate (size.lines / size.nodes + 1) opening_home;
  pending = replicate size.lines None;
  issued = 0;
  limit = size.limit;
  log = [];
  waiting = None;
}

-- what stands for a node that isn't there
abbrev pub no_node : NodeOf
no_node = opening_node 0 (record { nodes = 1; lines = 0; slots = 0; limit = 0 })

-- a packet for this node, about a line of the machine
pub record IsForNode (node : NodeOf) (letter : Letter) : Type 0 where
  pub target : letter.target ≡ node.cache.me
  pub line : letter.line < lines_of node

-- a request for this node; one for a home comes to the line's home
pub record IsServable (node : NodeOf) (request : Letter) : Type 0 where
  pub here : IsForNode node request
  pub asks : IsRequest request.body
  pub home : IsForHome request.body → request.line % node.cache.nodes ≡ node.cache.me

-- a pending operation on a line has that line, a word in range, words for operands, and a serial below the count of issues
pub record IsPendingOn (issued line : ℕ) (pending : Pending) : Type 0 where
  pub here : pending.op.line ≡ line
  pub word : pending.op.word < WORDS_PER_LINE
  pub words : IsTrue (has_words pending.op.act)
  pub serial : pending.serial < issued

-- the parts of a node fit together
pub record IsNode (node : NodeOf) : Type 0 where
  pub homes : length node.homes ≡ lines_of node / node.cache.nodes + 1
  pub some_node : 0 < node.cache.nodes
  pub pending : length node.pending ≡ lines_of node
  pub each : (line : ℕ) → IfSome (pending_on node line) (IsPendingOn node.issued line)
  pub logged : length node.log + count_by is_some node.pending ≡ node.issued
  pub issued : node.issued ≤ node.limit
