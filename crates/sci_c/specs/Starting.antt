-- What becomes of a node that goes on with an empty log.
use Rattle.std.specs.Prelude.{◌≡◌, ◌<◌, ◌%◌, ℕ, Option, Some, None, slice_set}
use Rattle.sci_packets.specs.declared.body.Body.{Body}
use Rattle.sci_home.specs.{declared.state.HomeState.{HomeState}, Serving.{home_serving}}
use Rattle.sci_core.specs.{Node.{IsAtRest, NodeOf, home_of, home_place, lines_of, opening_node}, Size.{Size}}
use Rattle.sci_c.specs.declared.controller.Controller.{Controller}

-- the node with this state of a line's home
abbrev pub with_home : NodeOf → ℕ → HomeState → NodeOf
with_home node line state = record node { homes = slice_set node.homes (home_place node line) state }

abbrev pub told_by : NodeOf → ℕ → Option (HomeState × Body) → NodeOf
told_by node line None = node
told_by node line (Some served) = with_home node line served.0

-- the node whose home of a line has served a request
abbrev pub told : NodeOf → ℕ → ℕ → Body → NodeOf
told node line source body = told_by node line (home_serving (home_of node line) source body)

-- the size of a node's machine, with another limit
abbrev pub size_with : NodeOf → ℕ → Size
size_with node limit = record { nodes = node.cache.nodes; lines = lines_of node; slots = node.cache.slots; limit = limit }

-- the node as in a machine in which no line was touched, but for its homes
abbrev pub IsFresh : NodeOf → ℕ → NodeOf → Type 0
IsFresh node limit fresh = fresh ≡ record (opening_node node.cache.me (size_with node limit)) { homes = fresh.homes }

-- each home that is at the node is as it was
abbrev pub HasHomes : NodeOf → NodeOf → Type 0
HasHomes node fresh = (line : ℕ) → line < lines_of node → line % node.cache.nodes ≡ node.cache.me → home_of fresh line ≡ home_of node line

-- a node at rest, at which no answer waits, begins again with its homes and its policy
pub record IsStarted (limit : ℕ) (before after : Controller) : Type 0 where
  pub rest : IsAtRest before.node
  pub silent : before.node.waiting ≡ None
  pub fresh : IsFresh before.node limit after.node
  pub homes : HasHomes before.node after.node
  pub policy : after.policy ≡ before.policy
