-- The words for the states of a line, in a node's cache and at its home.
use Rattle.std.specs.Prelude.{ℕ, Bool, List, [], ◌++◌, codes, Option, Some, None, if◌then◌else◌}
use Rattle.sci_words.specs.declared.stamped.Stamped.{Stamped}
use Rattle.sci_cache.specs.State.{CacheState, backward_of, contents_of, forward_of, is_sent, state_name}
use Rattle.sci_home.specs.{declared.state.HomeState.{HomeState}, Serving.{current_of, head_of, home_name}}
use Rattle.sci_text.specs.Number.{number, field}

-- a label and a node, if there is one
unfoldable pub node_text : List ℕ → Option ℕ → List ℕ
node_text label None = []
node_text label (Some node) = label ++ field node

unfoldable pub sent_text : Bool → List ℕ
sent_text sent = if sent then codes " sent" else []

-- the version of contents, if there are any
unfoldable pub version_text : Option Stamped → List ℕ
version_text None = []
version_text (Some contents) = codes " @" ++ number contents.version

-- a cache's state: its name, its neighbours, whether its request was sent, and the version of its contents
unfoldable pub state_text : CacheState → List ℕ
state_text state =
    state_name state ++ (node_text (codes " forward") (forward_of state)
    ++ (node_text (codes " backward") (backward_of state) ++ (sent_text (is_sent state) ++ version_text (contents_of state))))

-- a home's state: its name, the head of the list, and the version of its contents
unfoldable pub home_text : HomeState → List ℕ
home_text state = home_name state ++ (node_text (codes " head") (head_of state) ++ version_text (current_of state))
