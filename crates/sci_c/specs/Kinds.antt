-- What an object keeps.
use Rattle.std.specs.Prelude.{◌≡◌, Option, Some, None}
use Rattle.sci_core.specs.{Core.{Core}, Node.{NodeOf}}
use Rattle.sci_c.specs.{Journal.{JournalOf}, declared.{controller.Controller.{Controller}, thing.Thing.{Thing}}}
use Rattle.sci_windows.specs.Scoreboard.{Board}
use Rattle.sci_c.specs.declared.thing.Thing.TheVariants.{Machine, Node, Logs, Scoreboard}

-- the machine, the node with its policy, the logs or the scoreboard, if that is what it keeps
abbrev pub machine_in : Option Thing → Option Core
machine_in (Some (Machine machine)) = Some machine
machine_in _ = None

abbrev pub node_in : Option Thing → Option Controller
node_in (Some (Node controller)) = Some controller
node_in _ = None

abbrev pub logs_in : Option Thing → Option JournalOf
logs_in (Some (Logs journal)) = Some journal
logs_in _ = None

abbrev pub board_in : Option Thing → Option Board
board_in (Some (Scoreboard board)) = Some board
board_in _ = None

-- it keeps a thing of a kind, of which this holds
pub record On {A : Type 0} (kind : Option Thing → Option A) (value : Option Thing) (P : A → Type 0) : Type 0 where
  pub thing : A
  pub is_in : kind value ≡ Some thing
  pub holds : P thing

-- it keeps one before and one after, and this leads from one to the other
pub record ChangesBy {A : Type 0} (kind : Option Thing → Option A) (old new : Option Thing) (leads : A → A → Type 0) : Type 0 where
  pub before : A
  pub after : A
  pub was : kind old ≡ Some before
  pub is_now : kind new ≡ Some after
  pub goes : leads before after

-- this leads from a node to the other, and the policy stays
pub record OnNode (leads : NodeOf → NodeOf → Type 0) (before after : Controller) : Type 0 where
  pub node : leads before.node after.node
  pub policy : after.policy ≡ before.policy
