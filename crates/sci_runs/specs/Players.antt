-- The nodes of a run at work.
use Rattle.std.specs.Prelude.{◌≡◌, ◌<◌, ℕ, List, length, slice_index_or}
use Rattle.sci_words.specs.declared.limits.TheConstants.{MAX_OPERATIONS}
use Rattle.sci_text.specs.Script.{ScriptValue}
use Rattle.sci_core.specs.{Core.{node_at}, Node.{NodeOf}}
use Rattle.sci_policy.specs.Policy.{PolicyOf}
use Rattle.sci_drive.specs.declared.driver.Issuing.{Issuing, TheVariants.{InOrder}}
use Rattle.sci_drive.specs.Driving.{DriverOf, IsDriven, IsInOrder}
use Rattle.sci_text.specs.Script.{operations_of}
use Rattle.sci_drive.specs.ScriptLogs.{size_for}
use Rattle.sci_runs.specs.{Played.{Moment}, Recorded.{RecorderOf, with_limit}}

-- the driver of node n has driven it through the node's operations of the script, as far as it has come
pub record IsAtWork (script : ScriptValue) (issuing : Issuing) (n : ℕ) (driver : DriverOf) (node : NodeOf) : Type 0 where
  pub script_is : driver.script ≡ operations_of n script.operations
  pub driven : IsDriven driver node
  pub ordered : issuing ≡ InOrder → IsInOrder driver node

-- a script, when its operations are submitted, the machine's recorder, and the drivers and the policies of all nodes
pub record TableOf : Type 0 where
  pub script : ScriptValue
  pub issuing : Issuing
  pub recorder : RecorderOf
  pub drivers : List DriverOf
  pub policies : List PolicyOf

-- what it has of its run
abbrev pub moment_of : TableOf → Moment
moment_of table = record { core = table.recorder.core; events = table.recorder.schedule.events; drivers = table.drivers; policies = table.policies }

-- the driver of each node of the script's machine has driven it; how many operations a node may issue is the machine's own
pub record AreAtWork (table : TableOf) : Type 0 where
  pub sized : with_limit MAX_OPERATIONS table.recorder.core.size ≡ size_for table.script
  pub many : length table.drivers ≡ table.script.nodes
  pub each : (n : ℕ) (d : DriverOf) → n < table.script.nodes
      → IsAtWork table.script table.issuing n (slice_index_or table.drivers n d) (node_at table.recorder.core n)
