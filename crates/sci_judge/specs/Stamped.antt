-- Logs of operations, with versions.
use Rattle.std.specs.Prelude.{◌≡◌, ◌<◌, ◌≤◌, ℕ, Bool, true, List, map, Option, Some, slice_get}
use Rattle.sci_words.specs.declared.stamped.Stamped.{Stamped}
use Rattle.sci_history.specs.{declared.entry.Entry.{Entry}, Oracle.{logs_by_node}, Seen.{IsAmong}}
use Rattle.sci_versions.specs.Versions.{unversioned}
use Rattle.sci_judge.specs.{declared.access.Access.{Access}, Access.{is_making}, Coherent.{Explains, entries_from}}

-- the logs have these operations, each with its version
pub record AreStamped (accesses : List Access) (versions : List ℕ) (logs : List (List Entry)) : Type 0 where
  pub entries : List Entry
  pub same : map unversioned entries ≡ entries_from 0 accesses
  pub logged : logs ≡ logs_by_node entries
  pub at : (entry : Entry) → IsAmong entry entries → slice_get versions entry.serial ≡ Some entry.version

-- these versions explain the operations, each at its place, and the last word if it is known
pub record IsExplainedBy (timed : Bool) (accesses : List Access) (last : Option ℕ) (versions : List ℕ) : Type 0 where
  pub logs : List (List Entry)
  pub contents : List Stamped
  pub stamped : AreStamped accesses versions logs
  pub explains : Explains timed accesses last logs contents

-- what ended before another operation began has no higher version, and a lower one than a maker
abbrev pub AreTimely : List Access → (versions : List ℕ) → Type 0
AreTimely accesses versions =
    (i j v w : ℕ) (a b : Access) → slice_get accesses i ≡ Some a → slice_get accesses j ≡ Some b → slice_get versions i ≡ Some v → slice_get versions j ≡ Some w
    → a.end < b.begin → (v ≤ w) × (is_making b.kind ≡ true → v < w)
