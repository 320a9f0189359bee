-- How a log answers a script: the operations that one processor is to do, in order.
use Rattle.std.specs.Prelude.{◌≡◌, ◌<◌, ◌≤◌, ◌==◌, ℕ, List, length, map, take, All, count_by, Some, slice_get}
use Rattle.sci_words.specs.declared.operation.Op.{Op}
use Rattle.sci_history.specs.declared.entry.Entry.{Entry}

-- how many entries of a log have this serial
abbrev pub times_answered : ℕ → List Entry → ℕ
times_answered serial log = count_by (λ e. e.serial == serial) log

-- the entry has the operation that its serial names
abbrev pub IsNamedBy : List Op → Entry → Type 0
IsNamedBy script e = slice_get script e.serial ≡ Some e.op

-- each entry has the operation that its serial names, and no serial stands twice
pub record IsLogOf (script : List Op) (log : List Entry) : Type 0 where
  pub named : All (IsNamedBy script) log
  pub once : (serial : ℕ) → times_answered serial log ≤ 1

-- it is a log of the script in which each operation has just one entry
pub record IsWholeLogOf (script : List Op) (log : List Entry) : Type 0 where
  pub named : All (IsNamedBy script) log
  pub each : (serial : ℕ) → serial < length script → times_answered serial log ≡ 1

-- the operations of the log are the first ones of the script, in their order
abbrev pub IsFrontOf : List Op → List Entry → Type 0
IsFrontOf script log = map (λ e. e.op) log ≡ take (length log) script
