-- What an Issue and a Perform put where.
use Rattle.std.specs.Prelude.{◌≡◌, ◌≢◌, ◌+◌, ℕ, [], ◌∷◌, ◌++◌, Some, None}
use Rattle.sci_words.specs.declared.operation.Op.{Op}
use Rattle.sci_history.specs.declared.entry.Entry.{Entry}
use Rattle.sci_core.specs.Node.{NodeOf, pending_on}

-- the operation is pending on its line with the next serial, and nothing else changes
pub record IsIssued (old new : NodeOf) (op : Op) : Type 0 where
  pub free : pending_on old op.line ≡ None
  pub pending : pending_on new op.line ≡ Some (record { serial = old.issued; op = op })
  pub others : (line : ℕ) → line ≢ op.line → pending_on new line ≡ pending_on old line
  pub issued : new.issued ≡ old.issued + 1
  pub log : new.log ≡ old.log

-- the entry is of the operation that was pending on the line, and ends the log; nothing is pending there any more
pub record IsLogged (old new : NodeOf) (line : ℕ) (entry : Entry) : Type 0 where
  pub pending : pending_on old line ≡ Some (record { serial = entry.serial; op = entry.op })
  pub own : entry.node ≡ old.cache.me
  pub log : new.log ≡ old.log ++ entry ∷ []
  pub done : pending_on new line ≡ None
  pub others : (other : ℕ) → other ≢ line → pending_on new other ≡ pending_on old other
  pub issued : new.issued ≡ old.issued
