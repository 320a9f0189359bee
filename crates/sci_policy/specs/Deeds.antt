-- What a worker does: it issues and performs operations, and takes turns.
use Rattle.std.specs.Prelude.{◌≡◌, ℕ, List, [], ◌∷◌}
use Rattle.sci_words.specs.declared.operation.Op.{Op}
use Rattle.sci_history.specs.declared.entry.Entry.{Entry}
use Rattle.sci_policy.specs.declared.progress.Progress.{Progress}

-- an operation is issued; the one that is pending on a line is performed, with its entry; or a turn is taken, with its report
pub data Deed : Type 0 where
  Issues : (op : Op) → Deed
  Performs : (line : ℕ) (entry : Entry) → Deed
  Turns : (progress : Progress) → Deed

-- these deeds, one after another, each of which leads from one state to another as a relation says
abbrev pub DoesBy : {S : Type 0} → (Deed → S → S → Type 0) → List Deed → S → S → Type 0
DoesBy Step [] old new = old ≡ new
DoesBy Step (deed ∷ deeds) old new = (mid : _) × Step deed old mid × DoesBy Step deeds mid new
