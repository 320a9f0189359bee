-- What the calls that open and close objects answer.
use Rattle.std.specs.Prelude.{◌≡◌, ◌≢◌, ◌↔◌, ◌⊎◌, ◌∷◌, [], ℕ, Option, None, IsSome}
use Rattle.sci_c_values.specs.declared.status.TheConstants.{SCI_MISUSE, SCI_NO_MEMORY, SCI_OK, SCI_RANGE}
use Rattle.sci_c.specs.{Calls.{IsOneOf}, declared.thing.Thing.{Thing}}

-- what each status of a call says that puts a thing of some size into an empty object: whether there may be such a size, and
-- what the object keeps before and after it
pub record IsOpened (good : Type 0) (is : Option Thing → Type 0) (old : Option Thing) (status : ℕ) (new : Option Thing) : Type 0 where
  pub done : status ≡ SCI_OK → is new
  pub misuse : (status ≡ SCI_MISUSE) ↔ IsSome old
  pub range : status ≡ SCI_RANGE → good → ⊥
  pub memory : status ≡ SCI_NO_MEMORY → good
  pub statuses : IsOneOf (SCI_OK ∷ SCI_NO_MEMORY ∷ SCI_RANGE ∷ SCI_MISUSE ∷ []) status
  pub same : status ≢ SCI_OK → new ≡ old

-- and of a call that lets a thing of a kind go
pub record IsClosed {A : Type 0} (kind : Option Thing → Option A) (old : Option Thing) (status : ℕ) (new : Option Thing) : Type 0 where
  pub done : status ≡ SCI_OK → new ≡ None
  pub misuse : (status ≡ SCI_MISUSE) ↔ (IsSome old × (kind old ≡ None))
  pub statuses : (status ≡ SCI_OK) ⊎ (status ≡ SCI_MISUSE)
  pub same : status ≢ SCI_OK → new ≡ old
