-- What a call answers that looks at a thing that an object keeps, or changes it.
use Rattle.std.specs.Prelude.{◌≡◌, ◌≢◌, ◌↔◌, ◌⊎◌, ◌∷◌, [], ℕ, List, Option, None}
use Rattle.sci_c_values.specs.declared.status.TheConstants.{SCI_MISUSE, SCI_OK}
use Rattle.sci_c.specs.declared.thing.Thing.{Thing}

abbrev pub IsOneOf : List ℕ → ℕ → Type 0
IsOneOf [] status = ⊥
IsOneOf (one ∷ more) status = (status ≡ one) ⊎ IsOneOf more status

-- misuse exactly if no thing of the kind is kept, and else done or one of the others
pub record IsAnswer {A : Type 0} (kind : Option Thing → Option A) (others : List ℕ) (old : Option Thing) (status : ℕ) : Type 0 where
  pub misuse : (status ≡ SCI_MISUSE) ↔ (kind old ≡ None)
  pub statuses : IsOneOf (SCI_MISUSE ∷ SCI_OK ∷ others) status

-- what is kept stays
pub record IsLook {A : Type 0} (kind : Option Thing → Option A) (others : List ℕ) (old : Option Thing) (status : ℕ) (new : Option Thing) : Type 0 where
  pub answer : IsAnswer kind others old status
  pub same : new ≡ old

-- what is kept stays unless the call is done
pub record IsChange {A : Type 0} (kind : Option Thing → Option A) (others : List ℕ) (old : Option Thing) (status : ℕ) (new : Option Thing) : Type 0 where
  pub answer : IsAnswer kind others old status
  pub same : status ≢ SCI_OK → new ≡ old
