-- What the calls that copy a machine or a node answer.
use Rattle.std.specs.Prelude.{◌≡◌, Option, Some}
use Rattle.sci_c.specs.declared.thing.Thing.{Thing}

-- an object keeps the same thing of a kind
abbrev pub IsCopy : {A : Type 0} → (Option Thing → Option A) → Option Thing → A → Type 0
IsCopy kind copy thing = kind copy ≡ Some thing
