-- What is said of the states of a line at a node.
use Rattle.std.specs.Prelude.{List, [], Option, Some, None}

-- what is said of a state that is there; nothing of none
abbrev pub said : {S X : Type 0} → (S → List X) → Option S → List X
said say None = []
said say (Some state) = say state
