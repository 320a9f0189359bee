-- What it is for a struct to say nothing.

-- it says none of the values
abbrev pub SaysNone : {X : Type 0} → (X → Type 0) → Type 0
SaysNone {X = X} says = (x : X) → says x → ⊥
