-- The text of an outcome.
use Rattle.std.specs.Prelude.{ℕ, Bool, true, false, List, [], ◌∷◌, ◌++◌, codes}
use Rattle.std.specs.List.{flat_map}
use Rattle.sci_text.specs.Number.{number}
use Rattle.sci_allowed.specs.declared.outcome.{FinalWord.{FinalWord}, Outcome.{Outcome}, Replied.{Replied}}

-- `NODE:SERIAL=WORD `
unfoldable pub replied_text : Replied → List ℕ
replied_text replied = number replied.node ++ (codes ":" ++ (number replied.serial ++ (codes "=" ++ (number replied.word ++ codes " "))))

-- ` LINE.PLACE=WORD`
unfoldable pub held_text : FinalWord → List ℕ
held_text held = codes " " ++ (number held.line ++ (codes "." ++ (number held.word ++ (codes "=" ++ number held.value))))

-- what was replied, a bar, and the words
unfoldable pub outcome_text : Outcome → List ℕ
outcome_text outcome = flat_map replied_text outcome.replies.items ++ (codes "|" ++ flat_map held_text outcome.last.items)

-- whether it is in program order, and the line feed
unfoldable pub sense_text : Bool → List ℕ
sense_text true = codes " in program order" ++ 10 ∷ []
sense_text false = codes " reordered" ++ 10 ∷ []
