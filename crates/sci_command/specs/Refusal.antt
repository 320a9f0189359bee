-- How a text is refused.
use Rattle.std.specs.Prelude.{◌≡◌, ℕ, List, [], ◌∷◌, ◌++◌, codes}
use Rattle.sci_text.specs.declared.fault.TextFaultKind.{TextFaultKind}
use Rattle.sci_text.specs.declared.fault.TextFaultKind.TheVariants.{Syntax, Range, TooMany, Read, Write, Memory}
use Rattle.sci_text.specs.Number.{field}

-- the word for what is wrong with a text
unfoldable pub kind_word : TextFaultKind → List ℕ
kind_word Syntax = codes "syntax"
kind_word Range = codes "range"
kind_word TooMany = codes "too-many"
kind_word Read = codes "read"
kind_word Write = codes "write"
kind_word Memory = codes "memory"

-- `refused at line K: KIND`, and the line feed
unfoldable pub line_refusal : ℕ → TextFaultKind → List ℕ
line_refusal line kind = codes "refused at line" ++ (field line ++ (codes ": " ++ (kind_word kind ++ 10 ∷ [])))

-- the refusal of a fault that is reported
pub record IsRefusalBy (told : TextFaultKind → ℕ → Type 0) (text : List ℕ) : Type 0 where
  pub line : ℕ
  pub kind : TextFaultKind
  pub is_told : told kind line
  pub written : text ≡ line_refusal line kind
