-- The members of JSON objects, as tokens of the kit's `json`. A word of 64 bits stands in a string, so that no reader rounds it.
use Rattle.std.specs.Prelude.{◌≡◌, ℕ, Bool, true, List, [], ◌∷◌, ◌++◌, decimal, map, Option, Some, None, if◌then◌else◌}
use Rattle.json.specs.{Token.{Token, begin_object, end_object, begin_array, end_array, key, string, number, boolean, null}, Print.{print}}
use Rattle.json.specs.Written.{Written}

-- a writer that has written these tokens more
abbrev pub Adds : Written → Written → List Token → Type 0
Adds old new tokens = (new.before ≡ old.before) × (new.tokens ≡ old.tokens ++ tokens)

unfoldable pub number_member : List ℕ → ℕ → List Token
number_member name n = key name ∷ number (decimal n) ∷ []

-- a word of memory, or an operand
unfoldable pub word_member : List ℕ → ℕ → List Token
word_member name word = key name ∷ string (decimal word) ∷ []

unfoldable pub text_member : List ℕ → List ℕ → List Token
text_member name text = key name ∷ string text ∷ []

unfoldable pub truth_member : List ℕ → Bool → List Token
truth_member name truth = key name ∷ boolean truth ∷ []

unfoldable pub null_member : List ℕ → List Token
null_member name = key name ∷ null ∷ []

-- a number, if there is one
unfoldable pub optional_member : List ℕ → Option ℕ → List Token
optional_member name None = []
optional_member name (Some n) = number_member name n

-- `true`, if it is
unfoldable pub flag_member : List ℕ → Bool → List Token
flag_member name flag = if flag then truth_member name true else []

unfoldable pub array_member : List ℕ → List Token → List Token
array_member name items = key name ∷ begin_array ∷ (items ++ end_array ∷ [])

unfoldable pub words_member : List ℕ → List ℕ → List Token
words_member name words = array_member name (map (λ word. string (decimal word)) words)

unfoldable pub object_member : List ℕ → List Token → List Token
object_member name members = key name ∷ begin_object ∷ (members ++ end_object ∷ [])

-- an object that stands alone or in an array
unfoldable pub object_of : List Token → List Token
object_of members = begin_object ∷ (members ++ end_object ∷ [])

-- the text of an object, and a line feed
unfoldable pub object_line : List Token → List ℕ
object_line members = print (object_of members) ++ 10 ∷ []
