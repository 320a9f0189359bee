-- Conditions on the outcomes of a script: their text, and which outcomes satisfy them.
use Rattle.std.specs.Prelude.{◌≡◌, ◌≤◌, ℕ, ◌==◌, ◌&&◌, ◌||◌, not, Bool, true, false, List, ◌++◌, codes, Option, Some, None, slice_get}
use Rattle.std.specs.List.{list_any}
use Rattle.sci_words.specs.declared.operation.{Act.{Act, TheVariants.{Load, Store, Lock}}, Op.{Op}}
use Rattle.sci_text.specs.{Number.{number}, Script.{ScriptValue}}
use Rattle.sci_allowed.specs.declared.condition.{Condition.{Condition, Term, Group', Not', And', Or'}, FinalCondition.{FinalCondition}}
use Rattle.sci_allowed.specs.declared.condition.{Quantifier.{Quantifier, TheVariants.{Exists, Forall, Never}}}
use Rattle.sci_allowed.specs.declared.condition_text.Binding.{Binding}
use Rattle.sci_allowed.specs.declared.condition_text.Binding.TheVariants as bindings
use Rattle.sci_allowed.specs.declared.condition.Term.TheVariants as term
use Rattle.sci_allowed.specs.declared.condition.Term as terms
use Rattle.sci_orders.specs.Positions.{own_of}
use Rattle.sci_allowed.specs.{Allowed.{shares_of}, Outcome.{Shown, is_written}, declared.outcome.{FinalWord.{FinalWord}, Replied.{Replied}}}

-- ---- what it says

abbrev pub has_reply : Replied → List Replied → Bool
has_reply said replies = list_any (λ r. (r.node == said.node) && ((r.serial == said.serial) && (r.word == said.word))) replies

abbrev pub has_word : FinalWord → List FinalWord → Bool
has_word said words = list_any (λ h. (h.line == said.line) && ((h.word == said.word) && (h.value == said.value))) words

-- whether what is seen of a run is as the term says: an operation replied the word, or a word of memory holds the value
abbrev pub says_of : terms.Term → Shown → Bool
says_of (term.Replied said) shown = has_reply said shown.replies
says_of (term.Held said) shown = has_word said shown.last

-- whether what is seen of a run satisfies a condition
abbrev pub satisfies : Condition → Shown → Bool
satisfies (Term t) shown = says_of t shown
satisfies (Group' p c) shown = satisfies c shown
satisfies (Not' p c) shown = not (satisfies c shown)
satisfies (And' p a q b) shown = satisfies a shown && satisfies b shown
satisfies (Or' p a q b) shown = satisfies a shown || satisfies b shown

-- ---- which terms a script has

-- whether what is done replies a word: a store doesn't
abbrev pub replies_word : Act → Bool
replies_word Load = true
replies_word (Store word) = false
replies_word (Lock lock) = true

-- whether there is an operation, and it replies a word
abbrev pub is_answered : Option Op → Bool
is_answered None = false
is_answered (Some op) = replies_word op.act

-- whether the script has what the term names: an operation of the node with this serial that replies a word, or a word that some operation may write
abbrev pub has_term : ScriptValue → terms.Term → Bool
has_term script (term.Replied said) = is_answered (slice_get (own_of (shares_of script) said.node) said.serial)
has_term script (term.Held said) = is_written script.operations (record { line = said.line; word = said.word })

-- the script has what each term of a condition names
abbrev pub AreTermsOf : ScriptValue → Condition → Type 0
AreTermsOf script (Term t) = has_term script t ≡ true
AreTermsOf script (Group' p c) = AreTermsOf script c
AreTermsOf script (Not' p c) = AreTermsOf script c
AreTermsOf script (And' p a q b) = AreTermsOf script a × AreTermsOf script b
AreTermsOf script (Or' p a q b) = AreTermsOf script a × AreTermsOf script b

-- ---- its text

-- `NODE:SERIAL=WORD` or `LINE.PLACE=WORD`
abbrev pub term_text : terms.Term → List ℕ
term_text (term.Replied said) = number said.node ++ (codes ":" ++ (number said.serial ++ (codes "=" ++ number said.word)))
term_text (term.Held said) = number said.line ++ (codes "." ++ (number said.word ++ (codes "=" ++ number said.value)))

abbrev pub condition_text : Condition → List ℕ
condition_text (Term t) = term_text t
condition_text (Group' p c) = codes "(" ++ (condition_text c ++ codes ")")
condition_text (Not' p c) = codes "not " ++ condition_text c
condition_text (And' p a q b) = condition_text a ++ (codes " and " ++ condition_text b)
condition_text (Or' p a q b) = condition_text a ++ (codes " or " ++ condition_text b)

-- how strongly a condition binds: `or` least, then `and`, and most what is one piece
abbrev pub strength : Condition → ℕ
strength (Or' p a q b) = 0
strength (And' p a q b) = 1
strength _ = 2

-- `not` binds strongest, then `and`, then `or`, and parentheses stand wherever something else is meant
abbrev pub IsGrouped : Condition → Type 0
IsGrouped (Term t) = Unit {0}
IsGrouped (Group' p c) = IsGrouped c
IsGrouped (Not' p c) = IsGrouped c × (2 ≤ strength c)
IsGrouped (And' p a q b) = IsGrouped a × IsGrouped b × (2 ≤ strength a) × (1 ≤ strength b)
IsGrouped (Or' p a q b) = IsGrouped a × IsGrouped b × (1 ≤ strength a)

abbrev pub quantifier_word : Quantifier → List ℕ
quantifier_word Exists = codes "exists"
quantifier_word Forall = codes "forall"
quantifier_word Never = codes "never"

-- the line, without its line feed, says a condition of the script
pub record IsSaidBy (script : ScriptValue) (said : FinalCondition) (line : List ℕ) : Type 0 where
  pub parts : line ≡ quantifier_word said.quantifier ++ (codes " " ++ condition_text said.condition)
  pub grouped : IsGrouped said.condition
  pub known : AreTermsOf script said.condition

-- ---- inside

-- the least strength that a reader asks for
abbrev pub rank : Binding → ℕ
rank bindings.Or = 0
rank bindings.And = 1
rank bindings.Not = 2

-- the bytes before the rest say a condition, which binds at least so strongly, and the script has what it names
pub record IsRead (script : ScriptValue) (least : ℕ) (bytes : List ℕ) (condition : Condition) (rest : List ℕ) : Type 0 where
  pub parts : bytes ≡ condition_text condition ++ rest
  pub grouped : IsGrouped condition
  pub strong : least ≤ strength condition
  pub known : AreTermsOf script condition
