-- What a reading of words gives, and each of its steps.
use Rattle.std.specs.Prelude.{◌≡◌, ◌↔◌, ◌<◌, ◌≤◌, ◌++◌, ℕ, List, drop, length, Bool, true, false, Result, Ok, Err, map}
use denote.Ref.{Bor}
use Rattle.sci_options.specs.Options.{AreItems, IsGiven, Item, lone_words, settings_of, times_given}
use Rattle.sci_options.specs.declared.option_name.OptionName.{OptionName}
use Rattle.sci_options.specs.declared.setting.{OptionRow.{OptionRow}, Setting.{Setting}}
use Rattle.sci_options.specs.declared.given.{Given.{Given}, Wrong.{Wrong}}
use Rattle.sci_options.specs.declared.given.Wrong.TheVariants.{Memory}

abbrev pub texts : List (Bor (List ℕ)) → List (List ℕ)
texts words = map (λ word. word.now) words

-- whether words are refused since there is no memory
abbrev pub lacks_memory : Wrong → Bool
lacks_memory Memory = true
lacks_memory wrong = false

-- what is read of words is what they give, and nothing else; it is refused if they give nothing, or memory is refused
abbrev pub IsReading : List OptionRow → List (List ℕ) → Result Given Wrong → Type 0
IsReading options words (Ok given) = (settings : List Setting) (alone : List (List ℕ))
    → IsGiven options words settings alone ↔ ((settings ≡ given.settings.items) × (alone ≡ texts given.alone.items))
IsReading options words (Err Memory) = Unit {0}
IsReading options words (Err wrong) = (settings : List Setting) (alone : List (List ℕ)) → ¬ (IsGiven options words settings alone)

-- words give this, behind what is given already
abbrev pub GivesFrom : List OptionRow → Given → List (List ℕ) → List Setting → List (List ℕ) → Type 0
GivesFrom options so_far words settings alone = (items : List Item) × AreItems options words items
    × (settings ≡ so_far.settings.items ++ settings_of items) × (alone ≡ texts so_far.alone.items ++ lone_words items)
    × ((name : OptionName) → times_given name settings ≤ 1)

-- no option is given twice so far
abbrev pub IsOnce : Given → Type 0
IsOnce given = (name : OptionName) → times_given name given.settings.items ≤ 1

-- a step over the words in front: what all words give stays the same, or it is nothing, or memory is refused
abbrev pub Takes : List OptionRow → Given → Given → List (List ℕ) → Result ℕ Wrong → Type 0
Takes options before after words (Ok count) = (0 < length words → 0 < count) × (count ≤ length words) × (IsOnce before → IsOnce after)
    × ((settings : List Setting) (alone : List (List ℕ))
    → GivesFrom options before words settings alone ↔ GivesFrom options after (drop count words) settings alone)
Takes options before after words (Err Memory) = Unit {0}
Takes options before after words (Err wrong) = (settings : List Setting) (alone : List (List ℕ)) → ¬ (GivesFrom options before words settings alone)
