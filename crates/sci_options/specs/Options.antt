-- What the words of a command line give: options in any order, each at most once, and words that stand alone.
use Rattle.std.specs.Prelude.{◌≡◌, ◌<◌, ◌≤◌, ◌^◌, ◌==◌, ◌++◌, ◌⊎◌, ℕ, Bool, List, [], ◌∷◌, codes, Option, Some, None, option_map, count_by, drop, false}
use Rattle.std.specs.List.{find, list_any}
use Rattle.std.proofs.Common.{inl, inr}
use Rattle.sci_text.specs.Number.{number}
use Rattle.sci_options.specs.declared.argument.Argument.{Argument}
use Rattle.sci_options.specs.declared.argument.Argument.TheVariants as arguments
use Rattle.sci_options.specs.declared.argument.Value.{Value}
use Rattle.sci_options.specs.declared.argument.Value.TheVariants as values
use Rattle.sci_options.specs.declared.option_name.OptionName.{OptionName}
use Rattle.sci_options.specs.declared.option_name.OptionName.TheVariants.{AllOutcomes, BySerial, Dead, Events, InOrder, Json, Limit, Line, Log, Node}
use Rattle.sci_options.specs.declared.option_name.OptionName.TheVariants.{Order, Runs, Seed, Show, Strict, Threads, Times, Title, Transitions, Turns}
use Rattle.sci_options.specs.declared.setting.{OptionRow.{OptionRow}, Setting.{Setting}}

-- the word of an option
abbrev pub option_word : OptionName → List ℕ
option_word AllOutcomes = codes "--all"
option_word BySerial = codes "--by-serial"
option_word Dead = codes "--dead"
option_word Events = codes "--events"
option_word InOrder = codes "--in-order"
option_word Json = codes "--json"
option_word Limit = codes "--limit"
option_word Line = codes "--line"
option_word Log = codes "--log"
option_word Node = codes "--node"
option_word Order = codes "--order"
option_word Runs = codes "--runs"
option_word Seed = codes "--seed"
option_word Show = codes "--show"
option_word Strict = codes "--strict"
option_word Threads = codes "--threads"
option_word Times = codes "--times"
option_word Title = codes "--title"
option_word Transitions = codes "--transitions"
option_word Turns = codes "--turns"

-- where an option stands among all
abbrev pub option_place : OptionName → ℕ
option_place AllOutcomes = 0
option_place BySerial = 1
option_place Dead = 2
option_place Events = 3
option_place InOrder = 4
option_place Json = 5
option_place Line = 6
option_place Node = 7
option_place Runs = 8
option_place Seed = 9
option_place Show = 10
option_place Strict = 11
option_place Threads = 12
option_place Times = 13
option_place Turns = 14
option_place Log = 15
option_place Order = 16
option_place Limit = 17
option_place Title = 18
option_place Transitions = 19

abbrev pub is_option : OptionName → OptionName → Bool
is_option name other = option_place other == option_place name

-- what stands behind an option of a command, if the command takes it
abbrev pub argument_of : List OptionRow → OptionName → Option Argument
argument_of options name = option_map (λ row. row.argument) (find (λ row. is_option name row.name) options)

-- one word says a value for an argument
abbrev pub Says : Argument → Value → List ℕ → Type 0
Says (arguments.Place count) value word = (n : ℕ) × (value ≡ values.Place n) × (word ≡ number n) × (n < count)
Says (arguments.Number least greatest) value word = (n : ℕ) × (value ≡ values.Number n) × (word ≡ number n) × (least ≤ n) × (n ≤ greatest)
Says argument value word = ⊥

-- words begin with a value for an argument, which takes this count of them: one, two, or as many as the argument has
abbrev pub FollowsInOne : Argument → Value → List (List ℕ) → ℕ → Type 0
FollowsInOne argument value words count =
    (word : List ℕ) × (rest : List (List ℕ)) × (words ≡ word ∷ rest) × Says argument value word × (count ≡ 1)

abbrev pub FollowsInTwo : Value → List (List ℕ) → ℕ → Type 0
FollowsInTwo value words count = (first : ℕ) × (last : ℕ) × (rest : List (List ℕ)) × (value ≡ values.TwoNumbers first last)
    × (words ≡ number first ∷ number last ∷ rest) × (first ≤ last) × (last < 2 ^ 64) × (count ≡ 2)

abbrev pub Follows : Argument → Value → List (List ℕ) → ℕ → Type 0
Follows arguments.Nothing value words count = (value ≡ values.Nothing) × (count ≡ 0)
Follows arguments.TwoNumbers value words count = FollowsInTwo value words count
Follows argument value words count = FollowsInOne argument value words count

-- a word that begins an option: a minus, with something behind it
abbrev pub begins_option : List ℕ → Bool
begins_option [] = false
begins_option (c ∷ []) = false
begins_option (c ∷ d ∷ more) = c == 45

-- an option of a table, and its value in the words behind it
abbrev pub IsParted : List OptionRow → List ℕ → List (List ℕ) → Setting → ℕ → Type 0
IsParted options word more setting count = (argument : Argument) × (argument_of options setting.name ≡ Some argument)
    × (word ≡ option_word setting.name) × Follows argument setting.value more count

-- an option of a table, and its value behind `=`
abbrev pub IsJoined : List OptionRow → List ℕ → List ℕ → Setting → Type 0
IsJoined options word text setting = (argument : Argument) × (argument_of options setting.name ≡ Some argument)
    × (word ≡ option_word setting.name) × Says argument setting.value text

-- a word, and this count of those behind it, are an option of a table with its value: `--line 5`, or `--line=5`
abbrev pub Begins : List OptionRow → List ℕ → List (List ℕ) → Setting → ℕ → Type 0
Begins options word more setting count = IsParted options word more setting count
    ⊎ ((front : List ℕ) × (text : List ℕ) × (word ≡ front ++ (61 ∷ text)) × IsJoined options front text setting × (count ≡ 0))

-- an option with its value, or a word that stands alone
abbrev pub Item : Type 0
Item = Setting ⊎ List ℕ

-- words are items, one behind another
abbrev pub AreItems : List OptionRow → List (List ℕ) → List Item → Type 0
AreItems options words [] = words ≡ []
AreItems options words (inl setting ∷ items) = (word : List ℕ) × (more : List (List ℕ)) × (count : ℕ)
    × (words ≡ word ∷ more) × Begins options word more setting count × AreItems options (drop count more) items
AreItems options words (inr word ∷ items) = (rest : List (List ℕ)) × (words ≡ word ∷ rest) × (begins_option word ≡ false) × AreItems options rest items

abbrev pub settings_of : List Item → List Setting
settings_of [] = []
settings_of (inl setting ∷ items) = setting ∷ settings_of items
settings_of (inr word ∷ items) = settings_of items

abbrev pub lone_words : List Item → List (List ℕ)
lone_words [] = []
lone_words (inl setting ∷ items) = lone_words items
lone_words (inr word ∷ items) = word ∷ lone_words items

-- how often an option is given
abbrev pub times_given : OptionName → List Setting → ℕ
times_given name settings = count_by (λ setting. is_option name setting.name) settings

-- what words give, by a table of options: these settings, each option at most once, and these words that stand alone
abbrev pub IsGiven : List OptionRow → List (List ℕ) → List Setting → List (List ℕ) → Type 0
IsGiven options words settings alone = (items : List Item) × AreItems options words items
    × (settings ≡ settings_of items) × (alone ≡ lone_words items) × ((name : OptionName) → times_given name settings ≤ 1)

-- whether an option is given
abbrev pub is_given : OptionName → List Setting → Bool
is_given name settings = list_any (λ setting. is_option name setting.name) settings

-- the value of an option, if it is given
abbrev pub value_of : OptionName → List Setting → Option Value
value_of name settings = option_map (λ setting. setting.value) (find (λ setting. is_option name setting.name) settings)

abbrev pub place_in : Option Value → Option ℕ
place_in (Some (values.Place n)) = Some n
place_in other = None

abbrev pub number_in : Option Value → Option ℕ
number_in (Some (values.Number n)) = Some n
number_in other = None

abbrev pub two_in : Option Value → Option (ℕ × ℕ)
two_in (Some (values.TwoNumbers first last)) = Some (first, last)
two_in other = None
