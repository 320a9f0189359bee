-- The steps through words, one for each way that words begin.
use Rattle.std.proofs.Common.{◌≡◌, ◌↔◌, ◌≤◌, ◌+◌, ℕ, suc, arith, length, List, [], ◌∷◌, ◌++◌}
use Rattle.std.proofs.Common.{◌-◌, drop, take, Option, Some, None, sym, ap, subst, ◌∙◌, inl, inr}
use Rattle.std.specs.Prelude.{true, false, Ok, Err}
use Rattle.std.proofs.lemmas.List.{drop-drop, drop-map, length-drop, length-map, take_all}
use denote.Ref.{Bor}
use Rattle.sci_options.specs.declared.argument.{Argument.{Argument}, Value.{Value}}
use Rattle.sci_options.specs.declared.argument.Argument.TheVariants as arguments
use Rattle.sci_options.specs.declared.given.{Given.{Given}, Wrong.{Wrong}}
use Rattle.sci_options.specs.declared.given.Wrong.TheVariants.{NoOption, NoValue, Again, Memory}
use Rattle.sci_options.specs.declared.setting.{OptionRow.{OptionRow}, Setting.{Setting}}
use Rattle.sci_options.specs.Options.{Begins, Follows, IsGiven, begins_option, is_given, times_given}
use Rattle.sci_options.specs.Given.{GivesFrom, IsOnce, IsReading, Takes, texts}
use Rattle.sci_options.proofs.Finds.{drop_all}
use Rattle.sci_options.proofs.Items.{GivenFrom, alone_after, alone_before, none_given, not_again, over, setting_after, setting_before, still_once}

-- a value stands within the words that it is read from
follows_within : (argument : Argument) (value : Value) (words : List (List ℕ)) (count : ℕ) → Follows argument value words count → count ≤ length words
follows_within arguments.Nothing value words count (is, none) = omega arith
follows_within arguments.TwoNumbers value words count (first, last, rest, is, are, le, lt, two) =
    let long = ap (λ (ws : List (List ℕ)). length ws) are in omega arith
follows_within (arguments.Place limit) value words count (word, rest, are, says, one) =
    let long = ap (λ (ws : List (List ℕ)). length ws) are in omega arith
follows_within (arguments.Number least greatest) value words count (word, rest, are, says, one) =
    let long = ap (λ (ws : List (List ℕ)). length ws) are in omega arith

follows_few : (argument : Argument) (value : Value) (words : List (List ℕ)) (count : ℕ) → Follows argument value words count → count ≤ 2
follows_few arguments.Nothing value words count (is, none) = omega arith
follows_few arguments.TwoNumbers value words count (first, last, rest, is, are, le, lt, two) = omega arith
follows_few (arguments.Place limit) value words count (word, rest, are, says, one) = omega arith
follows_few (arguments.Number least greatest) value words count (word, rest, are, says, one) = omega arith

pub begins_few : (options : List OptionRow) (word : List ℕ) (more : List (List ℕ)) (setting : Setting) (count : ℕ) → Begins options word more setting count
    → count ≤ 2
begins_few options word more setting count (inl (argument, taken, is, follows)) = follows_few argument setting.value more count follows
begins_few options word more setting count (inr (front, text, is, joined, none)) = omega arith

begins_within : (options : List OptionRow) (word : List ℕ) (more : List (List ℕ)) (setting : Setting) (count : ℕ) → Begins options word more setting count
    → count ≤ length more
begins_within options word more setting count (inl (argument, taken, is, follows)) = follows_within argument setting.value more count follows
begins_within options word more setting count (inr (front, text, is, joined, none)) = omega arith

abbrev pub setting_in : Setting → Option (Setting × ℕ) → Setting
setting_in other None = other
setting_in other (Some read) = read.0

abbrev pub count_in : Option (Setting × ℕ) → ℕ
count_in None = 0
count_in (Some read) = read.1

-- what is read in front of words is the one setting that they begin with
abbrev pub ReadsFront : List OptionRow → List ℕ → List (List ℕ) → Option (Setting × ℕ) → Type 0
ReadsFront options word more read = (setting : Setting) (count : ℕ) → (read ≡ Some (setting, count)) ↔ Begins options word more setting count

only_one : (options : List OptionRow) (word : List ℕ) (more : List (List ℕ)) (read : Option (Setting × ℕ)) (setting : Setting) (count : ℕ)
    → read ≡ Some (setting, count) → ReadsFront options word more read → (other : Setting) (n : ℕ) → Begins options word more other n
    → (other ≡ setting) × (n ≡ count)
only_one options word more read setting count is reads other n begins =
    let there : Some (setting, count) ≡ Some (other, n) = sym is ∙ (reads other n).1 begins in
    (sym (ap (setting_in setting) there), sym (ap count_in there))

-- a word that stands alone
pub taken_alone : (options : List OptionRow) (before after : Given) (word : List ℕ) (more : List (List ℕ)) → begins_option word ≡ false
    → after.settings.items ≡ before.settings.items → texts after.alone.items ≡ texts before.alone.items ++ (word ∷ [])
    → Takes options before after (word ∷ more) (Ok 1)
taken_alone options before after word more plain same added = (
  λ some. omega arith,
  omega arith,
  λ once name. subst (λ (s : List Setting). times_given name s ≤ 1) (sym same) (once name),
  λ settings alone. (
    λ gives.
        subst (λ (s : List Setting). GivenFrom options s (texts after.alone.items) more settings alone) (sym same)
        (subst (λ (a : List (List ℕ)). GivenFrom options before.settings.items a more settings alone) (sym added)
        (alone_before options before.settings.items (texts before.alone.items) word more plain settings alone gives)),
    λ gives.
        alone_after options before.settings.items (texts before.alone.items) word more plain settings alone
        (subst (λ (a : List (List ℕ)). GivenFrom options before.settings.items a more settings alone) added
        (subst (λ (s : List Setting). GivenFrom options s (texts after.alone.items) more settings alone) same gives)),
  ),
)

-- an option with its value
pub taken_setting : (options : List OptionRow) (before after : Given) (word : List ℕ) (more : List (List ℕ)) (read : Option (Setting × ℕ)) (setting : Setting)
    (count : ℕ) → read ≡ Some (setting, count) → ReadsFront options word more read → is_given setting.name before.settings.items ≡ false
    → after.settings.items ≡ before.settings.items ++ (setting ∷ []) → texts after.alone.items ≡ texts before.alone.items
    → Takes options before after (word ∷ more) (Ok (1 + count))
taken_setting options before after word more read setting count is reads new added same =
    let begins = (reads setting count).0 is in
    let only = only_one options word more read setting count is reads in
    let within = begins_within options word more setting count begins in
    let left : drop (1 + count) (word ∷ more) ≡ drop count more =
    let next : 1 + count ≡ suc count = omega arith in ap (λ (n : ℕ). drop n (word ∷ more)) next in (
      λ some. omega arith,
      omega arith,
      λ once name. subst (λ (s : List Setting). times_given name s ≤ 1) (sym added) (still_once before.settings.items setting new once name),
      λ settings alone. (
        λ gives.
            subst (λ (ws : List (List ℕ)). GivenFrom options after.settings.items (texts after.alone.items) ws settings alone) (sym left)
            (subst (λ (s : List Setting). GivenFrom options s (texts after.alone.items) (drop count more) settings alone) (sym added)
            (subst (λ (a : List (List ℕ)). GivenFrom options (before.settings.items ++ (setting ∷ [])) a (drop count more) settings alone) (sym same)
            (setting_before options before.settings.items (texts before.alone.items) word more setting count begins only settings alone gives))),
        λ gives.
            setting_after options before.settings.items (texts before.alone.items) word more setting count begins settings alone
            (subst (λ (a : List (List ℕ)). GivenFrom options (before.settings.items ++ (setting ∷ [])) a (drop count more) settings alone) same
            (subst (λ (s : List Setting). GivenFrom options s (texts after.alone.items) (drop count more) settings alone) added
            (subst (λ (ws : List (List ℕ)). GivenFrom options after.settings.items (texts after.alone.items) ws settings alone) left gives))),
      ),
    )

-- words that begin with an option that the table doesn't have, or with no value for it
pub none_taken : (options : List OptionRow) (before after : Given) (word : List ℕ) (more : List (List ℕ)) (read : Option (Setting × ℕ)) (wrong : Wrong)
    → begins_option word ≡ true → read ≡ None → ReadsFront options word more read → Takes options before after (word ∷ more) (Err wrong)
none_taken options before after word more read wrong option none reads =
    let nothing : (settings : List Setting) (alone : List (List ℕ)) → ¬ (GivesFrom options before (word ∷ more) settings alone) =
    none_given options before.settings.items (texts before.alone.items) word more option
    (λ setting count begins. let there : read ≡ Some (setting, count) = (reads setting count).1 begins in absurd (cc)) in
    elim wrong as (λ (w : Wrong). Takes options before after (word ∷ more) (Err w)) [
      | NoOption text ↦ nothing
      | NoValue name argument ↦ nothing
      | Again name ↦ nothing
      | Memory ↦ tt
    ]

-- words that begin with an option that is given already
pub again_taken : (options : List OptionRow) (before after : Given) (word : List ℕ) (more : List (List ℕ)) (read : Option (Setting × ℕ)) (setting : Setting)
    (count : ℕ) → read ≡ Some (setting, count) → ReadsFront options word more read → is_given setting.name before.settings.items ≡ true
    → Takes options before after (word ∷ more) (Err (Again setting.name))
again_taken options before after word more read setting count is reads given settings alone gives =
    let begins = (reads setting count).0 is in
    let only = only_one options word more read setting count is reads in
    not_again options before.settings.items (texts before.alone.items) (drop count more) setting given settings alone
    (setting_before options before.settings.items (texts before.alone.items) word more setting count begins only settings alone gives)

-- ---- all words

-- what all words give is what the rest gives, behind what is given so far
pub record IsReadTo (options : List OptionRow) (words : List (List ℕ)) (given : Given) (rest : List (List ℕ)) : Type 0 where
  pub once : IsOnce given
  pub same : (settings : List Setting) (alone : List (List ℕ)) → IsGiven options words settings alone ↔ GivesFrom options given rest settings alone

pub more_read : (options : List OptionRow) (words : List (List ℕ)) (before after : Given) (rest : List (List ℕ)) (count : ℕ) (left : List (List ℕ))
    → IsReadTo options words before rest → Takes options before after rest (Ok count) → drop count rest ≡ left → IsReadTo options words after left
more_read options words before after rest count left read takes is = record {
  once = takes.2 read.once;
  same = λ settings alone. (
    λ gives.
        subst (λ (ws : List (List ℕ)). GivesFrom options after ws settings alone) is ((takes.3 settings alone).0 ((read.same settings alone).0 gives)),
    λ gives.
        (read.same settings alone).1 ((takes.3 settings alone).1
        (subst (λ (ws : List (List ℕ)). GivesFrom options after ws settings alone) (sym is) gives)),
  );
}

pub all_read : (options : List OptionRow) (words : List (List ℕ)) (given : Given) (rest : List (List ℕ)) → IsReadTo options words given rest → rest ≡ []
    → IsReading options words (Ok given)
all_read options words given rest read none settings alone =
    let last = over options given.settings.items (texts given.alone.items) read.once settings alone in (
      λ gives. last.0 (subst (λ (ws : List (List ℕ)). GivesFrom options given ws settings alone) none ((read.same settings alone).0 gives)),
      λ same. (read.same settings alone).1 (subst (λ (ws : List (List ℕ)). GivesFrom options given ws settings alone) (sym none) (last.1 same)),
    )

pub none_read : (options : List OptionRow) (words : List (List ℕ)) (before after : Given) (rest : List (List ℕ)) (wrong : Wrong)
    → IsReadTo options words before rest → Takes options before after rest (Err wrong) → IsReading options words (Err wrong)
none_read options words before after rest Memory read takes = tt
none_read options words before after rest (NoOption word) read takes = λ settings alone given. takes settings alone ((read.same settings alone).0 given)
none_read options words before after rest (NoValue name argument) read takes = λ settings alone given.
    takes settings alone ((read.same settings alone).0 given)
none_read options words before after rest (Again name) read takes = λ settings alone given. takes settings alone ((read.same settings alone).0 given)

-- the words from a place on
abbrev pub from_place : List (Bor (List ℕ)) → ℕ → List (Bor (List ℕ))
from_place words at = take (length words - at) (drop at words)

from_place_is : (words : List (Bor (List ℕ))) (at : ℕ) → from_place words at ≡ drop at words
from_place_is words at = let long = length-drop at words in take_all (length words - at) (drop at words) (omega arith)

-- a step at a place
pub read_on : (options : List OptionRow) (words : List (Bor (List ℕ))) (before after : Given) (at count : ℕ) → at ≤ length words
    → IsReadTo options (texts words) before (drop at (texts words)) → Takes options before after (texts (from_place words at)) (Ok count)
    → (at + count ≤ length words) × IsReadTo options (texts words) after (drop (at + count) (texts words))
read_on options words before after at count within read takes =
    let long : length (texts words) ≡ length words = length-map words (λ w. w.now) in
    let here : texts (from_place words at) ≡ drop at (texts words) = ap texts (from_place_is words at) ∙ sym (drop-map (λ w. w.now) at words) in
    let there : Takes options before after (drop at (texts words)) (Ok count) =
    subst (λ (ws : List (List ℕ)). Takes options before after ws (Ok count)) here takes in
    let few = there.1 in
    let all : length (drop at (texts words)) ≡ length (texts words) - at = length-drop at (texts words) in (
      omega arith,
      more_read options (texts words) before after (drop at (texts words)) count (drop (at + count) (texts words)) read there
          (drop-drop count at (texts words)),
    )

pub all_at : (options : List OptionRow) (words : List (Bor (List ℕ))) (given : Given) (at : ℕ) → length words ≤ at
    → IsReadTo options (texts words) given (drop at (texts words)) → IsReading options (texts words) (Ok given)
all_at options words given at beyond read =
    let long : length (texts words) ≡ length words = length-map words (λ w. w.now) in
    all_read options (texts words) given (drop at (texts words)) read (drop_all (texts words) at (omega arith))

pub none_at : (options : List OptionRow) (words : List (Bor (List ℕ))) (before after : Given) (at : ℕ) (wrong : Wrong)
    → IsReadTo options (texts words) before (drop at (texts words)) → Takes options before after (texts (from_place words at)) (Err wrong)
    → IsReading options (texts words) (Err wrong)
none_at options words before after at wrong read takes = grind (arith, none_read, from_place_is, drop-map)
