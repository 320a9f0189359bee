-- What is given, word by word: `GivenFrom` says what words add to what is given so far.
use Rattle.std.proofs.Common.{◌≡◌, ◌↔◌, ◌≤◌, ◌+◌, ℕ, arith, List, [], ◌∷◌, ◌++◌, drop, sym, ap, subst, ◌∙◌, refl, append_assoc, zero-add, inl, inr}
use Rattle.std.specs.Prelude.{Bool, true, false, count_by, sum_by, ◌==◌, ◌||◌}
use Rattle.std.specs.List.{list_any}
use Rattle.std.proofs.Common.{cond}
use Rattle.std.proofs.lemmas.{Bool.{eq-eqb, eqb-true}, List.{append-nil}, List.Sums.{sum_by-append}}
use Rattle.sci_options.specs.declared.option_name.OptionName.{OptionName, TheVariants.{BySerial}}
use Rattle.sci_options.specs.declared.setting.{OptionRow.{OptionRow}, Setting.{Setting}}
use Rattle.sci_options.specs.Options.{AreItems, Begins, Item, begins_option, is_given, is_option, lone_words, option_place, option_word, settings_of}
use Rattle.sci_options.specs.Options.{times_given}

-- words give this, behind settings and words that are given already
abbrev pub GivenFrom : List OptionRow → List Setting → List (List ℕ) → List (List ℕ) → List Setting → List (List ℕ) → Type 0
GivenFrom options so_far before words settings alone = (items : List Item) × AreItems options words items
    × (settings ≡ so_far ++ settings_of items) × (alone ≡ before ++ lone_words items) × ((name : OptionName) → times_given name settings ≤ 1)

abbrev head : List (List ℕ) → List ℕ
head [] = []
head (word ∷ words) = word

abbrev tail : List (List ℕ) → List (List ℕ)
tail [] = []
tail (word ∷ words) = words

-- ---- options begin with a minus

names_begin : (name : OptionName) (text : List ℕ) → begins_option (option_word name ++ text) ≡ true
names_begin BySerial text = refl
names_begin name text = refl

names_begin_alone : (name : OptionName) → begins_option (option_word name) ≡ true
names_begin_alone BySerial = refl
names_begin_alone name = refl

settings_begin : (options : List OptionRow) (word : List ℕ) (more : List (List ℕ)) (setting : Setting) (count : ℕ)
    → Begins options word more setting count → begins_option word ≡ true
settings_begin options word more setting count (inl (argument, taken, is, follows)) = ap begins_option is ∙ names_begin_alone setting.name
settings_begin options word more setting count (inr (front, text, is, (argument, taken, named, says), none)) =
    ap begins_option (is ∙ ap (λ (w : List ℕ). w ++ (61 ∷ text)) named) ∙ names_begin setting.name (61 ∷ text)

-- ---- a word that stands alone

module _ (options : List OptionRow) (so_far : List Setting) (before : List (List ℕ)) (word : List ℕ) (more : List (List ℕ)) where
  pub alone_before : begins_option word ≡ false → (settings : List Setting) (alone : List (List ℕ))
      → GivenFrom options so_far before (word ∷ more) settings alone → GivenFrom options so_far (before ++ (word ∷ [])) more settings alone
  alone_before plain settings alone ([], are, s, a, once) = absurd (cc)
  alone_before plain settings alone (inl setting ∷ items, (first, behind, count, same, begins, are), s, a, once) = grind (arith, settings_begin)
  alone_before plain settings alone (inr lone ∷ items, (rest, same, begins, are), s, a, once) = grind (arith, append_assoc)

  pub alone_after : begins_option word ≡ false → (settings : List Setting) (alone : List (List ℕ))
      → GivenFrom options so_far (before ++ (word ∷ [])) more settings alone → GivenFrom options so_far before (word ∷ more) settings alone
  alone_after plain settings alone (items, are, s, a, once) =
      (inr word ∷ items, (more, refl, plain, are), s, a ∙ append_assoc before (word ∷ []) (lone_words items), once)

-- ---- an option with its value

module _ (options : List OptionRow) (so_far : List Setting) (before : List (List ℕ)) (word : List ℕ) (more : List (List ℕ)) where
  -- the items of words that begin with an option
  first_is : begins_option word ≡ true → (settings : List Setting) (alone : List (List ℕ))
      → GivenFrom options so_far before (word ∷ more) settings alone
      → (setting : Setting) × (count : ℕ) × Begins options word more setting count
      × GivenFrom options (so_far ++ (setting ∷ [])) before (drop count more) settings alone
  first_is option settings alone ([], are, s, a, once) = absurd (cc)
  first_is option settings alone (inr lone ∷ items, (rest, same, begins, are), s, a, once) = grind arith
  first_is option settings alone (inl setting ∷ items, (first, behind, count, same, begins, are), s, a, once) = grind (arith, append_assoc)

  pub none_given : begins_option word ≡ true → ((setting : Setting) (count : ℕ) → Begins options word more setting count → ⊥)
      → (settings : List Setting) (alone : List (List ℕ)) → GivenFrom options so_far before (word ∷ more) settings alone → ⊥
  none_given option none settings alone given = let first = first_is option settings alone given in none first.0 first.1 first.2

  pub setting_after : (setting : Setting) (count : ℕ) → Begins options word more setting count → (settings : List Setting) (alone : List (List ℕ))
      → GivenFrom options (so_far ++ (setting ∷ [])) before (drop count more) settings alone → GivenFrom options so_far before (word ∷ more) settings alone
  setting_after setting count begins settings alone (items, are, s, a, once) =
      (inl setting ∷ items, (word, more, count, refl, begins, are), s ∙ append_assoc so_far (setting ∷ []) (settings_of items), a, once)

  pub setting_before : (setting : Setting) (count : ℕ) → Begins options word more setting count
      → ((other : Setting) (n : ℕ) → Begins options word more other n → (other ≡ setting) × (n ≡ count)) → (settings : List Setting)
      (alone : List (List ℕ)) → GivenFrom options so_far before (word ∷ more) settings alone
      → GivenFrom options (so_far ++ (setting ∷ [])) before (drop count more) settings alone
  setting_before setting count begins only settings alone given =
      let option = settings_begin options word more setting count begins in
      let found = first_is option settings alone given in
      let same = only found.0 found.1 found.2 in
      subst (λ (s : Setting). GivenFrom options (so_far ++ (s ∷ [])) before (drop count more) settings alone) same.0
      (subst (λ (n : ℕ). GivenFrom options (so_far ++ (found.0 ∷ [])) before (drop n more) settings alone) same.1 found.3)

-- ---- each option at most once

sum_cons : (f : Setting → ℕ) (x : Setting) (xs : List Setting) → sum_by f (x ∷ xs) ≡ f x + sum_by f xs
sum_cons f x xs = sum_by-append f (x ∷ []) xs ∙ ap (λ n. n + sum_by f xs) (zero-add (f x))

any_here : (here rest : Bool) (n : ℕ) → (here || rest) ≡ true → (rest ≡ true → 1 ≤ n) → 1 ≤ cond here 1 0 + n
any_here true rest n is more = omega arith
any_here false rest n is more = let some = more is in omega arith

none_here : (here rest : Bool) (n : ℕ) → (here || rest) ≡ false → (rest ≡ false → n ≡ 0) → cond here 1 0 + n ≡ 0
none_here true rest n is more = absurd (cc)
none_here false rest n is more = let none = more is in omega arith

count_append : (p : Setting → Bool) (xs ys : List Setting) → count_by p (xs ++ ys) ≡ count_by p xs + count_by p ys
count_append p xs ys = sum_by-append (λ x. cond (p x) 1 0) xs ys

some_count : (p : Setting → Bool) (xs : List Setting) → list_any p xs ≡ true → 1 ≤ sum_by (λ x. cond (p x) 1 0) xs
some_count p [] is = absurd (cc)
some_count p (x ∷ xs) is =
    subst (λ n. 1 ≤ n) (sym (sum_cons (λ x. cond (p x) 1 0) x xs))
    (any_here (p x) (list_any p xs) (sum_by (λ x. cond (p x) 1 0) xs) is (some_count p xs))

no_count : (p : Setting → Bool) (xs : List Setting) → list_any p xs ≡ false → sum_by (λ x. cond (p x) 1 0) xs ≡ 0
no_count p [] is = refl
no_count p (x ∷ xs) is =
    sum_cons (λ x. cond (p x) 1 0) x xs ∙ none_here (p x) (list_any p xs) (sum_by (λ x. cond (p x) 1 0) xs) is (no_count p xs)

-- how often an option is given, with one setting more
one_more : (name : OptionName) (xs ys : List Setting) (setting : Setting) (b : Bool) → is_option name setting.name ≡ b
    → times_given name (xs ++ (setting ∷ ys)) ≡ times_given name xs + (cond b 1 0 + times_given name ys)
one_more name xs ys setting b is =
    count_append (λ other. is_option name other.name) xs (setting ∷ ys)
    ∙ ap (λ n. times_given name xs + n) (sum_cons (λ other. cond (is_option name other.name) 1 0) setting ys)
    ∙ ap (λ (test : Bool). times_given name xs + (cond test 1 0 + times_given name ys)) is

-- an option that is given isn't given again
pub not_again : (options : List OptionRow) (so_far : List Setting) (before : List (List ℕ)) (rest : List (List ℕ)) (setting : Setting)
    → is_given setting.name so_far ≡ true → (settings : List Setting) (alone : List (List ℕ))
    → GivenFrom options (so_far ++ (setting ∷ [])) before rest settings alone → ⊥
not_again options so_far before rest setting is settings alone (items, are, s, a, once) =
    let front = some_count (λ other. is_option setting.name other.name) so_far is in
    let whole : settings ≡ so_far ++ (setting ∷ settings_of items) = s ∙ append_assoc so_far (setting ∷ []) (settings_of items) in
    let more = one_more setting.name so_far (settings_of items) setting true (eq-eqb _ _ refl) in
    let count : times_given setting.name settings ≡ times_given setting.name (so_far ++ (setting ∷ settings_of items)) =
    ap (times_given setting.name) whole in
    let few = once setting.name in
    absurd (omega arith)

still : (so_far : List Setting) (setting : Setting) (name : OptionName) (b : Bool) → is_option name setting.name ≡ b
    → is_given setting.name so_far ≡ false → times_given name so_far ≤ 1 → times_given name (so_far ++ (setting ∷ [])) ≤ 1
still so_far setting name false is none few = let more = one_more name so_far [] setting false is in omega arith
still so_far setting name true is none few =
    let more = one_more name so_far [] setting true is in
    let no = no_count (λ other. is_option setting.name other.name) so_far none in
    let same : times_given setting.name so_far ≡ times_given name so_far =
    ap (λ (place : ℕ). count_by (λ other. option_place other.name == place) so_far) (eqb-true _ _ is) in
    omega arith

-- what is given stays given once
pub still_once : (so_far : List Setting) (setting : Setting) → is_given setting.name so_far ≡ false → ((name : OptionName) → times_given name so_far ≤ 1)
    → (name : OptionName) → times_given name (so_far ++ (setting ∷ [])) ≤ 1
still_once so_far setting is once name = still so_far setting name (is_option name setting.name) refl is (once name)

-- words that are over give nothing more
over_only : (options : List OptionRow) (so_far : List Setting) (before : List (List ℕ)) (settings : List Setting) (alone : List (List ℕ))
    → GivenFrom options so_far before [] settings alone → (settings ≡ so_far) × (alone ≡ before)
over_only options so_far before settings alone ([], are, s, a, once) = (s ∙ append-nil so_far, a ∙ append-nil before)
over_only options so_far before settings alone (inl setting ∷ items, (word, more, count, same, begins, are), s, a, once) = absurd (cc)
over_only options so_far before settings alone (inr word ∷ items, (rest, same, begins, are), s, a, once) = absurd (cc)

pub over : (options : List OptionRow) (so_far : List Setting) (before : List (List ℕ)) → ((name : OptionName) → times_given name so_far ≤ 1)
    → (settings : List Setting) (alone : List (List ℕ)) → GivenFrom options so_far before [] settings alone ↔ ((settings ≡ so_far) × (alone ≡ before))
over options so_far before once settings alone = (
  over_only options so_far before settings alone,
  λ same. (
    [],
    refl,
    same.0 ∙ sym (append-nil so_far),
    same.1 ∙ sym (append-nil before),
    λ name. subst (λ (s : List Setting). times_given name s ≤ 1) (sym same.0) (once name),
  ),
)
