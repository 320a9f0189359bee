-- What words choose, from what is read of them.
use Rattle.std.proofs.Common.{◌≡◌, ◌↔◌, ℕ, true, false, List, [], ◌∷◌, Option, Some, None, inl, inr, sym, ap, ◌∙◌, subst, refl}
use Rattle.std.specs.Prelude.{codes, option_map, Result, Ok, Err}
use Rattle.sci_options.specs.declared.given.{Given.{Given}, Wrong.{Wrong}}
use Rattle.sci_options.specs.declared.given.Wrong.TheVariants as wrongs
use Rattle.sci_options.specs.declared.setting.{OptionRow.{OptionRow}, Setting.{Setting}}
use Rattle.sci_options.specs.Options.{begins_option, is_given}
use Rattle.sci_options.specs.declared.option_name.OptionName.TheVariants as options
use Rattle.sci_options.specs.Given.{IsReading, lacks_memory, texts}
use Rattle.sciview.specs.declared.choice.{Choice.{Choice}, Command.{Command}}
use Rattle.sciview.specs.declared.choice.Command.TheVariants as commands
use Rattle.sciview.specs.declared.complaint.Complaint.{Complaint}
use Rattle.sciview.specs.declared.complaint.Complaint.TheVariants as complaints
use Rattle.sciview.specs.declared.verb.Verb.{Verb}
use Rattle.sciview.specs.declared.verb.Verb.TheVariants.{Allowed, Chart, Check, Explain, Judge, Lists, Order, Outcomes, Packets, Page, Random, Run}
use Rattle.sciview.specs.declared.verb.Verb.TheVariants.{Stats, Trace}
use Rattle.sciview.specs.Choice.{Asks, Chooses, ChoosesOf, IsChosenBy, IsHelp, IsNamed, Named, command_of, is_refused, no_names, options_of, reads_several}
use Rattle.sciview.specs.Choice.{shown_in, verb_word}

-- a command that reads a text
pub asks_text : (verb : Verb) (settings : List Setting) (alone : List (List ℕ)) (command : Command) (named : Named) → ¬ (verb ≡ Random)
    → Asks verb settings alone command named
    ↔ ((command_of verb settings ≡ Some command) × (IsNamed (is_given options.Title settings) (reads_several verb settings) alone named))
asks_text Random settings alone command named other = absurd (other refl)
asks_text verb settings alone command named other = (λ h. h, λ h. h)

unsome : {A : Type 0} (x y : A) → Some x ≡ Some y → x ≡ y
unsome x y same = cc

-- a command, and the names that it takes
abbrev of_named : Command → Named → Option (Command × Named)
of_named command named = Some (command, named)

-- a command that reads a text, and the names that words give, are what is asked of it, and nothing else is
pub asked_text : (verb : Verb) (settings : List Setting) (alone : List (List ℕ)) (asked : Command) (names : Named) → ¬ (verb ≡ Random)
    → command_of verb settings ≡ Some asked
    → ((named : Named) → (Some names ≡ Some named) ↔ (IsNamed (is_given options.Title settings) (reads_several verb settings) alone named))
    → (command : Command) (named : Named) → (of_named asked names ≡ of_named command named) ↔ Asks verb settings alone command named
asked_text verb settings alone asked names other is files command named =
    let text = asks_text verb settings alone command named other in (
      λ same.
          let pair = unsome {A = Command × Named} (asked, names) (command, named) same in
          let first : asked ≡ command = ap (λ p. p.0) pair in
          let second : names ≡ named = ap (λ p. p.1) pair in
          text.1 (is ∙ ap (λ (c : Command). Some c) first, (files named).0 (ap (λ (f : Named). Some f) second)),
      λ asks.
          let two = text.0 asks in
          let first : asked ≡ command = unsome asked command (sym is ∙ two.0) in
          let second : names ≡ named = unsome names named ((files named).1 two.1) in
          ap (λ (c : Command). of_named c names) first ∙ ap (λ (f : Named). of_named command f) second,
    )

-- a verb that a word chooses is the only one of that word
pub only_verb : (found : Option Verb) (word : List ℕ) (verb : Verb) → ((v : Verb) → (found ≡ Some v) ↔ (word ≡ verb_word v)) → found ≡ Some verb
    → (v : Verb) → verb_word verb ≡ verb_word v → v ≡ verb
only_verb found word verb says is v same = unsome v verb (sym ((says v).1 ((says verb).0 is ∙ same)) ∙ is)

pub word_of : (found : Option Verb) (word : List ℕ) (verb : Verb) → ((v : Verb) → (found ≡ Some v) ↔ (word ≡ verb_word v)) → found ≡ Some verb
    → word ≡ verb_word verb
word_of found word verb says is = (says verb).0 is

-- a complaint that isn't about memory, if nothing is chosen
complains : (Chosen : Command → Named → Type 0) (complaint : Complaint) → ((command : Command) (named : Named) → ¬ (Chosen command named))
    → IsChosenBy Chosen (Err complaint)
complains Chosen complaints.Memory none = tt
complains Chosen complaint none = none

-- if words are refused since there is no memory, so is the choice
refused : (Chosen : Command → Named → Type 0) (complaint : Complaint) → is_refused complaint ≡ true → IsChosenBy Chosen (Err complaint)
refused Chosen complaints.Memory is = tt
refused Chosen complaint is = absurd (cc)

-- ---- the words behind a command

-- what is read by the table of a command
pub by_table : (verb : Verb) (options : List OptionRow) (words : List (List ℕ)) (read want : Result Given Wrong) → options ≡ options_of verb → read ≡ want
    → IsReading options words read → IsReading (options_of verb) words want
by_table verb options words read want is so reading =
    subst (λ (r : Result Given Wrong). IsReading (options_of verb) words r) so (subst (λ (o : List OptionRow). IsReading o words read) is reading)

-- what is read of the options and of the words that stand alone
abbrev pub IsAsked : Verb → Given → Option Choice → Type 0
IsAsked verb given asked = (command : Command) (named : Named)
    → (option_map shown_in asked ≡ Some (command, named)) ↔ Asks verb given.settings.items (texts given.alone.items) command named

module _ (verb : Verb) (words : List (List ℕ)) where
  pub none_read : (wrong : Wrong) (complaint : Complaint) → ¬ (IsHelp words) → IsReading (options_of verb) words (Err wrong)
      → is_refused complaint ≡ lacks_memory wrong → IsChosenBy (ChoosesOf verb words) (Err complaint)
  none_read wrongs.Memory complaint other reading same = refused (ChoosesOf verb words) complaint same
  none_read (wrongs.NoOption word) complaint other reading same =
      complains (ChoosesOf verb words) complaint (λ command named chosen. elim chosen [ inl here ↦ other here.0 | inr there ↦ reading there.1 there.2 there.3 ])
  none_read (wrongs.NoValue name argument) complaint other reading same =
      complains (ChoosesOf verb words) complaint (λ command named chosen. elim chosen [ inl here ↦ other here.0 | inr there ↦ reading there.1 there.2 there.3 ])
  none_read (wrongs.Again name) complaint other reading same =
      complains (ChoosesOf verb words) complaint (λ command named chosen. elim chosen [ inl here ↦ other here.0 | inr there ↦ reading there.1 there.2 there.3 ])

  module _ (given : Given) (asked : Option Choice) (other : ¬ (IsHelp words)) (reading : IsReading (options_of verb) words (Ok given))
      (asks : IsAsked verb given asked) where
    -- what the words choose is asked of what is read
    is_asked : (command : Command) (named : Named) → ChoosesOf verb words command named → option_map shown_in asked ≡ Some (command, named)
    is_asked command named (inl here) = absurd (other here.0)
    is_asked command named (inr there) =
        let same = (reading there.1 there.2).0 there.3 in
        (asks command named).1 (subst (λ (a : List (List ℕ)). Asks verb given.settings.items a command named) same.1
        (subst (λ (s : List Setting). Asks verb s there.2 command named) same.0 there.4))

    pub none_asked : (complaint : Complaint) → asked ≡ None → IsChosenBy (ChoosesOf verb words) (Err complaint)
    none_asked complaint none =
        complains (ChoosesOf verb words) complaint
        (λ command named chosen. let is = is_asked command named chosen in let no = ap (option_map shown_in) none in absurd (cc))

    pub some_asked : (choice : Choice) → asked ≡ Some choice → IsChosenBy (ChoosesOf verb words) (Ok choice)
    some_asked choice some command named = (
      λ chosen. let is = is_asked command named chosen in let shown = ap (option_map shown_in) some in cc,
      λ same.
          let is : option_map shown_in asked ≡ Some (command, named) = ap (option_map shown_in) some ∙ ap (λ p. Some p) same in
          inr (
            other,
            given.settings.items,
            texts given.alone.items,
            (reading given.settings.items (texts given.alone.items)).1 (refl, refl),
            (asks command named).0 is,
          ),
    )

-- ---- all words

verbs_begin : (verb : Verb) → begins_option (verb_word verb) ≡ false
verbs_begin Order = refl
verbs_begin Explain = refl
verbs_begin Judge = refl
verbs_begin Run = refl
verbs_begin Outcomes = refl
verbs_begin Allowed = refl
verbs_begin Check = refl
verbs_begin Packets = refl
verbs_begin Trace = refl
verbs_begin Lists = refl
verbs_begin Stats = refl
verbs_begin Chart = refl
verbs_begin Page = refl
verbs_begin Random = refl

abbrev head : List (List ℕ) → List ℕ
head [] = []
head (word ∷ words) = word

abbrev tail : List (List ℕ) → List (List ℕ)
tail [] = []
tail (word ∷ words) = words

-- a word that begins with a minus is no command
no_verb : (verb : Verb) (word : List ℕ) (words rest : List (List ℕ)) → begins_option word ≡ true → words ≡ word ∷ [] → words ≡ verb_word verb ∷ rest → ⊥
no_verb verb word words rest option a b =
    let same : word ≡ verb_word verb = ap head (sym a ∙ b) in
    let plain = ap begins_option same ∙ verbs_begin verb in
    absurd (cc)

version_is_no_help : (words : List (List ℕ)) → words ≡ codes "--version" ∷ [] → ¬ (IsHelp words)
version_is_no_help words is (inl help) = let same : codes "--version" ≡ codes "--help" = ap head (sym is ∙ help) in absurd (cc)
version_is_no_help words is (inr help) = let same : codes "--version" ≡ codes "-h" = ap head (sym is ∙ help) in absurd (cc)

module _ (words : List (List ℕ)) where
  pub version : (choice : Choice) → words ≡ codes "--version" ∷ [] → shown_in choice ≡ (commands.Version, no_names) → IsChosenBy (Chooses words) (Ok choice)
  version choice is shown command named = (
    λ chosen. elim chosen [
      | inl help ↦ absurd (version_is_no_help words is help.0)
      | inr (inl here) ↦ shown ∙ ap (λ (c : Command). (c, no_names)) (sym here.1) ∙ ap (λ (f : Named). (command, f)) (sym here.2)
      | inr (inr there) ↦ absurd (no_verb there.0 (codes "--version") words there.1 refl is there.2)
    ],
    λ same. let whole = sym shown ∙ same in inr (inl (is, sym (ap (λ p. p.0) whole), sym (ap (λ p. p.1) whole))),
  )

  module _ (other : ¬ (IsHelp words)) (newer : ¬ (words ≡ codes "--version" ∷ [])) where
    -- words that are neither choose by a command
    by_verb : (command : Command) (named : Named) → Chooses words command named
        → (verb : Verb) × (rest : List (List ℕ)) × (words ≡ verb_word verb ∷ rest) × ChoosesOf verb rest command named
    by_verb command named (inl help) = absurd (other help.0)
    by_verb command named (inr (inl version)) = absurd (newer version.0)
    by_verb command named (inr (inr there)) = there

    pub no_command : (complaint : Complaint) → ((verb : Verb) (rest : List (List ℕ)) → ¬ (words ≡ verb_word verb ∷ rest))
        → IsChosenBy (Chooses words) (Err complaint)
    no_command complaint none =
        complains (Chooses words) complaint (λ command named chosen. let by = by_verb command named chosen in none by.0 by.1 by.2)

    -- what the words behind a command choose
    of_verb : (verb : Verb) (rest : List (List ℕ)) → words ≡ verb_word verb ∷ rest → ((v : Verb) → verb_word verb ≡ verb_word v → v ≡ verb)
        → (command : Command) (named : Named) → Chooses words command named ↔ ChoosesOf verb rest command named
    of_verb verb rest at only command named = (
      λ chosen.
          let by = by_verb command named chosen in
          let whole = sym at ∙ by.2 in
          let same = only by.0 (ap head whole) in
          subst (λ (v : Verb). ChoosesOf v rest command named) same
          (subst (λ (ws : List (List ℕ)). ChoosesOf by.0 ws command named) (sym (ap tail whole)) by.3),
      λ chosen. inr (inr (verb, rest, at, chosen)),
    )

    pub chosen_by : (verb : Verb) (rest : List (List ℕ)) (result : Result Choice Complaint) → words ≡ verb_word verb ∷ rest
        → ((v : Verb) → verb_word verb ≡ verb_word v → v ≡ verb) → IsChosenBy (ChoosesOf verb rest) result → IsChosenBy (Chooses words) result
    chosen_by verb rest (Ok choice) at only is = λ command named. (
      λ chosen. (is command named).0 ((of_verb verb rest at only command named).0 chosen),
      λ same. (of_verb verb rest at only command named).1 ((is command named).1 same),
    )
    chosen_by verb rest (Err complaints.Memory) at only is = tt
    chosen_by verb rest (Err complaints.NoCommand) at only is = λ command named chosen. is command named ((of_verb verb rest at only command named).0 chosen)
    chosen_by verb rest (Err (complaints.Words v problem)) at only is =
        λ command named chosen. is command named ((of_verb verb rest at only command named).0 chosen)
