-- The words of a command line.
use Rattle.std.specs.Prelude.{◌≡◌, ◌↔◌, ◌<◌, ◌^◌, ◌⊎◌, if◌then◌else◌, ℕ, Bool, List, [], ◌∷◌, codes, Option, Some, None, Result, Ok, Err}
use Rattle.std.specs.Prelude.{◌≤◌, length, map, option_map, true, false}
use Rattle.sci_words.specs.declared.limits.TheConstants.{MAX_LINES, MAX_NODES}
use Rattle.sci_text.specs.Number.{number}
use Rattle.sci_options.specs.Options.{IsGiven, is_given, number_in, place_in, two_in, value_of}
use Rattle.sci_options.specs.declared.argument.Argument.{TheVariants.{Nothing, Number, Place, TwoNumbers}}
use Rattle.sci_options.specs.declared.option_name.OptionName.{OptionName}
use Rattle.sci_options.specs.declared.option_name.OptionName.TheVariants as options
use Rattle.sci_options.specs.declared.setting.{OptionRow.{OptionRow}, Setting.{Setting}}
use Rattle.sci_charts.specs.declared.charting.TextLines.{TextLines}
use Rattle.sci_drive.specs.declared.driver.Issuing.{Issuing, TheVariants.{Ahead, InOrder}}
use Rattle.sci_reports.specs.declared.ordering.NodeOrder.{NodeOrder, TheVariants.{Logged, BySerial}}
use Rattle.sci_random_schedules.specs.declared.random.Walk.{Walk}
use Rattle.sci_outcomes.specs.declared.outcomes_report.TheConstants.{MAX_RUNS}
use Rattle.sci_outcomes.specs.declared.trials.Turns.{Turns, TheVariants.{Drawn, Threads}}
use Rattle.sciview.specs.declared.choice.{Choice.{Choice}, Command.{Command}, Names.{Names}}
use Rattle.sciview.specs.declared.choice.Command.TheVariants as commands
use Rattle.sciview.specs.declared.complaint.Complaint.{Complaint, TheVariants.{Memory}}
use Rattle.sciview.specs.declared.verb.Verb.{Verb}
use Rattle.sciview.specs.declared.verb.Verb.TheVariants.{Allowed, Chart, Check, Explain, Judge, Lists, Order, Outcomes, Packets, Page, Random, Run}
use Rattle.sciview.specs.declared.verb.Verb.TheVariants.{Stats, Trace}

-- the word of a command
abbrev pub verb_word : Verb → List ℕ
verb_word Order = codes "order"
verb_word Explain = codes "explain"
verb_word Judge = codes "judge"
verb_word Run = codes "run"
verb_word Outcomes = codes "outcomes"
verb_word Allowed = codes "allowed"
verb_word Check = codes "check"
verb_word Packets = codes "packets"
verb_word Trace = codes "trace"
verb_word Lists = codes "lists"
verb_word Stats = codes "stats"
verb_word Chart = codes "chart"
verb_word Page = codes "page"
verb_word Random = codes "random"

-- rows of the table of options: an option alone, a number below a count, a number within limits, two numbers
abbrev pub flag : OptionName → OptionRow
flag name = record { name = name; argument = Nothing }

abbrev pub place : OptionName → ℕ → OptionRow
place name count = record { name = name; argument = Place count }

abbrev pub number_from : OptionName → ℕ → ℕ → OptionRow
number_from name least greatest = record { name = name; argument = Number least greatest }

abbrev pub two_numbers : OptionName → OptionRow
two_numbers name = record { name = name; argument = TwoNumbers }

-- the options of each command
abbrev pub options_of : Verb → List OptionRow
options_of Explain = flag options.Json ∷ []
options_of Order = flag options.BySerial ∷ flag options.Show ∷ flag options.Json ∷ []
options_of Judge = flag options.Times ∷ flag options.Order ∷ number_from options.Limit 0 0xffff_ffff_ffff_ffff ∷ flag options.Log ∷ []
options_of Run = number_from options.Seed 0 0xffff_ffff_ffff_ffff ∷ flag options.InOrder ∷ number_from options.Turns 0 0xffff_ffff_ffff_ffff ∷ []
options_of Outcomes = number_from options.Runs 1 MAX_RUNS ∷ number_from options.Seed 0 0xffff_ffff_ffff_ffff ∷ flag options.Threads
    ∷ flag options.InOrder ∷ flag options.AllOutcomes ∷ flag options.Json ∷ []
options_of Allowed = flag options.InOrder ∷ number_from options.Show 1 0xffff_ffff_ffff_ffff ∷ []
options_of Trace = flag options.Json ∷ flag options.Strict ∷ place options.Line MAX_LINES ∷ []
options_of Lists = place options.Line MAX_LINES ∷ []
options_of Stats = flag options.Transitions ∷ flag options.Json ∷ place options.Line MAX_LINES ∷ place options.Node MAX_NODES ∷ []
options_of Chart = place options.Line MAX_LINES ∷ two_numbers options.Events ∷ []
options_of Page = place options.Line MAX_LINES ∷ two_numbers options.Events ∷ flag options.Title ∷ []
options_of Random = number_from options.Dead 0 100 ∷ []
options_of verb = []

abbrev pub asked_line : List Setting → Option ℕ
asked_line settings = place_in (value_of options.Line settings)

abbrev pub asked_number : OptionName → List Setting → Option ℕ
asked_number name settings = number_in (value_of name settings)

abbrev pub asked_issuing : List Setting → Issuing
asked_issuing settings = if is_given options.InOrder settings then InOrder else Ahead

abbrev pub asked_order : List Setting → NodeOrder
asked_order settings = if is_given options.BySerial settings then BySerial else Logged

abbrev pub asked_events : List Setting → Option TextLines
asked_events settings = option_map (λ two. record { first = two.0; last = two.1 }) (two_in (value_of options.Events settings))

-- in which order nodes take turns: by a seed, or by threads, but not both
abbrev pub turn_order : Option ℕ → Bool → Option (Option Turns)
turn_order None false = Some None
turn_order None true = Some (Some Threads)
turn_order (Some seed) false = Some (Some (Drawn seed))
turn_order (Some seed) true = None

abbrev pub asked_turns : List Setting → Option (Option Turns)
asked_turns settings = turn_order (asked_number options.Seed settings) (is_given options.Threads settings)

abbrev pub outcomes_asked : List Setting → Option Turns → Command
outcomes_asked settings turns = commands.Outcomes (record {
  runs = asked_number options.Runs settings;
  turns = turns;
  issuing = asked_issuing settings;
  all = is_given options.AllOutcomes settings;
  json = is_given options.Json settings;
})

abbrev pub asked_node : List Setting → Option ℕ
asked_node settings = place_in (value_of options.Node settings)

-- what `stats` is asked for: figures, or transitions, which are those of all lines and nodes
abbrev pub transitions_asked : Bool → Option ℕ → Option ℕ → Option Command
transitions_asked json None None = Some (commands.Transitions json)
transitions_asked json _ _ = None

abbrev pub figures_asked : List Setting → Command
figures_asked settings =
    commands.Stats (record { line = asked_line settings; node = asked_node settings; json = is_given options.Json settings })

abbrev pub stats_asked : Bool → List Setting → Option Command
stats_asked false settings = Some (figures_asked settings)
stats_asked true settings = transitions_asked (is_given options.Json settings) (asked_line settings) (asked_node settings)

abbrev pub stats_command : List Setting → Option Command
stats_command settings = stats_asked (is_given options.Transitions settings) settings

-- what a command other than `random` is asked for
abbrev pub command_of : Verb → List Setting → Option Command
command_of Order settings = Some (commands.Order (record {
  keeps = asked_order settings;
  shows = is_given options.Show settings;
  json = is_given options.Json settings;
}))
command_of Explain settings = Some (commands.Explain (is_given options.Json settings))
command_of Judge settings = Some (commands.Judge (record {
  timed = is_given options.Times settings;
  ordered = is_given options.Order settings;
  limit = asked_number options.Limit settings;
  logs = is_given options.Log settings;
}))
command_of Run settings = Some (commands.Run (record {
  seed = asked_number options.Seed settings;
  issuing = asked_issuing settings;
  turns = asked_number options.Turns settings;
}))
command_of Outcomes settings = option_map (outcomes_asked settings) (asked_turns settings)
command_of Allowed settings = Some (commands.Allowed (record { issuing = asked_issuing settings; show = asked_number options.Show settings }))
command_of Check settings = Some commands.Check
command_of Packets settings = Some commands.Packets
command_of Trace settings = Some (commands.Trace (record {
  json = is_given options.Json settings;
  strict = is_given options.Strict settings;
  line = asked_line settings;
}))
command_of Lists settings = Some (commands.Lists (asked_line settings))
command_of Stats settings = stats_command settings
command_of Chart settings = Some (commands.Chart (record { line = asked_line settings; events = asked_events settings }))
command_of Page settings = Some (commands.Page (record { line = asked_line settings; events = asked_events settings }))
command_of Random settings = None

-- the words of a walk
unfoldable pub walk_words : Walk → List (List ℕ)
walk_words walk = number walk.nodes ∷ number walk.lines ∷ number walk.slots ∷ number walk.events ∷ number walk.seed ∷ []

-- each number of a walk has 64 bits
pub record FitsWalk (walk : Walk) : Type 0 where
  pub nodes_fit : walk.nodes < 2 ^ 64
  pub lines_fit : walk.lines < 2 ^ 64
  pub slots_fit : walk.slots < 2 ^ 64
  pub events_fit : walk.events < 2 ^ 64
  pub seed_fits : walk.seed < 2 ^ 64

-- the words that a command takes as they are: a title, and files
pub record Named : Type 0 where
  pub title : Option (List ℕ)
  pub files : List (List ℕ)

abbrev pub no_names : Named
no_names = record { title = None; files = [] }

-- whether a command reads several files, one behind another
abbrev pub reads_several : Verb → List Setting → Bool
reads_several Stats settings = is_given options.Transitions settings
reads_several verb settings = false

-- one file at most, or several
abbrev pub AreFiles : Bool → List (List ℕ) → Type 0
AreFiles true files = Unit {0}
AreFiles false files = length files ≤ 1

-- words are a title if there has to be one, and then files
abbrev pub IsNamed : (titled several : Bool) → List (List ℕ) → Named → Type 0
IsNamed false several words named = (named.title ≡ None) × (words ≡ named.files) × AreFiles several named.files
IsNamed true several words named = (title : List ℕ) × (named.title ≡ Some title) × (words ≡ title ∷ named.files) × AreFiles several named.files

-- options and words that stand alone ask this of a command, with these names
abbrev pub Asks : Verb → List Setting → List (List ℕ) → Command → Named → Type 0
Asks Random settings alone command named = (walk : Walk) × (command ≡ commands.Random walk (asked_number options.Dead settings))
    × (alone ≡ walk_words walk) × FitsWalk walk × (named ≡ no_names)
Asks verb settings alone command named =
    (command_of verb settings ≡ Some command) × IsNamed (is_given options.Title settings) (reads_several verb settings) alone named

-- one word that asks for help
abbrev pub IsHelp : List (List ℕ) → Type 0
IsHelp words = (words ≡ codes "--help" ∷ []) ⊎ (words ≡ codes "-h" ∷ [])

-- the words behind a command choose what it is to do
abbrev pub ChoosesOf : Verb → List (List ℕ) → Command → Named → Type 0
ChoosesOf verb words command named = (IsHelp words × (command ≡ commands.Help (Some verb)) × (named ≡ no_names)) ⊎ (¬ (IsHelp words)
    × (settings : List Setting) × (alone : List (List ℕ)) × IsGiven (options_of verb) words settings alone × Asks verb settings alone command named)

-- the words choose the command, a title, and the files that it reads; none is standard input
abbrev pub Chooses : List (List ℕ) → Command → Named → Type 0
Chooses words command named = (IsHelp words × (command ≡ commands.Help None) × (named ≡ no_names))
    ⊎ (((words ≡ codes "--version" ∷ []) × (command ≡ commands.Version) × (named ≡ no_names))
    ⊎ ((verb : Verb) × (rest : List (List ℕ)) × (words ≡ verb_word verb ∷ rest) × ChoosesOf verb rest command named))

-- names, and a choice, without where their words lie
abbrev pub shown_names : Names → Named
shown_names names = record { title = option_map (λ title. title.now) names.title; files = map (λ file. file.now) names.files.items }

abbrev pub shown_in : Choice → Command × Named
shown_in choice = (choice.command, shown_names choice.names)

-- whether there is no memory for words
abbrev pub is_refused : Complaint → Bool
is_refused Memory = true
is_refused complaint = false

-- what is chosen is what words choose, and nothing else; there is a complaint if they choose nothing, or memory is refused
abbrev pub IsChosenBy : (Command → Named → Type 0) → Result Choice Complaint → Type 0
IsChosenBy Chosen (Ok choice) = (command : Command) (named : Named) → Chosen command named ↔ (shown_in choice ≡ (command, named))
IsChosenBy Chosen (Err Memory) = Unit {0}
IsChosenBy Chosen (Err complaint) = (command : Command) (named : Named) → ¬ (Chosen command named)
