-- The pairs of a state and what it meets by name, and whether they came.
use Rattle.std.specs.Prelude.{ℕ, ◌==◌, Bool, not, List, ◌∷◌, ◌++◌, codes, if◌then◌else◌}
use Rattle.sci_words.specs.Event.{kind_word}
use Rattle.sci_packets.specs.Table.{command_name}
use Rattle.sci_statistics.specs.declared.{coverage.Coverage.{Coverage}, kind.Access.{Access, TheVariants.{Load, Maker}}}
use Rattle.sci_statistics.specs.declared.transition.{Met.{Met, TheVariants.{Ask, Serve, Accept, Perform}}, StateKind.{StateKind}, Transition.{Transition}}
use Rattle.sci_statistics.specs.{Coverage.{times}, Transitions.{is_home, kind_name}}

-- ---- names

abbrev pub place_word : StateKind → List ℕ
place_word state = if is_home state then codes "home" else codes "cache"

abbrev pub met_word : Met → List ℕ
met_word (Ask kind) = codes "ask"
met_word (Serve request) = codes "serve"
met_word (Accept answer) = codes "accept"
met_word (Perform access) = codes "perform"

abbrev pub access_word : Access → List ℕ
access_word Load = codes "load"
access_word Maker = codes "maker"

-- the kind of an ask, the command of a packet, or what an operation does
abbrev pub what_word : Met → List ℕ
what_word (Ask kind) = kind_word kind
what_word (Serve request) = command_name request
what_word (Accept answer) = command_name answer
what_word (Perform access) = access_word access

-- the name of a pair, as `cache.Out.ask.mread`
unfoldable pub pair_name : Transition → List ℕ
pair_name t = place_word t.state ++ (46 ∷ kind_name t.state ++ (46 ∷ met_word t.met ++ (46 ∷ what_word t.met)))

-- ---- counts

-- whether a pair came
abbrev pub has_come : Coverage → Transition → Bool
has_come coverage t = not (times coverage t == 0)

abbrev pub has_never_come : Coverage → Transition → Bool
has_never_come coverage t = times coverage t == 0
