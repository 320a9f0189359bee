-- The pairs of a state and what it meets: those of the tables of homes and caches.
use Rattle.std.specs.Prelude.{ℕ, ◌+◌, ◌-◌, ◌*◌, ◌==◌, nat_lt, Bool, true, false, ◌||◌, if◌then◌else◌, List, [], ◌∷◌, codes, filter, map, is_some}
use Rattle.std.specs.Prelude.{Some, None}
use Rattle.std.specs.List.{flat_map, list_any}
use Rattle.sci_words.specs.declared.{event.AskKind.{AskKind}, operation.{Op.{Op}, Act.TheVariants.{Load, Store}}}
use Rattle.sci_words.specs.{Event.{ask_number}, Stamped.{zero_stamped}}
use Rattle.sci_packets.specs.{declared.{body.Body.{Body}, command.Command.{Command}}, Table.{command_number}}
use Rattle.sci_home.specs.{declared.state.HomeState.{HomeState}, Serving.{home_serving}}
use Rattle.sci_cache.specs.State.{CacheState, Out, Asking, Joining, FreshJoining, Head, FreshHead, Below, Purging, Claiming, Clearing, Returning, Rolling}
use Rattle.sci_cache.specs.State.{Telling, Fading}
use Rattle.sci_cache.specs.{Asking.{asking}, Serving.{serving}, Accepting.{accepting}, Performing.{performing}}
use Rattle.sci_statistics.specs.declared.kind.Access.{Access}
use Rattle.sci_statistics.specs.{Kinds.{access_place}, declared.transition.{Met.{Met}, StateKind.{StateKind}, Transition.{Transition}}}
use Rattle.sci_statistics.specs.declared.transition.TheConstants.{StateKind.{ALL as all_states}, Met.{ALL as all_met}}
use Rattle.sci_home.specs.declared.state.HomeState.TheVariants as home
use Rattle.sci_packets.specs.declared.body.Body.TheVariants as body
use Rattle.sci_packets.specs.declared.command.Command.TheVariants as command
use Rattle.sci_statistics.specs.declared.kind.Access.TheVariants as access
use Rattle.sci_statistics.specs.declared.transition.Met.TheVariants as met
use Rattle.sci_statistics.specs.declared.transition.StateKind.TheVariants as kind

-- ---- states

-- the kind of a cache's state
abbrev pub kind_at_cache : CacheState → StateKind
kind_at_cache Out = kind.Out
kind_at_cache Asking = kind.Asking
kind_at_cache (Joining p sent) = kind.Joining
kind_at_cache (FreshJoining p sent c) = kind.FreshJoining
kind_at_cache (Head f c) = kind.Head
kind_at_cache (FreshHead f c) = kind.FreshHead
kind_at_cache (Below f b c) = kind.Below
kind_at_cache (Purging q c) = kind.Purging
kind_at_cache (Claiming f c) = kind.Claiming
kind_at_cache (Clearing c) = kind.Clearing
kind_at_cache (Returning c) = kind.Returning
kind_at_cache (Rolling f b c) = kind.Rolling
kind_at_cache (Telling r w sent) = kind.Telling
kind_at_cache Fading = kind.Fading

-- the kind of a home's state
abbrev pub kind_at_home : HomeState → StateKind
kind_at_home (home.Home c) = kind.Home
kind_at_home (home.Fresh p c) = kind.Fresh
kind_at_home (home.Gone p) = kind.Gone

-- the name of a kind, as its table has it
unfoldable pub kind_name : StateKind → List ℕ
kind_name kind.Out = codes "Out"
kind_name kind.Asking = codes "Asking"
kind_name kind.Joining = codes "Joining"
kind_name kind.FreshJoining = codes "FreshJoining"
kind_name kind.Head = codes "Head"
kind_name kind.FreshHead = codes "FreshHead"
kind_name kind.Below = codes "Below"
kind_name kind.Purging = codes "Purging"
kind_name kind.Claiming = codes "Claiming"
kind_name kind.Clearing = codes "Clearing"
kind_name kind.Returning = codes "Returning"
kind_name kind.Rolling = codes "Rolling"
kind_name kind.Telling = codes "Telling"
kind_name kind.Fading = codes "Fading"
kind_name kind.Home = codes "HOME"
kind_name kind.Fresh = codes "FRESH"
kind_name kind.Gone = codes "GONE"

abbrev pub is_home : StateKind → Bool
is_home kind.Home = true
is_home kind.Fresh = true
is_home kind.Gone = true
is_home _ = false

-- ---- the tables

-- states of a kind: one for each case that a table tells apart
abbrev pub cache_examples : StateKind → List CacheState
cache_examples kind.Out = Out ∷ []
cache_examples kind.Asking = Asking ∷ []
cache_examples kind.Joining = Joining 0 false ∷ Joining 0 true ∷ []
cache_examples kind.FreshJoining = FreshJoining 0 false zero_stamped ∷ FreshJoining 0 true zero_stamped ∷ []
cache_examples kind.Head = Head None zero_stamped ∷ Head (Some 0) zero_stamped ∷ []
cache_examples kind.FreshHead = FreshHead None zero_stamped ∷ FreshHead (Some 0) zero_stamped ∷ []
cache_examples kind.Below = Below None 0 zero_stamped ∷ []
cache_examples kind.Purging = Purging 0 zero_stamped ∷ []
cache_examples kind.Claiming = Claiming None zero_stamped ∷ []
cache_examples kind.Clearing = Clearing zero_stamped ∷ []
cache_examples kind.Returning = Returning zero_stamped ∷ []
cache_examples kind.Rolling = Rolling None 0 zero_stamped ∷ []
cache_examples kind.Telling = Telling 0 0 false ∷ Telling 0 0 true ∷ []
cache_examples kind.Fading = Fading ∷ []
cache_examples _ = []

abbrev pub home_examples : StateKind → List HomeState
home_examples kind.Home = home.Home zero_stamped ∷ []
home_examples kind.Fresh = home.Fresh 0 zero_stamped ∷ []
home_examples kind.Gone = home.Gone 0 ∷ []
home_examples _ = []

-- a packet with a command
abbrev pub body_example : Command → Body
body_example command.Mread = body.Mread
body_example command.Cread = body.Cread
body_example command.Purge = body.Purge
body_example command.Roll = body.Roll None
body_example command.Wback = body.Wback zero_stamped
body_example command.Setback = body.Setback 0
body_example command.Fread = body.Fread
body_example command.Claim = body.Claim
body_example command.Clear = body.Clear
body_example command.Mdata = body.Mdata zero_stamped
body_example command.Mgone = body.Mgone 0
body_example command.Cdata = body.Cdata zero_stamped
body_example command.Purged = body.Purged None
body_example command.Rolled = body.Rolled
body_example command.Wbok = body.Wbok
body_example command.Wbno = body.Wbno
body_example command.Told = body.Told
body_example command.Busy = body.Busy
body_example command.Fdata = body.Fdata None zero_stamped

-- an operation that does this
abbrev pub op_example : Access → Op
op_example access.Load = record { act = Load; line = 0; word = 0 }
op_example access.Maker = record { act = Store 0; line = 0; word = 0 }

-- whether the table has an entry: what a cache asks in a state
abbrev pub asks : StateKind → AskKind → Bool
asks state kind = list_any (λ held. is_some (asking held kind)) (cache_examples state)

-- a request that a cache, or a home, serves in it
abbrev pub serves : StateKind → Command → Bool
serves state request =
    list_any (λ held. is_some (serving held 0 (body_example request))) (cache_examples state)
    || list_any (λ at_home. is_some (home_serving at_home 0 (body_example request))) (home_examples state)

-- an answer that a cache accepts in it
abbrev pub accepts : StateKind → Command → Bool
accepts state answer = list_any (λ held. is_some (accepting held (body_example answer))) (cache_examples state)

-- an operation that a cache performs in it
abbrev pub performs : StateKind → Access → Bool
performs state access = list_any (λ held. is_some (performing held (op_example access))) (cache_examples state)

abbrev pub is_met_in : StateKind → Met → Bool
is_met_in state (met.Ask kind) = asks state kind
is_met_in state (met.Serve request) = serves state request
is_met_in state (met.Accept answer) = accepts state answer
is_met_in state (met.Perform access) = performs state access

abbrev pub is_of_tables : Transition → Bool
is_of_tables t = is_met_in t.state t.met

-- ---- places

abbrev pub state_place : StateKind → ℕ
state_place kind.Out = 0
state_place kind.Asking = 1
state_place kind.Joining = 2
state_place kind.FreshJoining = 3
state_place kind.Head = 4
state_place kind.FreshHead = 5
state_place kind.Below = 6
state_place kind.Purging = 7
state_place kind.Claiming = 8
state_place kind.Clearing = 9
state_place kind.Returning = 10
state_place kind.Rolling = 11
state_place kind.Telling = 12
state_place kind.Fading = 13
state_place kind.Home = 14
state_place kind.Fresh = 15
state_place kind.Gone = 16

-- the requests, and behind them the answers
abbrev pub command_place : Command → ℕ
command_place command = if nat_lt (command_number command) 0x100 then command_number command - 1 else command_number command - 0x101 + 9

abbrev pub met_place : Met → ℕ
met_place (met.Ask kind) = ask_number kind
met_place (met.Serve request) = 9 + command_place request
met_place (met.Accept answer) = 28 + command_place answer
met_place (met.Perform access) = 47 + access_place access

-- where a transition stands among all that can be said
abbrev pub transition_place : Transition → ℕ
transition_place t = met_place t.met * 17 + state_place t.state

abbrev pub is_transition : Transition → Transition → Bool
is_transition t other = transition_place other == transition_place t

-- ---- the pairs of the tables

-- what is met, in one state, and in each
abbrev pub in_state : Met → StateKind → Transition
in_state met state = record { state = state; met = met }

abbrev pub in_states : Met → List Transition
in_states met = map (in_state met) all_states

-- the pairs of the tables: asks, requests, answers and operations, each in every state whose table has it
unfoldable pub table : List Transition
table = filter is_of_tables (flat_map in_states all_met)
