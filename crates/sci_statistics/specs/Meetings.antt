-- What a line meets by each event of a schedule.
use Rattle.std.specs.Prelude.{ℕ, nat_lt, List, [], Option, Some, None, option_map, is_some, if◌then◌else◌}
use Rattle.std.specs.List.{cons_option}
use Rattle.sci_words.specs.declared.{event.Event.{Event}, extent.Extent.{Extent}, limits.TheConstants.{MAX_OPERATIONS}}
use Rattle.sci_packets.specs.{declared.body.Body.{Body}, Table.{command_of}}
use Rattle.sci_home.specs.Serving.{is_for_home}
use Rattle.sci_cache.specs.Cache.{Letter}
use Rattle.sci_core.specs.declared.pending.Pending.{Pending}
use Rattle.sci_core.specs.{Core.{Core, along, node_at, opening, stepping}, Node.{pending_on}, Size.{size_of}}
use Rattle.sci_statistics.specs.declared.transition.{Met.{Met, TheVariants.{Ask, Serve, Accept, Perform}}, Transition.{Transition}}
use Rattle.sci_statistics.specs.{About.{letter_taken, line_changed}, Kinds.{access_of}, Standing.{cache_at, home_at}}
use Rattle.sci_statistics.specs.Transitions.{in_state, kind_at_cache, kind_at_home}
use Rattle.sci_words.specs.declared.event.Event.TheVariants as event

-- what a line meets in a node's cache, and at its home; nothing where it isn't
abbrev pub met_in_cache : Core → ℕ → ℕ → Met → Option Transition
met_in_cache core n line met = option_map (λ state. in_state met (kind_at_cache state)) (cache_at core n line)

abbrev pub met_at_home : Core → ℕ → ℕ → Met → Option Transition
met_at_home core n line met = option_map (λ state. in_state met (kind_at_home state)) (home_at core n line)

-- a request about a line is served at the line's home, or in the cache
abbrev pub served_on : Core → ℕ → ℕ → Body → Option Transition
served_on core n line request =
    if is_for_home request
    then met_at_home core n line (Serve (command_of request))
    else met_in_cache core n line (Serve (command_of request))

abbrev pub served_in : Core → ℕ → Option Letter → Option ℕ → Option Transition
served_in core n (Some request) (Some line) = served_on core n line request.body
served_in core n _ _ = None

-- an answer about a line is accepted in the cache
abbrev pub accepted_in : Core → ℕ → Option Letter → Option ℕ → Option Transition
accepted_in core n (Some answer) (Some line) = met_in_cache core n line (Accept (command_of answer.body))
accepted_in core n _ _ = None

-- the operation that is pending on a line is performed in the cache
abbrev pub performed_in : Core → ℕ → ℕ → Option Pending → Option Transition
performed_in core n line None = None
performed_in core n line (Some pending) = met_in_cache core n line (Perform (access_of pending.op))

-- the operation that is pending on a line of a node, if there is such a node
abbrev pub pending_at : Core → ℕ → ℕ → Option Pending
pending_at core n line = if nat_lt n core.size.nodes then pending_on (node_at core n) line else None

-- what a line meets by an event, if the event is enabled
abbrev pub met_by : Core → Event → Option Transition
met_by core (event.Ask n line kind) = met_in_cache core n line (Ask kind)
met_by core (event.Serve from n) = served_in core n (letter_taken core (event.Serve from n)) (line_changed core (event.Serve from n))
met_by core (event.Accept from n) = accepted_in core n (letter_taken core (event.Accept from n)) (line_changed core (event.Accept from n))
met_by core (event.Perform n line) = performed_in core n line (pending_at core n line)
met_by core (event.Issue n op) = None
met_by core (event.Refuse from n) = None
met_by core (event.Reply n) = None

-- the transition that an event is: what is met in the state before it, if it is enabled
abbrev pub transition_of : Core → Event → Option Transition
transition_of core e = if is_some (stepping core e) then met_by core e else None

-- those of the events from a state on, each in the state to which those before it lead
abbrev pub transitions : Core → List Event → List Transition
transitions core events = along (λ at e. cons_option (transition_of at e) []) core events

-- the same from the beginning of a machine of this size, whose nodes may each issue 65,536 operations
abbrev pub transitions_from : Extent → List Event → List Transition
transitions_from extent events = transitions (opening (size_of extent MAX_OPERATIONS)) events
