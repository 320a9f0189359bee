-- What the machine has of one line: its home, each node's state, the packets that are under way, and its last contents.
use Rattle.std.specs.Prelude.{ℕ, ◌%◌, Bool, ◌&&◌, ◌==◌, if◌then◌else◌, List, [], ◌∷◌, ◌++◌, map, filter, Option, Some, None, option_to_list, unwrap_or}
use Rattle.std.specs.{List.{flat_map, range_with_len}, Option.{option_or}}
use Rattle.sci_words.specs.{declared.stamped.Stamped.{Stamped}, Stamped.{zero_stamped}}
use Rattle.sci_packets.specs.declared.body.Body.{Body}
use Rattle.sci_packets.specs.Table.{is_request}
use Rattle.sci_home.specs.{declared.state.HomeState.{HomeState}, Serving.{current_of}}
use Rattle.sci_cache.specs.{State.{CacheState}, Accepting.{settled}, Member.{contents_held}, Cache.{Letter, line_of}}
use Rattle.sci_core.specs.{Node.{home_of}, Core.{Core, node_at}}

-- ---- packets

-- the node whose ask a packet makes or answers
abbrev pub asker_of : Letter → ℕ
asker_of letter = if is_request letter.body then letter.source else letter.target

-- whether a packet makes or answers an ask of node n about a line
abbrev pub is_about : ℕ → ℕ → Letter → Bool
is_about n line letter = (letter.line == line) && (asker_of letter == n)

-- whether a packet is the request of an ask of node n about a line
abbrev pub asks_about : ℕ → ℕ → Letter → Bool
asks_about n line letter = is_request letter.body && ((letter.line == line) && (letter.source == n))

-- the packets under way: the answers that wait to be sent, and those in lanes
abbrev pub under_way : Core → List Letter
under_way core = flat_map (λ part. option_to_list part.waiting) core.parts ++ flat_map (λ lane. lane) core.lanes

abbrev pub packets_of : Core → ℕ → ℕ → List Letter
packets_of core n line = filter (is_about n line) (under_way core)

-- the first answer among packets
abbrev pub answer_in : List Letter → Option Body
answer_in [] = None
answer_in (letter ∷ letters) = if is_request letter.body then answer_in letters else Some letter.body

-- the answer that is under way to node n about a line
abbrev pub answer_to : Core → ℕ → ℕ → Option Body
answer_to core n line = answer_in (packets_of core n line)

-- ---- nodes

-- the state of node n on a line once the answer that is under way to it, if any, has come
abbrev pub settled_at : Core → ℕ → ℕ → CacheState
settled_at core line n = settled (line_of (node_at core n).cache line).state (answer_to core n line)

abbrev pub all_settled : Core → ℕ → List CacheState
all_settled core line = map (settled_at core line) (range_with_len 0 core.size.nodes)

abbrev pub home_at : Core → ℕ → HomeState
home_at core line = home_of (node_at core (line % core.size.nodes)) line

-- ---- the last contents

-- the contents of the first of these that may change the line or is about to
abbrev pub first_authority : List CacheState → Option Stamped
first_authority [] = None
first_authority (state ∷ rest) = option_or (contents_held state) (first_authority rest)

-- the home's contents if nobody may have written since, else the authority's
abbrev pub last_at : Core → ℕ → Stamped
last_at core line = unwrap_or (option_or (current_of (home_at core line)) (first_authority (all_settled core line))) zero_stamped

abbrev pub last_of : Core → List Stamped
last_of core = map (last_at core) (range_with_len 0 core.size.lines)
