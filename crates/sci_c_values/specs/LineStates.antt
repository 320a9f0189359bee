-- The structs of what a node has of a line.
use Rattle.std.specs.Prelude.{ℕ, Bool, true, false, Option, Some, None, is_some, replicate}
use Rattle.sci_words.specs.declared.{limits.TheConstants.{WORDS_PER_LINE}, stamped.Stamped.{Stamped}}
use Rattle.sci_packets.specs.Table.{number_of}
use Rattle.sci_home.specs.declared.state.HomeState.{HomeState, TheVariants.{Home, Fresh, Gone}}
use Rattle.sci_home.specs.Serving.{current_of, head_of}
use Rattle.sci_cache.specs.State.{CacheState, Out, Asking, Joining, FreshJoining, Head, FreshHead, Below, Purging, Claiming, Clearing, Returning, Rolling}
use Rattle.sci_cache.specs.State.{Telling, Fading, backward_of, contents_of, forward_of, waits}
use Rattle.sci_c_values.specs.declared.{line_states.{SciHeld.{SciHeld}, SciHome.{SciHome}}, stamped.SciStamped.{SciStamped}}
use Rattle.sci_c_values.specs.Stamped.{stamped_struct}

-- the number of a cache's state, in the order of PROTOCOL.md
abbrev pub state_number : CacheState → ℕ
state_number Out = 0
state_number Asking = 1
state_number (Joining p sent) = 2
state_number (FreshJoining p sent c) = 3
state_number (Head f c) = 4
state_number (FreshHead f c) = 5
state_number (Below f b c) = 6
state_number (Purging q c) = 7
state_number (Claiming f c) = 8
state_number (Clearing c) = 9
state_number (Returning c) = 10
state_number (Rolling f b c) = 11
state_number (Telling r w sent) = 12
state_number Fading = 13

-- 1 for true
abbrev pub flag : Bool → ℕ
flag true = 1
flag false = 0

-- contents that there are not are 0
abbrev pub contents_struct : Option Stamped → SciStamped
contents_struct None = record { version = 0; words = replicate WORDS_PER_LINE 0 }
contents_struct (Some stamped) = stamped_struct stamped

-- the struct of a cache's state: whether its request is under way, its neighbours, and its contents
abbrev pub held_struct : CacheState → SciHeld
held_struct state = record {
  state = state_number state;
  waits = flag (waits state);
  has_contents = flag (is_some (contents_of state));
  reserved = 0;
  forward = number_of (forward_of state);
  backward = number_of (backward_of state);
  contents = contents_struct (contents_of state);
}

abbrev pub home_number : HomeState → ℕ
home_number (Home contents) = 0
home_number (Fresh head contents) = 1
home_number (Gone head) = 2

-- the struct of a home's state: the head that it knows, and its contents
abbrev pub home_struct : HomeState → SciHome
home_struct home = record {
  state = home_number home;
  has_contents = flag (is_some (current_of home));
  head = number_of (head_of home);
  reserved = 0;
  contents = contents_struct (current_of home);
}
