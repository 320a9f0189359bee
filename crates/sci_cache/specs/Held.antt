-- The state that each value of the program holds.
use Rattle.sci_cache.specs.declared.held.Held.{Held}
use Rattle.sci_cache.specs.State.{CacheState, Out, Asking, Joining, FreshJoining, Head, FreshHead, Below, Purging, Claiming, Clearing, Returning, Rolling}
use Rattle.sci_cache.specs.State.{Telling, Fading}
use Rattle.sci_cache.specs.declared.held.Held.TheVariants as held

abbrev pub state_of : Held → CacheState
state_of (held.Out s) = Out
state_of (held.Asking s) = Asking
state_of (held.Joining s) = Joining s.old_head s.sent
state_of (held.FreshJoining s) = FreshJoining s.old_head s.sent s.contents
state_of (held.Head s) = Head s.forward s.contents
state_of (held.FreshHead s) = FreshHead s.forward s.contents
state_of (held.Below s) = Below s.forward s.backward s.contents
state_of (held.Purging s) = Purging s.next s.contents
state_of (held.Claiming s) = Claiming s.forward s.contents
state_of (held.Clearing s) = Clearing s.contents
state_of (held.Returning s) = Returning s.contents
state_of (held.Rolling s) = Rolling s.forward s.backward s.contents
state_of (held.Telling s) = Telling s.behind s.before s.sent
state_of (held.Fading s) = Fading
