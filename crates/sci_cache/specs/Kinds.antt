-- What the state of a line is to the planner of a node's requests (the profile).
use Rattle.std.specs.Prelude.{Bool, true, false, not, ◌||◌, Some}
use Rattle.sci_cache.specs.State.{CacheState, Joining, FreshJoining, Head, FreshHead, Below, Purging, Claiming, Clearing, Returning, Rolling, Telling}
use Rattle.sci_cache.specs.{State.{Fading}, declared.line_kind.LineKind.{LineKind}}
use Rattle.sci_cache.specs.declared.line_kind.LineKind.TheVariants as kind

-- the head of a list that has a next entry: it purges before it writes or leaves
abbrev pub has_sharers : CacheState → Bool
has_sharers (Head (Some f) c) = true
has_sharers _ = false

-- the same of a list under a fresh home
abbrev pub has_fresh_sharers : CacheState → Bool
has_fresh_sharers (FreshHead (Some f) c) = true
has_fresh_sharers _ = false

-- on the way into a list, with the Cread sent or not
abbrev pub joins : CacheState → Bool
joins (Joining p sent) = true
joins (FreshJoining p sent c) = true
joins _ = false

-- a line with a request to send before anything else can come of it
abbrev pub must_send : CacheState → Bool
must_send (Joining p sent) = not sent
must_send (FreshJoining p sent c) = not sent
must_send (Telling r w sent) = not sent
must_send _ = false

-- on the way out of a list, or out of the way of a writer
abbrev pub gives_way : CacheState → Bool
gives_way (Purging q c) = true
gives_way (Claiming f c) = true
gives_way (Clearing c) = true
gives_way (Returning c) = true
gives_way (Rolling f b c) = true
gives_way (Telling r w sent) = true
gives_way Fading = true
gives_way _ = false

-- an entry that could begin to give way
abbrev pub could_give_way : CacheState → Bool
could_give_way (Head f c) = true
could_give_way (FreshHead f c) = true
could_give_way (Below f b c) = true
could_give_way _ = false

-- on the way into a list, or giving way
abbrev pub moves : CacheState → Bool
moves state = joins state || gives_way state

-- whether a state is of a kind
abbrev pub is_of : LineKind → CacheState → Bool
is_of kind.HasSharers state = has_sharers state
is_of kind.HasFreshSharers state = has_fresh_sharers state
is_of kind.Joins state = joins state
is_of kind.MustSend state = must_send state
is_of kind.GivesWay state = gives_way state
is_of kind.CouldGiveWay state = could_give_way state
is_of kind.Moves state = moves state
