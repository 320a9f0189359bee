-- What a cache does with each answer that comes. As in IEEE Std 1596-1992, a new sharer that memory names an old head
-- comes to stand before it, and a purged entry answers with its forward identifier. The answers and the states between
-- are this project's profile.
use Rattle.std.specs.Prelude.{true, false, Option, Some, None, unwrap_or}
use Rattle.sci_packets.specs.declared.body.Body.{Body}
use Rattle.sci_packets.specs.declared.body.Body.TheVariants.{Mdata, Mgone, Cdata, Purged, Rolled, Wbok, Wbno, Told, Busy, Fdata}
use Rattle.sci_cache.specs.State.{CacheState, Out, Asking, Joining, FreshJoining, Head, FreshHead, Below, Purging, Claiming, Clearing, Returning, Rolling}
use Rattle.sci_cache.specs.State.{Telling, Fading}

-- the next state of a cache that takes an answer; none if the state doesn't list the answer
abbrev pub accepting : CacheState → Body → Option CacheState
accepting Asking (Mdata c) = Some (Head None c)
accepting Asking (Mgone p) = Some (Joining p false)
accepting Asking (Fdata None c) = Some (FreshHead None c)
accepting Asking (Fdata (Some p) c) = Some (FreshJoining p false c)
accepting Asking Busy = Some Out
accepting (Joining p true) (Cdata c) = Some (Head (Some p) c)
accepting (Joining p true) Busy = Some (Joining p false)
accepting (FreshJoining p true c) (Cdata sent) = Some (FreshHead (Some p) c)
accepting (FreshJoining p true c) Busy = Some (FreshJoining p false c)
accepting (Purging q c) (Purged x) = Some (Head x c)
accepting (Purging q c) Busy = Some (Head (Some q) c)
accepting (Claiming f c) Wbok = Some (Head f c)
accepting (Claiming f c) Wbno = Some (FreshHead f c)
accepting (Claiming f c) Busy = Some (FreshHead f c)
accepting (Clearing c) Wbok = Some Out
accepting (Clearing c) Wbno = Some (FreshHead None c)
accepting (Clearing c) Busy = Some (FreshHead None c)
accepting (Returning c) Wbok = Some Out
accepting (Returning c) Wbno = Some (Head None c)
accepting (Returning c) Busy = Some (Head None c)
accepting (Rolling None b c) Rolled = Some Out
accepting (Rolling (Some r) b c) Rolled = Some (Telling r b false)
accepting (Rolling f b c) Busy = Some (Below f b c)
accepting (Telling r w true) Told = Some Out
accepting Fading Busy = Some Out
accepting _ _ = None

-- the state once the answer that is under way, if any, has come; an answer that the state doesn't list leaves it
abbrev pub settled : CacheState → Option Body → CacheState
settled state None = state
settled state (Some answer) = unwrap_or (accepting state answer) state
