-- What a cache does with each request that comes from another cache. From IEEE Std 1596-1992 are the cases that build a
-- list and take entries out of it; the answer Busy, and what is granted when, are this project's profile.
use Rattle.std.specs.Prelude.{ℕ, Bool, true, false, IsTrue, ◌==◌, if◌then◌else◌, Option, Some, None}
use Rattle.sci_packets.specs.declared.body.Body.{Body}
use Rattle.sci_packets.specs.declared.body.Body.TheVariants.{Cread, Purge, Roll, Setback, Cdata, Purged, Rolled, Told, Busy}
use Rattle.sci_cache.specs.State.{CacheState, Out, Head, FreshHead, Below, Rolling, Fading}

-- the requests that a cache serves (the profile)
abbrev pub is_for_cache : Body → Bool
is_for_cache Cread = true
is_for_cache Purge = true
is_for_cache (Roll forward) = true
is_for_cache (Setback backward) = true
is_for_cache _ = false

abbrev pub IsForCache : Body → Type 0
IsForCache body = IsTrue (is_for_cache body)

-- node n joins before a head, as in the standard; another state is Busy (the profile)
abbrev pub serving_cread : CacheState → ℕ → CacheState × Body
serving_cread (Head f c) n = (Below f n c, Cdata c)
serving_cread (FreshHead f c) n = (Below f n c, Cdata c)
serving_cread state n = (state, Busy)

-- the head orders the entry out of the list, and learns its forward identifier, as in the standard. An entry whose Roll
-- is unanswered awaits that answer still (the profile).
abbrev pub serving_purge : CacheState → CacheState × Body
serving_purge (Below f b c) = (Out, Purged f)
serving_purge (Rolling f b c) = (Fading, Purged f)
serving_purge state = (state, Busy)

-- whether n is the forward identifier
abbrev pub is_next : Option ℕ → ℕ → Bool
is_next None n = false
is_next (Some f) n = f == n

-- node n, which is the next entry, leaves the list, and m is the next after it: as in the standard, neighbours'
-- identifiers change by packets. That the node that is asked checks n is the profile.
abbrev pub serving_roll : CacheState → ℕ → Option ℕ → CacheState × Body
serving_roll (Head f c) n m = if is_next f n then (Head m c, Rolled) else (Head f c, Busy)
serving_roll (FreshHead f c) n m = if is_next f n then (FreshHead m c, Rolled) else (FreshHead f c, Busy)
serving_roll (Below f b c) n m = if is_next f n then (Below m b c, Rolled) else (Below f b c, Busy)
serving_roll state n m = (state, Busy)

-- node n, which was before the entry, has left, and w is before it now. Backward identifiers are hints, so another n
-- changes nothing (the profile).
abbrev pub serving_setback : CacheState → ℕ → ℕ → CacheState × Body
serving_setback (Below f b c) n w = if b == n then (Below f w c, Told) else (Below f b c, Told)
serving_setback (Rolling f b c) n w = if b == n then (Rolling f w c, Told) else (Rolling f b c, Told)
serving_setback state n w = (state, Told)

-- the next state of a cache and its answer to a request from node n; none if no cache serves such a packet
abbrev pub serving : CacheState → ℕ → Body → Option (CacheState × Body)
serving state n Cread = Some (serving_cread state n)
serving state n Purge = Some (serving_purge state)
serving state n (Roll m) = Some (serving_roll state n m)
serving state n (Setback w) = Some (serving_setback state n w)
serving state n _ = None
