-- What a node doesn't try again.
use Rattle.std.specs.Prelude.{Bool, true, false}
use Rattle.sci_cache.specs.State.{CacheState, Asking, Fading, Telling}

-- a line that gets another rank by its answer, whatever that is, so that its request is made once: a read of the home, a Setback that
-- was sent, or a Roll of an entry that was purged meanwhile
abbrev pub is_tried_once : CacheState → Bool
is_tried_once Asking = true
is_tried_once (Telling r w sent) = sent
is_tried_once Fading = true
is_tried_once _ = false
