-- What a cache asks in each state. From IEEE Std 1596-1992 are the reads of a new sharer (mread64 to memory, then cread64
-- to the old head), that the head alone purges the others, and that an entry that leaves tells its neighbours. Which
-- state asks what, and every other request, is this project's profile.
use Rattle.std.specs.Prelude.{ℕ, true, false, Option, Some, None}
use Rattle.sci_words.specs.declared.event.AskKind.{AskKind}
use Rattle.sci_packets.specs.declared.body.Body.{Body}
use Rattle.sci_cache.specs.State.{CacheState, Out, Asking, Joining, FreshJoining, Head, FreshHead, Below, Purging, Claiming, Clearing, Returning, Rolling}
use Rattle.sci_cache.specs.State.{Telling}
use Rattle.sci_words.specs.declared.event.AskKind.TheVariants as kind
use Rattle.sci_packets.specs.declared.body.Body.TheVariants as body

-- an ask: to whom, None for the home of the line, what, and the state that the cache then is in
pub record Asked : Type 0 where
  pub to : Option ℕ
  pub request : Body
  pub next : CacheState

abbrev asks : Option ℕ → Body → CacheState → Option Asked
asks to request next = Some (record { to = to; request = request; next = next })

-- what a state asks of this kind, or none. A head with a next entry purges it before it does anything else (the profile).
abbrev pub asking : CacheState → AskKind → Option Asked
asking Out kind.Mread = asks None body.Mread Asking
asking Out kind.Fread = asks None body.Fread Asking
asking (Joining p false) kind.Cread = asks (Some p) body.Cread (Joining p true)
asking (FreshJoining p false c) kind.Cread = asks (Some p) body.Cread (FreshJoining p true c)
asking (Head (Some q) c) kind.Purge = asks (Some q) body.Purge (Purging q c)
asking (Head None c) kind.Wback = asks None (body.Wback c) (Returning c)
asking (FreshHead f c) kind.Claim = asks None body.Claim (Claiming f c)
asking (FreshHead None c) kind.Clear = asks None body.Clear (Clearing c)
asking (Below f b c) kind.Roll = asks (Some b) (body.Roll f) (Rolling f b c)
asking (Telling r w false) kind.Setback = asks (Some r) (body.Setback w) (Telling r w true)
asking _ _ = None

-- The node to which the request of a line that waits went, as its state has it. That of a node that leaves may have gone to an
-- entry that was before it.
abbrev pub asked_node : ℕ → CacheState → Option ℕ
asked_node home Asking = Some home
asked_node home (Joining p sent) = Some p
asked_node home (FreshJoining p sent c) = Some p
asked_node home (Purging q c) = Some q
asked_node home (Claiming f c) = Some home
asked_node home (Clearing c) = Some home
asked_node home (Returning c) = Some home
asked_node home (Rolling f b c) = Some b
asked_node home (Telling r w sent) = Some r
asked_node home state = None
