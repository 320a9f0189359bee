-- What a node of a reached state can always do next.
use Rattle.std.specs.Prelude.{◌≡◌, ◌≤◌, ℕ, Bool, true, false}
use Rattle.sci_cache.specs.State.{CacheState, Joining, FreshJoining, Head, FreshHead, Below, Telling, is_out, waits}
use Rattle.sci_cache.specs.Cache.{line_of, slots_taken}
use Rattle.sci_core.specs.Node.{NodeOf}

-- the states with an entry that await no answer: one that joins or tells and hasn't sent its request, a head, and an entry
-- below one. Each of them has a request to send.
abbrev pub goes_on : CacheState → Bool
goes_on (Joining p false) = true
goes_on (FreshJoining p false c) = true
goes_on (Telling r w false) = true
goes_on (Head f c) = true
goes_on (FreshHead f c) = true
goes_on (Below f b c) = true
goes_on _ = false

-- there is a slot, no more lines have an entry than there are slots, and each of them awaits an answer or can go on
pub record CanGoOn (node : NodeOf) : Type 0 where
  pub some_slot : 1 ≤ node.cache.slots
  pub few : slots_taken node.cache.lines ≤ node.cache.slots
  pub entries : (line : ℕ) → is_out (line_of node.cache line).state ≡ false → waits (line_of node.cache line).state ≡ false
      → goes_on (line_of node.cache line).state ≡ true
