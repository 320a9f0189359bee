-- What a cache's processor can do with its contents. As in IEEE Std 1596-1992, a sharer may read and only the head of a
-- list may change the line; that it purges the others first is this project's profile.
use Rattle.std.specs.Prelude.{ℕ, nat_lt, ◌-◌, ◌^◌, if◌then◌else◌, Option, Some, None}
use Rattle.sci_words.specs.declared.{stamped.Stamped.{Stamped}, operation.{Op.{Op}, Reply.{Reply}}}
use Rattle.sci_words.specs.{Operation.{is_maker}, Stamped.{after, reply_of}}
use Rattle.sci_cache.specs.State.{CacheState, Head, FreshHead, Below}

-- what an operation did: the reply, the version that it read or made, and the state that the cache then is in
pub record Performed : Type 0 where
  pub reply : Reply
  pub version : ℕ
  pub next : CacheState

-- a load gives its word and the version, and leaves the state
abbrev pub loading : CacheState → Stamped → Op → Option Performed
loading state c op = if is_maker op then None else Some (record { reply = reply_of c.line op; version = c.version; next = state })

-- a load or a maker on contents of which there is no other copy; versions, which are the profile's, end at the greatest u64
abbrev pub making : Stamped → Op → Option Performed
making c op =
    if is_maker op
    then (if nat_lt c.version (2 ^ 64 - 1) then Some (record { reply = reply_of c.line op; version = (after c op).version; next = Head None (after c op) })
    else None)
    else Some (record { reply = reply_of c.line op; version = c.version; next = Head None c })

-- what an operation does in a state; none if the state doesn't allow it
abbrev pub performing : CacheState → Op → Option Performed
performing (Head None c) op = making c op
performing (Head (Some q) c) op = loading (Head (Some q) c) c op
performing (FreshHead f c) op = loading (FreshHead f c) c op
performing (Below f b c) op = loading (Below f b c) c op
performing _ op = None
