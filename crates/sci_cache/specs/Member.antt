-- Which lines are members of a sharing list, which entry is behind each, which of them may change the line or is about to,
-- and which are fresh: all by the state that the line has once the answer that is under way has come. Lists along forward
-- identifiers are those of IEEE Std 1596-1992; when a line counts as a member is this project's profile.
use Rattle.std.specs.Prelude.{ℕ, Bool, true, false, Option, Some, None}
use Rattle.sci_words.specs.declared.stamped.Stamped.{Stamped}
use Rattle.sci_cache.specs.State.{CacheState, Joining, FreshJoining, Head, FreshHead, Below, Purging, Claiming, Clearing, Returning, Rolling}

-- the entry behind a member, or none at a list's end; None for a line that is no member
abbrev pub link_of : CacheState → Option (Option ℕ)
link_of (Joining p sent) = Some (Some p)
link_of (FreshJoining p sent c) = Some (Some p)
link_of (Head f c) = Some f
link_of (FreshHead f c) = Some f
link_of (Below f b c) = Some f
link_of (Purging q c) = Some (Some q)
link_of (Claiming f c) = Some f
link_of (Clearing c) = Some None
link_of (Returning c) = Some None
link_of (Rolling f b c) = Some f
link_of _ = None

-- the contents of the one member that may change the line or is about to: the authority
abbrev pub contents_held : CacheState → Option Stamped
contents_held (Head f c) = Some c
contents_held (FreshHead f c) = Some c
contents_held (Purging q c) = Some c
contents_held (Claiming f c) = Some c
contents_held (Clearing c) = Some c
contents_held (Returning c) = Some c
contents_held _ = None

-- whether a member is fresh: the home has the contents as well as it has
abbrev pub is_fresh : CacheState → Bool
is_fresh (FreshJoining p sent c) = true
is_fresh (FreshHead f c) = true
is_fresh (Claiming f c) = true
is_fresh (Clearing c) = true
is_fresh _ = false
