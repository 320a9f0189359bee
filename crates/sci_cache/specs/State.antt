-- The states of a node's cache for one line. From IEEE Std 1596-1992 are its stable states, whose names stand in brackets,
-- and the forward and backward identifier of an entry. The other states, and all that is defined below, are this
-- project's profile.
use Rattle.std.specs.Prelude.{ℕ, Bool, true, false, List, codes, Option, Some, None}
use Rattle.sci_words.specs.declared.stamped.Stamped.{Stamped}

-- f is the forward identifier, b the backward identifier, c the contents, p the old head, q the next in the list
pub data CacheState : Type 0 where
  -- no entry
  Out : CacheState
  -- Mread or Fread is sent to the home
  Asking : CacheState
  -- told that p is the old head; Cread is sent to p, or not yet
  Joining : (p : ℕ) (sent : Bool) → CacheState
  -- told the contents, and that p is the old head; Cread is sent to p, or not yet
  FreshJoining : (p : ℕ) (sent : Bool) (c : Stamped) → CacheState
  -- head of a list that may write [ONLY_DIRTY if f is none, else HEAD_DIRTY]
  Head : (f : Option ℕ) (c : Stamped) → CacheState
  -- head of a list under a fresh home [ONLY_FRESH if f is none, else HEAD_FRESH]
  FreshHead : (f : Option ℕ) (c : Stamped) → CacheState
  -- an entry behind another [TAIL_VALID if f is none, else MID_VALID]
  Below : (f : Option ℕ) (b : ℕ) (c : Stamped) → CacheState
  -- Purge is sent to q
  Purging : (q : ℕ) (c : Stamped) → CacheState
  -- Claim is sent to the home
  Claiming : (f : Option ℕ) (c : Stamped) → CacheState
  -- Clear is sent to the home
  Clearing : (c : Stamped) → CacheState
  -- Wback is sent to the home
  Returning : (c : Stamped) → CacheState
  -- Roll is sent to the entry before
  Rolling : (f : Option ℕ) (b : ℕ) (c : Stamped) → CacheState
  -- must tell r that w is before it; Setback is sent to r, or not yet
  Telling : (r : ℕ) (w : ℕ) (sent : Bool) → CacheState
  -- purged while its Roll was unanswered
  Fading : CacheState

-- the name of a state (the profile)
unfoldable pub state_name : CacheState → List ℕ
state_name Out = codes "Out"
state_name Asking = codes "Asking"
state_name (Joining p sent) = codes "Joining"
state_name (FreshJoining p sent c) = codes "FreshJoining"
state_name (Head f c) = codes "Head"
state_name (FreshHead f c) = codes "FreshHead"
state_name (Below f b c) = codes "Below"
state_name (Purging q c) = codes "Purging"
state_name (Claiming f c) = codes "Claiming"
state_name (Clearing c) = codes "Clearing"
state_name (Returning c) = codes "Returning"
state_name (Rolling f b c) = codes "Rolling"
state_name (Telling r w sent) = codes "Telling"
state_name Fading = codes "Fading"

-- whether a line awaits an answer: one transaction at a time (the profile)
abbrev pub waits : CacheState → Bool
waits Asking = true
waits (Joining p sent) = sent
waits (FreshJoining p sent c) = sent
waits (Purging q c) = true
waits (Claiming f c) = true
waits (Clearing c) = true
waits (Returning c) = true
waits (Rolling f b c) = true
waits (Telling r w sent) = sent
waits Fading = true
waits _ = false

-- whether a line has no entry, and so takes none of the node's version slots (the profile)
abbrev pub is_out : CacheState → Bool
is_out Out = true
is_out _ = false

-- the contents that a state has (the profile)
abbrev pub contents_of : CacheState → Option Stamped
contents_of (FreshJoining p sent c) = Some c
contents_of (Head f c) = Some c
contents_of (FreshHead f c) = Some c
contents_of (Below f b c) = Some c
contents_of (Purging q c) = Some c
contents_of (Claiming f c) = Some c
contents_of (Clearing c) = Some c
contents_of (Returning c) = Some c
contents_of (Rolling f b c) = Some c
contents_of _ = None

-- the node that stands behind an entry, or will if it is joining: the old head
unfoldable pub forward_of : CacheState → Option ℕ
forward_of (Joining p sent) = Some p
forward_of (FreshJoining p sent c) = Some p
forward_of (Head f c) = f
forward_of (FreshHead f c) = f
forward_of (Below f b c) = f
forward_of (Purging q c) = Some q
forward_of (Claiming f c) = f
forward_of (Rolling f b c) = f
forward_of (Telling r w sent) = Some r
forward_of _ = None

-- the node that stands before an entry
unfoldable pub backward_of : CacheState → Option ℕ
backward_of (Below f b c) = Some b
backward_of (Rolling f b c) = Some b
backward_of (Telling r w sent) = Some w
backward_of _ = None

-- whether the request was sent, of the states that come before and after it
unfoldable pub is_sent : CacheState → Bool
is_sent (Joining p sent) = sent
is_sent (FreshJoining p sent c) = sent
is_sent (Telling r w sent) = sent
is_sent _ = false
