-- The rank of a node's line, and its level, which is the rank and whether the line was used. The level falls at each real change that a
-- turn makes of the line, and stays at each try that fails.
use Rattle.std.specs.Prelude.{◌≡◌, ℕ, Bool, true, false, ◌&&◌, ◌||◌, if◌then◌else◌, nat_le, ◌+◌, Option, Some, None, option_map}
use Rattle.sci_words.specs.{declared.event.AskKind.{AskKind}, Operation.{is_maker}}
use Rattle.sci_cache.specs.State.{CacheState, Out, Asking, Joining, FreshJoining, Head, FreshHead, Below, Purging, Claiming, Clearing, Returning, Rolling}
use Rattle.sci_cache.specs.State.{Telling, Fading}
use Rattle.sci_packets.specs.declared.body.Body.{Body, TheVariants.{Fdata, Fread, Mdata, Mgone, Mread}}
use Rattle.sci_policy.specs.{Lines.{is_head, state_on}, Policy.{PolicyOf, has, is_cread}}
use Rattle.sci_core.specs.{declared.pending.Pending.{Pending}, Node.{NodeOf, pending_on}}
use Rattle.sci_words.specs.declared.event.AskKind.TheVariants as kind

-- what is pending on a line: nothing, or an operation, of which it is said whether it is a maker
abbrev pub work_in : Option Pending → Option Bool
work_in = option_map (λ pending. is_maker pending.op)

abbrev pub work_on : NodeOf → ℕ → Option Bool
work_on node line = work_in (pending_on node line)

-- ---- ranks: the states of one rank are those between which a line goes at tries that fail

-- with nothing pending, the line leaves its list; an Issue lowers the rank from 40 and more to at most 9
abbrev pub rank_idle : CacheState → ℕ
rank_idle Out = 40
rank_idle (Telling r w sent) = 41
rank_idle Fading = 41
rank_idle (Below f b c) = 42
rank_idle (Rolling f b c) = 42
rank_idle (Head f c) = 43
rank_idle (Purging q c) = 43
rank_idle (Returning c) = 43
rank_idle (FreshHead f c) = 44
rank_idle (Claiming f c) = 44
rank_idle (Clearing c) = 44
rank_idle (Joining p sent) = 45
rank_idle (FreshJoining p sent c) = 45
rank_idle Asking = 46

-- with a load pending, the line comes to contents
abbrev pub rank_loading : CacheState → ℕ
rank_loading (Below f b c) = 0
rank_loading (Head f c) = 1
rank_loading (FreshHead f c) = 1
rank_loading (Purging q c) = 2
rank_loading (Claiming f c) = 2
rank_loading (Joining p sent) = 2
rank_loading (FreshJoining p sent c) = 2
rank_loading Asking = 3
rank_loading Out = 4
rank_loading (Telling r w sent) = 5
rank_loading Fading = 5
rank_loading (Rolling f b c) = 6
rank_loading (Returning c) = 6
rank_loading (Clearing c) = 6

-- with a maker pending, the line becomes the head of a list that may write
abbrev pub rank_making : CacheState → ℕ
rank_making (Head f c) = 0
rank_making (Purging q c) = 0
rank_making (Joining p sent) = 1
rank_making Asking = 2
rank_making Out = 3
rank_making (Telling r w sent) = 4
rank_making Fading = 4
rank_making (Returning c) = 5
rank_making (Below f b c) = 6
rank_making (Rolling f b c) = 6
rank_making (FreshHead f c) = 7
rank_making (Claiming f c) = 7
rank_making (Clearing c) = 8
rank_making (FreshJoining p sent c) = 9

abbrev pub rank : Option Bool → CacheState → ℕ
rank None state = rank_idle state
rank (Some false) state = rank_loading state
rank (Some true) state = rank_making state

-- ---- levels: a line that was used, and that its node leads or comes to, stands above all that weren't. It may be given away though a
-- maker waits

abbrev pub counts_use : CacheState → Bool
counts_use Out = false
counts_use (Telling r w sent) = false
counts_use Fading = false
counts_use (Below f b c) = false
counts_use (Rolling f b c) = false
counts_use _ = true

abbrev pub level : Bool → Option Bool → CacheState → ℕ
level used work state = (if counts_use state && used then 47 else 0) + rank work state

-- the level of a node's line, by what its policy remembers
abbrev pub level_on : PolicyOf → NodeOf → ℕ → ℕ
level_on policy node line = level (has policy.used line) (work_on node line) (state_on node line)

-- whether a line is used after an ask: a read of it begins anew
abbrev pub used_after : AskKind → Bool → Bool
used_after kind.Mread used = false
used_after kind.Fread used = false
used_after _ used = used

-- ---- what changes a rank

-- whether a packet is a read for what is pending, or an answer to one
abbrev pub fits_read : Option Bool → Body → Bool
fits_read (Some maker) Mread = true
fits_read (Some false) Fread = true
fits_read (Some maker) (Mdata c) = true
fits_read (Some maker) (Mgone p) = true
fits_read (Some false) (Fdata p c) = true
fits_read _ _ = false

-- whether what is pending can be performed in this state
abbrev pub can_perform : Option Bool → CacheState → Bool
can_perform (Some false) (Head f c) = true
can_perform (Some false) (FreshHead f c) = true
can_perform (Some false) (Below f b c) = true
can_perform (Some true) (Head None c) = true
can_perform _ _ = false

-- nothing that is pending at the node can be performed
abbrev pub CannotPerform : NodeOf → Type 0
CannotPerform node = (line : ℕ) → can_perform (work_on node line) (state_on node line) ≡ false

-- the one change that raises the level: a load is purged that could be performed
abbrev pub is_excepted : Option Bool → CacheState → CacheState → Bool
is_excepted (Some false) (Below f b c) Out = true
is_excepted _ _ _ = false

-- the level doesn't rise from one state to the next, but by this change; and the line was used, or not, before and after
abbrev pub never_rises : Bool → Bool → Option Bool → CacheState → CacheState → Bool
never_rises before after work old new = nat_le (level after work new) (level before work old) || is_excepted work old new

-- what is asked suits what is pending: no line is read for nothing, or to be fresh for a maker; and no list is given back while a
-- maker waits
abbrev pub suits : Option Bool → AskKind → Bool
suits None kind.Mread = false
suits None kind.Fread = false
suits (Some true) kind.Fread = false
suits (Some true) kind.Clear = false
suits _ _ = true

-- an answer to a read fits what is pending
abbrev pub answers_well : Option Bool → CacheState → Body → Bool
answers_well work Asking answer = fits_read work answer
answers_well work state answer = true

-- while a maker is pending on a line that wasn't used, a request is no Cread for a head: such a one is refused
abbrev pub IsHeldFor : Bool → Option Bool → CacheState → Body → Type 0
IsHeldFor false (Some true) s request = (is_cread request && is_head s) ≡ false
IsHeldFor used work s request = Unit {0}
