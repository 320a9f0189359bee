-- What a policy sees of a node's lines. All of it is this project's profile.
use Rattle.std.specs.Prelude.{ℕ, nat_le, Bool, true, false, ◌&&◌, if◌then◌else◌, List, [], ◌∷◌, filter, Option, Some, None, is_some}
use Rattle.std.specs.List.{find, range_with_len}
use Rattle.sci_words.specs.{declared.event.AskKind.{AskKind}, Operation.{is_maker}}
use Rattle.sci_cache.specs.State.{CacheState, Joining, FreshJoining, Head, FreshHead, Below, Purging, Claiming, Telling}
use Rattle.sci_cache.specs.Cache.{line_of}
use Rattle.sci_core.specs.{declared.pending.Pending.{Pending}, Node.{NodeOf, lines_of, pending_on}}
use Rattle.sci_words.specs.declared.event.AskKind.TheVariants as kind

-- ---- states

-- a line that can be draining: it purges, or can purge
abbrev pub can_drain : CacheState → Bool
can_drain (Head (Some f) c) = true
can_drain (Purging q c) = true
can_drain _ = false

-- a line that can be due: it claims, or is the head of a fresh list with a next entry
abbrev pub can_be_due : CacheState → Bool
can_be_due (FreshHead (Some f) c) = true
can_be_due (Claiming f c) = true
can_be_due _ = false

abbrev pub is_head : CacheState → Bool
is_head (Head f c) = true
is_head _ = false

-- what a line with an entry asks, by its state and whether a maker is pending on it
abbrev pub own_ask : Bool → CacheState → Option AskKind
own_ask maker (Joining p false) = Some kind.Cread
own_ask maker (FreshJoining p false c) = Some kind.Cread
own_ask maker (Head (Some f) c) = Some kind.Purge
own_ask maker (Head None c) = Some kind.Wback
own_ask maker (FreshHead (Some f) c) = Some kind.Claim
own_ask maker (FreshHead None c) = Some (if maker then kind.Claim else kind.Clear)
own_ask maker (Below f b c) = Some kind.Roll
own_ask maker (Telling r w false) = Some kind.Setback
own_ask maker _ = None

-- ---- lines of a node

abbrev pub state_on : NodeOf → ℕ → CacheState
state_on node line = (line_of node.cache line).state

abbrev pub has_pending : NodeOf → ℕ → Bool
has_pending node line = is_some (pending_on node line)

abbrev pub is_maker_of : Option Pending → Bool
is_maker_of None = false
is_maker_of (Some pending) = is_maker pending.op

-- whether a maker is pending on a line
abbrev pub has_maker : NodeOf → ℕ → Bool
has_maker node line = is_maker_of (pending_on node line)

abbrev pub all_lines : NodeOf → List ℕ
all_lines node = range_with_len 0 (lines_of node)

-- the least line of which something is true
abbrev pub least : NodeOf → (ℕ → Bool) → Option ℕ
least node test = find test (all_lines node)

-- whether it is true of some line
abbrev pub some_line : NodeOf → (ℕ → Bool) → Bool
some_line node test = is_some (least node test)

abbrev pub serial_in : Option Pending → ℕ
serial_in None = 0
serial_in (Some pending) = pending.serial

abbrev pub serial_on : NodeOf → ℕ → ℕ
serial_on node line = serial_in (pending_on node line)

abbrev pub older : NodeOf → ℕ → Option ℕ → ℕ
older node line None = line
older node line (Some other) = if nat_le (serial_on node line) (serial_on node other) then line else other

-- of these lines the one whose operation has the least serial, and the first of them if serials are equal
abbrev pub oldest_of : NodeOf → List ℕ → Option ℕ
oldest_of node [] = None
oldest_of node (line ∷ lines) = Some (older node line (oldest_of node lines))

-- of the lines with an operation pending, and of which something is true, the one whose operation is the oldest
abbrev pub oldest : NodeOf → (ℕ → Bool) → Option ℕ
oldest node test = oldest_of node (filter (λ line. has_pending node line && test line) (all_lines node))
