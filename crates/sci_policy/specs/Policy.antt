-- What a policy remembers, and what it decides: which event its node makes next, and which requests it keeps or refuses.
-- All of it is this project's profile.
use Rattle.std.specs.Prelude.{ℕ, ◌+◌, ◌%◌, ◌==◌, nat_lt, Bool, true, false, not, ◌&&◌, ◌||◌, if◌then◌else◌, List, map, slice_index_or, slice_set}
use Rattle.std.specs.Prelude.{replicate, Option, Some, None, is_some, IsSome, option_map}
use Rattle.std.specs.{Option.{option_or, option_and_then}, List.{range_with_len}}
use Rattle.sci_words.specs.declared.{limits.TheConstants.{MAX_LINES}, event.AskKind.{AskKind}}
use Rattle.sci_packets.specs.declared.body.Body.{Body, TheVariants.{Cread}}
use Rattle.sci_cache.specs.State.{CacheState, Out, Asking, Joining, FreshJoining, FreshHead, Below, Purging, Claiming, Clearing, Returning, is_out}
use Rattle.sci_cache.specs.Cache.{Letter, has_slot}
use Rattle.sci_cache.specs.Kinds.{has_sharers, has_fresh_sharers, joins, must_send, gives_way, could_give_way}
use Rattle.sci_core.specs.Node.{NodeOf, node_performing, node_asking}
use Rattle.sci_policy.specs.declared.{policy.TheConstants.{PATIENCE}, decision.Decision.{Decision}}
use Rattle.sci_policy.specs.declared.{decision.Decision.TheVariants.{Keep, Refuse, Serve}, want.Want.{Want}}
use Rattle.sci_policy.specs.declared.want.Want.TheVariants.{Perform, Ask}
use Rattle.sci_policy.specs.Lines.{can_be_due, can_drain, is_head, own_ask, state_on, has_pending, has_maker, least, some_line, oldest}
use Rattle.sci_words.specs.declared.event.AskKind.TheVariants as kind

-- ---- what is remembered

pub record PolicyOf : Type 0 where
  -- for each line whether it is draining: until its list is purged it grants no Cread
  pub draining : List Bool
  -- for each line whether it is due: it is to be claimed, for others than its own operations, until it was
  pub due : List Bool
  -- for each line whether it was used: since the node asked for it, it was Head when an operation there could be performed
  pub used : List Bool
  -- how often it was asked what comes next, since patience ended
  pub patience : ℕ
  -- the turns, counted modulo PATIENCE
  pub turns : ℕ
  -- the node whose request was served or refused last
  pub served : Option ℕ

abbrev pub has : List Bool → ℕ → Bool
has set line = slice_index_or set line false

-- the set of the lines of which something is true
abbrev pub set_of : (ℕ → Bool) → List Bool
set_of test = map test (range_with_len 0 MAX_LINES)

abbrev pub opening_policy : PolicyOf
opening_policy = record {
  draining = replicate MAX_LINES false;
  due = replicate MAX_LINES false;
  used = replicate MAX_LINES false;
  patience = 0;
  turns = 0;
  served = None;
}

-- ---- patience

-- a line stays draining while it purges or can purge
abbrev pub still_draining : PolicyOf → NodeOf → ℕ → Bool
still_draining policy node line = has policy.draining line && can_drain (state_on node line)

-- a line stays due while it is a fresh list's head with a next entry, or claims
abbrev pub still_due : PolicyOf → NodeOf → ℕ → Bool
still_due policy node line = has policy.due line && can_be_due (state_on node line)

-- when patience ends, each head of a list with a next entry is draining too, or due
abbrev pub draining_at_last : PolicyOf → NodeOf → ℕ → Bool
draining_at_last policy node line = still_draining policy node line || has_sharers (state_on node line)

abbrev pub due_at_last : PolicyOf → NodeOf → ℕ → Bool
due_at_last policy node line = still_due policy node line || has_fresh_sharers (state_on node line)

-- one call more
abbrev pub ticked : PolicyOf → NodeOf → PolicyOf
ticked policy node =
    if nat_lt (policy.patience + 1) PATIENCE
    then record policy { draining = set_of (still_draining policy node); due = set_of (still_due policy node); patience = policy.patience + 1 }
    else record policy { draining = set_of (draining_at_last policy node); due = set_of (due_at_last policy node); patience = 0 }

-- ---- the rules, in their order

-- the oldest operation that can be performed
abbrev pub perform_wanted : NodeOf → Option Want
perform_wanted node = option_map Perform (oldest node (λ line. is_some (node_performing node line)))

-- a list is purged if its head is draining or has an operation pending
abbrev pub is_purged : PolicyOf → NodeOf → ℕ → Bool
is_purged policy node line = has_sharers (state_on node line) && (has policy.draining line || has_pending node line)

abbrev pub purge_wanted : PolicyOf → NodeOf → Option Want
purge_wanted policy node = option_map (λ line. Ask line kind.Purge) (least node (is_purged policy node))

-- the line's own ask
abbrev pub ask_of : NodeOf → ℕ → Option Want
ask_of node line = option_map (Ask line) (own_ask (has_maker node line) (state_on node line))

-- a line that must send its request
abbrev pub send_wanted : NodeOf → Option Want
send_wanted node = option_and_then (ask_of node) (least node (λ line. must_send (state_on node line)))

-- a fresh list is claimed if it is due
abbrev pub is_claimed : PolicyOf → NodeOf → ℕ → Bool
is_claimed policy node line = has_fresh_sharers (state_on node line) && has policy.due line

abbrev pub due_wanted : PolicyOf → NodeOf → Option Want
due_wanted policy node = option_map (λ line. Ask line kind.Claim) (least node (is_claimed policy node))

-- what a node reads a line for: to change it, or not
abbrev pub read_kind : Bool → AskKind
read_kind true = kind.Mread
read_kind false = kind.Fread

-- what a pending operation asks for in a state of its line, if a slot is free or isn't: contents, or the right to write
abbrev pub asked_in : NodeOf → ℕ → CacheState → Option Want
asked_in node line Out = if has_slot node.cache then Some (Ask line (read_kind (has_maker node line))) else None
asked_in node line (FreshHead f c) = ask_of node line
asked_in node line (Below f b c) = ask_of node line
asked_in node line _ = None

abbrev pub operation_asks : NodeOf → ℕ → Option Want
operation_asks node line = asked_in node line (state_on node line)

-- an operation lacks a slot if its line has no entry, none is free, and none is about to be
abbrev pub lacks_slot : NodeOf → ℕ → Bool
lacks_slot node line = (is_out (state_on node line) && not (has_slot node.cache)) && not (some_line node (λ other. gives_way (state_on node other)))

-- a slot for a line: the least entry that can gives way
abbrev pub slot_for : NodeOf → ℕ → Option Want
slot_for node line =
    if lacks_slot node line
    then option_and_then (ask_of node) (least node (λ other. could_give_way (state_on node other)))
    else None

-- the oldest operation gets a slot if it lacks one
abbrev pub slot_wanted : NodeOf → Option Want
slot_wanted node = option_and_then (slot_for node) (oldest node (λ line. true))

-- the oldest operation that asks for something asks for it
abbrev pub contents_wanted : NodeOf → Option Want
contents_wanted node = option_and_then (operation_asks node) (oldest node (λ line. is_some (operation_asks node line)))

abbrev pub operation_wanted : NodeOf → Option Want
operation_wanted node = option_or (slot_wanted node) (contents_wanted node)

-- the first rule that fits
abbrev pub ruled : PolicyOf → NodeOf → Option Want
ruled policy node =
    option_or (perform_wanted node)
    (option_or (purge_wanted policy node)
    (option_or (send_wanted node)
    (option_or (due_wanted policy node)
    (operation_wanted node))))

-- an ask that changes or ends the node's list at the home
abbrev pub asks_home_to_change : Want → Bool
asks_home_to_change (Ask line kind.Claim) = true
asks_home_to_change (Ask line kind.Clear) = true
asks_home_to_change (Ask line kind.Wback) = true
asks_home_to_change _ = false

abbrev pub held_back : Bool → Option Want → Option Want
held_back joining None = None
held_back joining (Some want) = if joining && asks_home_to_change want then None else Some want

-- what the policy wants; while a line joins, nothing stands behind its Cread that another node might wait for
abbrev pub wanted : PolicyOf → NodeOf → Option Want
wanted policy node = held_back (some_line node (λ line. joins (state_on node line))) (ruled policy node)

-- ---- what a want leaves behind

-- where something can be performed, each Head on which it can is used
abbrev pub used_now : PolicyOf → NodeOf → ℕ → Bool
used_now policy node line = has policy.used line || (is_head (state_on node line) && is_some (node_performing node line))

abbrev pub noted : PolicyOf → NodeOf → Option Want → PolicyOf
noted policy node (Some (Perform line)) = record policy { used = set_of (used_now policy node) }
noted policy node (Some (Ask line kind.Purge)) = record policy { draining = slice_set policy.draining line true }
noted policy node (Some (Ask line kind.Mread)) = record policy { used = slice_set policy.used line false }
noted policy node (Some (Ask line kind.Fread)) = record policy { used = slice_set policy.used line false }
noted policy node _ = policy

-- what the policy wants next, after one call more
abbrev pub next_wanted : PolicyOf → NodeOf → Option Want
next_wanted policy node = wanted (ticked policy node) node

-- and the policy then
abbrev pub next_policy : PolicyOf → NodeOf → PolicyOf
next_policy policy node = noted (ticked policy node) node (next_wanted policy node)

-- ---- requests of others

abbrev pub is_cread : Body → Bool
is_cread Cread = true
is_cread _ = false

-- a line that its node doesn't give away yet: it is Head, and a maker waits for it; in the one turn of PATIENCE only if it wasn't used
abbrev pub is_held : PolicyOf → NodeOf → ℕ → Bool
is_held policy node line = is_head (state_on node line) && (has_maker node line && not (policy.turns == 0 && has policy.used line))

-- a request is refused: a Cread for a line that is draining, or held
abbrev pub refused_by : PolicyOf → NodeOf → Letter → Bool
refused_by policy node request =
    is_cread request.body && (still_draining policy node request.line || is_held policy node request.line)

-- a line that awaits its home's word on its list
abbrev pub awaits_home : CacheState → Bool
awaits_home (Claiming f c) = true
awaits_home (Clearing c) = true
awaits_home (Returning c) = true
awaits_home _ = false

-- a line that would answer a Cread as busy, and soon won't
abbrev pub is_busy_now : CacheState → Bool
is_busy_now Asking = true
is_busy_now (Joining p sent) = true
is_busy_now (FreshJoining p sent c) = true
is_busy_now (Purging q c) = true
is_busy_now _ = false

-- a request is kept for now: another node's Cread while the line awaits its home's word; and one that would be answered as
-- busy or is refused, but in one turn of PATIENCE
abbrev pub kept_by : PolicyOf → NodeOf → Letter → Bool
kept_by policy node request =
    (is_cread request.body && not (request.source == node.cache.me))
    && (awaits_home (state_on node request.line)
    || (not (policy.turns == 0) && (is_busy_now (state_on node request.line) || refused_by policy node request)))

abbrev pub decided : PolicyOf → NodeOf → Letter → Decision
decided policy node request = if kept_by policy node request then Keep else if refused_by policy node request then Refuse else Serve

-- a turn more
abbrev pub turned : PolicyOf → PolicyOf
turned policy = record policy { turns = (policy.turns + 1) % PATIENCE }

-- the node after the one served last, in a circle
abbrev pub after_served : ℕ → Option ℕ → ℕ
after_served nodes None = 0
after_served nodes (Some j) = if nat_lt (j + 1) nodes then j + 1 else 0

-- the node whose requests a turn looks at first
abbrev pub first_sender : PolicyOf → ℕ → ℕ
first_sender policy nodes = after_served nodes policy.served

-- ---- what is promised of a want

-- the node's side of it is enabled
abbrev pub IsEnabledWant : NodeOf → Want → Type 0
IsEnabledWant node (Perform line) = IsSome (node_performing node line)
IsEnabledWant node (Ask line kind) = IsSome (node_asking node line kind)
