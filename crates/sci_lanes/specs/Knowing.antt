-- What each kind of step does to what a part knows.
use Rattle.std.specs.Prelude.{ℕ, ◌+◌, ◌-◌, ◌%◌, Bool, false, not, ◌==◌, ◌&&◌, if◌then◌else◌, List, [], ◌∷◌, ◌++◌, take, slice_set}
use Rattle.sci_core.specs.Node.{NodeOf}
use Rattle.sci_lanes.specs.declared.view.{Outbound.{Outbound}, Inbound.{Inbound}, Part.{Part}}
use Rattle.sci_lanes.specs.{Cells.{sender_of, receiver_of}, Shown.{outbound_at, inbound_at, me_of}}
use Rattle.sci_words.specs.declared.limits.TheConstants.{LANE_CELLS}

-- ---- one end of a lane

-- a sender that looks at its next cell knows whether it is empty
abbrev pub looked_out : ℕ → Outbound → Outbound
looked_out word o = record o { vacant = word == 0 }

-- a receiver that looks at its next cell begins to read, if a packet is there; sometimes it is sure of that before
abbrev pub found_first : Bool → ℕ → List ℕ
found_first sure word = if word == 0 && not sure then [] else word ∷ []

abbrev pub looked_in : Bool → ℕ → Inbound → Inbound
looked_in sure word i = record i { found = found_first sure word }

-- a further word is filled; those after it are forgotten
abbrev pub filled_out : ℕ → ℕ → Outbound → Outbound
filled_out index word o = record o { filled = take (index - 1) o.filled ++ word ∷ [] }

-- a further word is read; those after it are forgotten
abbrev pub read_in : ℕ → ℕ → Inbound → Inbound
read_in index word i = record i { found = take index i.found ++ word ∷ [] }

abbrev pub published_out : Outbound → Outbound
published_out o = record { sent = o.sent + 1; vacant = false; filled = [] }

abbrev pub freed_in : Inbound → Inbound
freed_in i = record { taken = i.taken + 1; found = [] }

-- ---- a part

-- whether the part's node sends in a lane, and its next cell there has this number
abbrev pub is_sending : Part → ℕ → ℕ → Bool
is_sending part lane number = sender_of part.node.cache.nodes lane == me_of part && number == (outbound_at part lane).sent % LANE_CELLS

-- whether it receives in a lane, and its next cell there has this number
abbrev pub is_receiving : Part → ℕ → ℕ → Bool
is_receiving part lane number = receiver_of part.node.cache.nodes lane == me_of part && number == (inbound_at part lane).taken % LANE_CELLS

-- whether the part's node sends in a lane more than was taken there: in a lane to itself it is sure then that packets are
-- there
abbrev pub has_sent_more : Part → ℕ → Bool
has_sent_more part lane = sender_of part.node.cache.nodes lane == me_of part && not ((outbound_at part lane).sent == (inbound_at part lane).taken)

-- the part with this node, and this known of a lane
abbrev pub with_lane_known : ℕ → NodeOf → Outbound → Inbound → Part → Part
with_lane_known lane node o i part =
    record { node = node; schedule = part.schedule; outbound = slice_set part.outbound lane o; inbound = slice_set part.inbound lane i }

-- a cell was looked at, as its sender does, as its receiver does, or both if they are one node
abbrev pub looked : ℕ → ℕ → ℕ → Part → Part
looked lane number word part =
    with_lane_known lane part.node
    (if is_sending part lane number then looked_out word (outbound_at part lane) else outbound_at part lane)
    (if is_receiving part lane number then looked_in (has_sent_more part lane) word (inbound_at part lane) else inbound_at part lane)
    part

abbrev pub filled : ℕ → ℕ → ℕ → Part → Part
filled lane index word part = with_lane_known lane part.node (filled_out index word (outbound_at part lane)) (inbound_at part lane) part

abbrev pub read : ℕ → ℕ → ℕ → Part → Part
read lane index word part = with_lane_known lane part.node (outbound_at part lane) (read_in index word (inbound_at part lane)) part

-- a packet was published, after which the node is this one
abbrev pub published : ℕ → NodeOf → Part → Part
published lane node part = with_lane_known lane node (published_out (outbound_at part lane)) (inbound_at part lane) part

-- a cell was freed, after which the node is this one
abbrev pub freed : ℕ → NodeOf → Part → Part
freed lane node part = with_lane_known lane node (outbound_at part lane) (freed_in (inbound_at part lane)) part

-- the node became this one, and no lane is concerned
abbrev pub with_node_known : NodeOf → Part → Part
with_node_known node part = record part { node = node }
