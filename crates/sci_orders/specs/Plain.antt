-- One memory of one thread in the machine's place. An operation that a node issues waits on its line, one at a time. A Perform
-- does it on the memory, at any time and by itself.
use Rattle.std.specs.List.{fold}
use Rattle.std.specs.Prelude.{ℕ, ◌+◌, ◌&&◌, nat_lt, Bool, if◌then◌else◌, List, [], ◌∷◌, ◌++◌, map, replicate, slice_index_or, slice_set, Option, Some, None}
use Rattle.std.specs.Prelude.{is_none, option_map, option_to_list, unwrap_or, IsSome}
use Rattle.sci_words.specs.{Operation.{has_words}, Stamped.{after, reply_of, zero_stamped}}
use Rattle.sci_words.specs.declared.{event.Event.{Event}, limits.TheConstants.{WORDS_PER_LINE}, operation.Op.{Op}, stamped.Stamped.{Stamped}}
use Rattle.sci_history.specs.{Memory.{contents_after, stamped_at}, declared.entry.Entry.{Entry}}
use Rattle.sci_core.specs.{Core.{Core, node_of}, Node.{NodeOf}, Sharing.{last_of}, Size.{Size}, declared.pending.Pending.{Pending}}
use Rattle.sci_words.specs.declared.event.Event.TheVariants as event

-- a node's side of the memory: the operation that waits on each line, if any, and how many operations were issued
pub record Port : Type 0 where
  pub pending : List (Option Pending)
  pub issued : ℕ

pub record Plain : Type 0 where
  pub size : Size
  -- by node
  pub ports : List Port
  -- by line: its words, and its version
  pub contents : List Stamped

abbrev pub no_port : Port
no_port = record { pending = []; issued = 0 }

-- the port of a node
abbrev pub port_at : Plain → ℕ → Port
port_at plain n = slice_index_or plain.ports n no_port

-- the operation of a node that waits on a line, if any
abbrev pub waits_at : Plain → ℕ → ℕ → Option Pending
waits_at plain n line = slice_index_or (port_at plain n).pending line None

-- nothing is issued, and all words are zero
abbrev pub opening_plain : Size → Plain
opening_plain size = record {
  size = size;
  ports = replicate size.nodes (record { pending = replicate size.lines None; issued = 0 });
  contents = replicate size.lines zero_stamped;
}

-- ---- Issue

-- the operation is in range, none waits on its line, and the node may issue one more
abbrev pub can_issue : Plain → ℕ → Op → Bool
can_issue plain n op =
    ((nat_lt op.line plain.size.lines && nat_lt op.word WORDS_PER_LINE) && has_words op.act)
    && (is_none (waits_at plain n op.line) && nat_lt (port_at plain n).issued plain.size.limit)

-- the operation waits then, with the number of those before it as its serial
abbrev pub with_issued : Plain → ℕ → Op → Plain
with_issued plain n op = record plain {
  ports = slice_set plain.ports n (record {
    pending = slice_set (port_at plain n).pending op.line (Some (record { serial = (port_at plain n).issued; op = op }));
    issued = (port_at plain n).issued + 1;
  });
}

-- ---- Perform

-- the entry that it makes: its reply is that of the memory, and its version that which it read or made
abbrev pub entry_at : Plain → ℕ → Pending → Entry
entry_at plain n pending = record {
  node = n;
  serial = pending.serial;
  op = pending.op;
  reply = reply_of (stamped_at plain.contents pending.op.line).line pending.op;
  version = (after (stamped_at plain.contents pending.op.line) pending.op).version;
}

-- nothing waits there then, and the memory has done the operation
abbrev pub with_performed : Plain → ℕ → ℕ → Pending → Plain
with_performed plain n line pending = record plain {
  ports = slice_set plain.ports n (record (port_at plain n) { pending = slice_set (port_at plain n).pending line None });
  contents = contents_after plain.contents pending.op;
}

-- ---- steps

abbrev pub plain_side : Plain → Event → Option Plain
plain_side plain (event.Issue n op) = if can_issue plain n op then Some (with_issued plain n op) else None
plain_side plain (event.Perform n line) = option_map (with_performed plain n line) (waits_at plain n line)
plain_side plain _ = None

-- the memory after an Issue or a Perform, or none if that isn't possible; no other event is
unfoldable pub plain_stepping : Plain → Event → Option Plain
plain_stepping plain e = if nat_lt (node_of e) plain.size.nodes then plain_side plain e else None

abbrev pub plain_step : Plain → Event → Plain
plain_step plain e = unwrap_or (plain_stepping plain e) plain

abbrev pub plain_performed : Plain → Event → Option Entry
plain_performed plain (event.Perform n line) = option_map (entry_at plain n) (waits_at plain n line)
plain_performed plain _ = None

-- the entry that an event makes, if it is a Perform that is possible
abbrev pub plain_made : Plain → Event → Option Entry
plain_made plain e = elim (plain_stepping plain e) [ None ↦ None | Some next ↦ plain_performed plain e ]

-- ---- orders of Issues and Performs

-- the memory after an order
abbrev pub plain_run : Plain → List Event → Plain
plain_run plain order = fold plain_step plain order

-- the entries that an order makes
abbrev pub plain_done : Plain → List Event → List Entry
plain_done plain [] = []
plain_done plain (e ∷ order) = option_to_list (plain_made plain e) ++ plain_done (plain_step plain e) order

-- each event of an order is possible when its turn comes
abbrev pub AreAllowed : Plain → List Event → Type 0
AreAllowed plain [] = Unit {0}
AreAllowed plain (e ∷ order) = IsSome (plain_stepping plain e) × AreAllowed (plain_step plain e) order

-- ---- what a state of the machine looks like from outside

-- pending operations and the number of those issued, and nothing of caches and packets
abbrev pub port_of : NodeOf → Port
port_of node = record { pending = node.pending; issued = node.issued }

abbrev pub plain_of : Core → Plain
plain_of core = record { size = core.size; ports = map port_of core.parts; contents = last_of core }
