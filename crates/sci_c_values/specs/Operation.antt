-- The operation, the kind of ask and the event that a struct says.
use Rattle.std.specs.Prelude.{◌≡◌, ℕ, Some, slice_get}
use Rattle.sci_words.specs.declared.event.{TheConstants.AskKind.{ALL}, Event.{Event}}
use Rattle.sci_words.specs.declared.event.Event.TheVariants.{Issue, Perform, Ask, Serve, Refuse, Reply, Accept}
use Rattle.sci_words.specs.declared.operation.Act.{Act, TheVariants.{Load, Store, Lock}}
use Rattle.sci_words.specs.declared.operation.LockOp.TheVariants.{MaskSwap, CompareSwap, FetchAdd, BoundedAdd, WrapAdd}
use Rattle.sci_words.specs.declared.operation.Op.{Op}
use Rattle.sci_c_values.specs.declared.operation.{SciOp.{SciOp}, SciEvent.{SciEvent}}

abbrev pub act_number : Act → ℕ
act_number Load = 0
act_number (Store datum) = 1
act_number (Lock (MaskSwap arg datum)) = 2
act_number (Lock (CompareSwap arg datum)) = 3
act_number (Lock (FetchAdd datum)) = 4
act_number (Lock (BoundedAdd arg datum)) = 5
act_number (Lock (WrapAdd arg datum)) = 6

-- the operands of an act, 0 for one that it doesn't have
abbrev pub arg_of : Act → ℕ
arg_of (Lock (MaskSwap arg datum)) = arg
arg_of (Lock (CompareSwap arg datum)) = arg
arg_of (Lock (BoundedAdd arg datum)) = arg
arg_of (Lock (WrapAdd arg datum)) = arg
arg_of _ = 0

abbrev pub datum_of : Act → ℕ
datum_of Load = 0
datum_of (Store datum) = datum
datum_of (Lock (MaskSwap arg datum)) = datum
datum_of (Lock (CompareSwap arg datum)) = datum
datum_of (Lock (FetchAdd datum)) = datum
datum_of (Lock (BoundedAdd arg datum)) = datum
datum_of (Lock (WrapAdd arg datum)) = datum

-- the struct of an operation
abbrev pub op_struct : Op → SciOp
op_struct op = record { act = act_number op.act; line = op.line; word = op.word; reserved = 0; arg = arg_of op.act; datum = datum_of op.act }

-- the operands that an act has are those of the struct
abbrev pub SaysOperands : SciOp → Act → Type 0
SaysOperands c Load = Unit {0}
SaysOperands c (Store datum) = c.datum ≡ datum
SaysOperands c (Lock (FetchAdd datum)) = c.datum ≡ datum
SaysOperands c act = (c.arg ≡ arg_of act) × (c.datum ≡ datum_of act)

-- a struct says this act
pub record SaysAct (c : SciOp) (act : Act) : Type 0 where
  pub number : c.act ≡ act_number act
  pub operands : SaysOperands c act

-- a struct says this operation
pub record SaysOp (c : SciOp) (op : Op) : Type 0 where
  pub act : SaysAct c op.act
  pub line : c.line ≡ op.line
  pub word : c.word ≡ op.word

abbrev pub event_number : Event → ℕ
event_number (Issue n op) = 0
event_number (Perform n line) = 1
event_number (Ask n line kind) = 2
event_number (Serve from n) = 3
event_number (Refuse from n) = 4
event_number (Reply n) = 5
event_number (Accept from n) = 6

-- the parts that an event has are those of the struct
abbrev pub SaysParts : SciEvent → Event → Type 0
SaysParts c (Issue n op) = (c.node ≡ n) × SaysOp c.op op
SaysParts c (Perform n line) = (c.node ≡ n) × (c.line ≡ line)
SaysParts c (Ask n line kind) = (c.node ≡ n) × (c.line ≡ line) × (slice_get ALL c.ask ≡ Some kind)
SaysParts c (Serve from n) = (c.from ≡ from) × (c.node ≡ n)
SaysParts c (Refuse from n) = (c.from ≡ from) × (c.node ≡ n)
SaysParts c (Reply n) = c.node ≡ n
SaysParts c (Accept from n) = (c.from ≡ from) × (c.node ≡ n)

-- a struct says this event
pub record SaysEvent (c : SciEvent) (event : Event) : Type 0 where
  pub number : c.kind ≡ event_number event
  pub parts : SaysParts c event
