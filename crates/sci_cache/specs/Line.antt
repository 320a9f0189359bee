-- A cache's part for one line: its state, and its asks counted modulo CONTROLS. That asks are numbered, and that a line
-- with an entry takes a slot, is this project's profile.
use Rattle.std.specs.Prelude.{ℕ, Bool, not, ◌&&◌, ◌==◌, ◌+◌, ◌-◌, ◌%◌, if◌then◌else◌, Option, Some, None, Result, Ok, Err}
use Rattle.sci_words.specs.declared.{limits.TheConstants.{CONTROLS}, event.AskKind.{AskKind}}
use Rattle.sci_packets.specs.declared.body.Body.{Body}
use Rattle.sci_cache.specs.declared.fault.AskFault.{AskFault, TheVariants.{NoSlot, NotNow}}
use Rattle.sci_cache.specs.{State.{CacheState, Out, is_out}, Asking.{Asked, asking}, Accepting.{accepting}}

pub record LineState : Type 0 where
  pub state : CacheState
  pub asks : ℕ

-- a line that was never asked for
abbrev pub untouched : LineState
untouched = record { state = Out; asks = 0 }

-- the control number of the line's next ask
abbrev pub next_control : LineState → ℕ
next_control line = line.asks

-- the control number of the line's last ask
abbrev pub last_control : LineState → ℕ
last_control line = (line.asks + (CONTROLS - 1)) % CONTROLS

-- the line after a request
abbrev pub line_asked : LineState → Asked → LineState
line_asked line asked = record { state = asked.next; asks = (line.asks + 1) % CONTROLS }

-- what is asked: NotNow if that is none, else NoSlot if a slot is lacking
abbrev pub ask_or_fault : Option Asked → Bool → Result Asked AskFault
ask_or_fault None lacks = Err NotNow
ask_or_fault (Some asked) lacks = if lacks then Err NoSlot else Ok asked

-- the request of this kind if the state asks it and, for a line without an entry, a slot is free
abbrev pub line_asking : LineState → AskKind → Bool → Result Asked AskFault
line_asking line kind free = ask_or_fault (asking line.state kind) (is_out line.state && not free)

-- the line in another state, with the same asks
abbrev pub line_in : LineState → CacheState → LineState
line_in line state = record line { state = state }

-- the line after an answer with this control, or none if it isn't awaited
abbrev pub line_accepting : LineState → ℕ → Body → Option CacheState
line_accepting line control answer = if control == last_control line then accepting line.state answer else None
