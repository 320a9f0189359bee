-- The entries that a schedule makes, in its order, and what each does to the last contents of its line.
use Rattle.std.specs.Prelude.{◌≡◌, ◌<◌, ℕ, List, Option, Some, None, option_map, option_to_list}
use Rattle.sci_words.specs.{declared.{stamped.Stamped.{Stamped}, event.Event.{Event}}, Stamped.{after, reply_of}}
use Rattle.sci_history.specs.declared.entry.Entry.{Entry}
use Rattle.sci_core.specs.{Size.{Size}, Node.{node_performing}, Core.{Core, along, node_at, stepping, opening}}
use Rattle.sci_core.specs.Sharing.{last_at}
use Rattle.sci_words.specs.declared.event.Event.TheVariants as event

-- ---- entries

-- what a Perform logs
abbrev pub performed : Core → Event → Option Entry
performed core (event.Perform n line) = option_map (λ done. done.1) (node_performing (node_at core n) line)
performed core _ = None

-- the entry that an event makes: none if it isn't an enabled Perform
abbrev pub made_by : Core → Event → Option Entry
made_by core e = elim (stepping core e) [ None ↦ None | Some next ↦ performed core e ]

-- the entries that events make from a state on, in their order
abbrev pub done_from : Core → List Event → List Entry
done_from core events = along (λ at e. option_to_list (made_by at e)) core events

abbrev pub done : Size → List Event → List Entry
done size schedule = done_from (opening size) schedule

-- ---- what an entry does

-- Its reply and its version are those of an operation on the contents before, and the contents become what the operation
-- leaves: a maker's version is one more.
pub record TakesEffect (entry : Entry) (old new : Stamped) : Type 0 where
  pub reply : entry.reply ≡ reply_of old.line entry.op
  pub version : entry.version ≡ (after old entry.op).version
  pub contents : new ≡ after old entry.op

-- an entry takes effect on its own line; any other line stays as it was, and if none is made every line does
pub record Changes (entry : Entry) (line : ℕ) (old new : Stamped) : Type 0 where
  pub here : entry.op.line ≡ line → TakesEffect entry old new
  pub elsewhere : (entry.op.line ≡ line → ⊥) → new ≡ old

abbrev pub ChangesBy : Option Entry → ℕ → Stamped → Stamped → Type 0
ChangesBy None line old new = new ≡ old
ChangesBy (Some entry) line old new = Changes entry line old new

-- the last contents of each line are those of the state before, unless an entry was made
abbrev pub LastChanges : Core → Core → Option Entry → Type 0
LastChanges old new made = (line : ℕ) → line < old.size.lines → ChangesBy made line (last_at old line) (last_at new line)
