-- Turns between which operations are issued and performed, at any nodes.
use Rattle.std.specs.Prelude.{◌≡◌, ◌<◌, ◌+◌, ℕ, suc, List, [], ◌∷◌, ◌++◌, Some, None}
use Rattle.sci_words.specs.declared.event.Event.{Event}
use Rattle.sci_core.specs.{Core.{Core, node_at, stepping}, Node.{pending_on}}
use Rattle.sci_fair.specs.{Lanes.{IsWork}, Rank.{CannotPerform}, Steady.{AreTurns, IsTurnAlone, Working}}
use Rattle.sci_words.specs.declared.event.Event.TheVariants as event

-- operations are issued or performed, one after another
abbrev pub AreWorked : List Event → Core → Core → Type 0
AreWorked [] old new = old ≡ new
AreWorked (e ∷ events) old new = (mid : Core) × IsWork e × (stepping old e ≡ Some mid) × AreWorked events mid new

-- how many of them are performed
abbrev pub performs_in : List Event → ℕ
performs_in [] = 0
performs_in (event.Perform n line ∷ events) = suc (performs_in events)
performs_in (e ∷ events) = performs_in events

-- node n takes a whole turn by itself when it can perform nothing; before it operations were issued and performed, this many of them
-- performed
pub record IsLaterTurn (performed n : ℕ) (old new : Working) : Type 0 where
  pub works : List Event
  pub mid : Core
  pub worked : AreWorked works old.core mid
  pub many : performs_in works ≡ performed
  pub cannot : CannotPerform (node_at mid n)
  pub turn : IsTurnAlone n (record { core = mid; policies = old.policies }) new

-- the same, however many of them are performed
abbrev pub IsTurnAmong : ℕ → Working → Working → Type 0
IsTurnAmong n old new = (performed : ℕ) × IsLaterTurn performed n old new

-- a machine between turns, and how many operations are performed in the turns that are left
pub record Remaining : Type 0 where
  pub working : Working
  pub performs : ℕ

abbrev pub IsCountedTurn : ℕ → Remaining → Remaining → Type 0
IsCountedTurn n old new = (performed : ℕ) × IsLaterTurn performed n old.working new.working × (new.performs + performed ≡ old.performs)

abbrev pub NothingPends : Core → Type 0
NothingPends core = (n line : ℕ) → n < core.size.nodes → pending_on (node_at core n) line ≡ None

-- among turns of these nodes comes a moment at which nothing is pending
pub record HasRest (order : List ℕ) (first last : Remaining) : Type 0 where
  pub before : List ℕ
  pub after : List ℕ
  pub whole : order ≡ before ++ after
  pub moment : Remaining
  pub leads : AreTurns IsCountedTurn before first moment
  pub later : AreTurns IsCountedTurn after moment last
  pub rests : NothingPends moment.working.core
