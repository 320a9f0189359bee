-- What a worker's turn does to its node.
use Rattle.std.specs.{Prelude.{◌≡◌, List, [], ◌∷◌, Some}, List.{AllByRecursion}}
use Rattle.sci_words.specs.declared.event.Event.{Event}
use Rattle.sci_cache.specs.Cache.{Letter}
use Rattle.sci_core.specs.{Core.{Side, Idle, Changes, Sends, Takes, side}, Node.{NodeOf}}
use Rattle.sci_policy.specs.{declared.progress.Progress.{Progress}, Turn.{Counts, IsTurnEvent, MayPerform}}

-- the same operations are pending, as many were submitted, and the log is the same
pub record HasSameWork (old new : NodeOf) : Type 0 where
  pub pending : new.pending ≡ old.pending
  pub issued : new.issued ≡ old.issued
  pub limit : new.limit ≡ old.limit
  pub log : new.log ≡ old.log

-- a node's side of an event leads here, for some packet if it takes one
abbrev pub Makes : Side → NodeOf → Type 0
Makes Idle new = ⊥
Makes (Changes next) new = next ≡ new
Makes (Sends kind next letter) new = next ≡ new
Makes (Takes kind from taking) new = (letter : Letter) × (taking letter ≡ Some new)

-- a node's sides of events, one after another, each enabled when it comes
abbrev pub SidesLead : NodeOf → List Event → NodeOf → Type 0
SidesLead old [] new = old ≡ new
SidesLead old (e ∷ events) new = (next : NodeOf) × Makes (side old e) next × SidesLead next events new

-- A turn of a node: its sides of events of its own, none of them an Issue or a Perform. Its report counts them, and
-- a line that it names has an operation that can be performed.
pub record IsNodeTurn (old new : NodeOf) (progress : Progress) : Type 0 where
  pub events : List Event
  pub leads : SidesLead old events new
  pub own : AllByRecursion (IsTurnEvent old.cache.me) events
  pub counts : Counts events progress
  pub ready : MayPerform new progress.ready
