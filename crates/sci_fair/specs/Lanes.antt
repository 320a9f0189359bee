-- What stands behind a Cread in a machine that works by turns: nothing that changes a list at its home. A Cread may be kept
-- by a node that awaits its home, so the home's list must not wait for a request behind one.
use Rattle.std.specs.Prelude.{◌≡◌, ℕ, Bool, true, false, List, [], ◌∷◌}
use Rattle.std.specs.List.{AllByRecursion}
use Rattle.sci_words.specs.declared.event.Event.{Event}
use Rattle.sci_packets.specs.declared.body.Body.{Body, TheVariants.{Claim, Clear, Wback}}
use Rattle.sci_cache.specs.Cache.{Letter}
use Rattle.sci_core.specs.Core.{Core, lane_at}
use Rattle.sci_policy.specs.Policy.{is_cread}
use Rattle.sci_words.specs.declared.event.Event.TheVariants as event

-- a request by which a home changes or ends a list
abbrev pub changes_list : Body → Bool
changes_list Claim = true
changes_list Clear = true
changes_list (Wback c) = true
changes_list _ = false

-- a lane in which no such request stands behind a Cread
abbrev pub IsOpen : List Letter → Type 0
IsOpen [] = Unit {0}
IsOpen (letter ∷ rest) = (is_cread letter.body ≡ true → AllByRecursion (λ other. changes_list other.body ≡ false) rest) × IsOpen rest

-- all lanes of a machine are open; in one of answers there is no Cread
abbrev pub AreOpen : Core → Type 0
AreOpen core = (place : ℕ) → IsOpen (lane_at core place)

-- an event by which an operation is issued or performed
abbrev pub IsWork : Event → Type 0
IsWork (event.Issue n op) = Unit {0}
IsWork (event.Perform n line) = Unit {0}
IsWork _ = ⊥
