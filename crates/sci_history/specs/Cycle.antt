-- Cycles of entries, each of which comes after the next one in every order that makes logs sequentially consistent.
use Rattle.std.specs.Prelude.{◌≡◌, ◌<◌, ◌≤◌, ◌+◌, ◌*◌, ◌⊎◌, ℕ, true, false, List, [], ◌∷◌, Some, slice_get, length}
use Rattle.std.specs.List.{AllByRecursion}
use Rattle.sci_words.specs.declared.{limits.TheConstants.{MAX_NODES}, stamped.Stamped.{Stamped}}
use Rattle.sci_history.specs.declared.{entry.Entry.{Entry}, order_verdict.OrderVerdict.{OrderVerdict}}
use Rattle.sci_history.specs.declared.order_verdict.{OrderVerdict.TheVariants.{Fault, Order, Cycle}, Reason.{Reason}}
use Rattle.sci_history.specs.declared.order_verdict.Reason.TheVariants.{Logged, ReadsFrom, FromRead, Coherence}
use Rattle.sci_history.specs.{declared.order_verdict.Step.{Step}, Audit.{IsFault, entries_of}, Lawful.{Lawful}}
use Rattle.sci_history.specs.{Placed.{log_of, is_making}, Sequential.{IsSequentialOrder}}

-- the entry stands at its place in its node's log
abbrev pub IsInLog : List (List Entry) → Step → Type 0
IsInLog logs x = slice_get (log_of logs x.entry.node) x.place ≡ Some x.entry

-- one entry comes after another, for this reason
abbrev pub ComesAfter : Reason → Step → Step → Type 0
ComesAfter Logged x y = (y.entry.node ≡ x.entry.node) × (y.place < x.place)
ComesAfter ReadsFrom x y = (y.entry.op.line ≡ x.entry.op.line) × (is_making y.entry ≡ true) × (is_making x.entry ≡ false) × (y.entry.version ≡ x.entry.version)
ComesAfter FromRead x y = (y.entry.op.line ≡ x.entry.op.line) × (is_making y.entry ≡ false) × (is_making x.entry ≡ true) × (y.entry.version < x.entry.version)
ComesAfter Coherence x y = (y.entry.op.line ≡ x.entry.op.line) × (is_making y.entry ≡ true) × (is_making x.entry ≡ true) × (y.entry.version < x.entry.version)

-- each entry comes after the next one, for its own reason, and the last one after the end
abbrev pub IsChain : List Step → Step → Type 0
IsChain [] end = Unit {0}
IsChain (x ∷ []) end = ComesAfter x.reason x end
IsChain (x ∷ y ∷ steps) end = ComesAfter x.reason x y × IsChain (y ∷ steps) end

-- and the end is the first one
abbrev pub IsRound : List Step → Type 0
IsRound [] = ⊥
IsRound (x ∷ steps) = IsChain (x ∷ steps) x

pub record IsCycle (logs : List (List Entry)) (steps : List Step) : Type 0 where
  pub entries : AllByRecursion (IsInLog logs) steps
  pub round : IsRound steps

-- in a round of this many entries, the next one to this place
abbrev pub IsNextIn : (many here there : ℕ) → Type 0
IsNextIn many here there = (there ≡ here + 1) ⊎ ((here + 1 ≡ many) × (there ≡ 0))

-- no entry comes after another than the next one, so that none can be left out
abbrev pub HasNoShortcut : List Step → Type 0
HasNoShortcut steps = (i j : ℕ) (x y : Step) (reason : Reason) → slice_get steps i ≡ Some x → slice_get steps j ≡ Some y → ComesAfter reason x y
    → IsNextIn (length steps) i j

-- What a look for an order finds: the audit's fault; else an order; else a cycle without a
-- shortcut, of no more than two entries for each node.
abbrev pub IsOrderVerdict : List (List Entry) → List Stamped → OrderVerdict → Type 0
IsOrderVerdict logs last (Fault line kind at) = IsFault logs last line kind at
IsOrderVerdict logs last (Order order) = Lawful logs last × IsSequentialOrder logs last (entries_of order.items)
IsOrderVerdict logs last (Cycle steps) = Lawful logs last × IsCycle logs steps.items × HasNoShortcut steps.items × (length steps.items ≤ 2 * MAX_NODES)

-- it found an order
abbrev pub IsOrdered : OrderVerdict → Type 0
IsOrdered (Order order) = Unit {0}
IsOrdered verdict = ⊥
