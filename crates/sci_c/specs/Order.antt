-- What a look for one order of all entries answers.
use Rattle.std.specs.Prelude.{◌≡◌, ℕ, ◌<◌, ◌≤◌, ◌⊎◌, ◌↔◌, List, length, map}
use denote.Ref.{Bor}
use Rattle.sci_history.specs.{declared.{entry.Entry.{Entry}, order_verdict.Step.{Step}}, Cycle.{HasNoShortcut, IsCycle}}
use Rattle.sci_c_values.specs.declared.{entry.SciEntry.{SciEntry}, status.TheConstants.{SCI_FULL, SCI_OK}}
use Rattle.sci_c_values.specs.Entry.{entry_struct}
use Rattle.sci_c.specs.{declared.ordering.TheConstants.{CYCLE, ORDER, UNLAWFUL}, Begun.{AreLawful, AreOrdered, IsOrderOfAll}, Journal.{JournalOf}}
use Rattle.sci_c.specs.{declared.ordering.FoundOrder.{FoundOrder}, Written.{StandOver}}
use Rattle.sci_c.specs.declared.ordering.FoundOrder.TheVariants as orders

-- the struct of an entry behind a reference, and of that of a step
abbrev pub ref_struct : Bor Entry → SciEntry
ref_struct ref = entry_struct ref.now

abbrev pub step_struct : Step → SciEntry
step_struct step = entry_struct step.entry

-- one order of all entries stands over the first structs
pub record IsOrderIn (old new : List SciEntry) (used : ℕ) (journal : JournalOf) : Type 0 where
  pub order : List Entry
  pub is_order : IsOrderOfAll journal order
  pub stand : StandOver (map entry_struct order) old new used

-- a cycle of entries, of which none can be left out, stands there
pub record IsCycleIn (old new : List SciEntry) (used : ℕ) (journal : JournalOf) : Type 0 where
  pub steps : List Step
  pub is_cycle : IsCycle journal.logs steps
  pub no_shortcut : HasNoShortcut steps
  pub stand : StandOver (map step_struct steps) old new used

-- this many entries have an order, or are such a cycle
pub record IsOrderOf (used : ℕ) (journal : JournalOf) : Type 0 where
  pub order : List Entry
  pub is_order : IsOrderOfAll journal order
  pub length_is : used ≡ length order

pub record IsCycleOf (used : ℕ) (journal : JournalOf) : Type 0 where
  pub steps : List Step
  pub is_cycle : IsCycle journal.logs steps
  pub length_is : used ≡ length steps

-- there is less room than the order or the cycle needs
pub record NeedsRoom (old : List SciEntry) (used : ℕ) (journal : JournalOf) : Type 0 where
  pub more : length old < used
  pub found : IsOrderOf used journal ⊎ IsCycleOf used journal

-- a cycle of entries shows that there is no order
pub record HasCycle (journal : JournalOf) : Type 0 where
  pub steps : List Step
  pub is_cycle : IsCycle journal.logs steps

-- what the kind of answer says of these logs
pub record IsOrderKind (kind : ℕ) (journal : JournalOf) : Type 0 where
  pub kinds : kind ≤ UNLAWFUL
  pub ordered : (kind ≡ ORDER) ↔ (AreLawful journal × AreOrdered journal)
  pub cycle : kind ≡ CYCLE → HasCycle journal
  pub unlawful : kind ≡ UNLAWFUL → AreLawful journal → ⊥

-- what each status of a look for an order of these logs says
pub record IsOrdering (old new : List SciEntry) (kind used status : ℕ) (journal : JournalOf) : Type 0 where
  pub order : status ≡ SCI_OK → kind ≡ ORDER → IsOrderIn old new used journal
  pub cycle : status ≡ SCI_OK → kind ≡ CYCLE → IsCycleIn old new used journal
  pub unlawful : status ≡ SCI_OK → kind ≡ UNLAWFUL → AreLawful journal → ⊥
  pub nothing : status ≡ SCI_OK → kind ≡ UNLAWFUL → (used ≡ 0) × (new ≡ old)
  pub kinds : status ≡ SCI_OK → kind ≤ UNLAWFUL
  pub ordered : status ≡ SCI_OK → (kind ≡ ORDER) ↔ (AreLawful journal × AreOrdered journal)
  pub full : status ≡ SCI_FULL → NeedsRoom old used journal

-- ---- what is found, before it is written

-- these are the structs of an order of all entries
pub record AreOrder (journal : JournalOf) (structs : List SciEntry) : Type 0 where
  pub order : List Entry
  pub is_order : IsOrderOfAll journal order
  pub are : structs ≡ map entry_struct order

-- these are the structs of a cycle of entries, of which none can be left out
pub record AreCycle (journal : JournalOf) (structs : List SciEntry) : Type 0 where
  pub steps : List Step
  pub is_cycle : IsCycle journal.logs steps
  pub no_shortcut : HasNoShortcut steps
  pub are : structs ≡ map step_struct steps

abbrev pub IsFoundOrder : JournalOf → FoundOrder → Type 0
IsFoundOrder journal orders.Unlawful = AreLawful journal → ⊥
IsFoundOrder journal (orders.Order structs) = AreOrder journal structs.items
IsFoundOrder journal (orders.Cycle structs) = AreCycle journal structs.items

-- it is an order
abbrev pub HasOrder : FoundOrder → Type 0
HasOrder (orders.Order structs) = Unit {0}
HasOrder found = ⊥
