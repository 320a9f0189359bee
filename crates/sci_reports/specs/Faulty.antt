-- The entry at fault on a line of memory, and why it is.
use Rattle.std.specs.Prelude.{◌≡◌, ◌<◌, ◌≤◌, ◌==◌, ◌&&◌, ◌||◌, not, ℕ, Bool, true, false, List, [], ◌∷◌, ◌++◌, take, slice_get, slice_index}
use Rattle.std.specs.{Prelude.{Option, Some, None, option_map}, List.{list_any}}
use Rattle.sci_words.specs.{declared.{operation.{Act.{Act, TheVariants.{Load, Store, Lock}}, Op.{Op}}, stamped.Stamped.{Stamped}}, Operation.{effect}}
use Rattle.sci_history.specs.declared.{entry.Entry.{Entry}, verdict.FaultKind.{FaultKind}}
use Rattle.sci_history.specs.declared.verdict.FaultKind.TheVariants.{VersionTwice, VersionMissing, WrongReply, OutOfOrder, LastDiffers}
use Rattle.sci_history.specs.Placed.{is_of_node, maker_count, makes}
use Rattle.sci_history.specs.Audit.{first_disordered, first_failing, first_missing, first_twice, is_out_of_order, is_reply_wrong, is_version_missing}
use Rattle.sci_history.specs.Audit.{is_version_twice, words_after}
use Rattle.sci_reports.specs.declared.faulty.Cause.{Cause}
use Rattle.sci_reports.specs.declared.faulty.Cause.TheVariants.{MadeBefore, FewMakers, OtherWord, SerialAfter, PlacedAfter}
use Rattle.sci_reports.specs.{declared.{faulty.FaultyEntry.{FaultyEntry}, numbered.Numbered.{Numbered}}, EntryLines.{entries_in, entry_of}}

abbrev pub faulty : FaultyEntry → Entry
faulty found = entry_of found.at

-- the entry where a kind of fault is, of a line's entries as they are read and in the order of versions; none if the last contents
-- differ
abbrev pub IsAtFault : FaultKind → List Entry → List Entry → Option FaultyEntry → Type 0
IsAtFault VersionTwice entries placed found = option_map faulty found ≡ first_twice entries
IsAtFault VersionMissing entries placed found = option_map faulty found ≡ first_missing entries
IsAtFault WrongReply entries placed found = option_map faulty found ≡ first_failing is_reply_wrong [] placed
IsAtFault OutOfOrder entries placed found = option_map faulty found ≡ first_disordered entries
IsAtFault LastDiffers entries placed found = found ≡ None

-- the word that an entry should have found
abbrev pub word_expected : Cause → Option ℕ
word_expected (MadeBefore earlier) = None
word_expected (FewMakers makers least) = None
word_expected (OtherWord word maker) = Some word
word_expected (SerialAfter earlier) = None
word_expected (PlacedAfter earlier) = None

-- the word is the one that the entries before it leave, in this order
pub record IsWordExpected (placed : List Entry) (found : FaultyEntry) : Type 0 where
  pub place : ℕ
  pub stands : slice_get placed place ≡ Some (faulty found)
  pub word : word_expected found.cause ≡ Some (slice_index (words_after (take place placed)) (faulty found).op.word)

-- the contents that entries in the order of versions leave: the words, and the number of makers
abbrev pub contents_left : List Entry → Stamped
contents_left placed = record { line = words_after placed; version = maker_count placed }

-- ---- where it stands, and its cause

-- an entry stands in a list behind these, and a test fails there for the first time; it looks at the entries before it too
pub record IsFirst (fails : List Entry → Entry → Bool) (list : List Numbered) (it : Numbered) (before : List Numbered) : Type 0 where
  pub after : List Numbered
  pub parts : list ≡ before ++ it ∷ after
  pub here : fails (entries_in before) (entry_of it) ≡ true
  pub none_before : first_failing fails [] (entries_in before) ≡ None

-- a test fails for the first time at this entry, and its cause is so, behind the entries before it
pub record IsFirstAtFault (fails : List Entry → Entry → Bool) (is_cause : List Numbered → Entry → Cause → Type 0) (list : List Numbered)
    (found : FaultyEntry) : Type 0 where
  pub before : List Numbered
  pub first : IsFirst fails list found.at before
  pub cause : is_cause before (faulty found) found.cause

-- the last entry of a list that passes a test, which looks at the entries before it too
pub record IsLastOf (passes : List Entry → Entry → Bool) (list : List Numbered) (it : Numbered) : Type 0 where
  pub before : List Numbered
  pub after : List Numbered
  pub parts : list ≡ before ++ it ∷ after
  pub here : passes (entries_in before) (entry_of it) ≡ true
  pub none_after : first_failing passes (entries_in (before ++ it ∷ [])) (entries_in after) ≡ None

-- the same, if one passes it
abbrev pub IsLast : (List Entry → Entry → Bool) → List Numbered → Option Numbered → Type 0
IsLast passes list None = first_failing passes [] (entries_in list) ≡ None
IsLast passes list (Some it) = IsLastOf passes list it

-- an entry of this node, whatever stands before it
abbrev pub is_by : ℕ → List Entry → Entry → Bool
is_by node before entry = is_of_node node entry

-- a maker of this version, whatever stands before it
abbrev pub is_made : ℕ → List Entry → Entry → Bool
is_made version before entry = makes version entry

-- the entry before it made its version
abbrev pub IsMadeBefore : List Numbered → Entry → Cause → Type 0
IsMadeBefore before entry (MadeBefore earlier) = IsLastOf (is_made entry.version) before earlier
IsMadeBefore before entry (FewMakers makers least) = ⊥
IsMadeBefore before entry (OtherWord word maker) = ⊥
IsMadeBefore before entry (SerialAfter earlier) = ⊥
IsMadeBefore before entry (PlacedAfter earlier) = ⊥

-- the least number from 1 on that isn't among some
pub record IsLeastOutside (is_among : ℕ → Bool) (least : ℕ) : Type 0 where
  pub positive : 0 < least
  pub outside : is_among least ≡ false
  pub below : (n : ℕ) → 0 < n → n < least → is_among n ≡ true

-- whether an entry makes the version
abbrev pub is_made_by : List Entry → ℕ → Bool
is_made_by entries version = list_any (makes version) entries

-- whether a number is one of these
abbrev pub is_one_of : List ℕ → ℕ → Bool
is_one_of numbers n = list_any (λ number. number == n) numbers

-- the number of makers on the line, and the least version that no entry makes
abbrev pub IsFewMakers : List Entry → List Numbered → Entry → Cause → Type 0
IsFewMakers entries before entry (MadeBefore earlier) = ⊥
IsFewMakers entries before entry (FewMakers makers least) = (makers ≡ maker_count entries) × IsLeastOutside (is_made_by entries) least
IsFewMakers entries before entry (OtherWord word maker) = ⊥
IsFewMakers entries before entry (SerialAfter earlier) = ⊥
IsFewMakers entries before entry (PlacedAfter earlier) = ⊥

-- whether an operation makes its word, even if it leaves it alone
abbrev pub makes_always : Act → Bool
makes_always Load = false
makes_always (Store word) = true
makes_always (Lock lock) = false

-- a store makes its word, and a lock operation does if it changes it
abbrev pub changes_word : Op → ℕ → Bool
changes_word op old = makes_always op.act || not ((effect op old).0 == old)

-- an entry that makes this word of the line, behind those before it
abbrev pub makes_word : ℕ → List Entry → Entry → Bool
makes_word word before entry = (entry.op.word == word) && changes_word entry.op (slice_index (words_after before) word)

-- the word that the entries before it leave, and the last that made it
abbrev pub IsOtherWord : List Numbered → Entry → Cause → Type 0
IsOtherWord before entry (MadeBefore earlier) = ⊥
IsOtherWord before entry (FewMakers makers least) = ⊥
IsOtherWord before entry (OtherWord word maker) =
    (word ≡ slice_index (words_after (entries_in before)) entry.op.word) × IsLast (makes_word entry.op.word) before maker
IsOtherWord before entry (SerialAfter earlier) = ⊥
IsOtherWord before entry (PlacedAfter earlier) = ⊥

-- its node's entry before it, if there is one, has its serial or a higher one; or else it is only placed after it
abbrev pub IsDisorder : Option Numbered → Entry → Cause → Type 0
IsDisorder latest entry (MadeBefore earlier) = ⊥
IsDisorder latest entry (FewMakers makers least) = ⊥
IsDisorder latest entry (OtherWord word maker) = ⊥
IsDisorder latest entry (SerialAfter earlier) = (latest ≡ Some earlier) × (entry.serial ≤ (entry_of earlier).serial)
IsDisorder latest entry (PlacedAfter earlier) = (latest ≡ Some earlier) × ((entry_of earlier).serial < entry.serial)

-- the same of its node's last entry before it
abbrev pub IsOutOfOrder : List Numbered → Entry → Cause → Type 0
IsOutOfOrder before entry cause = (latest : Option Numbered) × IsLast (is_by entry.node) before latest × IsDisorder latest entry cause

-- Where an entry at fault by a kind stands, of a line's entries as they are read and in the order of versions, and why it is.
abbrev pub IsCaused : FaultKind → List Numbered → List Numbered → FaultyEntry → Type 0
IsCaused VersionTwice entries placed found = IsFirstAtFault is_version_twice IsMadeBefore entries found
IsCaused VersionMissing entries placed found =
    IsFirstAtFault (is_version_missing (maker_count (entries_in entries))) (IsFewMakers (entries_in entries)) entries found
IsCaused WrongReply entries placed found = IsFirstAtFault is_reply_wrong IsOtherWord placed found
IsCaused OutOfOrder entries placed found = IsFirstAtFault is_out_of_order IsOutOfOrder entries found
IsCaused LastDiffers entries placed found = ⊥
