-- What it is for operations at one address to be coherent.
use Rattle.std.specs.Prelude.{◌≡◌, ◌<◌, ◌≤◌, ℕ, suc, ◌==◌, ◌&&◌, if◌then◌else◌, Bool, true, List, [], ◌∷◌, Option, Some, None, slice_get}
use Rattle.sci_words.specs.declared.{operation.{Act.{Act}, Reply.{Reply}}, stamped.Stamped.{Stamped}}
use Rattle.sci_words.specs.declared.operation.{LockOp.TheVariants.{CompareSwap}, Reply.TheVariants.{Stored, Got}}
use Rattle.sci_words.specs.declared.operation.Act.TheVariants as act
use Rattle.sci_history.specs.{declared.entry.Entry.{Entry}, Oracle.{logs_by_node}, Placed.{is_making}, Seen.{DidOn}}
use Rattle.sci_versions.specs.Versions.{AreVersionsOf, KnownWords}
use Rattle.sci_judge.specs.declared.access.{Access.{Access}, Kind.{Kind, TheVariants.{Load, Store, Atomic}}}

-- the operation as logs have it: an atomic is a compare-and-swap that found the word that it looked for
abbrev pub act_of : Kind → Act
act_of (Load read) = act.Load
act_of (Store wrote) = act.Store wrote
act_of (Atomic read wrote) = act.Lock (CompareSwap read wrote)

abbrev pub reply_of : Kind → Reply
reply_of (Load read) = Got read
reply_of (Store wrote) = Stored
reply_of (Atomic read wrote) = Got read

-- An operation as the entry of a log, without a version. An address is the first word of the only line. The serial is the
-- operation's place among all at the address.
abbrev pub entry_of : ℕ → Access → Entry
entry_of serial access = record {
  node = access.processor;
  serial = serial;
  op = record { act = act_of access.kind; line = 0; word = 0 };
  reply = reply_of access.kind;
  version = 0;
}

-- all of them, with their serials from a number on
abbrev pub entries_from : ℕ → List Access → List Entry
entries_from serial [] = []
entries_from serial (access ∷ accesses) = entry_of serial access ∷ entries_from (suc serial) accesses

-- the log of each processor, in the order of the trace
abbrev pub logs_of : List Access → List (List Entry)
logs_of accesses = logs_by_node (entries_from 0 accesses)

-- the last word at the address, if it is known
abbrev pub known_last : Option ℕ → KnownWords
known_last value line word = if (line == 0) && (word == 0) then value else None

-- one entry stands before another by their versions: a maker stands before the loads at its version
abbrev pub StandsBefore : Entry → Entry → Type 0
StandsBefore x y = (x.version ≤ y.version) × (is_making y ≡ true → x.version < y.version)

-- what ended before another operation began stands before it
abbrev pub RespectsTimes : List Access → List (List Entry) → Type 0
RespectsTimes accesses logs =
    (i j : ℕ) (a b : Access) (x y : Entry) → slice_get accesses i ≡ Some a → slice_get accesses j ≡ Some b → a.end < b.begin
    → DidOn logs 0 a.processor x → x.serial ≡ i → DidOn logs 0 b.processor y → y.serial ≡ j → StandsBefore x y

-- these versions explain the operations and the last word if it is known, and if times count, they respect them
pub record Explains (timed : Bool) (accesses : List Access) (last : Option ℕ) (logs : List (List Entry)) (contents : List Stamped) : Type 0 where
  pub versions : AreVersionsOf (logs_of accesses) (known_last last) logs contents
  pub times : timed ≡ true → RespectsTimes accesses logs

-- operations at one address are coherent: some versions explain them
abbrev pub IsCoherent : Bool → List Access → Option ℕ → Type 0
IsCoherent timed accesses last = (logs : List (List Entry)) × (contents : List Stamped) × Explains timed accesses last logs contents
