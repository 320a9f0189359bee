-- The log of a trace, whose lines of memory are its addresses.
use Rattle.std.specs.Prelude.{◌≡◌, ◌<◌, ◌≤◌, ◌==◌, ◌++◌, ℕ, List, [], ◌∷◌, count_by, filter, length, map, max, Some, slice_get, slice_index_or, take}
use Rattle.std.specs.List.{AllPairs}
use Rattle.sci_words.specs.declared.limits.TheConstants.{MAX_LINES, MAX_OPERATIONS}
use Rattle.sci_history.specs.{declared.entry.Entry.{Entry}, Lawful.{Lawful}, Memory.{stamped_at}, Oracle.{logs_by_node}}
use Rattle.sci_history.specs.Placed.{is_of_node, is_on_line, log_of}
use Rattle.sci_judge.specs.declared.{access.Access.{Access}, judging.SiteVersions.{SiteVersions}, trace.Trace.{Trace}}
use Rattle.sci_judge.specs.declared.logging.{Log.{Log}, NoLog.{NoLog}}
use Rattle.sci_judge.specs.declared.logging.NoLog.TheVariants as none
use Rattle.sci_judge.specs.{Coherent.{act_of, reply_of}, Judgement.{addresses_of, last_at}}

-- The entry of an operation, behind the entries that are done: the serial counts the processor's own, the line is the address's
-- place among the addresses, and the word is the line's first.
pub record IsEntryOf (addresses : List ℕ) (done : List Entry) (access : Access) (entry : Entry) : Type 0 where
  pub node : entry.node ≡ access.processor
  pub serial : entry.serial ≡ count_by (is_of_node access.processor) done
  pub act : entry.op.act ≡ act_of access.kind
  pub line : slice_get addresses entry.op.line ≡ Some access.address
  pub word : entry.op.word ≡ 0
  pub reply : entry.reply ≡ reply_of access.kind

-- the entries of operations, in their order, behind those that are done
abbrev pub AreEntriesOf : (addresses : List ℕ) → (done : List Entry) → List Access → List Entry → Type 0
AreEntriesOf addresses done [] [] = Unit {0}
AreEntriesOf addresses done [] (entry ∷ entries) = ⊥
AreEntriesOf addresses done (access ∷ accesses) [] = ⊥
AreEntriesOf addresses done (access ∷ accesses) (entry ∷ entries) =
    IsEntryOf addresses done access entry × AreEntriesOf addresses (done ++ entry ∷ []) accesses entries

-- the versions of the entries on a line
abbrev pub versions_on : ℕ → List Entry → List ℕ
versions_on line entries = map (λ entry. entry.version) (filter (is_on_line line) entries)

-- the entries on each line have the versions of the operations at its address
abbrev pub HaveVersions : List SiteVersions → List Entry → Type 0
HaveVersions sites entries =
    (line : ℕ) (d : SiteVersions) → line < length sites → versions_on line entries ≡ (slice_index_or sites line d).versions.items

-- last contents have the last word at each address where the trace has it
abbrev pub HasLastWords : Trace → List SiteVersions → Log → Type 0
HasLastWords trace sites log = (line address word : ℕ) → slice_get (addresses_of sites) line ≡ Some address → last_at address trace ≡ Some word
    → slice_index_or (stamped_at log.last.value line).line 0 0 ≡ word

-- A log of a trace, by versions for the operations at each address: it has the entries of the operations, each processor's in
-- their order, and is lawful.
pub record IsLogOf (trace : Trace) (sites : List SiteVersions) (log : Log) : Type 0 where
  pub rising : AllPairs (λ x y. x < y) (addresses_of sites)
  pub entries : List Entry
  pub same : AreEntriesOf (addresses_of sites) [] trace.accesses.items entries
  pub versions : HaveVersions sites entries
  pub logged : log.logs ≡ logs_by_node entries
  pub lines : length log.last.value ≡ max 1 (length sites)
  pub lawful : Lawful log.logs log.last.value
  pub ends : HasLastWords trace sites log

-- why there is no log: more addresses than lines, or more operations of a processor than a log has room for
abbrev pub IsNoLog : Trace → List SiteVersions → NoLog → Type 0
IsNoLog trace sites none.Addresses = MAX_LINES < length sites
IsNoLog trace sites none.Operations = (processor : ℕ) × (MAX_OPERATIONS < count_by (λ access. access.processor == processor) trace.accesses.items)
IsNoLog trace sites none.NotFound = Unit {0}
IsNoLog trace sites (none.Memory error) = Unit {0}

-- ---- inside

-- Entries of operations so far, with versions of which so many are used on each line.
pub record AreLogged (sites : List SiteVersions) (accesses : List Access) (used : List ℕ) (logs : List (List Entry)) : Type 0 where
  pub entries : List Entry
  pub same : AreEntriesOf (addresses_of sites) [] accesses entries
  pub logged : logs ≡ logs_by_node entries
  pub long : length used ≡ length sites
  pub few : (line : ℕ) → slice_index_or used line 0 ≤ length accesses
  pub versions : (line : ℕ) (d : SiteVersions) → line < length sites
      → versions_on line entries ≡ take (slice_index_or used line 0) (slice_index_or sites line d).versions.items

-- the entry of an operation behind those that are logged, with the next version of its line
pub record IsNext (sites : List SiteVersions) (logs : List (List Entry)) (used : List ℕ) (access : Access) (entry : Entry) : Type 0 where
  pub node : entry.node ≡ access.processor
  pub serial : entry.serial ≡ length (log_of logs access.processor)
  pub act : entry.op.act ≡ act_of access.kind
  pub line : slice_get (addresses_of sites) entry.op.line ≡ Some access.address
  pub word : entry.op.word ≡ 0
  pub reply : entry.reply ≡ reply_of access.kind
  pub version : (d : SiteVersions)
      → slice_get (slice_index_or sites entry.op.line d).versions.items (slice_index_or used entry.op.line 0) ≡ Some entry.version

-- a log isn't ended with an entry: it is full, or memory is refused
abbrev pub IsFullOf : List (List Entry) → (node : ℕ) → NoLog → Type 0
IsFullOf logs node none.Operations = MAX_OPERATIONS ≤ length (log_of logs node)
IsFullOf logs node (none.Memory error) = Unit {0}
IsFullOf logs node why = ⊥

-- all versions are used
abbrev pub AreAllUsed : List SiteVersions → (used : List ℕ) → Type 0
AreAllUsed sites used =
    (line : ℕ) (d : SiteVersions) → line < length sites → slice_index_or used line 0 ≡ length (slice_index_or sites line d).versions.items
