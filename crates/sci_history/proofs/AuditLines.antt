-- What the audit of a line needs of its entries, and what lines that are found lawful say of all.
use Rattle.std.proofs.Common.{◌≡◌, ◌↔◌, ℕ, zero, suc, ◌+◌, ◌<◌, ◌≤◌, false, List, [], ◌∷◌, ◌++◌, length, Option, Some, None, refl, sym, subst, arith, inl, inr}
use Rattle.std.proofs.{Common.{below_more}, lemmas.Bool.{cases_lt, ne_eqb}}
use Rattle.std.proofs.lemmas.List.{get_or_past, get_or_append_left, get_or_push, length-append}
use Rattle.std.proofs.lemmas.List.Elements.{All-from_recursion, recursion_from_All}
use Rattle.std.specs.{Prelude.{All, is_some, slice_index_or}, List.{flat_map, list_any, AllByRecursion}}
use Rattle.sci_words.specs.declared.{limits.TheConstants.{MAX_NODES, WORDS_PER_LINE}, stamped.Stamped.{Stamped}}
use Rattle.sci_words.specs.Stamped.{zero_stamped}
use Rattle.sci_history.specs.declared.{entry.Entry.{Entry}, verdict.{FaultKind.{FaultKind}, Verdict.{Verdict}}}
use Rattle.sci_history.specs.{declared.faults.LineFault.{LineFault}, Memory.{stamped_at}}
use Rattle.sci_history.specs.Placed.{log_of, AreOwn, is_on_line, on_line, maker_count, by_version, placed_entries}
use Rattle.sci_history.specs.Lawful.{IsLawfulLine, Lawful}
use Rattle.sci_history.specs.Audit.{AreKnown, IsWithin, AreWithin, is_version_missing, first_missing, HasNoFault, IsFault, IsFound, AreFound, IsVerdict}
use Rattle.sci_history.proofs.Order.{all_weaker, all-append, all-filter, filter_none}
use Rattle.sci_history.proofs.{Placement.{by_node_and_serial-none}, AuditVersions.{none_fail, versions_within}}
use Rattle.sci_history.proofs.Audits.{all-by_version, nodes_on_line, lawful_found, no_fault, fault_or_none}
use Rattle.sci_history.specs.declared.verdict.Verdict.TheVariants as verdicts

pub versions_low : (entries : List Entry) → None ≡ first_missing entries → All (λ e. e.version ≤ maker_count entries) entries
versions_low entries e =
    let count = maker_count entries in
    All-from_recursion (λ e. e.version ≤ count) entries (versions_within count [] entries (none_fail (is_version_missing count) [] entries (sym e))).0

pub all_placed : (P : Entry → Type 0) (entries placed : List Entry) → placed ≡ placed_entries entries → All P entries → All P placed
all_placed P entries placed e h =
    subst (All P) (sym e) (All-from_recursion P (placed_entries entries)
    (all-by_version P (suc (maker_count entries)) entries (recursion_from_All P entries h)))

-- ---- the entries on a line

abbrev same_log : List Entry → List Entry
same_log log = log

all_logs : (P : Entry → Type 0) (logs : List (List Entry)) → ((node : ℕ) → All P (log_of logs node)) → AllByRecursion P (flat_map same_log logs)
all_logs P [] h = tt
all_logs P (log ∷ logs) h = all-append P log (flat_map same_log logs) (recursion_from_All P log (h 0)) (all_logs P logs (λ node. h (suc node)))

pub within_on_line : (lines line : ℕ) (logs : List (List Entry)) → AreWithin lines logs → AllByRecursion (IsWithin lines) (on_line line logs)
within_on_line lines line logs h = all-filter (IsWithin lines) (is_on_line line) (flat_map same_log logs) (all_logs (IsWithin lines) logs h)

pub known_on_line : (line : ℕ) (logs : List (List Entry)) (lines : ℕ) (entries : List Entry) → entries ≡ on_line line logs → AreOwn logs
    → length logs ≡ MAX_NODES → AreWithin lines logs → AreKnown entries
known_on_line line logs lines entries is own sixteen within =
    subst AreKnown (sym is) (record {
      nodes = All-from_recursion (λ e. e.node < MAX_NODES) (on_line line logs) (nodes_on_line logs line own sixteen);
      words = All-from_recursion (λ e. e.op.word < WORDS_PER_LINE) (on_line line logs)
          (all_weaker (IsWithin lines) (λ e. e.op.word < WORDS_PER_LINE) (λ e w. w.1) (on_line line logs) (within_on_line lines line logs within));
    })

pub none_past : (lines line : ℕ) (logs : List (List Entry)) → AreWithin lines logs → lines ≤ line → on_line line logs ≡ []
none_past lines line logs h le =
    filter_none (is_on_line line) (flat_map same_log logs)
    (all_weaker (IsWithin lines) (λ e. is_on_line line e ≡ false) (λ e w. let low = w.0 in
    ne_eqb e.op.line line (λ is. absurd (omega arith))) (flat_map same_log logs) (all_logs (IsWithin lines) logs h))

placed_none : placed_entries [] ≡ []
unfolding by_version
placed_none = rw by_node_and_serial-none refl

-- ---- lawful lines

-- what the code finds of a line's entries, at the contents that it read
found_as : (entries : List Entry) (a b : Stamped) (o p : Option LineFault) → a ≡ b → o ≡ p → IsFound entries a o → IsFound entries b p
found_as entries a b o p e f h = subst (λ (s : Stamped). IsFound entries s p) e (subst (IsFound entries a) f h)

pub lawful_from_found : (logs : List (List Entry)) (last : List Stamped) (line : ℕ) (entries : List Entry) (here : Stamped) (found : Option LineFault)
    → AreOwn logs → length logs ≡ MAX_NODES → entries ≡ on_line line logs → here ≡ stamped_at last line → found ≡ None → IsFound entries here found
    → IsLawfulLine logs line (stamped_at last line)
lawful_from_found logs last line entries here found own sixteen is read none found_so =
    let there = stamped_at last line in
    let h : HasNoFault (on_line line logs) there =
    subst (λ (es : List Entry). HasNoFault es there) is (found_as entries here there found None read none found_so) in
    lawful_found logs line there own sixteen h.twice h.missing h.wrong h.disordered h.words h.version

-- a line beyond the last contents has no entries, and is lawful at zero
lawful_past : (logs : List (List Entry)) (last : List Stamped) (line : ℕ) → AreOwn logs → length logs ≡ MAX_NODES → AreWithin (length last) logs
    → length last ≤ line → IsLawfulLine logs line (stamped_at last line)
lawful_past logs last line own sixteen within le =
    let none = none_past (length last) line logs within le in
    let zero_there : stamped_at last line ≡ zero_stamped = get_or_past last line zero_stamped le in
    let h : HasNoFault [] zero_stamped =
    record { twice = refl; missing = refl; wrong = rw placed_none refl; disordered = refl; words = rw placed_none refl; version = refl } in
    lawful_from_found logs last line [] zero_stamped None own sixteen (sym none) (sym zero_there) refl h

-- if the lines of the last contents are lawful, all are
pub lawful_all : (logs : List (List Entry)) (last : List Stamped) → AreOwn logs → length logs ≡ MAX_NODES → AreWithin (length last) logs
    → ((line : ℕ) → line < length last → IsLawfulLine logs line (stamped_at last line)) → Lawful logs last
lawful_all logs last own sixteen within below line =
    elim (cases_lt line (length last)) [ inl lt ↦ below line lt | inr past ↦ lawful_past logs last line own sixteen within past ]

pub lawful_more : (logs : List (List Entry)) (last : List Stamped) (line : ℕ) → ((other : ℕ) → other < line → IsLawfulLine logs other (stamped_at last other))
    → IsLawfulLine logs line (stamped_at last line) → (other : ℕ) → other < line + 1 → IsLawfulLine logs other (stamped_at last other)
lawful_more logs last line below here = below_more (λ (other : ℕ). IsLawfulLine logs other (stamped_at last other)) line below here

-- one line's fault more
pub faults_more : (logs : List (List Entry)) (last : List Stamped) (faults : List (Option LineFault)) (line : ℕ) (fault : Option LineFault)
    (entries : List Entry) (here : Stamped) → AreFound logs last line faults → entries ≡ on_line line logs → here ≡ stamped_at last line
    → IsFound entries here fault → AreFound logs last (line + 1) (faults ++ fault ∷ [])
faults_more logs last faults line fault entries here below is read found = grind (arith, length-append, below_more, get_or_append_left, get_or_push)

-- ---- the faults of all lines

no_fault_at : (faults : List (Option LineFault)) → list_any is_some faults ≡ false → (line : ℕ) → slice_index_or faults line None ≡ None
no_fault_at [] clean line = refl
no_fault_at (None ∷ faults) clean zero = refl
no_fault_at (None ∷ faults) clean (suc line) = no_fault_at faults clean line
no_fault_at (Some fault ∷ faults) clean line = absurd cc

no_fault_if : (faults : List (Option LineFault)) → ((line : ℕ) → line < length faults → slice_index_or faults line None ≡ None)
    → list_any is_some faults ≡ false
no_fault_if [] none = refl
no_fault_if (None ∷ faults) none = no_fault_if faults (λ line lt. none (suc line) (omega arith))
no_fault_if (Some fault ∷ faults) none = let some : Some fault ≡ None = none 0 (omega arith) in absurd cc

none_if_lawful : (entries : List Entry) (here : Stamped) (found : Option LineFault) → HasNoFault entries here → IsFound entries here found → found ≡ None
none_if_lawful entries here None clean found = refl
none_if_lawful entries here (Some fault) clean found = absurd (fault_or_none entries here fault.kind fault.at found clean)

-- logs are lawful exactly if no line has a fault
pub lawful_if_none : (logs : List (List Entry)) (last : List Stamped) (faults : List (Option LineFault)) → AreOwn logs → length logs ≡ MAX_NODES
    → AreWithin (length last) logs → AreFound logs last (length last) faults → (list_any is_some faults ≡ false) ↔ Lawful logs last
lawful_if_none logs last faults own sixteen within found = (
  λ clean. lawful_all logs last own sixteen within (λ line lt.
      lawful_from_found logs last line (on_line line logs) _ _ own sixteen refl refl (no_fault_at faults clean line) (found.each line lt)),
  λ lawful. no_fault_if faults (λ line lt.
      none_if_lawful (on_line line logs) (stamped_at last line) (slice_index_or faults line None)
      (no_fault logs line (stamped_at last line) own sixteen (lawful line)) (found.each line (rw found.many at lt))),
)

-- ---- the verdict

pub fault_found : (logs : List (List Entry)) (last : List Stamped) (line : ℕ) (entries : List Entry) (here : Stamped) (found : Option LineFault)
    (fault : LineFault) → line < length last → ((other : ℕ) → other < line → IsLawfulLine logs other (stamped_at last other))
    → entries ≡ on_line line logs → here ≡ stamped_at last line → found ≡ Some fault → IsFound entries here found → IsFault logs last line fault.kind fault.at
fault_found logs last line entries here found fault lt below is read some found_so = grind (arith, found_as)

faulty_not : (logs : List (List Entry)) (last : List Stamped) (line : ℕ) (kind : FaultKind) (at : Option (ℕ × ℕ)) → AreOwn logs → length logs ≡ MAX_NODES
    → IsFault logs last line kind at → Lawful logs last → ⊥
faulty_not logs last line kind at own sixteen h lawful =
    fault_or_none (on_line line logs) (stamped_at last line) kind at h.fault (no_fault logs line (stamped_at last line) own sixteen (lawful line))

verdict_faulty : (line : ℕ) (kind : FaultKind) (at : Option (ℕ × ℕ)) → verdicts.Fault line kind at ≡ verdicts.Lawful → ⊥
verdict_faulty line kind at e = absurd cc

pub verdict_is : (logs : List (List Entry)) (last : List Stamped) (verdict : Verdict) → AreOwn logs → length logs ≡ MAX_NODES → IsVerdict logs last verdict
    → (verdict ≡ verdicts.Lawful) ↔ Lawful logs last
verdict_is logs last verdicts.Lawful own sixteen h = (λ e. h, λ lawful. refl)
verdict_is logs last (verdicts.Fault line kind at) own sixteen h = grind (arith, verdict_faulty, faulty_not)
