-- A window whose last contents aren't known is lawful exactly if no line of its relative logs has a fault but that of the last contents.
use Rattle.std.proofs.Common.{◌≡◌, ◌≢◌, ◌↔◌, ℕ, zero, suc, ◌<◌, ◌≤◌, List, [], ◌∷◌, ◌++◌, length, map, get_or}
use Rattle.std.proofs.Common.{Option, Some, None, refl, sym, subst, ◌∙◌, arith, inl, inr}
use Rattle.std.proofs.lemmas.Bool.{cases_eq, cases_lt, ne_eqb}
use Rattle.std.proofs.lemmas.List.{get_or_append_left, get_or_past, get_or_push, length-append, length-map}
use Rattle.std.proofs.lemmas.List.Elements.{recursion_from_All}
use Rattle.sci_words.specs.declared.{limits.TheConstants.{MAX_NODES}, stamped.Stamped.{Stamped}}
use Rattle.sci_words.specs.Stamped.{zero_stamped}
use Rattle.sci_history.specs.declared.{entry.Entry.{Entry}, faults.LineFault.{LineFault}, verdict.FaultKind.{FaultKind}, verdict.Verdict.{Verdict}}
use Rattle.sci_history.specs.declared.verdict.FaultKind.TheVariants.{VersionTwice, VersionMissing, WrongReply, OutOfOrder, LastDiffers}
use Rattle.sci_history.specs.declared.verdict.Verdict.TheVariants as verdicts
use Rattle.sci_history.specs.Audit.{AreFound, AreWithin, IsFound, IsLineFault, first_disordered, first_missing, first_twice, first_wrong, words_after}
use Rattle.sci_history.specs.{History.{IsHistory}, Lawful.{IsLawfulLine}, Memory.{stamped_at}}
use Rattle.sci_history.specs.Placed.{AreOwn, maker_count, on_line, placed_entries}
use Rattle.sci_history.proofs.{Audits.{fault_or_none, lawful_found, no_fault}, Lawfulness.{lawful_line}}
use Rattle.sci_history.proofs.Order.{all_weaker, filter_none}
use Rattle.sci_windows.specs.Relative.{AreEarly, AreFew, AreLines, relative_entry, relative_logs, relative_stamped, relative_to}
use Rattle.sci_windows.specs.{Fault.{IsLineFaultFrom}, Window.{HasHistoryFrom}}
use Rattle.sci_windows.specs.CutOff.{HasSomeHistory, IsAtLast, IsBeforeLast, IsVerdictCutOff, LawfulCutOff}
use Rattle.sci_windows.proofs.Reductions.{few_makers, own_relative, placed_back, relative_end, relative_start}
use Rattle.sci_windows.proofs.{Overs.{over}, Relatives.{from_relative}, Verdicts.{counted_fault, on_line_over}}

-- what is known of a window that was cut off
pub record IsCutOff (logs : List (List Entry)) (first : List Stamped) : Type 0 where
  pub own : AreOwn logs
  pub sixteen : length logs ≡ MAX_NODES
  pub few : AreFew logs
  pub within : AreWithin (length first) logs
  pub lines : AreLines first
  pub early : AreEarly first

-- ---- one line

-- the kinds that don't look at the last contents
record HasNoneBefore (entries : List Entry) : Type 0 where
  twice : first_twice entries ≡ None
  missing : first_missing entries ≡ None
  wrong : first_wrong entries ≡ None
  disordered : first_disordered entries ≡ None

none_of : (entries : List Entry) (last : Stamped) (kind : FaultKind) (named : Option (ℕ × ℕ)) → kind ≡ LastDiffers → IsLineFault entries last kind named
    → HasNoneBefore entries
none_of entries last VersionTwice named is h = absurd cc
none_of entries last VersionMissing named is h = absurd cc
none_of entries last WrongReply named is h = absurd cc
none_of entries last OutOfOrder named is h = absurd cc
none_of entries last LastDiffers named is h = record { twice = h.0; missing = h.1; wrong = h.2; disordered = h.3 }

none_before : (entries : List Entry) (last : Stamped) (found : Option LineFault) → IsAtLast found → IsFound entries last found → HasNoneBefore entries
none_before entries last None at h = record { twice = h.twice; missing = h.missing; wrong = h.wrong; disordered = h.disordered }
none_before entries last (Some fault) at h = none_of entries last fault.kind fault.at at h

-- such a fault doesn't depend on the last contents
any_last : (entries : List Entry) (a b : Stamped) (kind : FaultKind) (named : Option (ℕ × ℕ)) → kind ≢ LastDiffers → IsLineFault entries a kind named
    → IsLineFault entries b kind named
any_last entries a b VersionTwice named not h = h
any_last entries a b VersionMissing named not h = h
any_last entries a b WrongReply named not h = h
any_last entries a b OutOfOrder named not h = h
any_last entries a b LastDiffers named not h = absurd (not refl)

-- what a line's entries lead to
abbrev end_of : List Entry → Stamped
end_of entries = record { line = words_after (placed_entries entries); version = maker_count entries }

lawful_at_end : (logs : List (List Entry)) (line : ℕ) → AreOwn logs → length logs ≡ MAX_NODES → HasNoneBefore (on_line line logs)
    → IsLawfulLine logs line (end_of (on_line line logs))
lawful_at_end logs line own sixteen h =
    lawful_found logs line (end_of (on_line line logs)) own sixteen h.twice h.missing h.wrong h.disordered refl refl

-- a line of the window whose relative entries are lawful to some end
some_history : (logs : List (List Entry)) (first : List Stamped) (line : ℕ) (end : Stamped) → IsCutOff logs first
    → IsLawfulLine (relative_logs first logs) line end → HasSomeHistory logs line (stamped_at first line)
some_history logs first line end w lawful =
    let from = stamped_at first line in
    let back = placed_back logs first line end w.own w.sixteen lawful in
    let makers = few_makers first logs line w.sixteen w.few in
    let version = lawful.contents.version in
    let low = w.early line in
    let found = from_relative from back.entries from end
    (subst (λ (s : Stamped). IsHistory (map (relative_to from) back.entries) s end) (sym (relative_start from (w.lines line))) back.run)
    (omega arith) refl (omega arith) in (
      found.new,
      record { entries = back.entries; history = found.history; nodes = back.nodes; logged = back.logged; serials = back.serials },
    )

-- ---- all lines

-- what each of some numbers has, as a list
record AreChosen (P : ℕ → Stamped → Type 0) (count : ℕ) : Type 0 where
  list : List Stamped
  long : length list ≡ count
  each : (i : ℕ) → i < count → P i (stamped_at list i)

chosen : (P : ℕ → Stamped → Type 0) (count : ℕ) → ((i : ℕ) → i < count → (s : Stamped) × P i s) → AreChosen P count
chosen P zero h = record { list = []; long = refl; each = λ i lt. absurd (omega arith) }
chosen P (suc n) h =
    let before = chosen P n (λ i lt. h i (omega arith)) in
    let here = h n (omega arith) in
    record {
      list = before.list ++ here.0 ∷ [];
      long = length-append before.list (here.0 ∷ []) ∙ (let is = before.long in omega arith);
      each = λ i lt. elim (cases_eq i n) [
        | inl is ↦ subst (λ (k : ℕ). P k (stamped_at (before.list ++ here.0 ∷ []) k)) (sym is)
            (subst (P n) (sym (get_or_push before.list here.0 zero_stamped n before.long)) here.1)
        | inr other ↦ subst (P i) (sym (get_or_append_left before.list (here.0 ∷ []) zero_stamped i (let is = before.long in omega arith)))
            (before.each i (omega arith))
      ];
    }

-- a line that no entry is on
empty_line : (logs : List (List Entry)) (first : List Stamped) (line : ℕ) → AreWithin (length first) logs → length first ≤ line
    → HasHistoryFrom logs line zero_stamped zero_stamped
empty_line logs first line within past = grind (arith, filter_none, all_weaker, ne_eqb, recursion_from_All)

all_lines : (logs : List (List Entry)) (first : List Stamped) → IsCutOff logs first
    → ((line : ℕ) → line < length first → HasSomeHistory logs line (stamped_at first line)) → LawfulCutOff logs first
all_lines logs first w each =
    let found = chosen (λ line last. HasHistoryFrom logs line (stamped_at first line) last) (length first) each in (
      found.list,
      (λ line. elim (cases_lt line (length first)) [
        | inl lt ↦ found.each line lt
        | inr past ↦
            let none : stamped_at first line ≡ zero_stamped = get_or_past first line zero_stamped past in
            let end : stamped_at found.list line ≡ zero_stamped = get_or_past found.list line zero_stamped (let is = found.long in omega arith) in
            subst (HasHistoryFrom logs line (stamped_at first line)) (sym end)
            (subst (λ (s : Stamped). HasHistoryFrom logs line s zero_stamped) (sym none) (empty_line logs first line w.within past))
      ]),
    )

-- ---- the verdict

standing : (logs : List (List Entry)) (first ends : List Stamped) (lines : ℕ) (faults : List (Option LineFault)) (line : ℕ) → IsCutOff logs first
    → AreFound (relative_logs first logs) ends lines faults → line < lines → IsAtLast (get_or faults line None)
    → HasSomeHistory logs line (stamped_at first line)
standing logs first ends lines faults line w found lt at =
    let relative = relative_logs first logs in
    let own = own_relative first logs w.own in
    let sixteen : length relative ≡ MAX_NODES = length-map logs (map (relative_entry first)) ∙ w.sixteen in
    some_history logs first line (end_of (on_line line relative)) w
    (lawful_at_end relative line own sixteen
    (none_before (on_line line relative) (stamped_at ends line) (get_or faults line None) at (found.each line lt)))

no_history : (logs : List (List Entry)) (first ends : List Stamped) (line : ℕ) (kind : FaultKind) (named : Option (ℕ × ℕ)) → IsCutOff logs first
    → kind ≢ LastDiffers → IsLineFault (on_line line (relative_logs first logs)) (stamped_at ends line) kind named
    → HasSomeHistory logs line (stamped_at first line) → ⊥
no_history logs first ends line kind named w not fault (last, history) =
    let relative = relative_logs first logs in
    let from = stamped_at first line in
    let sixteen : length relative ≡ MAX_NODES = length-map logs (map (relative_entry first)) ∙ w.sixteen in
    let end = relative_stamped from last in
    fault_or_none (on_line line relative) end kind named (any_last (on_line line relative) (stamped_at ends line) end kind named not fault)
    (no_fault relative line end (own_relative first logs w.own) sixteen
    (lawful_line relative line end sixteen (relative_end logs first line last w.lines history)))

fault_of : (logs : List (List Entry)) (first ends : List Stamped) (line : ℕ) (kind : FaultKind) (named : Option (ℕ × ℕ)) → IsCutOff logs first
    → kind ≢ LastDiffers → IsLineFault (on_line line (relative_logs first logs)) (stamped_at ends line) kind named
    → (last : Stamped) → IsLineFaultFrom (on_line line logs) (stamped_at first line) last kind named
fault_of logs first ends line kind named w not fault last = grind (arith, counted_fault, any_last, over, on_line_over)

cut_off : (logs : List (List Entry)) (first ends : List Stamped) (lines : ℕ) (faults : List (Option LineFault)) (verdict : Verdict)
    → IsCutOff logs first → lines ≡ length first → AreFound (relative_logs first logs) ends lines faults → IsBeforeLast faults verdict
    → IsVerdictCutOff logs first verdict
cut_off logs first ends lines faults verdicts.Lawful w long found h =
    let many = found.many in
    all_lines logs first w (λ line lt. standing logs first ends lines faults line w found (omega arith) (h line (omega arith)))
cut_off logs first ends lines faults (verdicts.Fault line kind at) w long found h =
    let many = found.many in
    let lt = h.0 in
    let here : line < lines = omega arith in
    let fault : IsLineFault (on_line line (relative_logs first logs)) (stamped_at ends line) kind at =
    subst (IsFound (on_line line (relative_logs first logs)) (stamped_at ends line)) h.1 (found.each line here) in
    record {
      in_range = omega arith;
      below = λ other low. standing logs first ends lines faults other w found (omega arith) (h.3 other low);
      unlawful = no_history logs first ends line kind at w h.2 fault;
      before_last = h.2;
      fault = fault_of logs first ends line kind at w h.2 fault;
    }

faulty : (line : ℕ) (kind : FaultKind) (at : Option (ℕ × ℕ)) → verdicts.Fault line kind at ≡ verdicts.Lawful → ⊥
faulty line kind at e = absurd cc

pub lawful_cut_off : (logs : List (List Entry)) (first : List Stamped) (verdict : Verdict) → IsVerdictCutOff logs first verdict
    → (verdict ≡ verdicts.Lawful) ↔ LawfulCutOff logs first
lawful_cut_off logs first verdicts.Lawful h = (λ e. h, λ lawful. refl)
lawful_cut_off logs first (verdicts.Fault line kind at) h =
    ((λ e. absurd (faulty line kind at e)), (λ lawful. absurd (h.unlawful (stamped_at lawful.0 line, lawful.1 line))))

pub verdict_cut_off : (logs relative : List (List Entry)) (first ends : List Stamped) (lines : ℕ) (faults : List (Option LineFault)) (verdict : Verdict)
    → IsCutOff logs first → relative ≡ relative_logs first logs → lines ≡ length first → AreFound relative ends lines faults
    → IsBeforeLast faults verdict → IsVerdictCutOff logs first verdict
verdict_cut_off logs relative first ends lines faults verdict w is long found h =
    cut_off logs first ends lines faults verdict w long (subst (λ (ls : List (List Entry)). AreFound ls ends lines faults) is found) h
