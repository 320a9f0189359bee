-- What an audit of a window's relative logs says is said of the window.
use Rattle.std.proofs.Common.{◌≡◌, ℕ, Bool, true, false, cond, not, List, [], ◌∷◌, ◌++◌, ◌↔◌, length, map, replicate, Option, Some, None}
use Rattle.std.proofs.Common.{refl, sym, ap, subst, ◌∙◌, arith, inl, inr}
use Rattle.std.proofs.lemmas.{Bool.{cases_Bool, not-false, eqb-true}, List.{append_assoc, append-nil, length-map, map-append}}
use Rattle.std.specs.{Prelude.{option_map}, List.{filter, flat_map}}
use Rattle.sci_words.specs.declared.{limits.TheConstants.{MAX_NODES}, operation.{Op.{Op}}, stamped.Stamped.{Stamped}}
use Rattle.sci_words.specs.Stamped.{line_after, reply_of, zero_stamped}
use Rattle.sci_history.specs.{declared.entry.Entry.{Entry}, declared.verdict.FaultKind.{FaultKind}, declared.verdict.Verdict.{Verdict}}
use Rattle.sci_history.specs.declared.verdict.FaultKind.TheVariants.{VersionTwice, VersionMissing, WrongReply, OutOfOrder, LastDiffers}
use Rattle.sci_history.specs.declared.verdict.Verdict.TheVariants as verdicts
use Rattle.sci_history.specs.Audit.{IsLineFault, IsVerdict, Names, first_failing, first_twice, first_wrong, is_reply_wrong}
use Rattle.sci_history.specs.Audit.{line_after_all, same_reply, words_after}
use Rattle.sci_history.specs.{Lawful.{Lawful}, Memory.{stamped_at}, Placed.{AreOwn, is_on_line, maker_count, on_line, placed_entries}}
use Rattle.sci_history.proofs.{Audits.{fault_or_none, no_fault}, Lawfulness.{lawful_line}}
use Rattle.sci_history.proofs.{AuditRuns.{reply_is, reply_same, words_after-push}, Order.{all-passes, all_weaker}}
use Rattle.sci_windows.specs.Relative.{AreEarly, AreFew, AreLines, counted_from, relative_contents, relative_entry, relative_line, relative_logs}
use Rattle.sci_windows.specs.Relative.{relative_stamped, relative_to}
use Rattle.sci_windows.specs.Fault.{Differ, IsCountedFault, IsLineFaultFrom, IsVerdictFrom, counted, first_wrong_from, is_reply_wrong_from, words_from}
use Rattle.sci_windows.specs.Window.{LawfulFrom}
use Rattle.sci_windows.proofs.{Merges.{filter-mapped}, Pairs.{map_agrees}}
use Rattle.sci_windows.proofs.Reductions.{from_lawful, from_lawful_line, own_relative, relative_history, relative_start_line, to_lawful}
use Rattle.sci_windows.proofs.Overs.{count_over, disordered_over, missing_over, names_over, none_over, over, placed_over, twice_over}
use Rattle.sci_windows.proofs.{Relatives.{relative_at, relative_long}, Swaps.{back_step, counted_after, line_step, long_line_after, right_step}}

-- ---- words one after another

from_push : (words : List ℕ) (ops : List Op) (op : Op) → line_after_all words (ops ++ op ∷ []) ≡ line_after (line_after_all words ops) op
from_push words [] op = refl
from_push words (first ∷ ops) op = from_push (line_after words first) ops op

words_from-push : (words : List ℕ) (before : List Entry) (e : Entry) → words_from words (before ++ e ∷ []) ≡ line_after (words_from words before) e.op
words_from-push words before e =
    ap (line_after_all words) (map-append (λ (x : Entry). x.op) before (e ∷ [])) ∙ from_push words (map (λ (x : Entry). x.op) before) e.op

-- two memories after the same entries
record AreAlike (words : List ℕ) (before : List Entry) : Type 0 where
  long : length words ≡ length (words_from words before)
  same : words_after (map (over words) before) ≡ relative_line words (words_from words before)

alike_next : (words : List ℕ) (before : List Entry) (e : Entry) → AreAlike words before → e.reply ≡ reply_of (words_from words before) e.op
    → AreAlike words (before ++ e ∷ [])
alike_next words before e alike right =
    let now = words_from words before in
    record {
      long = alike.long ∙ sym (long_line_after now e) ∙ ap length (sym (words_from-push words before e));
      same = ap words_after (map-append (over words) before (e ∷ [])) ∙ words_after-push (map (over words) before) (over words e)
          ∙ ap (λ (xs : List ℕ). line_after xs (over words e).op) alike.same
          ∙ line_step (record { line = words; version = 0 }) now e alike.long right
          ∙ ap (relative_line words) (sym (words_from-push words before e));
    }

right_from_test : (words : List ℕ) (before : List Entry) (e : Entry) → is_reply_wrong_from words before e ≡ false
    → e.reply ≡ reply_of (words_from words before) e.op
right_from_test words before e passes =
    reply_is e.reply (reply_of (words_from words before) e.op) (not-false (same_reply e.reply (reply_of (words_from words before) e.op)) passes)

test_right : (words : List ℕ) (before : List Entry) (e : Entry) → AreAlike words before → is_reply_wrong_from words before e ≡ false
    → is_reply_wrong (map (over words) before) (over words e) ≡ false
test_right words before e alike passes =
    let now = words_from words before in
    let right = right_step (record { line = words; version = 0 }) now e alike.long (right_from_test words before e passes) in
    let here : (over words e).reply ≡ reply_of (words_after (map (over words) before)) (over words e).op =
    right ∙ ap (λ (xs : List ℕ). reply_of xs (over words e).op) (sym alike.same) in
    ap not (ap (same_reply (over words e).reply) (sym here) ∙ reply_same (over words e).reply)

test_wrong : (words : List ℕ) (before : List Entry) (e : Entry) → AreAlike words before → is_reply_wrong_from words before e ≡ true
    → is_reply_wrong (map (over words) before) (over words e) ≡ true
test_wrong words before e alike fails =
    let now = words_from words before in
    elim (cases_Bool (is_reply_wrong (map (over words) before) (over words e))) [
      | inl wrong ↦ wrong
      | inr right ↦
          let here : (over words e).reply ≡ reply_of (words_after (map (over words) before)) (over words e).op =
          reply_is (over words e).reply (reply_of (words_after (map (over words) before)) (over words e).op)
          (not-false (same_reply (over words e).reply (reply_of (words_after (map (over words) before)) (over words e).op)) right) in
          let there : e.reply ≡ reply_of now e.op =
          back_step (record { line = words; version = 0 }) now e alike.long
          (here ∙ ap (λ (xs : List ℕ). reply_of xs (over words e).op) alike.same) in
          let passes : is_reply_wrong_from words before e ≡ false =
          ap not (ap (same_reply e.reply) (sym there) ∙ reply_same e.reply) in
          absurd cc
    ]

wrong_over : (words : List ℕ) (before es : List Entry) → AreAlike words before
    → first_failing is_reply_wrong (map (over words) before) (map (over words) es)
    ≡ option_map (over words) (first_failing (is_reply_wrong_from words) before es)
wrong_over words before [] alike = refl
wrong_over words before (e ∷ es) alike = elim (cases_Bool (is_reply_wrong_from words before e)) [
  | inl fails ↦ rw (test_wrong words before e alike fails, fails) refl
  | inr passes ↦
      let right = right_from_test words before e passes in
      let next : first_failing is_reply_wrong (map (over words) before ++ over words e ∷ []) (map (over words) es)
      ≡ option_map (over words) (first_failing (is_reply_wrong_from words) (before ++ e ∷ []) es) =
      ap (λ (xs : List Entry). first_failing is_reply_wrong xs (map (over words) es)) (sym (map-append (over words) before (e ∷ [])))
      ∙ wrong_over words (before ++ e ∷ []) es (alike_next words before e alike right) in
      rw (test_right words before e alike passes, passes) next
]

found_none : (e : Entry) (rest : Option Entry) (test : Bool) → test ≡ true → cond test (Some e) rest ≡ None → ⊥
found_none e rest true is none = absurd cc
found_none e rest false is none = absurd cc

passed_none : (e : Entry) (rest : Option Entry) (test : Bool) → test ≡ false → cond test (Some e) rest ≡ None → rest ≡ None
passed_none e rest true is none = absurd cc
passed_none e rest false is none = none

alike_end : (words : List ℕ) (before es : List Entry) → AreAlike words before → first_failing (is_reply_wrong_from words) before es ≡ None
    → AreAlike words (before ++ es)
alike_end words before [] alike none = subst (AreAlike words) (sym (append-nil before)) alike
alike_end words before (e ∷ es) alike none = elim (cases_Bool (is_reply_wrong_from words before e)) [
  | inl fails ↦ absurd (found_none e (first_failing (is_reply_wrong_from words) (before ++ e ∷ []) es) (is_reply_wrong_from words before e) fails none)
  | inr passes ↦
      let right = right_from_test words before e passes in
      let rest : first_failing (is_reply_wrong_from words) (before ++ e ∷ []) es ≡ None =
      passed_none e (first_failing (is_reply_wrong_from words) (before ++ e ∷ []) es) (is_reply_wrong_from words before e) passes none in
      subst (AreAlike words) (append_assoc before (e ∷ []) es) (alike_end words (before ++ e ∷ []) es (alike_next words before e alike right) rest)
]

-- ---- one line

alike_none : (words : List ℕ) → length words ≡ 8 → AreAlike words []
alike_none words long = record { long = refl; same = sym (relative_start_line words ∙ ap (λ (n : ℕ). replicate n 0) long) }

wrong_placed : (words : List ℕ) (es : List Entry) → length words ≡ 8 → first_wrong (map (over words) es) ≡ option_map (over words) (first_wrong_from words es)
wrong_placed words es long =
    ap (first_failing is_reply_wrong []) (placed_over words es) ∙ wrong_over words [] (placed_entries es) (alike_none words long)

differ_over : (es : List Entry) (first last : Stamped) → length first.line ≡ 8 → first_wrong_from first.line es ≡ None
    → ((relative_line first.line last.line ≡ words_after (placed_entries (map (over first.line) es)))
    × (counted_from first.version last.version ≡ maker_count (map (over first.line) es)) → ⊥) → Differ es first last
differ_over es first last long right differ same =
    let words = first.line in
    let alike = alike_end words [] (placed_entries es) (alike_none words long) right in
    let counts = count_over words es in
    let version = same.1 in
    let at_last = counted_after first.version last.version (omega arith) in
    differ (
      ap (relative_line words) same.0 ∙ (sym alike.same ∙ ap words_after (sym (placed_over words es))),
      omega arith,
    )

pub counted_fault : (es : List Entry) (first last : Stamped) (kind : FaultKind) (named : Option (ℕ × ℕ)) → length first.line ≡ 8
    → IsLineFault (map (over first.line) es) (relative_stamped first last) kind named → IsCountedFault es first last kind named
counted_fault es first last VersionTwice named long h =
    names_over first.line (first_twice es) named (subst (λ (o : Option Entry). Names o named) (twice_over first.line es) h)
counted_fault es first last VersionMissing named long h = grind (arith, none_over, twice_over, names_over, missing_over)
counted_fault es first last WrongReply named long h = grind (arith, none_over, twice_over, missing_over, names_over, wrong_placed)
counted_fault es first last OutOfOrder named long h = grind (arith, none_over, twice_over, missing_over, wrong_placed, names_over, disordered_over)
counted_fault es first last LastDiffers named long h = grind (arith, none_over, wrong_placed, twice_over, missing_over, disordered_over, differ_over)

-- ---- all lines

counted_over : (first : Stamped) (es : List Entry) → map (relative_to first) es ≡ map (over first.line) (map (counted first.version) es)
counted_over first [] = refl
counted_over first (e ∷ es) = ap (λ (xs : List Entry). relative_to first e ∷ xs) (counted_over first es)

all_mapped_logs : (f : Entry → Entry) (logs : List (List Entry))
    → flat_map (λ (log : List Entry). log) (map (map f) logs) ≡ map f (flat_map (λ (log : List Entry). log) logs)
all_mapped_logs f [] = refl
all_mapped_logs f (log ∷ logs) =
    ap (λ (xs : List Entry). map f log ++ xs) (all_mapped_logs f logs) ∙ sym (map-append f log (flat_map (λ (log : List Entry). log) logs))

pub on_line_over : (first : List Stamped) (logs : List (List Entry)) (line : ℕ)
    → on_line line (relative_logs first logs)
    ≡ map (over (stamped_at first line).line) (map (counted (stamped_at first line).version) (on_line line logs))
on_line_over first logs line =
    let all = flat_map (λ (log : List Entry). log) logs in
    ap (filter (is_on_line line)) (all_mapped_logs (relative_entry first) logs)
    ∙ filter-mapped (relative_entry first) (is_on_line line) (λ e. refl) all
    ∙ map_agrees (relative_entry first) (relative_to (stamped_at first line)) (filter (is_on_line line) all)
    (all_weaker (λ (e : Entry). is_on_line line e ≡ true) (λ (e : Entry). relative_entry first e ≡ relative_to (stamped_at first line) e)
    (λ e is. ap (λ (k : ℕ). relative_to (stamped_at first k) e) (eqb-true e.op.line line is)) (filter (is_on_line line) all)
    (all-passes (is_on_line line) all))
    ∙ counted_over (stamped_at first line) (filter (is_on_line line) all)

-- what is known of a window
pub record IsWindow (logs : List (List Entry)) (first last : List Stamped) : Type 0 where
  pub own : AreOwn logs
  pub sixteen : length logs ≡ MAX_NODES
  pub few : AreFew logs
  pub long : length first ≡ length last
  pub first_lines : AreLines first
  pub last_lines : AreLines last
  pub early : AreEarly first

pub window_verdict : (logs : List (List Entry)) (first last : List Stamped) (verdict : Verdict) → IsWindow logs first last
    → IsVerdict (relative_logs first logs) (relative_contents first last) verdict → IsVerdictFrom logs first last verdict
window_verdict logs first last verdicts.Lawful w h =
    from_lawful logs first last w.own w.sixteen w.few w.long w.first_lines w.last_lines w.early h
window_verdict logs first last (verdicts.Fault line kind at) w h =
    let from = stamped_at first line in
    let entries = map (counted from.version) (on_line line logs) in
    let lines = relative_long first last w.long in
    let here = h.in_range in
    let fault : IsLineFault (map (over from.line) entries) (relative_stamped from (stamped_at last line)) kind at =
    subst (λ (s : Stamped). IsLineFault (map (over from.line) entries) s kind at) (relative_at first last line w.long)
    (subst (λ (es : List Entry). IsLineFault es (stamped_at (relative_contents first last) line) kind at) (on_line_over first logs line) h.fault) in
    record {
      in_range = omega arith;
      below = λ other lt. from_lawful_line logs first last other w.own w.sixteen w.few w.long w.first_lines w.last_lines w.early (h.below other lt);
      unlawful = λ history.
          fault_or_none (on_line line (relative_logs first logs)) (stamped_at (relative_contents first last) line) kind at h.fault
          (no_fault (relative_logs first logs) line (stamped_at (relative_contents first last) line) (own_relative first logs w.own)
          (length-map logs (map (relative_entry first)) ∙ w.sixteen)
          (lawful_line (relative_logs first logs) line (stamped_at (relative_contents first last) line)
          (length-map logs (map (relative_entry first)) ∙ w.sixteen) (relative_history logs first last line w.long w.first_lines history)));
      fault = counted_fault entries from (stamped_at last line) kind at (w.first_lines line) fault;
    }

pub window_lawful : (logs : List (List Entry)) (first last : List Stamped) (P : Type 0) → IsWindow logs first last
    → (P ↔ Lawful (relative_logs first logs) (relative_contents first last)) → P ↔ LawfulFrom logs first last
window_lawful logs first last P w both = (
  (λ p. from_lawful logs first last w.own w.sixteen w.few w.long w.first_lines w.last_lines w.early (both.0 p)),
  (λ h. both.1 (to_lawful logs first last w.sixteen w.long w.first_lines h)),
)

-- ---- windows that begin with zeros

same_entry : (e : Entry) (version : ℕ) → version ≡ e.version → record e { version = version } ≡ e
same_entry e version is = grind arith

same_version : (e : Entry) → counted 0 e ≡ e
same_version e = let is = counted_after 0 e.version (omega arith) in same_entry e (counted_from 0 e.version) (omega arith)

counted_zero : (es : List Entry) → map (counted 0) es ≡ es
counted_zero [] = refl
counted_zero (e ∷ es) = ap (λ (x : Entry). x ∷ map (counted 0) es) (same_version e) ∙ ap (λ (xs : List Entry). e ∷ xs) (counted_zero es)

from_zero : (es : List Entry) (last : Stamped) (kind : FaultKind) (named : Option (ℕ × ℕ)) → IsCountedFault es zero_stamped last kind named
    → IsLineFault es last kind named
from_zero es last VersionTwice named h = h
from_zero es last VersionMissing named h = h
from_zero es last WrongReply named h = h
from_zero es last OutOfOrder named h = h
from_zero es last LastDiffers named h = (h.0, h.1, h.2, h.3, h.4, λ same. let counts = same.1 in h.5 (same.0, omega arith))

to_zero : (es : List Entry) (last : Stamped) (kind : FaultKind) (named : Option (ℕ × ℕ)) → IsLineFault es last kind named
    → IsCountedFault es zero_stamped last kind named
to_zero es last VersionTwice named h = h
to_zero es last VersionMissing named h = h
to_zero es last WrongReply named h = h
to_zero es last OutOfOrder named h = h
to_zero es last LastDiffers named h = (h.0, h.1, h.2, h.3, h.4, λ same. let counts = same.1 in h.5 (same.0, omega arith))

pub zero_faults : (es : List Entry) (last : Stamped) (kind : FaultKind) (named : Option (ℕ × ℕ))
    → IsLineFaultFrom es zero_stamped last kind named ↔ IsLineFault es last kind named
zero_faults es last kind named = grind (arith, from_zero, counted_zero, to_zero)
