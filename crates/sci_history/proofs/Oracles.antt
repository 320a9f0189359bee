-- A script's log on one memory is lawful.
use Rattle.std.proofs.Common.{◌≡◌, ◌≢◌, ℕ, zero, suc, ◌+◌, ◌<◌, ◌≤◌, Bool, true, false, cond, List, [], ◌∷◌, ◌++◌, length, refl, sym, ap, ◌∙◌, subst}
use Rattle.std.proofs.{Common.{arith, inl, inr}, lemmas.Bool.{cases_Bool, cases_eq, cases_lt, eq-eqb, ne_eqb, and_left}}
use Rattle.std.proofs.lemmas.List.{append-nil, map-append, length-set, get_or-set_same, get_or-set_other, get_or_past, length-replicate}
use Rattle.std.proofs.lemmas.List.{Elements.{filter-append, All-from_recursion}, Sums.{sum_by_push, length-filter}}
use Rattle.std.proofs.lemmas.List.FromFn.{get_or-map-range_with_len, length-map-range_with_len}
use Rattle.std.proofs.lemmas.List.{Quantifiers.{all_pairs_push}, Kept.{AllPairs-filter}}
use Rattle.std.specs.{Prelude.{AllPairs, count_by}, List.{filter, AllByRecursion}}
use Rattle.sci_words.specs.declared.{limits.TheConstants.{MAX_NODES}, operation.Op.{Op}, stamped.Stamped.{Stamped}}
use Rattle.sci_words.specs.{Operation.{is_maker}, Stamped.{line_after, after, zero_line, zero_stamped, reply_of}}
use Rattle.sci_history.specs.declared.entry.Entry.{Entry}
use Rattle.sci_history.specs.Memory.{zero_memory, line_at, memory_after, memory_after_all, stamped_at}
use Rattle.sci_history.specs.{Placed.{log_of, is_of_node, is_on_line, is_making}, Lawful.{Lawful}}
use Rattle.sci_history.specs.History.{IsHistory, HasHistory}
use Rattle.sci_history.specs.Oracle.{Issue, IsInRange, makes_on, memory_of, entry_after, done_after, oracle_entries, logs_by_node, contents_left}
use Rattle.sci_history.specs.Oracle.{oracle_logs, oracle_last}
use Rattle.sci_history.proofs.Order.{all_weaker, all-append, all-filter, filter-filter, filter_none, filter_yes, filter_no}
use Rattle.sci_history.proofs.{Lawfulness.{lawful_line}, Runs.{same_stamped}}

-- ---- one entry more

pub filter_push_yes : (p : Entry → Bool) (done : List Entry) (entry : Entry) → p entry ≡ true → filter p (done ++ entry ∷ []) ≡ filter p done ++ entry ∷ []
filter_push_yes p done entry e = filter-append p done (entry ∷ []) ∙ ap (λ (es : List Entry). filter p done ++ es) (filter_yes p entry [] e)

pub filter_push_no : (p : Entry → Bool) (done : List Entry) (entry : Entry) → p entry ≡ false → filter p (done ++ entry ∷ []) ≡ filter p done
filter_push_no p done entry e =
    filter-append p done (entry ∷ []) ∙ ap (λ (es : List Entry). filter p done ++ es) (filter_no p entry [] e) ∙ append-nil (filter p done)

pub count_push : (p : Entry → Bool) (done : List Entry) (entry : Entry) → count_by p (done ++ entry ∷ []) ≡ count_by p done + cond (p entry) 1 0
count_push p done entry = sum_by_push (λ e. cond (p e) 1 0) done entry

history_push : (entries : List Entry) (entry : Entry) (old mid : Stamped) → IsHistory entries old mid → entry.reply ≡ reply_of mid.line entry.op
    → entry.version ≡ (after mid entry.op).version → IsHistory (entries ++ entry ∷ []) old (after mid entry.op)
history_push [] entry old mid h reply version = grind arith
history_push (first ∷ entries) entry old mid h reply version =
    (h.0, h.1, history_push entries entry (after old first.op) mid h.2 reply version)

memory_after_all-push : (memory : List (List ℕ)) (ops : List Op) (op : Op)
    → memory_after_all memory (ops ++ op ∷ []) ≡ memory_after (memory_after_all memory ops) op
memory_after_all-push memory [] op = refl
memory_after_all-push memory (first ∷ ops) op = memory_after_all-push (memory_after memory first) ops op

pub memory_of-push : (lines : ℕ) (done : List Entry) (entry : Entry) → memory_of lines (done ++ entry ∷ []) ≡ memory_after (memory_of lines done) entry.op
memory_of-push lines done entry = grind (arith, map-append, memory_after_all-push)

-- ---- what holds after each entry

-- a line's words, with the number of its makers
abbrev pub stamped_of : ℕ → List Entry → ℕ → Stamped
stamped_of lines done line = record { line = line_at (memory_of lines done) line; version = count_by (makes_on line) done }

pub record Traced (lines : ℕ) (done : List Entry) : Type 0 where
  pub in_range : AllByRecursion (λ e. (e.node < MAX_NODES) × (e.op.line < lines)) done
  pub long : length (memory_of lines done) ≡ lines
  pub histories : (line : ℕ) → line < lines → IsHistory (filter (is_on_line line) done) zero_stamped (stamped_of lines done line)
  pub rising : (node : ℕ) → AllPairs (λ x y. x.serial < y.serial) (filter (is_of_node node) done)
  pub counted : (node : ℕ) → AllByRecursion (λ e. e.serial < count_by (is_of_node node) done) (filter (is_of_node node) done)

pub line_at-zero : (lines line : ℕ) → line_at (zero_memory lines) line ≡ zero_line
line_at-zero zero line = refl
line_at-zero (suc lines) zero = refl
line_at-zero (suc lines) (suc line) = line_at-zero lines line

pub traced_none : (lines : ℕ) → Traced lines []
traced_none lines = grind (arith, length-replicate, same_stamped, line_at-zero)

-- what the entry of an issue says
pub record IsNext (lines : ℕ) (done : List Entry) (entry : Entry) : Type 0 where
  pub reply : entry.reply ≡ reply_of (line_at (memory_of lines done) entry.op.line) entry.op
  pub version : entry.version ≡ count_by (makes_on entry.op.line) done + cond (is_maker entry.op) 1 0
  pub serial : entry.serial ≡ count_by (is_of_node entry.node) done

pub line_at-same : (memory : List (List ℕ)) (op : Op) → op.line < length memory
    → line_at (memory_after memory op) op.line ≡ line_after (line_at memory op.line) op
line_at-same memory op lt = get_or-set_same memory op.line (line_after (line_at memory op.line) op) zero_line lt

pub line_at-other : (memory : List (List ℕ)) (op : Op) (line : ℕ) → line ≢ op.line → line_at (memory_after memory op) line ≡ line_at memory line
line_at-other memory op line ne = get_or-set_other memory op.line line (line_after (line_at memory op.line) op) zero_line ne

pub version_push : (done : List Entry) (entry : Entry)
    → count_by (makes_on entry.op.line) (done ++ entry ∷ []) ≡ count_by (makes_on entry.op.line) done + cond (is_maker entry.op) 1 0
version_push done entry = count_push (makes_on entry.op.line) done entry ∙ rw (eq-eqb entry.op.line entry.op.line refl) refl

pub own_stamped : (lines : ℕ) (done : List Entry) (entry : Entry) → Traced lines done → IsNext lines done entry → entry.op.line < lines
    → stamped_of lines (done ++ entry ∷ []) entry.op.line ≡ after (stamped_of lines done entry.op.line) entry.op
own_stamped lines done entry h next lt = grind (arith, cases_Bool, memory_of-push, line_at-same, version_push, same_stamped)

own_line : (lines : ℕ) (done : List Entry) (entry : Entry) → Traced lines done → IsNext lines done entry → entry.op.line < lines
    → IsHistory (filter (is_on_line entry.op.line) (done ++ entry ∷ [])) zero_stamped (stamped_of lines (done ++ entry ∷ []) entry.op.line)
own_line lines done entry h next lt =
    let line = entry.op.line in
    let mid = stamped_of lines done line in
    let version : entry.version ≡ (after mid entry.op).version =
    next.version ∙ elim (cases_Bool (is_maker entry.op)) [ inl maker ↦ rw maker refl | inr load ↦ rw load (omega arith) ] in
    let longer : filter (is_on_line line) (done ++ entry ∷ []) ≡ filter (is_on_line line) done ++ entry ∷ [] =
    filter_push_yes (is_on_line line) done entry (eq-eqb line line refl) in
    rw (longer, own_stamped lines done entry h next lt)
    (history_push (filter (is_on_line line) done) entry zero_stamped mid (h.histories line lt) next.reply version)

pub other_stamped : (lines : ℕ) (done : List Entry) (entry : Entry) (line : ℕ) → (line ≢ entry.op.line)
    → stamped_of lines (done ++ entry ∷ []) line ≡ stamped_of lines done line
other_stamped lines done entry line ne = grind (arith, ne_eqb, memory_of-push, line_at-other, count_push, same_stamped)

other_line : (lines : ℕ) (done : List Entry) (entry : Entry) (line : ℕ) → Traced lines done → line < lines → (line ≢ entry.op.line)
    → IsHistory (filter (is_on_line line) (done ++ entry ∷ [])) zero_stamped (stamped_of lines (done ++ entry ∷ []) line)
other_line lines done entry line h lt ne = grind (arith, filter_push_no, ne_eqb, other_stamped)

step_history : (lines : ℕ) (done : List Entry) (entry : Entry) (line : ℕ) → Traced lines done → IsNext lines done entry → line < lines
    → IsHistory (filter (is_on_line line) (done ++ entry ∷ [])) zero_stamped (stamped_of lines (done ++ entry ∷ []) line)
step_history lines done entry line h next lt = grind (arith, cases_eq, own_line, other_line)

step_rising : (lines : ℕ) (done : List Entry) (entry : Entry) (node : ℕ) → Traced lines done → IsNext lines done entry
    → AllPairs (λ x y. x.serial < y.serial) (filter (is_of_node node) (done ++ entry ∷ []))
step_rising lines done entry node h next =
    let own = filter (is_of_node node) done in
    elim (cases_eq entry.node node) [
      | inl e ↦
          let serial : entry.serial ≡ count_by (is_of_node node) done = next.serial ∙ ap (λ n. count_by (is_of_node n) done) e in
          let below : AllByRecursion (λ x. x.serial < entry.serial) own =
          all_weaker (λ x. x.serial < count_by (is_of_node node) done) (λ x. x.serial < entry.serial) (λ x lt. omega arith) own (h.counted node) in
          subst (λ (es : List Entry). AllPairs (λ x y. x.serial < y.serial) es) (sym (filter_push_yes (is_of_node node) done entry (eq-eqb entry.node node e)))
          (all_pairs_push (λ x y. x.serial < y.serial) own entry (h.rising node) (All-from_recursion (λ x. x.serial < entry.serial) own below))
      | inr ne ↦
          subst (λ (es : List Entry). AllPairs (λ x y. x.serial < y.serial) es) (sym (filter_push_no (is_of_node node) done entry (ne_eqb entry.node node ne)))
          (h.rising node)
    ]

step_counted : (lines : ℕ) (done : List Entry) (entry : Entry) (node : ℕ) → Traced lines done → IsNext lines done entry
    → AllByRecursion (λ e. e.serial < count_by (is_of_node node) (done ++ entry ∷ [])) (filter (is_of_node node) (done ++ entry ∷ []))
step_counted lines done entry node h next =
    let own = filter (is_of_node node) done in
    let count = count_by (is_of_node node) (done ++ entry ∷ []) in
    let more = count_push (is_of_node node) done entry in
    let old : AllByRecursion (λ x. x.serial < count) own =
    all_weaker (λ x. x.serial < count_by (is_of_node node) done) (λ x. x.serial < count) (λ x lt. omega arith) own (h.counted node) in
    elim (cases_eq entry.node node) [
      | inl e ↦
          let yes : is_of_node node entry ≡ true = eq-eqb entry.node node e in
          let serial : entry.serial ≡ count_by (is_of_node node) done = next.serial ∙ ap (λ n. count_by (is_of_node n) done) e in
          let one : count ≡ count_by (is_of_node node) done + 1 = more ∙ rw yes refl in
          subst (λ (es : List Entry). AllByRecursion (λ x. x.serial < count) es) (sym (filter_push_yes (is_of_node node) done entry yes))
          (all-append (λ x. x.serial < count) own (entry ∷ []) old (omega arith, tt))
      | inr ne ↦
          subst (λ (es : List Entry). AllByRecursion (λ x. x.serial < count) es) (sym (filter_push_no (is_of_node node) done entry (ne_eqb entry.node node ne)))
          old
    ]

pub traced_push : (lines : ℕ) (done : List Entry) (entry : Entry) → Traced lines done → IsNext lines done entry → entry.node < MAX_NODES → entry.op.line < lines
    → Traced lines (done ++ entry ∷ [])
traced_push lines done entry h next node line = record {
  in_range = all-append (λ e. (e.node < MAX_NODES) × (e.op.line < lines)) done (entry ∷ []) h.in_range ((node, line), tt);
  long = ap length (memory_of-push lines done entry)
      ∙ length-set (memory_of lines done) entry.op.line (line_after (line_at (memory_of lines done) entry.op.line) entry.op) ∙ h.long;
  histories = λ l lt. step_history lines done entry l h next lt;
  rising = λ n. step_rising lines done entry n h next;
  counted = λ n. step_counted lines done entry n h next;
}

traced_step : (lines : ℕ) (done : List Entry) (issue : Issue) → IsInRange lines issue → Traced lines done
    → Traced lines (done ++ entry_after lines done issue ∷ [])
traced_step lines done issue range h =
    traced_push lines done (entry_after lines done issue) h (record { reply = refl; version = refl; serial = refl }) range.node range.line

pub traced_all : (lines : ℕ) (script : List Issue) (done : List Entry) → AllByRecursion (IsInRange lines) script → Traced lines done
    → Traced lines (done_after lines done script)
unfolding done_after
traced_all lines [] done range h = h
traced_all lines (issue ∷ script) done range h =
    traced_all lines script (done ++ entry_after lines done issue ∷ []) range.1 (traced_step lines done issue range.0 h)

-- ---- the law

pub log_of-logs_of : (done : List Entry) (node : ℕ) → node < MAX_NODES → log_of (logs_by_node done) node ≡ filter (is_of_node node) done
log_of-logs_of done node lt = get_or-map-range_with_len (λ n. filter (is_of_node n) done) 0 MAX_NODES node node [] lt (omega arith)

pub off_line : (lines : ℕ) (done : List Entry) (line : ℕ) → Traced lines done → lines ≤ line → AllByRecursion (λ e. is_on_line line e ≡ false) done
off_line lines done line h past = grind (arith, all_weaker, ne_eqb)

pub past_line : (lines : ℕ) (done : List Entry) (line : ℕ) → Traced lines done → lines ≤ line → stamped_of lines done line ≡ zero_stamped
past_line lines done line h past =
    let words : line_at (memory_of lines done) line ≡ zero_line = get_or_past (memory_of lines done) line zero_line (let long = h.long in omega arith) in
    let none : AllByRecursion (λ e. makes_on line e ≡ false) done =
    all_weaker (λ e. is_on_line line e ≡ false) (λ e. makes_on line e ≡ false) (λ e off. and_left (is_on_line line e) (is_making e) off) done
    (off_line lines done line h past) in
    let count : count_by (makes_on line) done ≡ 0 = sym (length-filter (makes_on line) done) ∙ ap length (filter_none (makes_on line) done none) in
    same_stamped (stamped_of lines done line) zero_stamped words count

pub stamped_at-contents_of : (lines : ℕ) (done : List Entry) (line : ℕ) → Traced lines done
    → stamped_at (contents_left lines done) line ≡ stamped_of lines done line
stamped_at-contents_of lines done line h = grind (arith, cases_lt, get_or-map-range_with_len, get_or_past, length-map-range_with_len, past_line)

line_history : (lines : ℕ) (done : List Entry) (line : ℕ) → Traced lines done
    → IsHistory (filter (is_on_line line) done) zero_stamped (stamped_of lines done line)
line_history lines done line h =
    elim (cases_lt line lines) [
      | inl lt ↦ h.histories line lt
      | inr past ↦
          let none : filter (is_on_line line) done ≡ [] = filter_none (is_on_line line) done (off_line lines done line h past) in
          rw none (past_line lines done line h past)
    ]

traced_history : (lines : ℕ) (done : List Entry) (line : ℕ) → Traced lines done
    → HasHistory (logs_by_node done) line (stamped_at (contents_left lines done) line)
traced_history lines done line h =
    let is = stamped_at-contents_of lines done line h in
    let own : (node : ℕ) → node < MAX_NODES
    → filter (is_on_line line) (log_of (logs_by_node done) node) ≡ filter (is_of_node node) (filter (is_on_line line) done) =
    λ node lt. ap (λ (es : List Entry). filter (is_on_line line) es) (log_of-logs_of done node lt) ∙ filter-filter (is_on_line line) (is_of_node node) done in
    record {
      entries = filter (is_on_line line) done;
      history = subst (λ (s : Stamped). IsHistory (filter (is_on_line line) done) zero_stamped s) (sym is) (line_history lines done line h);
      nodes = all-filter (λ e. e.node < MAX_NODES) (is_on_line line) done
          (all_weaker (λ e. (e.node < MAX_NODES) × (e.op.line < lines)) (λ e. e.node < MAX_NODES) (λ e range. range.0) done h.in_range);
      logged = own;
      serials = λ node lt. AllPairs-filter (λ x y. x.serial < y.serial) (is_on_line line) (log_of (logs_by_node done) node)
          (subst (λ (es : List Entry). AllPairs (λ x y. x.serial < y.serial) es) (sym (log_of-logs_of done node lt)) (h.rising node));
    }

pub oracle-lawful : (lines : ℕ) (script : List Issue) → AllByRecursion (IsInRange lines) script → Lawful (oracle_logs lines script) (oracle_last lines script)
oracle-lawful lines script range = λ line.
    let done = oracle_entries lines script in
    lawful_line (logs_by_node done) line (stamped_at (contents_left lines done) line) (length-map-range_with_len (λ n. filter (is_of_node n) done) 0 MAX_NODES)
    (traced_history lines done line (traced_all lines script [] range (traced_none lines)))
