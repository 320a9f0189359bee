-- A memory that logs each operation as it does it has the oracle's logs and last contents.
use Rattle.std.proofs.Common.{◌≡◌, ℕ, zero, suc, ◌+◌, ◌<◌, ◌≤◌, Bool, cond, eqb, List, [], ◌∷◌, ◌++◌, length, get_or, set, take, drop, replicate, refl}
use Rattle.std.proofs.{Common.{sym, ap, ◌∙◌, arith, inl, inr}, lemmas.Bool.{cases_eq, eq-eqb, ne_eqb}}
use Rattle.std.proofs.lemmas.List.{length-set, length-append, length-replicate, get_or-set_same, get_or-set_other, take-append-drop}
use Rattle.std.proofs.lemmas.List.Elements.{recursion_from_All, All-take}
use Rattle.std.proofs.lemmas.List.Sums.{length-filter, count_by-le-length, count_by_more_yes, sum_by-append}
use Rattle.std.proofs.lemmas.List.FromFn.{fill_by_all, get_or-map-range_with_len, length-map-range_with_len}
use Rattle.std.specs.{Prelude.{count_by, All}, List.{AllByRecursion}}
use Rattle.sci_words.specs.declared.{limits.TheConstants.{MAX_NODES}, operation.Op.{Op}, stamped.Stamped.{Stamped}}
use Rattle.sci_words.specs.{Operation.{is_maker}, Stamped.{after, zero_stamped, reply_of}}
use Rattle.sci_history.specs.declared.entry.Entry.{Entry}
use Rattle.sci_history.specs.{Memory.{line_at, stamped_at, words_of_lines, contents_after}, Placed.{log_of, is_of_node}}
use Rattle.sci_history.specs.Oracle.{Issue, IsInRange, makes_on, memory_of, entry_after, done_after, oracle_entries, logs_by_node, contents_left}
use Rattle.sci_history.specs.Oracle.{oracle_logs, oracle_last}
use Rattle.sci_history.proofs.Runs.{line_at-words_of_lines, same_stamped}
use Rattle.sci_history.proofs.Oracles.{Traced, IsNext, stamped_of, traced_none, traced_all, filter_push_yes, filter_push_no, count_push, log_of-logs_of}
use Rattle.sci_history.proofs.Oracles.{line_at-zero, own_stamped, other_stamped}

-- ---- the entries of one issue more

done_after-push : (lines : ℕ) (done : List Entry) (script : List Issue) (issue : Issue)
    → done_after lines done (script ++ issue ∷ []) ≡ done_after lines done script ++ entry_after lines (done_after lines done script) issue ∷ []
unfolding done_after
done_after-push lines done [] issue = refl
done_after-push lines done (first ∷ script) issue = done_after-push lines (done ++ entry_after lines done first ∷ []) script issue

length-done_after : (lines : ℕ) (done : List Entry) (script : List Issue) → length (done_after lines done script) ≡ length done + length script
unfolding done_after
length-done_after lines done [] = omega arith
length-done_after lines done (issue ∷ script) = grind (arith, length-append, length-done_after lines (done ++ entry_after lines done issue ∷ []) script)

logs_of-push : (done : List Entry) (entry : Entry) → entry.node < MAX_NODES
    → set (logs_by_node done) entry.node (log_of (logs_by_node done) entry.node ++ entry ∷ []) ≡ logs_by_node (done ++ entry ∷ [])
logs_of-push done entry lt = grind (
  arith,
  length-map-range_with_len,
  fill_by_all,
  length-set,
  cases_eq,
  get_or-set_same,
  log_of-logs_of,
  filter_push_yes,
  eq-eqb,
  get_or-set_other,
  filter_push_no,
  ne_eqb,
)

stamped_at-below : (lines : ℕ) (done : List Entry) (line : ℕ) → line < lines → stamped_at (contents_left lines done) line ≡ stamped_of lines done line
stamped_at-below lines done line lt = get_or-map-range_with_len (λ l. stamped_of lines done l) 0 lines line line zero_stamped lt (omega arith)

pub contents_of-push : (lines : ℕ) (done : List Entry) (entry : Entry) → Traced lines done → IsNext lines done entry → entry.op.line < lines
    → contents_after (contents_left lines done) entry.op ≡ contents_left lines (done ++ entry ∷ [])
contents_of-push lines done entry h next lt =
    let memory = contents_left lines done in
    let line = entry.op.line in
    let new = after (stamped_at memory line) entry.op in
    let long : length memory ≡ lines = length-map-range_with_len (λ l. stamped_of lines done l) 0 lines in
    fill_by_all (λ l. stamped_of lines (done ++ entry ∷ []) l) (set memory line new) lines zero_stamped (length-set memory line new ∙ long) (λ k below.
    elim (cases_eq k line) [
      | inl is ↦
          let own : stamped_at (set memory line new) k ≡ new =
          ap (stamped_at (set memory line new)) is ∙ get_or-set_same memory line new zero_stamped (omega arith) in
          own ∙ ap (λ s. after s entry.op) (stamped_at-below lines done line lt) ∙ sym (own_stamped lines done entry h next lt)
          ∙ ap (stamped_of lines (done ++ entry ∷ [])) (sym is)
      | inr other ↦
          get_or-set_other memory line k new zero_stamped other ∙ stamped_at-below lines done k below ∙ sym (other_stamped lines done entry k other)
    ])

-- ---- how far a run has come

pub record Ran (lines : ℕ) (script : List Issue) (logs : List (List Entry)) (memory : List Stamped) : Type 0 where
  pub logged : logs ≡ oracle_logs lines script
  pub left : memory ≡ oracle_last lines script

replicate_at : (lines line : ℕ) → stamped_at (replicate lines zero_stamped) line ≡ zero_stamped
replicate_at zero line = refl
replicate_at (suc lines) zero = refl
replicate_at (suc lines) (suc line) = replicate_at lines line

stamped_none : (lines line : ℕ) → stamped_of lines [] line ≡ zero_stamped
stamped_none lines line = same_stamped (stamped_of lines [] line) zero_stamped (line_at-zero lines line) refl

pub ran_none : (lines : ℕ) (logs : List (List Entry)) (memory : List Stamped) → logs ≡ replicate MAX_NODES [] → memory ≡ replicate lines zero_stamped
    → Ran lines [] logs memory
unfolding done_after
ran_none lines logs memory logs-are memory-is =
    record {
      logged = logs-are;
      left = memory-is ∙ fill_by_all (λ l. stamped_of lines [] l) (replicate lines zero_stamped) lines zero_stamped (length-replicate lines zero_stamped)
          (λ k below. replicate_at lines k ∙ sym (stamped_none lines k));
    }

pub ran_long : (lines : ℕ) (script : List Issue) (logs : List (List Entry)) (memory : List Stamped) → Ran lines script logs memory → length memory ≡ lines
ran_long lines script logs memory h = ap length h.left ∙ length-map-range_with_len (λ l. stamped_of lines (oracle_entries lines script) l) 0 lines

pub ran_version : (lines : ℕ) (script : List Issue) (logs : List (List Entry)) (memory : List Stamped) (line : ℕ) → line < lines → Ran lines script logs memory
    → (stamped_at memory line).version ≤ length script
ran_version lines script logs memory line lt h = grind (arith, stamped_at-below, count_by-le-length, length-done_after)

count_done : (lines node : ℕ) (done : List Entry) (script : List Issue)
    → count_by (is_of_node node) (done_after lines done script) ≡ count_by (is_of_node node) done + count_by (λ issue. eqb issue.0 node) script
unfolding done_after
count_done lines node done [] = omega arith
count_done lines node done (issue ∷ script) =
    let entry = entry_after lines done issue in
    let rest = count_done lines node (done ++ entry ∷ []) script in
    let more = count_push (is_of_node node) done entry in
    let split = sum_by-append (λ i. cond (eqb i.0 node) 1 0) (issue ∷ []) script in
    rest ∙ omega arith

pub ran_serial : (lines : ℕ) (script : List Issue) (logs : List (List Entry)) (memory : List Stamped) (node : ℕ) → node < MAX_NODES
    → Ran lines script logs memory → length (log_of logs node) ≡ count_by (λ issue. eqb issue.0 node) script
ran_serial lines script logs memory node lt h =
    let done = oracle_entries lines script in
    ap (λ (ls : List (List Entry)). length (log_of ls node)) h.logged ∙ ap length (log_of-logs_of done node lt) ∙ length-filter (is_of_node node) done
    ∙ (let all = count_done lines node [] script in omega arith)

same_entry : (a b : Entry) → a.node ≡ b.node → a.serial ≡ b.serial → a.op ≡ b.op → a.reply ≡ b.reply → a.version ≡ b.version → a ≡ b
same_entry a b node serial op reply version = grind arith

pub ran_step : (lines : ℕ) (script : List Issue) (issue : Issue) (logs : List (List Entry)) (memory : List Stamped) (entry : Entry)
    → Ran lines script logs memory → AllByRecursion (IsInRange lines) script → IsInRange lines issue → entry.node ≡ issue.0 → entry.op ≡ issue.1
    → entry.serial ≡ length (log_of logs entry.node) → entry.reply ≡ reply_of (line_at (words_of_lines memory) entry.op.line) entry.op
    → entry.version ≡ (stamped_at memory entry.op.line).version + cond (is_maker entry.op) 1 0
    → Ran lines (script ++ issue ∷ []) (set logs entry.node (log_of logs entry.node ++ entry ∷ [])) (contents_after memory entry.op)
ran_step lines script issue logs memory entry h range here node-is op-is serial reply version =
    let done = oracle_entries lines script in
    let traced = traced_all lines script [] range (traced_none lines) in
    let node : entry.node < MAX_NODES = rw node-is here.node in
    let line : entry.op.line < lines = rw op-is here.line in
    let stamped : stamped_at memory entry.op.line ≡ stamped_of lines done entry.op.line =
    ap (λ (m : List Stamped). stamped_at m entry.op.line) h.left ∙ stamped_at-below lines done entry.op.line line in
    let words : line_at (words_of_lines memory) entry.op.line ≡ line_at (memory_of lines done) entry.op.line =
    line_at-words_of_lines memory entry.op.line ∙ ap (λ (s : Stamped). s.line) stamped in
    let replied : entry.reply ≡ reply_of (line_at (memory_of lines done) entry.op.line) entry.op = reply ∙ ap (λ w. reply_of w entry.op) words in
    let versioned : entry.version ≡ count_by (makes_on entry.op.line) done + cond (is_maker entry.op) 1 0 =
    version ∙ ap (λ (s : Stamped). s.version + cond (is_maker entry.op) 1 0) stamped in
    let numbered : entry.serial ≡ count_by (is_of_node entry.node) done =
    serial ∙ ap (λ (ls : List (List Entry)). length (log_of ls entry.node)) h.logged ∙ ap length (log_of-logs_of done entry.node node)
    ∙ length-filter (is_of_node entry.node) done in
    let next : IsNext lines done entry = record { reply = replied; version = versioned; serial = numbered } in
    let is : entry ≡ entry_after lines done issue =
    same_entry entry (entry_after lines done issue) node-is (numbered ∙ ap (λ n. count_by (is_of_node n) done) node-is) op-is
    (replied ∙ ap (λ (o : Op). reply_of (line_at (memory_of lines done) o.line) o) op-is)
    (versioned ∙ ap (λ (o : Op). count_by (makes_on o.line) done + cond (is_maker o) 1 0) op-is) in
    let entries : oracle_entries lines (script ++ issue ∷ []) ≡ done ++ entry ∷ [] =
    done_after-push lines [] script issue ∙ ap (λ (e : Entry). done ++ e ∷ []) (sym is) in
    record {
      logged = ap (λ (ls : List (List Entry)). set ls entry.node (log_of ls entry.node ++ entry ∷ [])) h.logged ∙ logs_of-push done entry node
          ∙ ap logs_by_node (sym entries);
      left = ap (λ (m : List Stamped). contents_after m entry.op) h.left ∙ contents_of-push lines done entry traced next line
          ∙ ap (contents_left lines) (sym entries);
    }

-- ---- the bounds of a run

pub count-take : (p : Issue → Bool) (script : List Issue) (i : ℕ) → count_by p (take i script) ≤ count_by p script
count-take p script i =
    let split = sum_by-append (λ issue. cond (p issue) 1 0) (take i script) (drop i script) in
    let whole = ap (count_by p) (take-append-drop i script) in
    omega arith

pub range-take : (lines : ℕ) (script : List Issue) (i : ℕ) → All (IsInRange lines) script → AllByRecursion (IsInRange lines) (take i script)
range-take lines script i h = recursion_from_All (IsInRange lines) (take i script) (All-take (IsInRange lines) i script h)

pub fewer_logged : (lines limit : ℕ) (script : List Issue) (i : ℕ) (d : Issue) (logs : List (List Entry)) (memory : List Stamped) → i < length script
    → (get_or script i d).0 < MAX_NODES → Ran lines (take i script) logs memory → count_by (λ issue. eqb issue.0 (get_or script i d).0) script ≤ limit
    → length (log_of logs (get_or script i d).0) < limit
fewer_logged lines limit script i d logs memory here lt h few =
    let node = (get_or script i d).0 in
    let is = ran_serial lines (take i script) logs memory node lt h in
    let part = count-take (λ issue. eqb issue.0 node) script (i + 1) in
    let more = count_by_more_yes (λ issue. eqb issue.0 node) script i d here (eq-eqb node node refl) in
    omega arith
