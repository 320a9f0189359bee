-- The logs and the last contents of an oracle can be written as a text, which says them alone.
use Rattle.std.proofs.Common.{◌≡◌, ℕ, ◌+◌, ◌<◌, ◌≤◌, Bool, true, false, if◌then◌else◌, List, [], ◌∷◌, ◌++◌, length, filter, refl, sym, ap, subst, arith}
use Rattle.std.proofs.{Common.{length-append, inl, inr}, lemmas.{Bool.{cases_Bool}, List.Elements.{recursion_from_All}}}
use Rattle.std.proofs.lemmas.List.Sums.{length-filter}
use Rattle.std.specs.{Prelude.{count_by}, List.{AllByRecursion, flat_map}}
use Rattle.sci_words.specs.declared.limits.TheConstants.{MAX_NODES, MAX_OPERATIONS, MAX_INPUT_BYTES}
use Rattle.sci_words.specs.{declared.{operation.Op.{Op}, stamped.Stamped.{Stamped}}, Operation.{is_maker}}
use Rattle.sci_words.specs.Stamped.{after, zero_stamped}
use Rattle.sci_history.specs.{declared.entry.Entry.{Entry}, History.{IsHistory}, Placed.{is_of_node, is_on_line}}
use Rattle.sci_history.specs.Oracle.{Issue, IsInRange, entry_after, done_after, oracle_entries, oracle_logs, oracle_last}
use Rattle.sci_history.proofs.Order.{filter_yes, filter_no, all_weaker, all-append}
use Rattle.sci_history.proofs.Oracles.{oracle-lawful, stamped_of, traced_none, traced_all, log_of-logs_of}
use Rattle.sci_history.proofs.OracleSteps.{Ran, ran_serial}
use Rattle.sci_text.specs.Script.{ScriptValue, IsScript, IsWithin, machine_line, operation_line, script_text}
use Rattle.sci_text.specs.LogValue.{AreLogs, IsLogs}
use Rattle.sci_text.proofs.{LogLaws.{written_again}, ScriptText.{line_nonempty}}
use Rattle.scimem.specs.OracleAnswer.{oracle_text, IsOracleOf}
use Rattle.scimem.proofs.{Counts.{few_of_each}, DoneLogs.{AreDone, are_logs}}

-- ---- the entries

-- a history makes no more versions than it has entries
version_if : (makes : Bool) (v : ℕ) → (if makes then v + 1 else v) ≤ v + 1
version_if true v = omega arith
version_if false v = omega arith

version_step : (c : Stamped) (op : Op) → (after c op).version ≤ c.version + 1
version_step c op = version_if (is_maker op) c.version

history_short : (entries : List Entry) (c d : Stamped) → IsHistory entries c d → d.version ≤ c.version + length entries
history_short [] c d history = let same : d.version ≡ c.version = ap (λ (s : Stamped). s.version) history in omega arith
history_short (entry ∷ entries) c d history =
    let step = version_step c entry.op in
    let rest = history_short entries (after c entry.op) d history.2 in
    omega arith

filter_short : (p : Entry → Bool) (entries : List Entry) → length (filter p entries) ≤ length entries
filter_short p [] = omega arith
filter_short p (entry ∷ entries) =
    let rest = filter_short p entries in
    elim (cases_Bool (p entry)) [
      | inl yes_ ↦ subst (λ (es : List Entry). length es ≤ length (entry ∷ entries)) (sym (filter_yes p entry entries yes_)) (omega arith)
      | inr no_ ↦ subst (λ (es : List Entry). length es ≤ length (entry ∷ entries)) (sym (filter_no p entry entries no_)) (omega arith)
    ]

done_within : (nodes lines : ℕ) (done : List Entry) (script : List Issue) → AllByRecursion (λ entry. IsWithin nodes lines entry.node entry.op) done
    → AllByRecursion (λ p. IsWithin nodes lines p.0 p.1) script
    → AllByRecursion (λ entry. IsWithin nodes lines entry.node entry.op) (done_after lines done script)
unfolding done_after
done_within nodes lines done [] h each = h
done_within nodes lines done (issue ∷ script) h each =
    let entry = entry_after lines done issue in
    done_within nodes lines (done ++ entry ∷ []) script (all-append (λ entry. IsWithin nodes lines entry.node entry.op) done (entry ∷ []) h (each.0, tt)) each.1

done_long : (lines : ℕ) (done : List Entry) (script : List Issue) → length (done_after lines done script) ≡ length done + length script
unfolding done_after
done_long lines done [] = omega arith
done_long lines done (issue ∷ script) =
    let rest = done_long lines (done ++ entry_after lines done issue ∷ []) script in
    omega (arith, length-append done (entry_after lines done issue ∷ []))

-- each operation has a line, so a text has no more operations than bytes
lines_long : (operations : List (ℕ × Op)) → length operations ≤ length (flat_map (λ p. operation_line p.0 p.1) operations)
lines_long [] = omega arith
lines_long (p ∷ operations) = omega (
  arith,
  lines_long operations,
  line_nonempty p.0 p.1,
  length-append (operation_line p.0 p.1) (flat_map (λ q. operation_line q.0 q.1) operations),
)

text_long : (s : ScriptValue) → length s.operations ≤ length (script_text s)
text_long s = omega (arith, lines_long s.operations, length-append (machine_line s.nodes s.lines s.slots) (flat_map (λ p. operation_line p.0 p.1) s.operations))

in_range : (s : ScriptValue) → IsScript s → AllByRecursion (IsInRange s.lines) s.operations
in_range s good =
    let few = good.size.few_nodes in
    all_in_range s.operations (recursion_from_All (λ p. IsWithin s.nodes s.lines p.0 p.1) s.operations good.within)
  where
    all_in_range : (ops : List Issue) → AllByRecursion (λ p. IsWithin s.nodes s.lines p.0 p.1) ops → AllByRecursion (IsInRange s.lines) ops
    all_in_range [] h = tt
    all_in_range (p ∷ ops) h = let known = h.0.known_node in let few = good.size.few_nodes in
        (record { node = omega arith; line = h.0.known_line; word = h.0.known_word }, all_in_range ops h.1)

oracle_done : (s : ScriptValue) → IsScript s → length (script_text s) ≤ MAX_INPUT_BYTES
    → AreDone s.nodes s.lines (oracle_entries s.lines s.operations) (stamped_of s.lines (oracle_entries s.lines s.operations))
oracle_done s good few =
    let done = oracle_entries s.lines s.operations in
    let traced = traced_all s.lines s.operations [] (in_range s good) (traced_none s.lines) in
    let ran : Ran s.lines s.operations (oracle_logs s.lines s.operations) (oracle_last s.lines s.operations) = record { logged = refl; left = refl } in
    let short : (node : ℕ) → node < MAX_NODES → length (filter (is_of_node node) done) ≤ MAX_OPERATIONS = λ node lt.
    let count = ran_serial s.lines s.operations (oracle_logs s.lines s.operations) (oracle_last s.lines s.operations) node lt ran in
    let own = log_of-logs_of done node lt in
    omega (arith, count, ap length own, few_of_each s good node) in
    record {
      within = done_within s.nodes s.lines [] s.operations tt (recursion_from_All (λ p. IsWithin s.nodes s.lines p.0 p.1) s.operations good.within);
      histories = traced.histories;
      small = λ line inside.
          let on = filter (is_on_line line) done in
          let end = stamped_of s.lines done line in
          let made = history_short on zero_stamped end (traced.histories line inside) in
          omega (arith, done_long s.lines [] s.operations, text_long s, few, filter_short (is_on_line line) done);
      serials = λ node lt. all_weaker (λ (entry : Entry). entry.serial < count_by (is_of_node node) done) (λ entry. entry.serial < MAX_OPERATIONS)
          (λ entry below. omega (arith, below, short node lt, length-filter (is_of_node node) done)) (filter (is_of_node node) done) (traced.counted node);
      short = short;
    }

-- the oracle's logs and last contents of a script that was read can be written as a text
oracle_are_logs : (s : ScriptValue) → IsScript s → length (script_text s) ≤ MAX_INPUT_BYTES
    → AreLogs s.nodes (oracle_logs s.lines s.operations) (oracle_last s.lines s.operations)
oracle_are_logs s good few =
    let done = oracle_entries s.lines s.operations in
    let size = good.size in
    are_logs s.nodes s.lines done (stamped_of s.lines done) (oracle_logs s.lines s.operations) (oracle_last s.lines s.operations)
    (record { has_node = size.has_node; few_nodes = size.few_nodes; has_line = size.has_line; few_lines = size.few_lines })
    (oracle_done s good few)
    (record { sixteen = refl; logged = λ node lt. log_of-logs_of done node lt; left = refl })

-- ---- what an oracle writes

pub oracle_is : (text : List ℕ) (s : ScriptValue) → IsScript s → length (script_text s) ≤ MAX_INPUT_BYTES → text ≡ oracle_text s
    → IsOracleOf (script_text s) text
oracle_is text s good few written =
    let logs = oracle_logs s.lines s.operations in
    let last = oracle_last s.lines s.operations in
    record {
      script = s;
      good = good;
      read = refl;
      written = written;
      says = subst (λ (bytes : List ℕ). IsLogs bytes s.nodes logs last) (sym written) (written_again s.nodes logs last (oracle_are_logs s good few));
      lawful = oracle-lawful s.lines s.operations (in_range s good);
    }
