-- Logs put in serial order: what stays, and what stands where.
use Rattle.std.proofs.Common.{◌≡◌, ℕ, ◌<◌, Bool, List, [], length, get_or, filter, refl, sym, ap, ◌∙◌, arith}
use Rattle.std.proofs.lemmas.List.{ext_get_or, length-map, Elements.{All-from_recursion, recursion_from_All}}
use Rattle.std.proofs.Math.ListN.{get_or-map}
use Rattle.std.specs.Prelude.{All}
use Rattle.sci_words.specs.declared.{limits.TheConstants.{MAX_NODES}, stamped.Stamped.{Stamped}}
use Rattle.sci_history.specs.{declared.entry.Entry.{Entry}, Audit.{AreWithin, IsWithin}, Lawful.{Lawful}}
use Rattle.sci_history.specs.Placed.{AreOwn, in_serial_order, log_of, is_on_line, on_line, placed, above_serials, in_order}
use Rattle.sci_history.specs.Sequential.{AreInProgramOrder, by_serial}
use Rattle.sci_history.proofs.Order.{IsInOrder, all-filter, all-in_order, filter-in_order, in_order-ordered}
use Rattle.sci_history.proofs.Placement.{above_serials-above, in_order_from_rising, on_line-logs}
use Rattle.sci_history.proofs.Sorting.{in_order-bound}

-- what holds of each entry of a log
pub all_sorted : (P : Entry → Type 0) (log : List Entry) → All P log → All P (in_serial_order log)
all_sorted P log h = All-from_recursion P (in_serial_order log) (all-in_order P (λ e. e.serial) (above_serials log) log (recursion_from_All P log h))

-- what passes a test is sorted by itself
pub filter-sorted : (p : Entry → Bool) (log : List Entry) → filter p (in_serial_order log) ≡ in_serial_order (filter p log)
filter-sorted p log = grind (arith, all-filter, above_serials-above, filter-in_order, in_order-bound)

-- entries whose serials don't fall stay
pub sorted_stays : (log : List Entry) → IsInOrder (λ e. e.serial) log → in_serial_order log ≡ log
sorted_stays log ordered = in_order-ordered (λ e. e.serial) (above_serials log) log ordered (above_serials-above log (above_serials log) (omega arith))

-- no entries stay none
none_sorted : in_serial_order [] ≡ []
unfolding in_order
none_sorted = refl

-- a node's log
pub log_sorted : (logs : List (List Entry)) (node : ℕ) → log_of (by_serial logs) node ≡ in_serial_order (log_of logs node)
log_sorted logs node = ap (get_or (by_serial logs) node) (sym none_sorted) ∙ get_or-map in_serial_order logs node []

-- each has its own node's entries
pub own_sorted : (logs : List (List Entry)) → AreOwn logs → AreOwn (by_serial logs)
own_sorted logs own node = rw (log_sorted logs node) (all_sorted (λ e. e.node ≡ node) (log_of logs node) (own node))

-- and is within the same lines and words
pub within_sorted : (lines : ℕ) (logs : List (List Entry)) → AreWithin lines logs → AreWithin lines (by_serial logs)
within_sorted lines logs within node = rw (log_sorted logs node) (all_sorted (IsWithin lines) (log_of logs node) (within node))

-- logs that are sorted one by one
pub all_logs_sorted : (logs sorted : List (List Entry)) → length sorted ≡ length logs
    → ((node : ℕ) → node < length logs → log_of sorted node ≡ in_serial_order (log_of logs node)) → sorted ≡ by_serial logs
all_logs_sorted logs sorted long each =
    ext_get_or [] sorted (by_serial logs) (long ∙ sym (length-map logs in_serial_order))
    (λ node below. each node (omega arith) ∙ sym (log_sorted logs node))

-- logs in program order stay
pub issued_stay : (logs : List (List Entry)) → AreInProgramOrder logs → by_serial logs ≡ logs
issued_stay logs issued =
    sym (all_logs_sorted logs logs refl
    (λ node below. sym (sorted_stays (log_of logs node) (in_order_from_rising (λ e. e.serial) (log_of logs node) (issued node)))))

-- lawful logs stay lawful, since on each line the serials of a node rise
pub lawful_sorted : (logs : List (List Entry)) (last : List Stamped) → length logs ≡ MAX_NODES → Lawful logs last → Lawful (by_serial logs) last
lawful_sorted logs last sixteen lawful line =
    let was = lawful line in
    let sorted = by_serial logs in
    let same : (node : ℕ) → node < MAX_NODES → filter (is_on_line line) (log_of sorted node) ≡ filter (is_on_line line) (log_of logs node) =
    λ node below. ap (filter (is_on_line line)) (log_sorted logs node) ∙ filter-sorted (is_on_line line) (log_of logs node)
    ∙ sorted_stays (filter (is_on_line line) (log_of logs node))
    (in_order_from_rising (λ e. e.serial) (filter (is_on_line line) (log_of logs node)) (was.order node below).serials) in
    let whole : on_line line sorted ≡ on_line line logs =
    on_line-logs sorted line (placed logs line) (length-map logs in_serial_order ∙ sixteen) (λ node below. same node below ∙ sym (was.order node below).order)
    ∙ sym (on_line-logs logs line (placed logs line) sixteen (λ node below. sym (was.order node below).order)) in
    record {
      versions = rw whole was.versions;
      contents = record { run = rw whole was.contents.run; version = rw whole was.contents.version };
      order = λ node below. record {
        order = rw (whole, same node below) (was.order node below).order;
        serials = rw (same node below) (was.order node below).serials;
      };
    }
