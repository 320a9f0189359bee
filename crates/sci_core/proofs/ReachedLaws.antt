-- The laws of every reached state, and of every schedule.
use Rattle.std.proofs.Common.{◌≡◌, ℕ, ◌<◌, ◌≤◌, List, [], ◌++◌, filter, length, map, Option, refl, sym, ap, subst, ◌∙◌, arith, inl, inr}
use Rattle.std.proofs.lemmas.{List.{get_or_past, Elements.{All-from_recursion}}, Bool.{cases_lt}}
use Rattle.std.proofs.lemmas.List.FromFn.{get_or-map-range_with_len, length-map-range_with_len}
use Rattle.std.specs.{Prelude.{Result, Ok, Err, IfOk, None, Some, unwrap_or}, List.{All, AllPairs}}
use Rattle.sci_words.specs.declared.{limits.TheConstants.{MAX_NODES}, event.Event.{Event}, stamped.Stamped.{Stamped}}
use Rattle.sci_words.specs.Stamped.{zero_stamped}
use Rattle.sci_history.specs.{declared.entry.Entry.{Entry}, Audit.{IsWithin, AreWithin}}
use Rattle.sci_history.specs.{History.{IsHistory, HasHistory}, Lawful.{Lawful}}
use Rattle.sci_history.specs.Memory.{IsRun, zero_memory, stamped_at, words_of_lines}
use Rattle.sci_history.specs.Placed.{log_of, is_of_node, is_on_line, pair_of}
use Rattle.sci_history.specs.Sequential.{IsSequentialOrder, IsSequentiallyConsistent}
use Rattle.sci_history.proofs.{SequentialRuns.{histories_are_run}, Lawfulness.{lawful_line}}
use Rattle.sci_history.proofs.Order.{filter_none, filter-filter, all_weaker, all-filter}
use Rattle.sci_core.specs.{Node.{NodeOf, opening_node, no_node}, Core.{Core, node_at, stepping, step, opening, run}}
use Rattle.sci_core.specs.{Reached.{IsReachable, IsReached}, Done.{ChangesBy, LastChanges, made_by, done}}
use Rattle.sci_core.specs.{Outcome.{logs_of}, Coherent.{IsCoherent}, Shape.{HasShapes}, Sharing.{last_at, last_of}}
use Rattle.sci_core.specs.Network.{Happens, Move, Overtakes, entries_by, moved_from, overtaken}
use Rattle.sci_core.specs.{Tidy.{AreAccepted}, WellFormed.{IsWellFormed}, Size.{Size, IsSize}}
use Rattle.sci_core.proofs.WellFormed.WellFormedSteps.{step_well, run_well, move_well, moves_well, moved_happens, is_size, reachable, opened, any_well}
use Rattle.sci_core.proofs.Tidy.{TidyRuns.{opening_tidy, any_tidy, reached_tidy}, Transactions.{moves_alternate}}
use Rattle.sci_core.proofs.Shape.{ShapeSteps.{ShapedAt}, ShapeRuns.{each_mapped, move_follows, opening_shaped, step_follows}}
use Rattle.sci_core.proofs.Shape.{ShapeClauses.{last_is, shape_of}, StaleFronts.{any_stale}}
use Rattle.sci_core.proofs.History.Works.{HasSerials, opening_serials}
use Rattle.sci_core.proofs.History.ScheduleHistories.{IsKnown, RunLogged, entries_happen, moves_follow, moves_logged}

-- ---- from the opening on

-- what holds where moves lead, and of their entries, holds of a schedule, whose events are moves
by_moves : (P : Core → List Entry → Type 0) (size : Size) (schedule : List Event)
    → P (moved_from (opening size) (map Happens schedule)) (entries_by (opening size) (map Happens schedule)) → P (run size schedule) (done size schedule)
by_moves P size schedule holds = grind (arith, entries_happen, moved_happens)

-- a line's shape where moves lead, and its history
record Traced (size : Size) (moves : List Move) (line : ℕ) : Type 0 where
  pub contents : Stamped
  pub shaped : ShapedAt (moved_from (opening size) moves) line contents
  pub history : IsHistory (filter (is_on_line line) (entries_by (opening size) moves)) zero_stamped contents

traced : (size : Size) (moves : List Move) (line : ℕ) → IsSize size → line < size.lines → Traced size moves line
traced size moves line sizes inside =
    let trace = moves_follow (opening size) moves (opened size sizes) (opening_tidy size) line inside zero_stamped (opening_shaped size line) in
    record { contents = trace.0; shaped = trace.1; history = trace.2 }

-- the entries of moves on a line are a history of it, from zero words to its last contents
pub moves_history : (size : Size) (moves : List Move) (line : ℕ) → IsSize size → line < size.lines
    → IsHistory (filter (is_on_line line) (entries_by (opening size) moves)) zero_stamped (last_at (moved_from (opening size) moves) line)
moves_history size moves line sizes inside =
    let trace = traced size moves line sizes inside in
    let core = moved_from (opening size) moves in
    let well = (moves_well (opening size) moves (opened size sizes)).well in
    subst (IsHistory (filter (is_on_line line) (entries_by (opening size) moves)) zero_stamped) (sym (last_is core line trace.contents well trace.shaped))
    trace.history

pub schedule_history : (size : Size) (schedule : List Event) (line : ℕ) → IsSize size → line < size.lines
    → IsHistory (filter (is_on_line line) (done size schedule)) zero_stamped (last_at (run size schedule) line)
schedule_history size schedule line sizes inside =
    by_moves (λ core es. IsHistory (filter (is_on_line line) es) zero_stamped (last_at core line)) size schedule
    (moves_history size (map Happens schedule) line sizes inside)

-- ---- shape

pub any_shaped : (core : Core) → IsReachable core → (line : ℕ) → line < core.size.lines → (c : Stamped) × ShapedAt core line c
any_shaped core reached line inside =
    let trace = traced core.size reached.moves line reached.size inside in
    subst (λ (x : Core). (c : Stamped) × ShapedAt x line c) reached.leads (trace.contents, trace.shaped)

pub any_shapes : (core : Core) → IsReachable core → HasShapes core
any_shapes core reached line inside =
    let shaped = any_shaped core reached line inside in
    shape_of core line shaped.0 (any_well core reached) (any_tidy core reached) inside shaped.1 (any_stale core line reached inside)

pub reached_shapes : (core : Core) → IsReached core → HasShapes core
reached_shapes core reached = any_shapes core (reachable core reached)

-- no answer comes that its taker doesn't await
pub any_accepted : (core : Core) → IsReachable core → AreAccepted core
any_accepted core reached n line inside =
    let shaped = any_shaped core reached line inside in
    shaped.1.1.accepts n

pub reached_accepted : (core : Core) → IsReached core → AreAccepted core
reached_accepted core reached = any_accepted core (reachable core reached)

-- ---- the last contents

-- each operation takes effect on them at its own Perform
pub any_effects : (core : Core) (e : Event) → IsReachable core → LastChanges core (step core e) (made_by core e)
any_effects core e reached line inside =
    let well = any_well core reached in
    let shaped = any_shaped core reached line inside in
    let follows = step_follows core e well (any_tidy core reached) line inside shaped.0 shaped.1 in
    let was = last_is core line shaped.0 well shaped.1 in
    let now = last_is (step core e) line follows.0 (step_well core e well).well follows.1 in
    subst (λ (c : Stamped). ChangesBy (made_by core e) line c (last_at (step core e) line)) (sym was)
    (subst (ChangesBy (made_by core e) line shaped.0) (sym now) follows.2)

-- the network changes no contents
pub overtaken_effects : (core : Core) (place k : ℕ) → IsReachable core → LastChanges core (overtaken core place k) None
overtaken_effects core place k reached line inside =
    let well = any_well core reached in
    let shaped = any_shaped core reached line inside in
    let follows = move_follows core (Overtakes place k) well (any_tidy core reached) line inside shaped.0 shaped.1 in
    let was = last_is core line shaped.0 well shaped.1 in
    last_is (overtaken core place k) line follows.0 (move_well core (Overtakes place k) well).well follows.1 ∙ (follows.2 ∙ sym was)

pub reached_effects : (core : Core) (e : Event) → IsReached core → LastChanges core (step core e) (made_by core e)
reached_effects core e reached = any_effects core e (reachable core reached)

-- ---- logs

opening_log : (size : Size) (n : ℕ) → (node_at (opening size) n).log ≡ []
opening_log size n = each_mapped (λ (part : NodeOf). part.log ≡ []) (λ (m : ℕ). opening_node m size) no_node 0 size.nodes n (λ m. refl) refl

-- what moves log, and what a schedule does
moves_log : (size : Size) (moves : List Move) → IsSize size → RunLogged (opening size) (entries_by (opening size) moves) (moved_from (opening size) moves)
moves_log size moves sizes =
    let first = opening size in
    let serials : (n : ℕ) → HasSerials (node_at first n) =
    λ n. each_mapped HasSerials (λ (m : ℕ). opening_node m size) no_node 0 size.nodes n (λ m. opening_serials m size)
    (opening_serials 0 (record { nodes = 1; lines = 0; slots = 0; limit = 0 })) in
    moves_logged first moves (opened size sizes) serials

pub schedule_logged : (size : Size) (schedule : List Event) → IsSize size → RunLogged (opening size) (done size schedule) (run size schedule)
schedule_logged size schedule sizes = by_moves (λ core es. RunLogged (opening size) es core) size schedule (moves_log size (map Happens schedule) sizes)

-- each log has its own node's entries of the schedule
pub schedule_log : (size : Size) (schedule : List Event) (node : ℕ) → IsSize size
    → (node_at (run size schedule) node).log ≡ filter (is_of_node node) (done size schedule)
schedule_log size schedule node sizes = grind (arith, schedule_logged, opening_log)

pub log_at : (core : Core) (node : ℕ) → node < MAX_NODES → log_of (logs_of core) node ≡ (node_at core node).log
log_at core node lt = get_or-map-range_with_len (λ (n : ℕ). (node_at core n).log) 0 16 node node [] lt (omega arith)

pub log_beyond : (core : Core) (node : ℕ) → MAX_NODES ≤ node → log_of (logs_of core) node ≡ []
log_beyond core node past = get_or_past (logs_of core) node [] (omega arith)

-- the entries of the moves that lead to a state
abbrev pub entries_of : (core : Core) → IsReachable core → List Entry
entries_of core reached = entries_by (opening core.size) reached.moves

pub any_logged : (core : Core) (reached : IsReachable core) → RunLogged (opening core.size) (entries_of core reached) core
any_logged core reached = subst (RunLogged (opening core.size) (entries_of core reached)) reached.leads (moves_log core.size reached.moves reached.size)

pub reached_logged : (core : Core) (reached : IsReached core) → RunLogged (opening core.size) (entries_by (opening core.size) reached.moves) core
reached_logged core reached = any_logged core (reachable core reached)

-- each log of a reached state has its own node's entries of the schedule
pub any_log : (core : Core) (reached : IsReachable core) (node : ℕ) → (node_at core node).log ≡ filter (is_of_node node) (entries_of core reached)
any_log core reached node = (any_logged core reached).logs node
    ∙ ap (λ (es : List Entry). es ++ filter (is_of_node node) (entries_of core reached)) (opening_log core.size node)

pub reached_log : (core : Core) (reached : IsReached core) (node : ℕ)
    → (node_at core node).log ≡ filter (is_of_node node) (entries_by (opening core.size) reached.moves)
reached_log core reached node = any_log core (reachable core reached) node

-- and its entries on a line are the line's history
pub reached_history : (core : Core) (reached : IsReached core) (line : ℕ) → line < core.size.lines
    → IsHistory (filter (is_on_line line) (entries_by (opening core.size) reached.moves)) zero_stamped (last_at core line)
reached_history core reached line inside = grind (arith, moves_history, is_size)

pub last_within : (core : Core) (line : ℕ) → line < core.size.lines → stamped_at (last_of core) line ≡ last_at core line
last_within core line inside = get_or-map-range_with_len (last_at core) 0 core.size.lines line line zero_stamped inside (omega arith)

pub beyond_log : (core : Core) (node : ℕ) → IsWellFormed core → core.size.nodes ≤ node → (node_at core node).log ≡ []
beyond_log core node well past = let long = well.sizes.parts_long in ap (λ (part : NodeOf). part.log) (get_or_past core.parts node no_node (omega arith))

-- each line of the last contents, one that the machine doesn't have too, has the entries of the moves as its history
moves_line : (size : Size) (moves : List Move) (line : ℕ) → IsSize size
    → IsHistory (filter (is_on_line line) (entries_by (opening size) moves)) zero_stamped (stamped_at (last_of (moved_from (opening size) moves)) line)
moves_line size moves line sizes =
    grind (arith, moves_well, opened, cases_lt, last_within, moves_history, all_weaker, moves_log, filter_none, length-map-range_with_len, get_or_past)

schedule_line : (size : Size) (schedule : List Event) (line : ℕ) → IsSize size
    → IsHistory (filter (is_on_line line) (done size schedule)) zero_stamped (stamped_at (last_of (run size schedule)) line)
schedule_line size schedule line sizes =
    by_moves (λ core es. IsHistory (filter (is_on_line line) es) zero_stamped (stamped_at (last_of core) line)) size schedule
    (moves_line size (map Happens schedule) line sizes)

line_history : (core : Core) (reached : IsReachable core) (line : ℕ)
    → IsHistory (filter (is_on_line line) (entries_of core reached)) zero_stamped (stamped_at (last_of core) line)
line_history core reached line = grind (arith, moves_line)

line_logged : (core : Core) (reached : IsReachable core) (line node : ℕ) → node < MAX_NODES
    → filter (is_on_line line) (log_of (logs_of core) node) ≡ filter (is_of_node node) (filter (is_on_line line) (entries_of core reached))
line_logged core reached line node lt = grind (arith, any_logged, opening_log, log_at, filter-filter)

line_serials : (core : Core) (reached : IsReachable core) (line node : ℕ) → node < MAX_NODES
    → AllPairs (λ x y. x.serial < y.serial) (filter (is_on_line line) (log_of (logs_of core) node))
line_serials core reached line node lt =
    subst (λ (es : List Entry). AllPairs (λ x y. x.serial < y.serial) (filter (is_on_line line) es)) (sym (log_at core node lt))
    (((any_logged core reached).serials node).rising line)

pub has_history : (core : Core) (reached : IsReachable core) (line : ℕ) → core.size.nodes ≤ MAX_NODES
    → HasHistory (logs_of core) line (stamped_at (last_of core) line)
has_history core reached line few =
    let entries = entries_of core reached in
    let nodes = all_weaker (λ (entry : Entry). entry.node < core.size.nodes) (λ entry. entry.node < MAX_NODES) (λ entry lt. omega arith) entries
    (any_logged core reached).nodes in
    record {
      entries = filter (is_on_line line) entries;
      history = line_history core reached line;
      nodes = all-filter (λ (entry : Entry). entry.node < MAX_NODES) (is_on_line line) entries nodes;
      logged = λ node lt. line_logged core reached line node lt;
      serials = λ node lt. line_serials core reached line node lt;
    }

-- the logs are lawful with the last contents
pub any_lawful : (core : Core) → IsReachable core → core.size.nodes ≤ MAX_NODES → Lawful (logs_of core) (last_of core)
any_lawful core reached few line = lawful_line (logs_of core) line (stamped_at (last_of core) line) refl (has_history core reached line few)

pub reached_lawful : (core : Core) → IsReached core → Lawful (logs_of core) (last_of core)
reached_lawful core reached = any_lawful core (reachable core reached) reached.size.extent.few_nodes

-- every entry is on one of the machine's lines, and on a word of it
pub reached_within : (core : Core) → IsReached core → AreWithin core.size.lines (logs_of core)
reached_within core reached node =
    let entries = entries_by (opening core.size) reached.moves in
    let logged = reached_logged core reached in
    let log : (node_at core node).log ≡ filter (is_of_node node) entries =
    logged.logs node ∙ ap (λ (es : List Entry). es ++ filter (is_of_node node) entries) (opening_log core.size node) in
    elim (cases_lt node MAX_NODES) [
      | inl lt ↦ subst (All (IsWithin core.size.lines)) (sym (log_at core node lt ∙ log))
          (All-from_recursion (IsWithin core.size.lines) (filter (is_of_node node) entries)
          (all-filter (IsWithin core.size.lines) (is_of_node node) entries
          (all_weaker (IsKnown core.size.lines) (IsWithin core.size.lines) (λ entry h. h.0) entries logged.known)))
      | inr past ↦ subst (All (IsWithin core.size.lines)) (sym (log_beyond core node past)) (All-from_recursion (IsWithin core.size.lines) [] tt)
    ]

-- ---- all lines together

-- the entries of moves are a run of the memory of all lines, and so are those of a schedule
pub any_run : (size : Size) (moves : List Move) → IsSize size
    → IsRun (map pair_of (entries_by (opening size) moves)) (zero_memory size.lines) (words_of_lines (last_of (moved_from (opening size) moves)))
any_run size moves sizes =
    let core = moved_from (opening size) moves in
    let same : core.size ≡ size = (moves_well (opening size) moves (opened size sizes)).same in
    let long : length (last_of core) ≡ size.lines = length-map-range_with_len (last_at core) 0 core.size.lines ∙ ap (λ (s : Size). s.lines) same in
    subst (λ (lines : ℕ). IsRun (map pair_of (entries_by (opening size) moves)) (zero_memory lines) (words_of_lines (last_of core))) long
    (histories_are_run (entries_by (opening size) moves) (last_of core) (λ line. moves_line size moves line sizes))

pub schedule_run : (size : Size) (schedule : List Event) → IsSize size
    → IsRun (map pair_of (done size schedule)) (zero_memory size.lines) (words_of_lines (last_of (run size schedule)))
schedule_run size schedule sizes =
    by_moves (λ core es. IsRun (map pair_of es) (zero_memory size.lines) (words_of_lines (last_of core))) size schedule
    (any_run size (map Happens schedule) sizes)

-- and make its logs sequentially consistent
pub schedule_order : (size : Size) (schedule : List Event) → IsSize size → size.nodes ≤ MAX_NODES
    → IsSequentialOrder (logs_of (run size schedule)) (last_of (run size schedule)) (done size schedule)
schedule_order size schedule sizes few =
    let core = run size schedule in
    let steps = run_well (opening size) schedule (opened size sizes) in
    let nodes : core.size.nodes ≡ size.nodes = ap (λ (s : Size). s.nodes) steps.same in
    record {
      logged = λ node. elim (cases_lt node MAX_NODES) [
        | inl lt ↦ sym (log_at core node lt ∙ schedule_log size schedule node sizes)
        | inr past ↦ sym (schedule_log size schedule node sizes) ∙ (beyond_log core node steps.well (omega arith) ∙ sym (log_beyond core node past))
      ];
      histories = λ line. schedule_line size schedule line sizes;
    }

-- the entries of the moves that lead to a state are one order of its logs
pub any_order : (core : Core) (reached : IsReachable core) → core.size.nodes ≤ MAX_NODES
    → IsSequentialOrder (logs_of core) (last_of core) (entries_of core reached)
any_order core reached few = grind (arith, cases_lt, log_at, any_log, beyond_log, any_well, log_beyond, line_history)

pub reached_order : (core : Core) (reached : IsReached core)
    → IsSequentialOrder (logs_of core) (last_of core) (entries_by (opening core.size) reached.moves)
reached_order core reached = any_order core (reachable core reached) reached.size.extent.few_nodes

pub reached_consistent : (core : Core) → IsReached core → IsSequentiallyConsistent (logs_of core) (last_of core)
reached_consistent core reached = (entries_by (opening core.size) reached.moves, reached_order core reached)

-- ---- all of them

pub reached_coherent : (core : Core) → IsReached core → IsCoherent core
reached_coherent core reached = record {
  reached = reached;
  tidy = reached_tidy core reached;
  accepted = reached_accepted core reached;
  alternates = λ n line some inside. moves_alternate core.size reached.moves n line (is_size core.size reached.size) some inside;
  shapes = reached_shapes core reached;
  explained = λ line inside. reached_history core reached line inside;
  logged = λ node. reached_log core reached node;
  within = reached_within core reached;
  lawful = reached_lawful core reached;
  sequential = reached_order core reached;
}

-- if an event was applied, or refused and nothing changed
pub applied_effects : {T E : Type 0} (result : Result T E) (old new : Core) (e : Event) → IsReached old → IfOk result (λ _. stepping old e ≡ Some new)
    → IfOk result (λ _. LastChanges old new (made_by old e))
applied_effects (Err fault) old new e reached done_ = tt
applied_effects (Ok x) old new e reached done_ =
    subst (λ (o : Option Core). LastChanges old (unwrap_or o old) (made_by old e)) done_ (reached_effects old e reached)
