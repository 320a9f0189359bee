-- The log of a node of a reached state, by itself.
use Rattle.std.proofs.Common.{◌≡◌, ℕ, ◌<◌, ◌≤◌, List, [], ◌∷◌, sym, ap, subst, ◌∙◌, arith}
use Rattle.std.proofs.lemmas.List.{Elements.{All-from_recursion}, Kept.{AllPairs-cons, AllPairs-filter}}
use Rattle.std.specs.{Prelude.{IsTrue, AllPairs, filter}, List.{AllByRecursion}}
use Rattle.sci_words.specs.{declared.stamped.Stamped.{Stamped}, Stamped.{after}}
use Rattle.sci_history.specs.{declared.entry.Entry.{Entry}, History.{IsHistory}}
use Rattle.sci_history.specs.Placed.{is_making, is_of_node, is_on_line}
use Rattle.sci_history.proofs.{Histories.{makers-after, versions-after}, Order.{all_both}}
use Rattle.sci_core.specs.{Node.{NodeOf}, Core.{Core, node_at}, Reached.{IsReached}}
use Rattle.sci_core.proofs.{ReachedLaws.{has_history, log_at}, WellFormed.WellFormedSteps.{reachable}}
use Rattle.sci_lanes.specs.{declared.view.Part.{Part}, Shown.{me_of}, Telling.{IsShown}}
use Rattle.sci_station.specs.OneLog.{IsOneLog}

-- a later entry of a line's history
abbrev HasLaterVersion : Entry → Entry → Type 0
HasLaterVersion x y = (x.version ≤ y.version) × (IsTrue (is_making y) → x.version < y.version)

later_versions : (entries : List Entry) (old new : Stamped) → IsHistory entries old new → AllPairs HasLaterVersion entries
later_versions [] old new h = λ i j d lt long. absurd (omega arith)
later_versions (entry ∷ entries) old new h =
    let mid = after old entry.op in
    let all : AllByRecursion (λ (e : Entry). (mid.version ≤ e.version) × (IsTrue (is_making e) → mid.version < e.version)) entries =
    all_both (λ (e : Entry). mid.version ≤ e.version) (λ (e : Entry). IsTrue (is_making e) → mid.version < e.version) entries
    (versions-after entries mid new h.2) (makers-after entries mid new h.2) in
    let here : AllByRecursion (HasLaterVersion entry) entries =
    subst (λ (v : ℕ). AllByRecursion (λ (e : Entry). (v ≤ e.version) × (IsTrue (is_making e) → v < e.version)) entries) (sym h.1) all in
    AllPairs-cons HasLaterVersion entry entries (All-from_recursion (HasLaterVersion entry) entries here) (later_versions entries mid new h.2)

log_of_one : (core : Core) (n : ℕ) → IsReached core → n < core.size.nodes → IsOneLog (node_at core n).log
log_of_one core n reached some line =
    let few = reached.size.extent.few_nodes in
    let lt : n < 16 = omega arith in
    let history = has_history core (reachable core reached) line few in
    let versions = AllPairs-filter HasLaterVersion (is_of_node n) history.entries (later_versions history.entries _ _ history.history) in
    let log = log_at core n lt in
    let versions_here : AllPairs HasLaterVersion (filter (is_on_line line) (node_at core n).log) =
    subst (λ (es : List Entry). AllPairs HasLaterVersion (filter (is_on_line line) es)) log
    (subst (λ (es : List Entry). AllPairs HasLaterVersion es) (sym (history.logged n lt)) versions) in
    let serials_here : AllPairs (λ x y. x.serial < y.serial) (filter (is_on_line line) (node_at core n).log) =
    subst (λ (es : List Entry). AllPairs (λ x y. x.serial < y.serial) (filter (is_on_line line) es)) log (history.serials n lt) in
    λ i j d before long. (
    let v = versions_here i j d before long in
    record { serial = serials_here i j d before long; version = v.0; maker = v.1 })

pub one_log : (part : Part) (log : List Entry) → IsShown part → log ≡ part.node.log → IsOneLog log
one_log part log s is = subst IsOneLog (ap (λ (m : NodeOf). m.log) s.here ∙ sym is) (log_of_one s.core (me_of part) s.reached s.some_node)
