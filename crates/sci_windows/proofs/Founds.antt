-- What a look for an order of relative logs finds is found of the window.
use Rattle.std.proofs.Common.{◌≡◌, ℕ, suc, ◌*◌, ◌<◌, ◌≤◌, eqb, List, [], ◌∷◌, length, map, refl, sym, ap, subst, ◌∙◌, arith, inl, inr}
use Rattle.std.proofs.lemmas.{Bool.{cases_Bool, cases_lt, eq-eqb}, List.{get_or_past, length-map, Elements.{All-from_recursion}}}
use Rattle.std.specs.{Prelude.{All}, List.{filter, AllByRecursion}}
use denote.Ref.{Bor}
use Rattle.sci_words.specs.declared.{limits.TheConstants.{MAX_NODES}, stamped.Stamped.{Stamped}}
use Rattle.sci_history.specs.{declared.entry.Entry.{Entry}, declared.order_verdict.{OrderVerdict.{OrderVerdict}, Step.{Step}}}
use Rattle.sci_history.specs.{Audit.{entries_of}, Cycle.{HasNoShortcut, IsCycle, IsOrderVerdict}, Lawful.{Lawful}, Placed.{is_of_node, log_of}}
use Rattle.sci_history.specs.Sequential.{IsSequentialOrder, IsSequentiallyConsistent}
use Rattle.sci_history.proofs.Order.{filter_no, filter_yes}
use Rattle.sci_windows.specs.{Order.{AreOrderedFrom, IsSequentialOrderFrom}, Relative.{relative_contents, relative_entry, relative_logs}, Window.{LawfulFrom}}
use Rattle.sci_windows.specs.Order.{step_in}
use Rattle.sci_windows.proofs.{CyclesBack.{cycle_back, no_shortcut_back}, Orders.{order_back, to_order}, Reductions.{from_lawful, log_at, to_lawful}}
use Rattle.sci_windows.proofs.Verdicts.{IsWindow}

-- ---- the relative logs and contents by their names

pub named_verdict : (logs relative : List (List Entry)) (first last contents : List Stamped) (found : OrderVerdict) → relative ≡ relative_logs first logs
    → contents ≡ relative_contents first last → IsOrderVerdict relative contents found
    → IsOrderVerdict (relative_logs first logs) (relative_contents first last) found
named_verdict logs relative first last contents found is are h = grind arith

-- logs that can be ordered in a window can be as relative ones
pub ordered_relative : (logs relative : List (List Entry)) (first last contents : List Stamped) → IsWindow logs first last → relative ≡ relative_logs first logs
    → contents ≡ relative_contents first last → LawfulFrom logs first last × AreOrderedFrom logs first last
    → Lawful relative contents × IsSequentiallyConsistent relative contents
ordered_relative logs relative first last contents w is are both =
    let named : Lawful (relative_logs first logs) (relative_contents first last)
    × IsSequentiallyConsistent (relative_logs first logs) (relative_contents first last) = (
      to_lawful logs first last w.sixteen w.long w.first_lines both.0,
      (map (relative_entry first) both.1.0, to_order logs first last both.1.0 w both.1.1),
    ) in
    subst (λ (cs : List Stamped). Lawful relative cs × IsSequentiallyConsistent relative cs) (sym are)
    (subst (λ (ls : List (List Entry)). Lawful ls (relative_contents first last) × IsSequentiallyConsistent ls (relative_contents first last)) (sym is) named)

-- ---- the nodes of an order

pub node_list : (refs : List (Bor Entry)) → map (λ (r : Bor Entry). r.now.node) refs ≡ map (λ (e : Entry). e.node) (entries_of refs)
node_list [] = refl
node_list (r ∷ refs) = ap (λ (ns : List ℕ). r.now.node ∷ ns) (node_list refs)

some_left : (node : ℕ) (e : Entry) (es : List Entry) → e.node ≡ node → filter (is_of_node node) (e ∷ es) ≡ [] → ⊥
some_left node e es is none = grind (arith, filter_yes, eq-eqb)

none_left : (node : ℕ) (e : Entry) (es : List Entry) → filter (is_of_node node) (e ∷ es) ≡ [] → filter (is_of_node node) es ≡ []
none_left node e es none = grind (arith, cases_Bool, filter_yes, filter_no)

known_nodes : (es : List Entry) → ((node : ℕ) → MAX_NODES ≤ node → filter (is_of_node node) es ≡ [])
    → AllByRecursion (λ (node : ℕ). node < MAX_NODES) (map (λ (e : Entry). e.node) es)
known_nodes [] none = tt
known_nodes (e ∷ es) none = (
  elim (cases_lt e.node MAX_NODES) [
    | inl low ↦ low
    | inr past ↦ absurd (some_left e.node e es refl (none e.node past))
  ],
  known_nodes es (λ node past. none_left node e es (none node past)),
)

times_mapped : (node : ℕ) (es : List Entry)
    → length (filter (λ (other : ℕ). eqb other node) (map (λ (e : Entry). e.node) es)) ≡ length (filter (is_of_node node) es)
times_mapped node [] = refl
times_mapped node (e ∷ es) = elim (cases_Bool (eqb e.node node)) [
  | inl yes_ ↦ rw (yes_) (ap suc (times_mapped node es))
  | inr no_ ↦ rw (no_) (times_mapped node es)
]

pub nodes_known : (logs : List (List Entry)) (first last : List Stamped) (order : List Entry) (nodes : List ℕ) → length logs ≡ MAX_NODES
    → nodes ≡ map (λ (e : Entry). e.node) order → IsSequentialOrder (relative_logs first logs) (relative_contents first last) order
    → All (λ (node : ℕ). node < MAX_NODES) nodes
nodes_known logs first last order nodes sixteen are is =
    let long : length (relative_logs first logs) ≡ MAX_NODES = length-map logs (map (relative_entry first)) ∙ sixteen in
    subst (All (λ (node : ℕ). node < MAX_NODES)) (sym are)
    (All-from_recursion (λ (node : ℕ). node < MAX_NODES) (map (λ (e : Entry). e.node) order)
    (known_nodes order (λ node past. is.logged node ∙ get_or_past (relative_logs first logs) node [] (omega arith))))

pub nodes_each : (logs : List (List Entry)) (first last : List Stamped) (order : List Entry) (nodes : List ℕ)
    → nodes ≡ map (λ (e : Entry). e.node) order → IsSequentialOrder (relative_logs first logs) (relative_contents first last) order
    → (node : ℕ) → length (filter (λ (other : ℕ). eqb other node) nodes) ≡ length (log_of logs node)
nodes_each logs first last order nodes are is node =
    ap (λ (ns : List ℕ). length (filter (λ (other : ℕ). eqb other node) ns)) are
    ∙ (times_mapped node order ∙ (ap length (is.logged node ∙ log_at first logs node) ∙ length-map (log_of logs node) (relative_entry first)))

-- the nodes of an order, through the slices that hold them
pub nodes_from : (items refs : List (Bor Entry)) (made nodes : List ℕ) → refs ≡ items → made ≡ map (λ (r : Bor Entry). r.now.node) refs → nodes ≡ made
    → nodes ≡ map (λ (e : Entry). e.node) (entries_of items)
nodes_from items refs made nodes is of_refs are =
    are ∙ (of_refs ∙ (ap (map (λ (r : Bor Entry). r.now.node)) is ∙ node_list items))

-- ---- what is found

pub order_found : (logs : List (List Entry)) (first last : List Stamped) (order other : List Entry) → IsWindow logs first last
    → Lawful (relative_logs first logs) (relative_contents first last)
    → map (λ (e : Entry). e.node) order ≡ map (λ (e : Entry). e.node) other
    → ((node : ℕ) → filter (is_of_node node) order ≡ log_of logs node)
    → IsSequentialOrder (relative_logs first logs) (relative_contents first last) other
    → LawfulFrom logs first last × IsSequentialOrderFrom logs first last order
order_found logs first last order other w lawful nodes own is = grind (arith, from_lawful, order_back)

pub cycle_found : (logs : List (List Entry)) (first last : List Stamped) (steps made : List Step) → IsWindow logs first last
    → made ≡ map (step_in logs) steps
    → Lawful (relative_logs first logs) (relative_contents first last) × IsCycle (relative_logs first logs) steps × HasNoShortcut steps
    × (length steps ≤ 2 * MAX_NODES)
    → LawfulFrom logs first last × IsCycle logs made × HasNoShortcut made × (length made ≤ 2 * MAX_NODES)
cycle_found logs first last steps made w are h =
    let lawful = from_lawful logs first last w.own w.sixteen w.few w.long w.first_lines w.last_lines w.early h.0 in
    let long : length made ≡ length steps = ap length are ∙ length-map steps (step_in logs) in
    let few = h.3 in (
      lawful,
      subst (IsCycle logs) (sym are) (cycle_back logs first last steps w.sixteen lawful h.1),
      subst HasNoShortcut (sym are) (no_shortcut_back logs first last steps w.sixteen lawful h.1.entries h.2),
      omega arith,
    )
