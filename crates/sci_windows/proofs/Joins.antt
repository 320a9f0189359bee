-- Two windows that meet are one.
use Rattle.std.proofs.Common.{◌≡◌, ℕ, ◌<◌, List, [], ◌∷◌, ◌++◌, map, refl, sym, ap, subst, ◌∙◌, arith, inl, inr}
use Rattle.std.proofs.lemmas.List.{Elements.{filter-append}, FromFn.{get_or-map-range_with_len}}
use Rattle.std.proofs.Math.ListN.{get_or-map}
use Rattle.std.specs.List.{filter, AllByRecursion}
use Rattle.sci_words.specs.{declared.{limits.TheConstants.{MAX_NODES}, stamped.Stamped.{Stamped}}, Stamped.{after}}
use Rattle.sci_history.specs.{declared.entry.Entry.{Entry}, History.{IsHistory}, Memory.{stamped_at}, Seen.{IsAmong}}
use Rattle.sci_history.specs.Placed.{log_of, is_of_node, is_on_line}
use Rattle.sci_history.proofs.{Consequences.{among_whole}, Order.{all-append}}
use Rattle.sci_windows.specs.Window.{AreIssuedBefore, LawfulFrom, counted_on, counting_on, joined}
use Rattle.sci_windows.proofs.{Merges.{filter-mapped}, Pairs.{Rises, all_mapped, rises_append, rises_counted}}

history_append : (xs ys : List Entry) (old middle new : Stamped) → IsHistory xs old middle → IsHistory ys middle new → IsHistory (xs ++ ys) old new
history_append [] ys old middle new h k = subst (λ (s : Stamped). IsHistory ys s new) h k
history_append (x ∷ xs) ys old middle new h k = (h.0, h.1, history_append xs ys (after old x.op) middle new h.2 k)

joined_at : (a b : List (List Entry)) (node : ℕ) → node < MAX_NODES → log_of (joined a b) node ≡ log_of a node ++ log_of b node
joined_at a b node lt = get_or-map-range_with_len (λ (n : ℕ). log_of a n ++ log_of b n) 0 MAX_NODES node node [] lt (omega arith)

joined_on : (a b : List (List Entry)) (line node : ℕ) → node < MAX_NODES
    → filter (is_on_line line) (log_of (joined a b) node) ≡ filter (is_on_line line) (log_of a node) ++ filter (is_on_line line) (log_of b node)
joined_on a b line node lt = ap (filter (is_on_line line)) (joined_at a b node lt) ∙ filter-append (is_on_line line) (log_of a node) (log_of b node)

-- what holds of what is among some holds of each
pub all_from_among : (P : Entry → Type 0) (es : List Entry) → ((e : Entry) → IsAmong e es → P e) → AllByRecursion P es
all_from_among P [] h = tt
all_from_among P (e ∷ es) h = (h e (inl refl), all_from_among P es (λ x among. h x (inr among)))

below : (a b : List (List Entry)) (line node : ℕ) → AreIssuedBefore a b
    → AllByRecursion (λ (x : Entry). AllByRecursion (λ (y : Entry). x.serial < y.serial) (filter (is_on_line line) (log_of b node)))
    (filter (is_on_line line) (log_of a node))
below a b line node before =
    let on = is_on_line line in
    all_from_among (λ (x : Entry). AllByRecursion (λ (y : Entry). x.serial < y.serial) (filter on (log_of b node))) (filter on (log_of a node))
    (λ x in_a. all_from_among (λ (y : Entry). x.serial < y.serial) (filter on (log_of b node))
    (λ y in_b. before node x y (among_whole on x (log_of a node) in_a) (among_whole on y (log_of b node) in_b)))

pub windows_meet : (a b : List (List Entry)) (first middle last : List Stamped) → AreIssuedBefore a b → LawfulFrom a first middle → LawfulFrom b middle last
    → LawfulFrom (joined a b) first last
windows_meet a b first middle last before one two line =
    let h = one line in
    let k = two line in
    record {
      entries = h.entries ++ k.entries;
      history = history_append h.entries k.entries (stamped_at first line) (stamped_at middle line) (stamped_at last line) h.history k.history;
      nodes = all-append (λ e. e.node < MAX_NODES) h.entries k.entries h.nodes k.nodes;
      logged = λ node lt.
          joined_on a b line node lt
          ∙ (ap (λ (es : List Entry). es ++ filter (is_on_line line) (log_of b node)) (h.logged node lt)
          ∙ (ap (λ (es : List Entry). filter (is_of_node node) h.entries ++ es) (k.logged node lt)
          ∙ sym (filter-append (is_of_node node) h.entries k.entries)));
      serials = λ node lt. subst Rises (sym (joined_on a b line node lt))
          (rises_append (filter (is_on_line line) (log_of a node)) (filter (is_on_line line) (log_of b node)) (h.serials node lt) (k.serials node lt)
          (below a b line node before));
    }

-- ---- serials that go on

history_counted : (counts : ℕ → ℕ) (es : List Entry) (old new : Stamped) → IsHistory es old new → IsHistory (map (counted_on counts) es) old new
history_counted counts [] old new h = h
history_counted counts (e ∷ es) old new h = (h.0, h.1, history_counted counts es (after old e.op) new h.2)

counted_lined : (counts : ℕ → ℕ) (logs : List (List Entry)) (line node : ℕ)
    → filter (is_on_line line) (log_of (counting_on counts logs) node) ≡ map (counted_on counts) (filter (is_on_line line) (log_of logs node))
counted_lined counts logs line node =
    ap (filter (is_on_line line)) (get_or-map (map (counted_on counts)) logs node [])
    ∙ filter-mapped (counted_on counts) (is_on_line line) (λ e. refl) (log_of logs node)

pub windows_go_on : (counts : ℕ → ℕ) (logs : List (List Entry)) (first last : List Stamped) → LawfulFrom logs first last
    → LawfulFrom (counting_on counts logs) first last
windows_go_on counts logs first last lawful line =
    let h = lawful line in
    record {
      entries = map (counted_on counts) h.entries;
      history = history_counted counts h.entries (stamped_at first line) (stamped_at last line) h.history;
      nodes = all_mapped (counted_on counts) (λ e. e.node < MAX_NODES) (λ e. e.node < MAX_NODES) (λ e lt. lt) h.entries h.nodes;
      logged = λ node lt.
          counted_lined counts logs line node ∙ ap (map (counted_on counts)) (h.logged node lt)
          ∙ sym (filter-mapped (counted_on counts) (is_of_node node) (λ e. refl) h.entries);
      serials = λ node lt. subst Rises (sym (counted_lined counts logs line node))
          (subst (λ (es : List Entry). Rises (map (counted_on counts) es)) (sym (h.logged node lt))
          (rises_counted counts node h.entries (subst Rises (h.logged node lt) (h.serials node lt))));
    }
