-- One order of a window, and one of its relative logs.
use Rattle.std.proofs.Common.{◌≡◌, ℕ, List, [], ◌∷◌, map, refl, sym, ap, subst, ◌∙◌, arith, inl, inr}
use Rattle.std.proofs.lemmas.Bool.{cases_Bool, eq-eqb, eqb-true}
use Rattle.std.specs.List.{filter, AllByRecursion}
use Rattle.sci_words.specs.{declared.{stamped.Stamped.{Stamped}}, Stamped.{zero_stamped}}
use Rattle.sci_history.specs.{declared.entry.Entry.{Entry}, History.{IsHistory}, Lawful.{Lawful}, Memory.{stamped_at}}
use Rattle.sci_history.specs.{Placed.{is_of_node, is_on_line, log_of}, Sequential.{IsSequentialOrder}}
use Rattle.sci_history.proofs.Order.{all-passes, all_weaker, filter_no, filter_yes}
use Rattle.sci_windows.specs.{Order.{IsSequentialOrderFrom}, Relative.{relative_contents, relative_entry, relative_logs, relative_stamped}}
use Rattle.sci_windows.specs.Relative.{relative_to}
use Rattle.sci_windows.proofs.{Merges.{filter-mapped}, Relatives.{relative_at, to_relative}, Reductions.{history_back, log_at, on_one_line, relative_start}}
use Rattle.sci_windows.proofs.Verdicts.{IsWindow}

-- ---- two orders of the same logs, in which the nodes stand alike

heads : (x y : Entry) (xs ys : List Entry) → x ∷ xs ≡ y ∷ ys → x ≡ y
heads x y xs ys e = cc

tails : (x y : Entry) (xs ys : List Entry) → x ∷ xs ≡ y ∷ ys → xs ≡ ys
tails x y xs ys e = cc

head_nodes : (n m : ℕ) (ns ms : List ℕ) → n ∷ ns ≡ m ∷ ms → n ≡ m
head_nodes n m ns ms e = cc

tail_nodes : (n m : ℕ) (ns ms : List ℕ) → n ∷ ns ≡ m ∷ ms → ns ≡ ms
tail_nodes n m ns ms e = cc

pub one_order : (xs ys : List Entry) → map (λ (e : Entry). e.node) xs ≡ map (λ (e : Entry). e.node) ys
    → ((node : ℕ) → filter (is_of_node node) xs ≡ filter (is_of_node node) ys) → xs ≡ ys
one_order [] [] nodes own = refl
one_order [] (y ∷ ys) nodes own = absurd cc
one_order (x ∷ xs) [] nodes own = absurd cc
one_order (x ∷ xs) (y ∷ ys) nodes own =
    let n = x.node in
    let here : n ≡ y.node = head_nodes x.node y.node (map (λ (e : Entry). e.node) xs) (map (λ (e : Entry). e.node) ys) nodes in
    let mine : x ∷ filter (is_of_node n) xs ≡ y ∷ filter (is_of_node n) ys =
    sym (filter_yes (is_of_node n) x xs (eq-eqb x.node n refl)) ∙ (own n ∙ filter_yes (is_of_node n) y ys (eq-eqb y.node n (sym here))) in
    let same : x ≡ y = heads x y (filter (is_of_node n) xs) (filter (is_of_node n) ys) mine in
    let rest : xs ≡ ys = one_order xs ys (tail_nodes x.node y.node (map (λ (e : Entry). e.node) xs) (map (λ (e : Entry). e.node) ys) nodes)
    (λ node. elim (cases_Bool (is_of_node node x)) [
      | inl yes_ ↦
          let whole : x ∷ filter (is_of_node node) xs ≡ y ∷ filter (is_of_node node) ys =
          sym (filter_yes (is_of_node node) x xs yes_)
          ∙ (own node ∙ filter_yes (is_of_node node) y ys (ap (is_of_node node) (sym same) ∙ yes_)) in
          tails x y (filter (is_of_node node) xs) (filter (is_of_node node) ys) whole
      | inr no_ ↦
          sym (filter_no (is_of_node node) x xs no_)
          ∙ (own node ∙ filter_no (is_of_node node) y ys (ap (is_of_node node) (sym same) ∙ no_))
    ]) in
    ap (λ (e : Entry). e ∷ xs) same ∙ ap (λ (es : List Entry). y ∷ es) rest

-- ---- between a window and its relative logs

on_line_all : (line : ℕ) (es : List Entry) → AllByRecursion (λ e. e.op.line ≡ line) (filter (is_on_line line) es)
on_line_all line es = grind (arith, all_weaker, eqb-true, all-passes)

filtered : (first : List Stamped) (line : ℕ) (es : List Entry)
    → filter (is_on_line line) (map (relative_entry first) es) ≡ map (relative_to (stamped_at first line)) (filter (is_on_line line) es)
filtered first line es = grind (arith, filter-mapped, on_one_line, on_line_all)

pub to_order : (logs : List (List Entry)) (first last : List Stamped) (order : List Entry) → IsWindow logs first last
    → IsSequentialOrderFrom logs first last order
    → IsSequentialOrder (relative_logs first logs) (relative_contents first last) (map (relative_entry first) order)
to_order logs first last order w is = record {
  logged = λ node.
      filter-mapped (relative_entry first) (is_of_node node) (λ e. refl) order
      ∙ (ap (map (relative_entry first)) (is.logged node) ∙ sym (log_at first logs node));
  histories = λ line.
      let from = stamped_at first line in
      let es = filter (is_on_line line) order in
      let run : IsHistory (map (relative_to from) es) (relative_stamped from from) (relative_stamped from (stamped_at last line)) =
      to_relative from es from (stamped_at last line) (is.histories line) (omega arith) refl in
      let begun : IsHistory (map (relative_to from) es) zero_stamped (relative_stamped from (stamped_at last line)) =
      subst (λ (s : Stamped). IsHistory (map (relative_to from) es) s (relative_stamped from (stamped_at last line)))
      (relative_start from (w.first_lines line)) run in
      let mapped : IsHistory (filter (is_on_line line) (map (relative_entry first) order)) zero_stamped (relative_stamped from (stamped_at last line)) =
      subst (λ (xs : List Entry). IsHistory xs zero_stamped (relative_stamped from (stamped_at last line))) (sym (filtered first line order)) begun in
      subst (IsHistory (filter (is_on_line line) (map (relative_entry first) order)) zero_stamped) (sym (relative_at first last line w.long)) mapped;
}

pub from_order : (logs : List (List Entry)) (first last : List Stamped) (order other : List Entry) → IsWindow logs first last
    → Lawful (relative_logs first logs) (relative_contents first last) → map (relative_entry first) order ≡ other
    → ((node : ℕ) → filter (is_of_node node) order ≡ log_of logs node)
    → IsSequentialOrder (relative_logs first logs) (relative_contents first last) other → IsSequentialOrderFrom logs first last order
from_order logs first last order other w lawful same own is = grind (arith, filtered, history_back)

mapped_nodes : (first : List Stamped) (es : List Entry) → map (λ (e : Entry). e.node) (map (relative_entry first) es) ≡ map (λ (e : Entry). e.node) es
mapped_nodes first [] = refl
mapped_nodes first (e ∷ es) = ap (λ (ns : List ℕ). e.node ∷ ns) (mapped_nodes first es)

-- an order that is taken from the logs in turn
pub order_back : (logs : List (List Entry)) (first last : List Stamped) (order other : List Entry) → IsWindow logs first last
    → Lawful (relative_logs first logs) (relative_contents first last)
    → map (λ (e : Entry). e.node) order ≡ map (λ (e : Entry). e.node) other
    → ((node : ℕ) → filter (is_of_node node) order ≡ log_of logs node)
    → IsSequentialOrder (relative_logs first logs) (relative_contents first last) other → IsSequentialOrderFrom logs first last order
order_back logs first last order other w lawful nodes own is =
    let same : map (relative_entry first) order ≡ other =
    one_order (map (relative_entry first) order) other (mapped_nodes first order ∙ nodes)
    (λ node. filter-mapped (relative_entry first) (is_of_node node) (λ e. refl) order
    ∙ (ap (map (relative_entry first)) (own node) ∙ (sym (log_at first logs node) ∙ sym (is.logged node)))) in
    from_order logs first last order other w lawful same own is
