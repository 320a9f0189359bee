-- Lawful logs have one end, and no load in them is stale.
use Rattle.std.proofs.Common.{◌≡◌, ℕ, zero, suc, ◌<◌, ◌≤◌, List, [], ◌∷◌, ◌++◌, map, refl, sym, ap, ◌∙◌, subst, arith}
use Rattle.std.proofs.lemmas.Bool.{and_parts, eqb-true}
use Rattle.std.specs.List.{filter, AllByRecursion}
use Rattle.sci_words.specs.declared.{limits.TheConstants.{MAX_NODES}, operation.{Op.{Op}, Reply.{Reply}}}
use Rattle.sci_words.specs.{declared.stamped.Stamped.{Stamped}, Stamped.{zero_stamped, reply_of}}
use Rattle.sci_history.specs.{declared.entry.Entry.{Entry}, Memory.{IsRun, line_at, memory_after}}
use Rattle.sci_history.specs.Placed.{log_of, is_of_node, is_on_line, makes, reads, on_line, placed, by_node_and_serial, by_version}
use Rattle.sci_history.specs.Lawful.{IsLawfulLine}
use Rattle.sci_history.proofs.Order.{IsInOrder, IsInOrder-filter, IsInOrder-same, all_weaker, all-append, all-passes}
use Rattle.sci_history.proofs.{Placement.{all-by_node_and_serial, by_node_and_serial-none}, LineRuns.{line_run-end}}
use Rattle.sci_history.proofs.Runs.{same_stamped}

-- ---- one end

pub one_end : (logs : List (List Entry)) (line : ℕ) (a b : Stamped) → IsLawfulLine logs line a → IsLawfulLine logs line b → a ≡ b
one_end logs line a b h k = grind (arith, same_stamped, line_run-end)

placed_none : (logs : List (List Entry)) (line : ℕ) → on_line line logs ≡ [] → placed logs line ≡ []
unfolding by_version
placed_none logs line e = rw (e, by_node_and_serial-none) refl

pub no_entry_end : (logs : List (List Entry)) (line : ℕ) (last : Stamped) → on_line line logs ≡ [] → IsLawfulLine logs line last → last ≡ zero_stamped
no_entry_end logs line last e h = grind (arith, placed_none, same_stamped)

-- ---- runs

pub run-append : (xs ys : List (Op × Reply)) (old new : List (List ℕ)) → IsRun (xs ++ ys) old new → (mid : List (List ℕ)) × IsRun xs old mid × IsRun ys mid new
run-append [] ys old new h = (old, refl, h)
run-append (x ∷ xs) ys old new h = grind (arith, run-append xs ys (memory_after old x.0) new h.1)

pub run-then : (xs ys : List (Op × Reply)) (old mid new : List (List ℕ)) → IsRun xs old mid → IsRun ys mid new → IsRun (xs ++ ys) old new
run-then [] ys old mid new h k = subst (λ (m : List (List ℕ)). IsRun ys m new) h k
run-then (x ∷ xs) ys old mid new h k = (h.0, run-then xs ys (memory_after old x.0) mid new h.1 k)

same_pair : (x y : Op × Reply) → x.0 ≡ y.0 → x.1 ≡ y.1 → x ≡ y
same_pair x y e f = grind arith

pub run-function : (xs ys : List (Op × Reply)) (old new other : List (List ℕ)) → map (λ x. x.0) xs ≡ map (λ y. y.0) ys → IsRun xs old new → IsRun ys old other
    → (xs ≡ ys) × (new ≡ other)
run-function [] [] old new other e h k = (refl, h ∙ sym k)
run-function [] (y ∷ ys) old new other e h k = absurd cc
run-function (x ∷ xs) [] old new other e h k = absurd cc
run-function (x ∷ xs) (y ∷ ys) old new other e h k =
    let op : x.0 ≡ y.0 = cc in
    let ops : map (λ x. x.0) xs ≡ map (λ y. y.0) ys = cc in
    let reply : x.1 ≡ y.1 = h.0 ∙ ap (λ o. reply_of (line_at old o.line) o) op ∙ sym k.0 in
    let rest = run-function xs ys (memory_after old x.0) new other ops h.1 (rw op k.1) in
    (ap (λ p. p ∷ xs) (same_pair x y op reply) ∙ ap (λ ps. y ∷ ps) rest.0, rest.1)

-- ---- no stale read

pub IsInOrder-append : {X : Type 0} (key : X → ℕ) (bound : ℕ) (xs ys : List X) → IsInOrder key xs → IsInOrder key ys → AllByRecursion (λ x. key x < bound) xs
    → AllByRecursion (λ y. bound ≤ key y) ys → IsInOrder key (xs ++ ys)
IsInOrder-append key bound [] ys h k low high = k
IsInOrder-append key bound (x ∷ xs) ys h k low high =
    let lt : key x < bound = low.0 in (
      all-append (λ y. key x ≤ key y) xs ys h.0 (all_weaker (λ y. bound ≤ key y) (λ y. key x ≤ key y) (λ y le. omega arith) ys high),
      IsInOrder-append key bound xs ys h.1 k low.1 high,
    )

group_at : (version : ℕ) (entries : List Entry)
    → AllByRecursion (λ e. e.version ≡ version) (by_node_and_serial (filter (makes version) entries) ++ by_node_and_serial (filter (reads version) entries))
group_at version entries = grind (arith, all-append, all-by_node_and_serial, all_weaker, eqb-true, and_parts, all-passes)

by_version-below : (bound : ℕ) (entries : List Entry) → AllByRecursion (λ e. e.version < bound) (by_version bound entries)
unfolding by_version
by_version-below zero entries = tt
by_version-below (suc version) entries = grind (arith, all-append, all_weaker, group_at, by_version-below version entries)

by_version-in_order : (bound : ℕ) (entries : List Entry) → IsInOrder (λ e. e.version) (by_version bound entries)
unfolding by_version
by_version-in_order zero entries = tt
by_version-in_order (suc version) entries =
    let group = by_node_and_serial (filter (makes version) entries) ++ by_node_and_serial (filter (reads version) entries) in
    IsInOrder-append (λ e. e.version) version (by_version version entries) group (by_version-in_order version entries)
    (IsInOrder-same (λ e. e.version) version group (group_at version entries)) (by_version-below version entries)
    (all_weaker (λ e. e.version ≡ version) (λ e. version ≤ e.version) (λ e is. omega arith) group (group_at version entries))

all-at : (P : Entry → Type 0) (before after : List Entry) (entry : Entry) → AllByRecursion P (before ++ entry ∷ after) → P entry
all-at P [] after entry h = h.0
all-at P (first ∷ before) after entry h = all-at P before after entry h.1

before_in_order : (before after : List Entry) (entry : Entry) → IsInOrder (λ e. e.version) (before ++ entry ∷ after)
    → AllByRecursion (λ e. e.version ≤ entry.version) before
before_in_order [] after entry h = tt
before_in_order (first ∷ before) after entry h = (all-at (λ e. first.version ≤ e.version) before after entry h.0, before_in_order before after entry h.1)

pub not_stale : (logs : List (List Entry)) (line node : ℕ) (last : Stamped) (before after : List Entry) (entry : Entry) → node < MAX_NODES
    → IsLawfulLine logs line last → filter (is_on_line line) (log_of logs node) ≡ before ++ entry ∷ after
    → AllByRecursion (λ e. e.version ≤ entry.version) before
not_stale logs line node last before after entry lt h is =
    let kept = (h.order node lt).order in
    let ordered : IsInOrder (λ e. e.version) (filter (is_of_node node) (placed logs line)) =
    IsInOrder-filter (λ e. e.version) (is_of_node node) (placed logs line) (by_version-in_order _ (on_line line logs)) in
    before_in_order before after entry (subst (λ (es : List Entry). IsInOrder (λ e. e.version) es) (kept ∙ is) ordered)
