-- What a loop over a line's entries has found so far.
use Rattle.std.proofs.Common.{◌≡◌, ℕ, ◌+◌, ◌<◌, ◌≤◌, Bool, true, false, cond, List, [], ◌∷◌, ◌++◌, length, get_or, take, drop, Some, None, refl, sym, ap}
use Rattle.std.proofs.Common.{◌∙◌, subst, add-one, ◌-◌, set, arith}
use Rattle.std.proofs.lemmas.List.{take_more, length-map, get_or-map, get_or_default, get_or-set_same, get_or-set_other}
use Rattle.std.proofs.Math.Seq.{drop-cons}
use denote.Ref.{Bor}
use Rattle.std.specs.{Prelude.{All, IsTrue}, List.{filter, list_any}}
use Rattle.std.proofs.{Common.{◌||◌}, lemmas.{Bool.{cases_eq, eq-eqb, ne_eqb}, List.{append-nil}}}
use Rattle.std.proofs.lemmas.List.{Folds.{list_any-append}, Elements.{filter-append, All-from_recursion}}
use Rattle.sci_words.specs.{Stamped.{line_after}, declared.operation.Act.TheVariants.{Load}}
use Rattle.sci_words.specs.declared.operation.Reply.TheVariants.{Stored}
use Rattle.sci_history.specs.Placed.{is_making, makes, is_of_node}
use Rattle.sci_history.specs.Audit.{last_entry, words_after, entries_of, first_failing, is_version_missing}
use Rattle.sci_history.specs.declared.entry.Entry.{Entry}
use Rattle.sci_history.proofs.{Order.{filter_yes, filter_no}, AuditOrders.{last_of-push}}
use Rattle.sci_history.proofs.{AuditVersions.{none_fail, versions_within}, AuditRuns.{words_after-push}}

abbrev pub no_entry : Entry
no_entry = record { node = 0; serial = 0; op = record { line = 0; word = 0; act = Load }; reply = Stored; version = 0 }

abbrev pub no_ref : Bor Entry
no_ref = record { ref_ptr = (0, 0); now = no_entry }

-- what a reference of a list points to, as the code reads it
abbrev pub entry_at : List (Bor Entry) → ℕ → Entry
entry_at refs n = (get_or refs n no_ref).now

-- the first that fails isn't among the first n
pub record FailsLater (fails : List Entry → Entry → Bool) (refs : List (Bor Entry)) (n : ℕ) : Type 0 where
  pub is : first_failing fails [] (entries_of refs) ≡ first_failing fails (take n (entries_of refs)) (drop n (entries_of refs))

next_or : (fails : List Entry → Entry → Bool) (entries : List Entry) (n : ℕ) (d : Entry) → n < length entries →
    first_failing fails (take n entries) (drop n entries) ≡ cond (fails (take n entries) (get_or entries n d)) (Some (get_or entries n d))
    (first_failing fails (take (n + 1) entries) (drop (n + 1) entries))
next_or fails entries n d lt = ap (first_failing fails (take n entries)) (drop-cons entries n d lt) ∙ rw (take_more entries n d lt, add-one) refl

pub entries_at : (refs : List (Bor Entry)) (n : ℕ) → n < length refs → get_or (entries_of refs) n no_entry ≡ entry_at refs n
entries_at refs n lt = get_or-map (λ ref. ref.now) refs n no_ref no_entry lt

next_of : (fails : List Entry → Entry → Bool) (refs : List (Bor Entry)) (n : ℕ) → n < length refs →
    first_failing fails (take n (entries_of refs)) (drop n (entries_of refs)) ≡ cond (fails (take n (entries_of refs)) (entry_at refs n))
    (Some (entry_at refs n)) (first_failing fails (take (n + 1) (entries_of refs)) (drop (n + 1) (entries_of refs)))
next_of fails refs n lt =
    let long : n < length (entries_of refs) = rw length-map lt in
    next_or fails (entries_of refs) n no_entry long ∙ rw (entries_at refs n lt) refl

pub take_entries_more : (refs : List (Bor Entry)) (n : ℕ) → n < length refs → take (n + 1) (entries_of refs) ≡ take n (entries_of refs) ++ entry_at refs n ∷ []
take_entries_more refs n lt =
    let long : n < length (entries_of refs) = rw length-map lt in
    take_more (entries_of refs) n no_entry long ∙ ap (λ (e : Entry). take n (entries_of refs) ++ e ∷ []) (entries_at refs n lt)

pub later_more : (fails : List Entry → Entry → Bool) (refs : List (Bor Entry)) (n : ℕ) → n < length refs
    → fails (take n (entries_of refs)) (entry_at refs n) ≡ false → FailsLater fails refs n → FailsLater fails refs (n + 1)
later_more fails refs n lt passes h = record { is = h.is ∙ next_of fails refs n lt ∙ rw passes refl }

pub later_here : (fails : List Entry → Entry → Bool) (refs : List (Bor Entry)) (n : ℕ) → n < length refs
    → fails (take n (entries_of refs)) (entry_at refs n) ≡ true → FailsLater fails refs n → Some (entry_at refs n) ≡ first_failing fails [] (entries_of refs)
later_here fails refs n lt here h = sym (h.is ∙ next_of fails refs n lt ∙ rw here refl)

pub all_at : (P : Entry → Type 0) (refs : List (Bor Entry)) (n : ℕ) → n < length refs → All P (entries_of refs) → P (entry_at refs n)
all_at P refs n lt h =
    let long : n < length (entries_of refs) = rw length-map lt in
    subst P (entries_at refs n lt) (h n no_entry long)

-- ---- a version twice

or_false : (b : Bool) → (b || false) ≡ b
or_false true = refl
or_false false = refl

pub made_more : (refs : List (Bor Entry)) (n version : ℕ) → n < length refs
    → list_any (makes version) (take (n + 1) (entries_of refs)) ≡ (list_any (makes version) (take n (entries_of refs)) || makes version (entry_at refs n))
made_more refs n version lt = grind (arith, take_entries_more, list_any-append, or_false)

-- the makers' versions among the first n are the marked ones, each with its mark one place below
abbrev pub HasMarked : List Bool → List (Bor Entry) → ℕ → ℕ → Type 0
HasMarked marks refs n makers = (below : ℕ) → below < makers → get_or marks below false ≡ list_any (makes (below + 1)) (take n (entries_of refs))

or_true : (b : Bool) → (b || true) ≡ true
or_true true = refl
or_true false = refl

marked_same : (marks : List Bool) (refs : List (Bor Entry)) (n below : ℕ) → n < length refs → makes (below + 1) (entry_at refs n) ≡ false
    → get_or marks below false ≡ list_any (makes (below + 1)) (take n (entries_of refs))
    → get_or marks below false ≡ list_any (makes (below + 1)) (take (n + 1) (entries_of refs))
marked_same marks refs n below lt other h = grind (arith, made_more, or_false)

-- a load leaves the marks
pub marked_load : (marks : List Bool) (refs : List (Bor Entry)) (n makers : ℕ) → n < length refs → is_making (entry_at refs n) ≡ false
    → HasMarked marks refs n makers → HasMarked marks refs (n + 1) makers
marked_load marks refs n makers lt load h = λ below low. marked_same marks refs n below lt (rw load refl) (h below low)

-- a maker sets its own
pub marked_maker : (marks : List Bool) (refs : List (Bor Entry)) (n makers : ℕ) → n < length refs → is_making (entry_at refs n) ≡ true → length marks ≡ makers
    → (1 ≤ (entry_at refs n).version) × ((entry_at refs n).version ≤ makers) → HasMarked marks refs n makers
    → HasMarked (set marks ((entry_at refs n).version - 1) true) refs (n + 1) makers
marked_maker marks refs n makers lt maker long within h =
    grind (arith, cases_eq, eq-eqb, get_or-set_same, made_more, or_true, ne_eqb, get_or-set_other, marked_same)

-- what is marked for a version, as the code reads it
pub mark_is : (marks : List Bool) (refs : List (Bor Entry)) (n makers version : ℕ) → length marks ≡ makers → (1 ≤ version) × (version ≤ makers)
    → HasMarked marks refs n makers → (d : Bool) → get_or marks (version - 1) d ≡ list_any (makes version) (take n (entries_of refs))
mark_is marks refs n makers version long within h d = grind (arith, get_or_default)

-- if no version is missing, a maker's is from 1 to the number of makers
pub maker_within : (refs : List (Bor Entry)) (n makers : ℕ) → n < length refs → first_failing (is_version_missing makers) [] (entries_of refs) ≡ None
    → is_making (entry_at refs n) ≡ true → (1 ≤ (entry_at refs n).version) × ((entry_at refs n).version ≤ makers)
maker_within refs n makers lt none maker =
    let within = versions_within makers [] (entries_of refs) (none_fail (is_version_missing makers) [] (entries_of refs) none) in (
      all_at (λ e. IsTrue (is_making e) → 1 ≤ e.version) refs n lt (All-from_recursion (λ e. IsTrue (is_making e) → 1 ≤ e.version) (entries_of refs) within.1)
          maker,
      all_at (λ e. e.version ≤ makers) refs n lt (All-from_recursion (λ e. e.version ≤ makers) (entries_of refs) within.0),
    )

-- ---- words

pub words_more : (refs : List (Bor Entry)) (n : ℕ) → n < length refs
    → words_after (take (n + 1) (entries_of refs)) ≡ line_after (words_after (take n (entries_of refs))) (entry_at refs n).op
words_more refs n lt = ap words_after (take_entries_more refs n lt) ∙ words_after-push (take n (entries_of refs)) (entry_at refs n)

-- ---- each node's latest entry

pub latest_own : (refs : List (Bor Entry)) (n node : ℕ) → n < length refs → (entry_at refs n).node ≡ node
    → last_entry None (filter (is_of_node node) (take (n + 1) (entries_of refs))) ≡ Some (entry_at refs n)
latest_own refs n node lt own = grind (arith, take_entries_more, filter-append, filter_yes, eq-eqb, last_of-push)

pub latest_other : (refs : List (Bor Entry)) (n node : ℕ) → n < length refs → ((entry_at refs n).node ≡ node → ⊥)
    → last_entry None (filter (is_of_node node) (take (n + 1) (entries_of refs))) ≡ last_entry None (filter (is_of_node node) (take n (entries_of refs)))
latest_other refs n node lt other = grind (arith, take_entries_more, filter-append, filter_no, ne_eqb, append-nil)
