-- When nothing is left, what is placed is an order; when nothing can be placed, each entry waits for another that is left.
use Rattle.std.proofs.Common.{◌≡◌, ℕ, zero, suc, ◌+◌, ◌<◌, ◌≤◌, Bool, true, false, eqb, List, [], ◌∷◌, ◌++◌, length, Some, None, refl, sym, ap, subst, ◌∙◌}
use Rattle.std.proofs.Common.{arith, inl, inr}
use Rattle.std.proofs.lemmas.Bool.{cases_Bool, cases_lt, eq-eqb, ne_eqb, eqb-true, lt-ltb, and_from, and_right, and_parts}
use Rattle.std.proofs.lemmas.List.{append-nil, get_or_past, Sums.{length-filter}}
use Rattle.std.specs.{Prelude.{count_by, ◌&&◌, not, if◌then◌else◌}, List.{filter, AllByRecursion}}
use Rattle.sci_words.specs.declared.{limits.TheConstants.{MAX_NODES}, stamped.Stamped.{Stamped}}
use Rattle.sci_words.specs.Stamped.{zero_stamped}
use Rattle.sci_history.specs.declared.entry.Entry.{Entry}
use Rattle.sci_history.specs.declared.order_verdict.Reason.TheVariants.{ReadsFrom, FromRead, Coherence}
use Rattle.sci_history.specs.{declared.placing.LineState.{LineState}, Audit.{AreWithin}, History.{IsHistory}}
use Rattle.sci_history.specs.{Lawful.{HasWholeVersions, Lawful}, Memory.{stamped_at}}
use Rattle.sci_history.specs.Placed.{log_of, AreOwn, is_of_node, is_on_line, is_making, makes, reads, maker_count, on_line, placed}
use Rattle.sci_history.specs.Placing.{CanFollow, state_of, all_of, line_reason, IsPlacing}
use Rattle.sci_history.specs.Sequential.{IsSequentialOrder}
use Rattle.sci_history.proofs.{AuditLines.{none_past}, Consequences.{placed_history}}
use Rattle.sci_history.proofs.Histories.{versions-within, makers-counted, maker_of, words_at-end}
use Rattle.sci_history.proofs.Order.{all_weaker, all-append}
use Rattle.sci_history.proofs.Placings.{once, count-cons, count-filter, taken_on, split_on, line_when, IsFront}
use Rattle.sci_history.proofs.Runs.{same_stamped}

-- ---- nothing is left

none_left : (rests : List (List Entry)) → ((node : ℕ) → log_of rests node ≡ []) → all_of rests ≡ []
none_left [] none = refl
none_left (rest ∷ rests) none = ap (λ (xs : List Entry). xs ++ all_of rests) (none zero) ∙ none_left rests (λ node. none (suc node))

-- as many of each kind are placed as there are
all_placed : (p : Entry → Bool) (line count : ℕ) (logs rests : List (List Entry)) (lines : List LineState) (order : List Entry)
    → ((node : ℕ) → log_of rests node ≡ []) → IsPlacing logs count lines rests order
    → count_by p (filter (is_on_line line) order) ≡ count_by p (on_line line logs)
all_placed p line count logs rests lines order none is =
    let split = split_on p line count logs rests lines order is in
    let gone : count_by p (on_line line rests) ≡ 0 = ap (λ (xs : List Entry). count_by p (filter (is_on_line line) xs)) (none_left rests none) in
    omega arith

empty : (entries : List Entry) → count_by (λ (e : Entry). true) entries ≡ 0 → entries ≡ []
empty [] e = refl
empty (x ∷ xs) e = let more = count-cons (λ (y : Entry). true) x xs in absurd (omega arith)

done_within : (logs rests : List (List Entry)) (last : List Stamped) (lines : List LineState) (order : List Entry) (line : ℕ) → AreOwn logs
    → length logs ≡ MAX_NODES → Lawful logs last → line < length last → ((node : ℕ) → log_of rests node ≡ [])
    → IsPlacing logs (length last) lines rests order → IsHistory (filter (is_on_line line) order) zero_stamped (stamped_at last line)
done_within logs rests last lines order line own sixteen lawful below none is =
    let state = state_of lines line in
    let now = line_when logs line state.version in
    let end = stamped_at last line in
    let history = (is.each line below).history in
    let made = makers-counted (filter (is_on_line line) order) zero_stamped now history in
    let counted = length-filter is_making (filter (is_on_line line) order) in
    let all = all_placed is_making line (length last) logs rests lines order none is in
    let version = (lawful line).contents.version in
    let same : state.version ≡ end.version = omega arith in
    let words = words_at-end (placed logs line) zero_stamped end state.version (placed_history logs line end own sixteen (lawful line)) (omega arith) in
    subst (IsHistory (filter (is_on_line line) order) zero_stamped) (same_stamped now end words same) history

done_beyond : (logs rests : List (List Entry)) (last : List Stamped) (lines : List LineState) (order : List Entry) (line : ℕ) → AreWithin (length last) logs
    → length last ≤ line → ((node : ℕ) → log_of rests node ≡ [])
    → IsPlacing logs (length last) lines rests order → IsHistory (filter (is_on_line line) order) zero_stamped (stamped_at last line)
done_beyond logs rests last lines order line within past none is =
    let logged : on_line line logs ≡ [] = none_past (length last) line logs within past in
    let all = all_placed (λ (e : Entry). true) line (length last) logs rests lines order none is in
    let gone : filter (is_on_line line) order ≡ [] = empty (filter (is_on_line line) order) (all ∙ ap (count_by (λ (e : Entry). true)) logged) in
    subst (λ (es : List Entry). IsHistory es zero_stamped (stamped_at last line)) (sym gone) (get_or_past last line zero_stamped past)

pub placing_done : (logs rests : List (List Entry)) (last : List Stamped) (lines : List LineState) (order : List Entry) → AreOwn logs → length logs ≡ MAX_NODES
    → Lawful logs last → AreWithin (length last) logs → ((node : ℕ) → log_of rests node ≡ [])
    → IsPlacing logs (length last) lines rests order → IsSequentialOrder logs last order
placing_done logs rests last lines order own sixteen lawful within none is = record {
  logged = λ node. sym (append-nil (filter (is_of_node node) order))
      ∙ (ap (λ (xs : List Entry). filter (is_of_node node) order ++ xs) (sym (none node)) ∙ is.logged node);
  histories = λ line. elim (cases_lt line (length last)) [
    | inl below ↦ done_within logs rests last lines order line own sixteen lawful below none is
    | inr past ↦ done_beyond logs rests last lines order line within past none is
  ];
}

-- ---- nothing can be placed

none_counted : (p : Entry → Bool) (entries : List Entry) → AllByRecursion (λ e. p e ≡ false) entries → count_by p entries ≡ 0
none_counted p [] all = refl
none_counted p (e ∷ entries) all = let first : once (p e) ≡ 0 = ap once all.0 in count-cons p e entries ∙ omega (arith, first, none_counted p entries all.1)

all_rests : (P : Entry → Type 0) (rests : List (List Entry)) → ((m : ℕ) → AllByRecursion P (log_of rests m)) → AllByRecursion P (all_of rests)
all_rests P [] all = tt
all_rests P (rest ∷ rests) all = all-append P rest (all_of rests) (all zero) (all_rests P rests (λ m. all (suc m)))

-- what would be a reason isn't left
none_waited : (p : Entry → Bool) (x : Entry) (rests : List (List Entry)) → ((y : Entry) → line_reason x y ≡ None → (is_on_line x.op.line y && p y) ≡ false)
    → ((m : ℕ) → AllByRecursion (λ y. line_reason x y ≡ None) (log_of rests m)) → count_by p (on_line x.op.line rests) ≡ 0
none_waited p x rests means none =
    let both = λ (y : Entry). is_on_line x.op.line y && p y in
    count-filter p (is_on_line x.op.line) (all_of rests)
    ∙ none_counted both (all_of rests)
    (all_weaker (λ (y : Entry). line_reason x y ≡ None) (λ y. both y ≡ false) means (all_of rests)
    (all_rests (λ (y : Entry). line_reason x y ≡ None) rests none))

-- one is left
one_left : (p : Entry → Bool) (rests : List (List Entry)) (n : ℕ) (e : Entry) (rest : List Entry) → n < length rests → log_of rests n ≡ e ∷ rest → p e ≡ true
    → 1 ≤ count_by p (on_line e.op.line rests)
one_left p rests n e rest lt front passes =
    let moved = taken_on p e.op.line rests n e rest lt front in
    let single : once (is_on_line e.op.line e && p e) ≡ 1 = ap once (and_from (is_on_line e.op.line e) (p e) (eq-eqb e.op.line e.op.line refl) passes) in
    omega arith

none_made : (entries : List Entry) (version : ℕ) → AllByRecursion (λ e. e.version < version) entries → count_by (makes version) entries ≡ 0
none_made entries version all = grind (arith, none_counted, all_weaker, and_right, eqb, ne_eqb)

-- ---- each reason, by what both entries are

reads_from : (x y : Entry) → is_making x ≡ false → is_on_line x.op.line y ≡ true → is_making y ≡ true → eqb y.version x.version ≡ true → line_reason x y ≡ None
    → ⊥
reads_from x y load on maker same none = let is : line_reason x y ≡ Some ReadsFrom = rw (on, load, maker, same) refl in cc

after_made : (x y : Entry) → is_making x ≡ true → is_on_line x.op.line y ≡ true → y.version < x.version → (line_reason x y ≡ None) → ⊥
after_made x y maker on lt none = let is : line_reason x y ≡ Some (if is_making y then Coherence else FromRead) =
    rw (on, maker, lt-ltb y.version x.version lt) refl in cc

-- a test that only what is a reason passes
fails_unless : (a b : Bool) → ((a ≡ true) → (b ≡ true) → ⊥) → (a && b) ≡ false
fails_unless true true h = absurd (h refl refl)
fails_unless true false h = refl
fails_unless false b h = refl

makes_at : (version : ℕ) (y : Entry) → makes version y ≡ true → (is_making y ≡ true) × (y.version ≡ version)
makes_at version y is = let both = and_parts (is_making y) (eqb y.version version) is in (both.0, eqb-true y.version version both.1)

reads_at : (version : ℕ) (y : Entry) → reads version y ≡ true → y.version ≡ version
reads_at version y is = eqb-true y.version version (and_parts (not (is_making y)) (eqb y.version version) is).1

no_maker_left : (x : Entry) (version : ℕ) → (is_making x ≡ true → version < x.version) → (is_making x ≡ false → version ≡ x.version) → (y : Entry)
    → line_reason x y ≡ None → (is_on_line x.op.line y && makes version y) ≡ false
no_maker_left x version above same y none = grind (arith, fails_unless, makes_at, cases_Bool, after_made, reads_from, eq-eqb)

no_load_left : (x : Entry) (version : ℕ) → is_making x ≡ true → version < x.version → (y : Entry) → line_reason x y ≡ None
    → (is_on_line x.op.line y && reads version y) ≡ false
no_load_left x version maker lt y none =
    fails_unless (is_on_line x.op.line y) (reads version y) (λ on reads_. let at = reads_at version y reads_ in after_made x y maker on (omega arith) none)

-- ---- an entry that can't be placed waits for one that is left

record Left (logs : List (List Entry)) (lines : List LineState) (rests : List (List Entry)) (order : List Entry) (count : ℕ) (x : Entry) : Type 0 where
  pub whole : HasWholeVersions (on_line x.op.line logs)
  pub below : x.op.line < count
  pub placing : IsPlacing logs count lines rests order
  pub waits : (m : ℕ) → AllByRecursion (λ y. line_reason x y ≡ None) (log_of rests m)

-- the maker of a version above the line's is left
maker_left : (logs : List (List Entry)) (lines : List LineState) (rests : List (List Entry)) (order : List Entry) (count : ℕ) (x : Entry) (version : ℕ)
    → Left logs lines rests order count x → (state_of lines x.op.line).version < version
    → version ≤ maker_count (on_line x.op.line logs) → count_by (makes version) (on_line x.op.line rests) ≡ 1
maker_left logs lines rests order count x version left above within =
    let line = x.op.line in
    let state = state_of lines line in
    let on = left.placing.each line left.below in
    let low = versions-within (filter (is_on_line line) order) zero_stamped (line_when logs line state.version) on.history in
    let none = none_made (filter (is_on_line line) order) version
    (all_weaker (λ (y : Entry). y.version ≤ state.version) (λ y. y.version < version) (λ y le. omega arith) (filter (is_on_line line) order) low) in
    let split = split_on (makes version) line count logs rests lines order left.placing in
    let one = left.whole.once version (omega arith) within in
    omega arith

not_same : (a b : ℕ) → (b < a → ⊥) → (a ≡ b → ⊥) → a < b
not_same a b low ne = elim (cases_lt a b) [ inl lt ↦ lt | inr past ↦ absurd (ne (elim (cases_lt b a) [ inl over ↦ absurd (low over) | inr le ↦ omega arith ])) ]

load_blocked : (logs : List (List Entry)) (lines : List LineState) (rests : List (List Entry)) (order : List Entry) (count n : ℕ) (x : Entry)
    (rest : List Entry) → Left logs lines rests order count x → n < length rests → log_of rests n ≡ x ∷ rest
    → x.version ≤ maker_count (on_line x.op.line logs) → is_making x ≡ false → (x.version ≡ (state_of lines x.op.line).version → ⊥) → ⊥
load_blocked logs lines rests order count n x rest left lt front within load ne =
    let state = state_of lines x.op.line in
    elim (cases_lt state.version x.version) [
      | inl above ↦
          let one = maker_left logs lines rests order count x x.version left above within in
          let none = none_waited (makes x.version) x rests (no_maker_left x x.version (λ maker. absurd (cc (sym load ∙ maker))) (λ l. refl)) left.waits in
          absurd (omega arith)
      | inr low ↦
          let below : x.version < state.version = not_same x.version state.version (λ over. absurd (omega arith)) ne in
          let none = (left.placing.each x.op.line left.below).past x.version below in
          let one = one_left (reads x.version) rests n x rest lt front (rw load (eq-eqb x.version x.version refl)) in
          absurd (omega arith)
    ]

maker_blocked : (logs : List (List Entry)) (lines : List LineState) (rests : List (List Entry)) (order : List Entry) (count n : ℕ) (x : Entry)
    (rest : List Entry) → Left logs lines rests order count x → n < length rests → log_of rests n ≡ x ∷ rest
    → x.version ≤ maker_count (on_line x.op.line logs) → 1 ≤ x.version → is_making x ≡ true
    → ((state_of lines x.op.line).left ≡ 0 → x.version ≡ (state_of lines x.op.line).version + 1 → ⊥) → ⊥
maker_blocked logs lines rests order count n x rest left lt front within some maker ne =
    let line = x.op.line in
    let state = state_of lines line in
    let on = left.placing.each line left.below in
    elim (cases_lt state.version x.version) [
      | inl above ↦ elim (cases_lt (state.version + 1) x.version) [
        | inl far ↦
            let one = maker_left logs lines rests order count x (state.version + 1) left (omega arith) (omega arith) in
            let none = none_waited (makes (state.version + 1)) x rests (no_maker_left x (state.version + 1) (λ m. far) (λ load. absurd (cc (sym load ∙ maker))))
            left.waits in
            absurd (omega arith)
        | inr near ↦
            let next : x.version ≡ state.version + 1 = omega arith in
            let none = none_waited (reads state.version) x rests (no_load_left x state.version maker above) left.waits in
            ne (on.left ∙ none) next
      ]
      | inr low ↦
          let made = maker_of (filter (is_on_line line) order) zero_stamped (line_when logs line state.version) x.version on.history (omega arith)
          (omega arith) in
          let counted : count_by (makes x.version) (filter (is_on_line line) order) ≡ 1 =
          sym (length-filter (makes x.version) (filter (is_on_line line) order)) ∙ ap length made.1 in
          let split = split_on (makes x.version) line count logs rests lines order left.placing in
          let whole = left.whole.once x.version some within in
          let one = one_left (makes x.version) rests n x rest lt front
          (and_from (is_making x) (eqb x.version x.version) maker (eq-eqb x.version x.version refl)) in
          absurd (omega arith)
    ]

pub blocked : (logs : List (List Entry)) (lines : List LineState) (rests : List (List Entry)) (order : List Entry) (last : List Stamped) (loads : List (List ℕ))
    (n : ℕ) (x : Entry) (rest : List Entry) → Lawful logs last → IsFront logs loads x
    → IsPlacing logs (length loads) lines rests order → n < length rests → log_of rests n ≡ x ∷ rest → (CanFollow (state_of lines x.op.line) x → ⊥)
    → ((m : ℕ) → AllByRecursion (λ y. line_reason x y ≡ None) (log_of rests m)) → ⊥
blocked logs lines rests order last loads n x rest lawful is placing lt front cannot waits =
    let left : Left logs lines rests order (length loads) x =
    record { whole = (lawful x.op.line).versions; below = is.within; placing = placing; waits = waits } in
    elim (cases_Bool (is_making x)) [
      | inl maker ↦
          maker_blocked logs lines rests order (length loads) n x rest left lt front is.version (is.above maker) maker
          (λ none next. cannot (record { maker = λ m. (none, next); load = λ load. absurd (cc (sym load ∙ maker)) }))
      | inr load ↦
          load_blocked logs lines rests order (length loads) n x rest left lt front is.version load
          (λ same. cannot (record { maker = λ maker. absurd (cc (sym load ∙ maker)); load = λ l. same }))
    ]

-- a load that is left is counted
pub one_left_at : (rests : List (List Entry)) (n : ℕ) (e : Entry) (rest : List Entry) (version : ℕ) → n < length rests → log_of rests n ≡ e ∷ rest
    → is_making e ≡ false → e.version ≡ version → 1 ≤ count_by (reads version) (on_line e.op.line rests)
one_left_at rests n e rest version lt front load at = one_left (reads version) rests n e rest lt front (rw load (eq-eqb e.version version at))
