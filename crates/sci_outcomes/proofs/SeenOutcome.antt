-- What is seen of the logs and last contents of a run is the outcome of a position where it ends.
use Rattle.std.proofs.Common.{◌≡◌, ◌==◌, ◌<◌, ◌≤◌, ◌+◌, ℕ, zero, suc, true, List, [], ◌∷◌, ◌++◌, length, refl, sym, ap, subst, ◌∙◌}
use Rattle.std.proofs.Common.{All, ◌-◌, arith, inl, inr}
use Rattle.std.proofs.lemmas.{Bool.{cases_lt, eqb-true}, List.{append-nil, get_or_past, Elements.{filter_map-append, recursion_from_All}}}
use Rattle.std.proofs.lemmas.List.{Elements.{All-contains_itself}, Folds.{flat_map-map}, Sums.{length-filter}}
use Rattle.std.specs.List.{AllByRecursion, cons_option, filter, filter_map, flat_map, range_with_len}
use Rattle.std.specs.Prelude.{Option}
use Rattle.sci_words.specs.declared.{event.Event.{Event}, limits.TheConstants.{MAX_NODES}, operation.{Op.{Op}, Reply.{Reply, TheVariants.{Stored, Got}}}}
use Rattle.sci_history.specs.{declared.entry.Entry.{Entry}, Placed.{in_order, in_serial_order, is_of_node, log_of}, Sequential.{by_serial}}
use Rattle.sci_history.proofs.{Order.{HasKeysBelow, all-filter, all-passes, all_both, all_weaker}, Placement.{above_serials-above}, Sorting.{in_order-bound}}
use Rattle.sci_core.proofs.ReachedLaws.{log_at, schedule_log}
use Rattle.sci_core.specs.{Core.{node_at, run}, Done.{done}, Outcome.{logs_of}, Sharing.{last_of}, Size.{IsSize, Size}}
use Rattle.sci_drive.specs.Script.{times_answered}
use Rattle.sci_orders.proofs.Places.{flat_more, gives_more}
use Rattle.sci_orders.specs.{Orders.{IsEntryAt, IsOutcomeOf}, Positions.{Operations, Position, answer_at, answer_of, own_of}}
use Rattle.sci_allowed.proofs.{Sameness.{same_shown}, SeenAlike.{makes_same}}
use Rattle.sci_allowed.specs.Outcome.{IsPlaceWithin, held_in, replied_at, replies_at, replies_on, shown_at, shown_of}
use Rattle.sci_allowed.specs.declared.{outcome.{FinalWord.{FinalWord}, Replied.{Replied}}, place.Place.{Place}}
use Rattle.sci_outcomes.specs.{declared.outcome.Sighting.{Sighting}, Outcomes.{IsSeen, held_at, replied, replied_by, replies_in}}

-- ---- lists

one_element : {X : Type 0} (xs : List X) → length xs ≡ 1 → (x : X) × (xs ≡ x ∷ [])
one_element [] is = absurd (omega (arith, is))
one_element (x ∷ []) is = (x, refl)
one_element (x ∷ y ∷ xs) is = absurd (omega (arith, is))

-- lists that two functions give of the numbers from one on are the same, if they give the same of each
flat_same : {Y : Type 0} (f g : ℕ → List Y) (a n : ℕ) → ((i : ℕ) → i < a + n → f i ≡ g i) → flat_map f (range_with_len a n) ≡ flat_map g (range_with_len a n)
flat_same f g a zero same = refl
flat_same {Y = Y} f g a (suc n) same =
    ap (λ (ys : List Y). ys ++ flat_map f (range_with_len (a + 1) n)) (same a (omega arith))
    ∙ ap (λ (ys : List Y). g a ++ ys) (flat_same f g (a + 1) n (λ i low. same i (omega arith)))

-- numbers of which nothing is given add nothing
flat_past : {Y : Type 0} (f : ℕ → List Y) (n more : ℕ) → ((i : ℕ) → n ≤ i → f i ≡ [])
    → flat_map f (range_with_len 0 (n + more)) ≡ flat_map f (range_with_len 0 n)
flat_past f n zero none = let same : n + 0 ≡ n = omega arith in ap (λ (k : ℕ). flat_map f (range_with_len 0 k)) same
flat_past {Y = Y} f n (suc more) none =
    let next : n + suc more ≡ (n + more) + 1 = omega arith in
    ap (λ (k : ℕ). flat_map f (range_with_len 0 k)) next
    ∙ (flat_more f (n + more) ∙ (ap (λ (ys : List Y). flat_map f (range_with_len 0 (n + more)) ++ ys) (none (n + more) (omega arith))
    ∙ (append-nil (flat_map f (range_with_len 0 (n + more))) ∙ flat_past f n more none)))

-- ---- the replies of a node

replied_same : (e : Entry) (r : Reply) → replied_by e r ≡ replied_at e.node e.serial (answer_of r)
replied_same e Stored = refl
replied_same e (Got word) = refl

module _ (operations : Operations) (p : Position) (n : ℕ) (log : List Entry) (own : AllByRecursion (λ e. IsEntryAt operations p e × (e.node ≡ n)) log)
    (once : (k : ℕ) → k < length (own_of operations n) → times_answered k log ≡ 1) where
  abbrev reply : ℕ → Option Replied
  reply i = replied_at n i (answer_at p n i)

  reply_of_entry : (e : Entry) (k : ℕ) → IsEntryAt operations p e → e.node ≡ n → e.serial ≡ k → replied e ≡ reply k
  reply_of_entry e k at node serial =
      replied_same e e.reply ∙ (ap (replied_at e.node e.serial) (sym at.reply)
      ∙ (ap (λ (m : ℕ). replied_at m e.serial (answer_at p m e.serial)) node ∙ ap reply serial))

  -- the one entry of an operation
  entry_at : (k : ℕ) → k < length (own_of operations n) → (e : Entry) × (filter (λ x. x.serial == k) log ≡ e ∷ []) × (replied e ≡ reply k)
  entry_at k lt =
      let test = λ (x : Entry). x.serial == k in
      let one = one_element (filter test log) (length-filter test log ∙ once k lt) in
      let all = subst (AllByRecursion (λ (e : Entry). IsEntryAt operations p e × (e.node ≡ n))) one.1
      (all-filter (λ (e : Entry). IsEntryAt operations p e × (e.node ≡ n)) test log own) in
      let passes = subst (AllByRecursion (λ (e : Entry). test e ≡ true)) one.1 (all-passes test log) in
      (one.0, one.1, reply_of_entry one.0 k all.0.0 all.0.1 (eqb-true one.0.serial k passes.0))

  up_to : (k : ℕ) → k ≤ length (own_of operations n) → filter_map replied (in_order (λ e. e.serial) k log) ≡ filter_map reply (range_with_len 0 k)
  unfolding in_order
  up_to zero le = refl
  up_to (suc k) le =
      let one = entry_at k (omega arith) in
      let earlier = filter_map reply (range_with_len 0 k) in
      let next : k + 1 ≡ suc k = omega arith in
      filter_map-append replied (in_order (λ (e : Entry). e.serial) k log) (filter (λ (x : Entry). x.serial == k) log)
      ∙ (ap (λ (rs : List Replied). rs ++ filter_map replied (filter (λ (x : Entry). x.serial == k) log)) (up_to k (omega arith))
      ∙ (ap (λ (es : List Entry). earlier ++ filter_map replied es) one.1
      ∙ (ap (λ (o : Option Replied). earlier ++ cons_option o []) one.2
      ∙ (sym (gives_more reply k) ∙ ap (λ (m : ℕ). filter_map reply (range_with_len 0 m)) next))))

  serials_below : HasKeysBelow (λ e. e.serial) (length (own_of operations n)) log
  serials_below = all_weaker (λ (e : Entry). IsEntryAt operations p e × (e.node ≡ n)) (λ (e : Entry). e.serial < length (own_of operations n))
      (λ e is. subst (λ (m : ℕ). e.serial < length (own_of operations m)) is.1 is.0.below) log own

  node_replies : filter_map replied (in_serial_order log) ≡ replies_on operations p n
  node_replies = grind (arith, in_order-bound, above_serials-above, serials_below, up_to)

-- ---- what is seen

module _ (size : Size) (operations : Operations) (schedule : List Event) (p : Position) (sizes : IsSize size)
    (is : IsOutcomeOf size operations (done size schedule) (last_of (run size schedule)) p) (few : length operations ≤ MAX_NODES)
    (whole : (n k : ℕ) → n < length operations → k < length (own_of operations n) → times_answered k (log_of (logs_of (run size schedule)) n) ≡ 1) where
  entries_at : AllByRecursion (IsEntryAt operations p) (done size schedule)
  entries_at = recursion_from_All (IsEntryAt operations p) (done size schedule) (λ k d lt. is.each _ (All-contains_itself (done size schedule) k d lt))

  log_entries : (n : ℕ) → n < MAX_NODES
      → AllByRecursion (λ e. IsEntryAt operations p e × (e.node ≡ n)) (log_of (logs_of (run size schedule)) n)
  log_entries n lt =
      let made = log_at (run size schedule) n lt ∙ schedule_log size schedule n sizes in
      let all = all-filter (IsEntryAt operations p) (is_of_node n) (done size schedule) entries_at in
      let own = all_weaker (λ (e : Entry). is_of_node n e ≡ true) (λ (e : Entry). e.node ≡ n) (λ e is. eqb-true e.node n is) _
      (all-passes (is_of_node n) (done size schedule)) in
      subst (AllByRecursion (λ (e : Entry). IsEntryAt operations p e × (e.node ≡ n))) (sym made)
      (all_both (IsEntryAt operations p) (λ (e : Entry). e.node ≡ n) (filter (is_of_node n) (done size schedule)) all own)

  none_past : (n : ℕ) → length operations ≤ n → length (own_of operations n) ≡ 0
  none_past n past = ap (λ (own : List Op). length own) (get_or_past operations n [] past)

  once_at : (n k : ℕ) → k < length (own_of operations n) → times_answered k (log_of (logs_of (run size schedule)) n) ≡ 1
  once_at n k below = elim (cases_lt n (length operations)) [
    | inl lt ↦ whole n k lt below
    | inr past ↦ absurd (let none = none_past n past in omega (arith, none, below))
  ]

  replies_same : replies_in (by_serial (logs_of (run size schedule))) ≡ replies_at operations p
  replies_same =
      let logs = logs_of (run size schedule) in
      let own = λ (n : ℕ). (node_at (run size schedule) n).log in
      let more = MAX_NODES - length operations in
      let count : length operations + more ≡ MAX_NODES = omega arith in
      flat_map-map (filter_map replied) in_serial_order logs
      ∙ (flat_map-map (λ (log : List Entry). filter_map replied (in_serial_order log)) own (range_with_len 0 MAX_NODES)
      ∙ (flat_same (λ n. filter_map replied (in_serial_order (own n))) (replies_on operations p) 0 MAX_NODES (λ n lt. (
      let at = log_at (run size schedule) n (omega (arith, lt)) in
      ap (λ (log : List Entry). filter_map replied (in_serial_order log)) (sym at)
      ∙ node_replies operations p n (log_of logs n) (log_entries n (omega (arith, lt))) (once_at n)))
      ∙ (ap (λ (k : ℕ). flat_map (replies_on operations p) (range_with_len 0 k)) (sym count)
      ∙ flat_past (replies_on operations p) (length operations) more
      (λ n past. ap (λ (k : ℕ). filter_map (λ (i : ℕ). replied_at n i (answer_at p n i)) (range_with_len 0 k)) (none_past n past)))))

  held_same : (place : Place) → IsPlaceWithin size.lines place → held_at (last_of (run size schedule)) place ≡ held_in p place
  held_same place within =
      ap (λ (word : ℕ). let h : FinalWord = record { line = place.line; word = place.word; value = word } in h)
      (sym (is.words place.line place.word within.0 within.1))

  pub shown_is : (places : List Place) (sighting : Sighting) → All (IsPlaceWithin size.lines) places
      → IsSeen places (logs_of (run size schedule)) (last_of (run size schedule)) sighting
      → shown_of sighting.outcome ≡ shown_at operations places p
  shown_is places sighting within seen =
      same_shown (shown_of sighting.outcome) (shown_at operations places p) (seen.replies ∙ replies_same)
      (seen.words ∙ makes_same (IsPlaceWithin size.lines) (held_at (last_of (run size schedule))) (held_in p) places within held_same)
