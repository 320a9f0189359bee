-- A search in which nodes issue first, and then a closed line comes first, finds each end that can be reached.
use Rattle.std.proofs.Common.{◌≡◌, ◌⊎◌, ℕ, zero, suc, ◌+◌, ◌*◌, ◌<◌, ◌≤◌, ◌==◌, ◌&&◌, ◌||◌, not, Bool, true, false, List, length, get_or}
use Rattle.std.proofs.Common.{refl, sym, ap, subst, ◌∙◌, arith, inl, inr}
use Rattle.std.proofs.lemmas.{Bool.{and_parts, cases_Bool, cases_eq, cases_lt, eq-eqb, eqb-true, le-ltb}}
use Rattle.std.proofs.lemmas.List.{Folds.{Any-from_list_any, list_all_at}, FromFn.{get_or-range_with_len, length-range_with_len}}
use Rattle.std.specs.List.{list_all, list_any, range_with_len}
use Rattle.sci_words.specs.declared.operation.Op.{Op}
use Rattle.sci_orders.proofs.Changes.{list_below, waiting_below, waiting_is}
use Rattle.sci_orders.proofs.ClosedLines.{IsClosed, WaitsOn, line_first}
use Rattle.sci_orders.proofs.Eager.{Leads, LeadsEagerly, first_below, found_on, issue_first, issue_step, reached_leads, waits_step}
use Rattle.sci_orders.proofs.Places.{any_found}
use Rattle.sci_orders.proofs.{Progress.{AreAnswered, all_answered}, Reaching.{step_fits}, Stands.{opening_fits}}
use Rattle.sci_orders.specs.Eager.{AreFoundIn, IsFirstClosed, IsFoundIn, MayIssue, comes_to, has_to_come, has_waiting, is_closed, is_held, waits_on}
use Rattle.sci_orders.specs.Positions.{AreReachedIn, AreWithin, Fits, IsReachedIn, IsStep, Operations, Position, answer_at, answers_of, is_waiting}
use Rattle.sci_orders.specs.Positions.{no_operation}
use Rattle.sci_orders.specs.Positions.{opening_position, operation_at, operation_count, own_of, with_issued_at, with_performed_at}

-- ---- closed lines

waiting_means : (operations : Operations) (p : Position) (line n : ℕ) → has_waiting (own_of operations n) (answers_of p n) line ≡ true
    → WaitsOn operations p line n
waiting_means operations p line n is =
    let any = Any-from_list_any (waits_on (own_of operations n) (answers_of p n) line) (range_with_len 0 (length (answers_of p n))) is in
    let j = any.1 in
    let both = and_parts (is_waiting (answer_at p n j)) ((operation_at operations n j).line == line) any.4 in
    record { place = j; waits = waiting_is (answer_at p n j) both.0; on = eqb-true (operation_at operations n j).line line both.1 }

comes : (own : List Op) (issued i line : ℕ) → issued ≤ i → i < length own → (get_or own i no_operation).line ≡ line → has_to_come own issued line ≡ true
comes own issued i line le below on =
    any_found (comes_to own issued line) (length own) i below
    (ap (λ (b : Bool). not b && ((get_or own i no_operation).line == line)) (le-ltb i issued le) ∙ eq-eqb (get_or own i no_operation).line line on)

pub closed_means : (operations : Operations) (p : Position) (line : ℕ) → is_closed operations p line ≡ true → IsClosed operations p line
closed_means operations p line is =
    let nodes = range_with_len 0 (length operations) in
    let held = λ (n : ℕ). is_held (own_of operations n) (answers_of p n) line in
    let waiting = λ (n : ℕ). has_waiting (own_of operations n) (answers_of p n) line in
    let both = and_parts (list_any waiting nodes) (list_all held nodes) is in
    let any = Any-from_list_any waiting nodes both.0 in
    record {
      node = any.1;
      some = waiting_means operations p line any.1 any.4;
      each = λ n i le below on. elim (cases_Bool (waiting n)) [
        | inl has ↦ waiting_means operations p line n has
        | inr none ↦
            let lt = list_below operations n i below in
            let come = comes (own_of operations n) (length (answers_of p n)) i line le below on in
            let free : held n ≡ false =
            ap (λ (b : Bool). b || not (has_to_come (own_of operations n) (length (answers_of p n)) line)) none ∙ ap (λ (b : Bool). not b) come in
            let long = length-range_with_len 0 (length operations) in
            let same : 0 + n ≡ n = omega arith in
            let at : held (get_or nodes n 0) ≡ false = ap held (get_or-range_with_len 0 (length operations) n 0 lt ∙ same) ∙ free in
            absurd (let clash : true ≡ false = sym both.1 ∙ list_all_at held nodes n 0 (omega arith) at in cc)
      ];
    }

-- a closed line is the machine's
closed_below : (lines : ℕ) (operations : Operations) (p : Position) (line : ℕ) → AreWithin lines operations → Fits operations p
    → is_closed operations p line ≡ true → line < lines
closed_below lines operations p line within fits is =
    let closed = closed_means operations p line is in
    let w = closed.some in
    let low = waiting_below p closed.node w.place w.waits in
    let issued = fits.issued closed.node in
    let known = (within closed.node w.place (omega arith)).0 in
    subst (λ (k : ℕ). k < lines) w.on known

pub first_same : (operations : Operations) (p : Position) (a b : ℕ) → IsFirstClosed operations p a → IsFirstClosed operations p b → a ≡ b
first_same operations p a b one two = grind (arith, cases_lt)

-- the first of the closed lines below a bound, or none of them is closed
first_closed : (operations : Operations) (p : Position) (bound : ℕ)
    → ((line : ℕ) × IsFirstClosed operations p line) ⊎ ((line : ℕ) → line < bound → is_closed operations p line ≡ false)
first_closed operations p zero = inr (λ line low. absurd (omega arith))
first_closed operations p (suc bound) = elim (first_closed operations p bound) [
  | inl found ↦ inl found
  | inr none ↦ elim (cases_Bool (is_closed operations p bound)) [
    | inl is ↦ inl (bound, record { closed = is; first = none })
    | inr isnt ↦ inr (λ line low. elim (cases_eq line bound) [
      | inl e ↦ ap (is_closed operations p) e ∙ isnt
      | inr other ↦ none line (omega arith)
    ])
  ]
]

-- ---- a way to an end, with each Issue as early as it can be, and then what waits on a closed line

eagerly : (lines : ℕ) (operations : Operations) (window : ℕ) → AreWithin lines operations → (count : ℕ) (p q : Position) → Fits operations p
    → AreAnswered operations q → Leads operations window count p q → LeadsEagerly operations window count p q
eagerly lines operations window within zero p q fits all is = is
eagerly lines operations window within (suc count) p q fits all (r, s, rest) = elim (first_below operations window p (length operations)) [
  | inl found ↦
      let m = found.node in
      let way = issue_first operations window (suc count) p q m fits all found.may (r, s, rest) in
      let same : way.rest ≡ count = omega (arith, way.is) in
      let step = issue_step operations window p m found.may in
      let fits_m = step_fits operations window p (with_issued_at p m) m (length (answers_of p m)) fits step.below step.step in (
        with_issued_at p m,
        record {
          taken = step;
          issues = λ k may. (refl, (elim (cases_lt k m) [ inl lt ↦ absurd (found.first k lt may) | inr past ↦ past ]));
          performs = λ line first. inl refl;
        },
        eagerly lines operations window within count (with_issued_at p m) q fits_m all
            (subst (λ (k : ℕ). Leads operations window k (with_issued_at p m) q) same way.leads),
      )
  | inr none ↦
      let idle : (m : ℕ) → MayIssue operations window p m → ⊥ = λ m may. none m (list_below operations m (length (answers_of p m)) may.below) may in
      elim (first_closed operations p lines) [
        | inl found ↦
            let closed = closed_means operations p found.0 found.1.closed in
            let way = line_first lines operations window within (suc count) p q found.0 fits all closed (r, s, rest) in
            let n = way.node in
            let i = way.waits.place in
            let to = with_performed_at (operation_at operations n i) p n i in
            let same : way.rest ≡ count = omega (arith, way.is) in
            let low = waiting_below p n i way.waits.waits in
            let issued = fits.issued n in
            let below : i < length (own_of operations n) = omega (arith, low, issued) in
            let step : IsStep operations window p to =
            record { node = n; place = i; below = below; step = waits_step operations window p n i way.waits.waits } in (
              to,
              record {
                taken = step;
                issues = λ m may. absurd (idle m may);
                performs = λ line first. inr (way.waits.on ∙ first_same operations p found.0 line found.1 first);
              },
              eagerly lines operations window within count to q (step_fits operations window p to n i fits below step.step) all
                  (subst (λ (k : ℕ). Leads operations window k to q) same way.leads),
            )
        | inr none_closed ↦ (
          r,
          record {
            taken = s;
            issues = λ m may. absurd (idle m may);
            performs = λ line first. absurd
                (let clash : true ≡ false = sym first.closed ∙ none_closed line (closed_below lines operations p line within fits first.closed) in cc);
          },
          eagerly lines operations window within count r q (step_fits operations window p r s.node s.place fits s.below s.step) all rest,
        )
      ]
]

-- what is found is reached
pub found_reached : (lines : ℕ) (operations : Operations) (window count : ℕ) (p : Position) → IsFoundIn lines operations window count p
    → IsReachedIn lines operations window count p
found_reached lines operations window zero p is = is
found_reached lines operations window (suc count) p (q, found, step) = (q, found_reached lines operations window count q found, step.taken)

-- each end that is reached is found
pub reached_found : (lines : ℕ) (operations : Operations) (window : ℕ) (p : Position) → AreWithin lines operations
    → IsReachedIn lines operations window (operation_count operations * 2) p → IsFoundIn lines operations window (operation_count operations * 2) p
reached_found lines operations window p within reached =
    let count = operation_count operations * 2 in
    let first = opening_position lines operations in
    let same : 0 + count ≡ count = omega arith in
    subst (λ (k : ℕ). IsFoundIn lines operations window k p) same
    (found_on lines operations window 0 count first p refl
    (eagerly lines operations window within count first p (opening_fits lines operations within) (all_answered lines operations window p within reached)
    (reached_leads lines operations window count p reached)))

-- so the ends that are found are those that are reached
pub ends_found : (lines : ℕ) (operations : Operations) (window : ℕ) (positions : List Position) → AreWithin lines operations
    → AreFoundIn lines operations window (operation_count operations * 2) positions
    → AreReachedIn lines operations window (operation_count operations * 2) positions
ends_found lines operations window positions within so = grind (arith, found_reached, reached_found)
