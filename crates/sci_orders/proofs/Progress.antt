-- Each step brings one operation one step further, so two steps for each bring each to its answer.
use Rattle.std.proofs.Common.{◌≡◌, ℕ, zero, suc, ◌+◌, ◌*◌, ◌<◌, ◌≤◌, not, Bool, true, false, cond, if◌then◌else◌, List, [], ◌∷◌, ◌++◌, length, set, get_or}
use Rattle.std.proofs.Common.{replicate, Option, Some, None, refl, ap, ◌∙◌, arith}
use Rattle.std.proofs.lemmas.{List.{length_push, length-set, Sums.{count_by-le-length, sum_by_push, sum_by-cons, sum_by-set}}, Option.{get_or_from_slice_get}}
use Rattle.std.specs.{List.{sum_by}, Prelude.{count_by, slice_get}}
use Rattle.sci_words.specs.{Operation.{effect}, declared.operation.Op.{Op}}
use Rattle.sci_core.proofs.Basics.Options.{same_some}
use Rattle.sci_orders.proofs.{Changes.{answer_given, list_below, not_waiting, reply_done, waiting_below}, Reaching.{reached_fits}}
use Rattle.sci_orders.specs.Positions.{AreWithin, Fits, IsReachedIn, Operations, Position, answer_at, answers_of, is_waiting, may_issue_next}
use Rattle.sci_orders.specs.Positions.{operation_count, own_of, step_as, step_at, with_issued_at, with_performed_at, word_place}
use Rattle.sci_orders.specs.declared.standing.Answer.{Answer}
use Rattle.sci_orders.specs.declared.standing.Answer.TheVariants as answer

abbrev pub is_answered : Answer → Bool
is_answered a = not (is_waiting a)

-- how many steps brought a node's operations where they are
abbrev pub steps_taken : List Answer → ℕ
steps_taken as_ = length as_ + count_by is_answered as_

abbrev pub all_steps_taken : Position → ℕ
all_steps_taken p = sum_by steps_taken p.answers

issue_counts : (p : Position) (n : ℕ) → n < length p.answers → all_steps_taken (with_issued_at p n) ≡ suc (all_steps_taken p)
issue_counts p n lt =
    let as_ = answers_of p n in
    let all = sum_by-set steps_taken p.answers n (as_ ++ answer.Waiting ∷ []) [] lt in
    let long = length_push as_ answer.Waiting in
    let same : count_by is_answered (as_ ++ answer.Waiting ∷ []) ≡ count_by is_answered as_ + 0 =
    sum_by_push (λ (a : Answer). cond {A = ℕ} (is_answered a) 1 0) as_ answer.Waiting in
    omega arith

perform_counts : (op : Op) (p : Position) (n i : ℕ) → answer_at p n i ≡ answer.Waiting → all_steps_taken (with_performed_at op p n i) ≡ suc (all_steps_taken p)
perform_counts op p n i waits =
    let as_ = answers_of p n in
    let mine = answer_given op p in
    let below = waiting_below p n i waits in
    let all = sum_by-set steps_taken p.answers n (set as_ i mine) [] (list_below p.answers n i below) in
    let long = length-set as_ i mine in
    let one = sum_by-set (λ (a : Answer). cond {A = ℕ} (is_answered a) 1 0) as_ i mine answer.Stored below in
    let before : cond {A = ℕ} (is_answered (answer_at p n i)) 1 0 ≡ 0 = ap (λ (a : Answer). cond {A = ℕ} (is_answered a) 1 0) waits in
    let after_ : cond {A = ℕ} (is_answered mine) 1 0 ≡ 1 =
    ap (λ (b : Bool). cond {A = ℕ} (not b) 1 0) (not_waiting mine (reply_done (effect op (get_or p.words (word_place op) 0)).1)) in
    omega arith

module _ (operations : Operations) (window : ℕ) (p q : Position) (n i : ℕ) (fits : Fits operations p) (below : i < length (own_of operations n)) where
  issue_step : (may : Bool) → (if may then Some (with_issued_at p n) else None) ≡ Some q → all_steps_taken q ≡ suc (all_steps_taken p)
  issue_step false is = cc
  issue_step true is = grind (arith, list_below, same_some, issue_counts)

  as_counts : (o : Option Answer) → slice_get (answers_of p n) i ≡ o → step_as operations window p n i o ≡ Some q
      → all_steps_taken q ≡ suc (all_steps_taken p)
  as_counts None is step = issue_step (may_issue_next (own_of operations n) (answers_of p n) window i) step
  as_counts (Some answer.Waiting) is step = grind (arith, same_some, perform_counts, get_or_from_slice_get)
  as_counts (Some answer.Stored) is step = cc
  as_counts (Some (answer.Got w)) is step = cc

  step_counts : step_at operations window p n i ≡ Some q → all_steps_taken q ≡ suc (all_steps_taken p)
  unfolding step_at
  step_counts step = as_counts (slice_get (answers_of p n) i) refl step

none_taken : (count : ℕ) → sum_by steps_taken (replicate count []) ≡ 0
none_taken zero = refl
none_taken (suc count) =
    let rest = none_taken count in
    let first : steps_taken [] ≡ 0 = refl in
    let all = sum_by-cons steps_taken [] (replicate count []) in
    omega arith

reached_counts : (lines : ℕ) (operations : Operations) (window count : ℕ) (p : Position) → AreWithin lines operations
    → IsReachedIn lines operations window count p → all_steps_taken p ≡ count
reached_counts lines operations window zero p within is = ap all_steps_taken is ∙ none_taken (length operations)
reached_counts lines operations window (suc count) p within (q, reached, s) =
    step_counts operations window q p s.node s.place (reached_fits lines operations window count q within reached) s.below s.step
    ∙ ap suc (reached_counts lines operations window count q within reached)

-- ---- two steps for each

-- no list has more steps than two for each of its operations, and all together have as many: so each has
record AreWhole (xs : List (List Answer)) (ops : List (List Op)) : Type 0 where
  few : sum_by steps_taken xs ≤ sum_by (λ own. length own) ops * 2
  each : sum_by steps_taken xs ≡ sum_by (λ own. length own) ops * 2 → (n : ℕ) → steps_taken (get_or xs n []) ≡ length (get_or ops n []) * 2

each_at : (x : List Answer) (o : List Op) (xs : List (List Answer)) (ops : List (List Op)) (n : ℕ) → steps_taken x ≡ length o * 2
    → ((m : ℕ) → steps_taken (get_or xs m []) ≡ length (get_or ops m []) * 2)
    → steps_taken (get_or (x ∷ xs) n []) ≡ length (get_or (o ∷ ops) n []) * 2
each_at x o xs ops zero first rest = first
each_at x o xs ops (suc n) first rest = rest n

whole_if : (xs : List (List Answer)) (ops : List (List Op)) → length xs ≡ length ops
    → ((n : ℕ) → length (get_or xs n []) ≤ length (get_or ops n [])) → AreWhole xs ops
whole_if [] [] long few = record { few = omega arith; each = λ all n. refl }
whole_if [] (o ∷ ops) long few = cc
whole_if (x ∷ xs) [] long few = cc
whole_if (x ∷ xs) (o ∷ ops) long few =
    let rest = whole_if xs ops (omega arith) (λ n. few (suc n)) in
    let rest_few = rest.few in
    let first = few 0 in
    let some = count_by-le-length is_answered x in
    let a = sum_by-cons steps_taken x xs in
    let b = sum_by-cons (λ (own : List Op). length own) o ops in
    record {
      few = omega arith;
      each = λ all n. each_at x o xs ops n (omega arith) (rest.each (omega arith));
    }

-- as many pass as there are: so each does
count_at : (p : Answer → Bool) (a : Answer) (as_ : List Answer) (b : Bool) → p a ≡ b → count_by p (a ∷ as_) ≡ suc (length as_) → (i : ℕ) → i < suc (length as_)
    → (count_by p as_ ≡ length as_ → (j : ℕ) → j < length as_ → p (get_or as_ j answer.Stored) ≡ true) → p (get_or (a ∷ as_) i answer.Stored) ≡ true
count_at p a as_ false is all i below rest =
    let first : cond {A = ℕ} (p a) 1 0 ≡ 0 = ap (λ (b : Bool). cond {A = ℕ} b 1 0) is in
    let sum = sum_by-cons (λ (x : Answer). cond {A = ℕ} (p x) 1 0) a as_ in
    let few = count_by-le-length p as_ in
    absurd (omega arith)
count_at p a as_ true is all zero below rest = is
count_at p a as_ true is all (suc i) below rest =
    let first : cond {A = ℕ} (p a) 1 0 ≡ 1 = ap (λ (b : Bool). cond {A = ℕ} b 1 0) is in
    let sum = sum_by-cons (λ (x : Answer). cond {A = ℕ} (p x) 1 0) a as_ in
    rest (omega arith) i (omega arith)

count_all : (p : Answer → Bool) (as_ : List Answer) → count_by p as_ ≡ length as_ → (i : ℕ) → i < length as_ → p (get_or as_ i answer.Stored) ≡ true
count_all p [] all i below = absurd (omega arith)
count_all p (a ∷ as_) all i below = count_at p a as_ (p a) refl all i below (λ same j low. count_all p as_ same j low)

answered_waits : (a : Answer) → is_answered a ≡ true → a ≡ answer.Waiting → ⊥
answered_waits answer.Waiting is waits = cc
answered_waits answer.Stored is waits = cc
answered_waits (answer.Got w) is waits = cc

-- each operation is issued, and none waits
pub record AreAnswered (operations : Operations) (p : Position) : Type 0 where
  pub issued : (n : ℕ) → length (answers_of p n) ≡ length (own_of operations n)
  pub done : (n i : ℕ) → i < length (answers_of p n) → answer_at p n i ≡ answer.Waiting → ⊥

pub all_answered : (lines : ℕ) (operations : Operations) (window : ℕ) (p : Position) → AreWithin lines operations
    → IsReachedIn lines operations window (operation_count operations * 2) p → AreAnswered operations p
all_answered lines operations window p within reached =
    let fits = reached_fits lines operations window (operation_count operations * 2) p within reached in
    let sum = reached_counts lines operations window (operation_count operations * 2) p within reached in
    let each = (whole_if p.answers operations fits.nodes fits.issued).each sum in
    record {
      issued = λ n. (
          let mine = each n in
          let low = fits.issued n in
          let few = count_by-le-length is_answered (answers_of p n) in
          omega arith);
      done = λ n i below. answered_waits (answer_at p n i) (count_all is_answered (answers_of p n) (
          let mine = each n in
          let low = fits.issued n in
          let few = count_by-le-length is_answered (answers_of p n) in
          omega arith) i below);
    }
