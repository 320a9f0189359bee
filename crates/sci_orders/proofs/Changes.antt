-- What a step changes in a position: the answers of one node, and one word.
use Rattle.std.proofs.Common.{◌≡◌, ◌≢◌, ℕ, suc, ◌+◌, ◌<◌, Bool, true, false, if◌then◌else◌, List, [], ◌∷◌, ◌++◌, length, drop, set, get_or, refl}
use Rattle.std.proofs.Common.{sym, ap, ◌∙◌, arith, inl, inr}
use Rattle.std.proofs.Math.Seq.{drop-cons, get_or-append_seam}
use Rattle.std.proofs.lemmas.Bool.{cases_eq, cases_lt, eq-eqb, ne_eqb}
use Rattle.std.proofs.lemmas.List.{get_or_append_left, get_or_past, get_or-set_same, get_or-set_other, length-set, length_push}
use Rattle.std.proofs.lemmas.List.Sums.{sum_by_push, sum_by-set}
use Rattle.sci_words.specs.{Operation.{effect}, declared.operation.{Op.{Op}, Reply.{Reply}}}
use Rattle.sci_orders.specs.Orders.{issues_at, one_less_at, one_more_at}
use Rattle.sci_orders.specs.Positions.{Fits, Operations, Position, answer_at, answer_of, answers_of, is_waiting, no_operation, operation_at, own_of}
use Rattle.sci_orders.specs.Positions.{waiting_at, with_issued_at, with_performed_at, word_place}
use Rattle.sci_orders.specs.declared.standing.Answer.{Answer}
use Rattle.sci_words.specs.declared.operation.Reply.TheVariants as reply
use Rattle.sci_words.specs.declared.event.Event.TheVariants as event
use Rattle.sci_orders.specs.declared.standing.Answer.TheVariants as answer

-- ---- answers

pub waiting_is : (a : Answer) → is_waiting a ≡ true → a ≡ answer.Waiting
waiting_is answer.Waiting is = refl
waiting_is answer.Stored is = cc
waiting_is (answer.Got w) is = cc

pub not_waiting : (a : Answer) → (a ≡ answer.Waiting → ⊥) → is_waiting a ≡ false
not_waiting answer.Waiting not_ = absurd (not_ refl)
not_waiting answer.Stored not_ = refl
not_waiting (answer.Got w) not_ = refl

pub reply_done : (r : Reply) → answer_of r ≡ answer.Waiting → ⊥
reply_done reply.Stored is = cc
reply_done (reply.Got w) is = cc

-- a list among lists that has an element is one of them
pub list_below : {X : Type 0} (xs : List (List X)) (n i : ℕ) → i < length (get_or xs n []) → n < length xs
list_below {X = X} xs n i below = grind (arith, cases_lt, get_or_past)

-- an operation that waits is issued
pub waiting_below : (p : Position) (n i : ℕ) → answer_at p n i ≡ answer.Waiting → i < length (answers_of p n)
waiting_below p n i is = grind (arith, cases_lt, get_or_past)

-- and isn't the next one
pub waiting_before : (p : Position) (n m j : ℕ) → answer_at p m j ≡ answer.Waiting → (m ≡ n) × (j ≡ length (answers_of p n)) → ⊥
waiting_before p n m j is both = grind (arith, waiting_below)

-- ---- the next operation of a node is issued

pub issued_own : (p : Position) (n : ℕ) → n < length p.answers → answers_of (with_issued_at p n) n ≡ answers_of p n ++ answer.Waiting ∷ []
issued_own p n lt = get_or-set_same p.answers n (answers_of p n ++ answer.Waiting ∷ []) [] lt

pub issued_apart : (p : Position) (n m : ℕ) → m ≢ n → answers_of (with_issued_at p n) m ≡ answers_of p m
issued_apart p n m other = get_or-set_other p.answers n m (answers_of p n ++ answer.Waiting ∷ []) [] other

pub issued_length : (p : Position) (n : ℕ) → n < length p.answers → length (answers_of (with_issued_at p n) n) ≡ length (answers_of p n) + 1
issued_length p n lt = ap (λ (as_ : List Answer). length as_) (issued_own p n lt) ∙ length_push (answers_of p n) answer.Waiting

pub issued_here : (p : Position) (n : ℕ) → n < length p.answers → answer_at (with_issued_at p n) n (length (answers_of p n)) ≡ answer.Waiting
issued_here p n lt = grind (arith, issued_own, get_or-append_seam)

push_other : (as_ : List Answer) (a : Answer) (j : ℕ) → j ≢ length as_ → get_or (as_ ++ a ∷ []) j answer.Stored ≡ get_or as_ j answer.Stored
push_other as_ a j other = grind (arith, cases_lt, get_or_append_left, length_push, get_or_past)

pub issued_other : (p : Position) (n m j : ℕ) → n < length p.answers → ((m ≡ n) × (j ≡ length (answers_of p n)) → ⊥)
    → answer_at (with_issued_at p n) m j ≡ answer_at p m j
issued_other p n m j lt not_ = grind (arith, cases_eq, issued_own, push_other, issued_apart)

pub issued_fits : (operations : Operations) (p : Position) (n : ℕ) → Fits operations p → length (answers_of p n) < length (own_of operations n)
    → Fits operations (with_issued_at p n)
issued_fits operations p n fits below = grind (arith, list_below, length-set, cases_eq, issued_length, issued_apart)

-- ---- an operation that waits is performed

-- the answer that it gets
abbrev pub answer_given : Op → Position → Answer
answer_given op p = answer_of (effect op (get_or p.words (word_place op) 0)).1

pub performed_own : (op : Op) (p : Position) (n i : ℕ) → n < length p.answers
    → answers_of (with_performed_at op p n i) n ≡ set (answers_of p n) i (answer_given op p)
performed_own op p n i lt = get_or-set_same p.answers n (set (answers_of p n) i (answer_given op p)) [] lt

pub performed_apart : (op : Op) (p : Position) (n i m : ℕ) → m ≢ n → answers_of (with_performed_at op p n i) m ≡ answers_of p m
performed_apart op p n i m other = get_or-set_other p.answers n m (set (answers_of p n) i (answer_given op p)) [] other

pub performed_length : (op : Op) (p : Position) (n i m : ℕ) → n < length p.answers
    → length (answers_of (with_performed_at op p n i) m) ≡ length (answers_of p m)
performed_length op p n i m lt = grind (arith, cases_eq, performed_own, length-set, performed_apart)

pub performed_here : (op : Op) (p : Position) (n i : ℕ) → n < length p.answers → i < length (answers_of p n)
    → answer_at (with_performed_at op p n i) n i ≡ answer_given op p
performed_here op p n i lt below = grind (arith, performed_own, get_or-set_same)

pub performed_other : (op : Op) (p : Position) (n i m j : ℕ) → n < length p.answers → ((m ≡ n) × (j ≡ i) → ⊥)
    → answer_at (with_performed_at op p n i) m j ≡ answer_at p m j
performed_other op p n i m j lt not_ = grind (arith, cases_eq, performed_own, get_or-set_other, performed_apart)

pub performed_fits : (operations : Operations) (op : Op) (p : Position) (n i : ℕ) → Fits operations p → n < length p.answers
    → Fits operations (with_performed_at op p n i)
performed_fits operations op p n i fits lt = grind (arith, length-set, performed_length)

-- ---- how many wait

pub issued_waits : (p : Position) (n m : ℕ) → n < length p.answers → waiting_at (with_issued_at p n) m ≡ one_more_at n (waiting_at p) m
issued_waits p n m lt = grind (arith, cases_eq, issued_own, sum_by_push, eq-eqb, issued_apart, ne_eqb)

pub performed_waits : (op : Op) (p : Position) (n i m : ℕ) → n < length p.answers → answer_at p n i ≡ answer.Waiting
    → waiting_at (with_performed_at op p n i) m ≡ one_less_at n (waiting_at p) m
performed_waits op p n i m lt waits = grind (
  arith,
  cases_eq,
  sum_by-set,
  waiting_below,
  not_waiting,
  reply_done,
  performed_own,
  eq-eqb,
  performed_apart,
  ne_eqb,
)

-- ---- which operations are not issued yet

abbrev pub rest_of : Operations → Position → ℕ → List Op
rest_of operations p n = drop (length (answers_of p n)) (own_of operations n)

pub issued_rest : (operations : Operations) (p : Position) (n m : ℕ) → n < length p.answers → length (answers_of p n) < length (own_of operations n)
    → rest_of operations p m
    ≡ issues_at m (event.Issue n (operation_at operations n (length (answers_of p n))) ∷ []) ++ rest_of operations (with_issued_at p n) m
issued_rest operations p n m lt below =
    let k = length (answers_of p n) in
    let op = operation_at operations n k in
    let rest = rest_of operations (with_issued_at p n) m in
    elim (cases_eq m n) [
      | inl e ↦
          let long = issued_length p n lt in
          let next : suc k ≡ length (answers_of (with_issued_at p n) n) = omega arith in
          ap (λ (j : ℕ). rest_of operations p j) e
          ∙ (drop-cons (own_of operations n) k no_operation below
          ∙ (ap (λ (j : ℕ). op ∷ drop j (own_of operations n)) next
          ∙ (ap (λ (j : ℕ). op ∷ rest_of operations (with_issued_at p n) j) (sym e)
          ∙ sym (ap (λ (b : Bool). (if b then op ∷ [] else []) ++ rest) (eq-eqb n m (sym e))))))
      | inr other ↦ ap (λ (as_ : List Answer). drop (length as_) (own_of operations m)) (sym (issued_apart p n m other))
          ∙ sym (ap (λ (b : Bool). (if b then op ∷ [] else []) ++ rest) (ne_eqb n m (λ e. other (sym e))))
    ]

pub performed_rest : (operations : Operations) (op : Op) (p : Position) (n i m : ℕ) → n < length p.answers
    → rest_of operations p m ≡ rest_of operations (with_performed_at op p n i) m
performed_rest operations op p n i m lt = ap (λ (k : ℕ). drop k (own_of operations m)) (sym (performed_length op p n i m lt))
