-- Where a line is closed, an operation that waits there may be performed before anything else is done.
use Rattle.std.proofs.Common.{◌≡◌, ◌≢◌, ℕ, zero, suc, ◌<◌, ◌≤◌, nat_eq, length, refl, sym, ap, subst, ◌∙◌, arith}
use Rattle.std.proofs.Common.{Some, inl, inr}
use Rattle.std.proofs.lemmas.{Bool.{and_parts, cases_eq}, List.{get_or-set_other}}
use Rattle.sci_orders.proofs.Changes.{answer_given, issued_apart, issued_length, issued_other, list_below, performed_apart, performed_length, performed_other}
use Rattle.sci_orders.proofs.Changes.{performed_own, waiting_before, waiting_below}
use Rattle.sci_orders.proofs.Eager.{Issues, Leads, Performs, issued_performed, may_after, may_same, may_step, set_again, set_apart, step_is, waits_step}
use Rattle.sci_orders.proofs.{Following.{free_of, not_true}, Issuing.{IsFree}, Progress.{AreAnswered}, Reaching.{step_fits}}
use Rattle.sci_orders.specs.Eager.{MayIssue}
use Rattle.sci_orders.specs.Positions.{AreWithin, Fits, Operations, Position, answer_at, answers_of, operation_at, own_of, step_at}
use Rattle.sci_orders.specs.Positions.{with_issued_at, with_performed_at, word_place}
use Rattle.sci_words.specs.{declared.{operation.Op.{Op}}}
use Rattle.sci_orders.specs.declared.standing.Answer.TheVariants as answer

-- an operation of a node waits on a line
pub record WaitsOn (operations : Operations) (p : Position) (line n : ℕ) : Type 0 where
  pub place : ℕ
  pub waits : answer_at p n place ≡ answer.Waiting
  pub on : (operation_at operations n place).line ≡ line

-- Some operation waits on the line, and so does one of each node that has still to issue one there: nothing more comes to the line
-- before one of those that wait is performed.
pub record IsClosed (operations : Operations) (p : Position) (line : ℕ) : Type 0 where
  pub node : ℕ
  pub some : WaitsOn operations p line node
  pub each : (n i : ℕ) → length (answers_of p n) ≤ i → i < length (own_of operations n) → (operation_at operations n i).line ≡ line
      → WaitsOn operations p line n

-- ---- a closed line stays so while nothing is performed there

module _ (operations : Operations) (window : ℕ) (p r : Position) (line n i : ℕ) (lt : n < length p.answers) (closed : IsClosed operations p line) where
  issued_waits_on : (m : ℕ) → Issues operations window p r n i → WaitsOn operations p line m → WaitsOn operations r line m
  issued_waits_on m issues w = record {
    place = w.place;
    waits = ap (λ (x : Position). answer_at x m w.place) issues.is
        ∙ (issued_other p n m w.place lt (waiting_before p n m w.place w.waits) ∙ w.waits);
    on = w.on;
  }

  issued_grows : (m : ℕ) → length (answers_of p m) ≤ length (answers_of (with_issued_at p n) m)
  issued_grows m = grind (arith, cases_eq, issued_length, issued_apart)

  issued_closed : Issues operations window p r n i → IsClosed operations r line
  issued_closed issues = record {
    node = closed.node;
    some = issued_waits_on closed.node issues closed.some;
    each = λ m k le below on. (
        let grows = issued_grows m in
        let same = ap (λ (x : Position). length (answers_of x m)) issues.is in
        issued_waits_on m issues (closed.each m k (omega (arith, grows, same, le)) below on));
  }

  performed_waits_on : (m : ℕ) → (operation_at operations n i).line ≢ line → Performs operations p r n i → WaitsOn operations p line m
      → WaitsOn operations r line m
  performed_waits_on m apart performs w = record {
    place = w.place;
    waits = ap (λ (x : Position). answer_at x m w.place) performs.is
        ∙ (performed_other (operation_at operations n i) p n i m w.place lt (λ both. apart
        (sym (ap (λ (j : ℕ). (operation_at operations n j).line) both.1) ∙ (sym (ap (λ (k : ℕ). (operation_at operations k w.place).line) both.0) ∙ w.on)))
        ∙ w.waits);
    on = w.on;
  }

  performed_closed : (operation_at operations n i).line ≢ line → Performs operations p r n i → IsClosed operations r line
  performed_closed apart performs = record {
    node = closed.node;
    some = performed_waits_on closed.node apart performs closed.some;
    each = λ m k le below on. (
        let long = performed_length (operation_at operations n i) p n i m lt in
        let same = ap (λ (x : Position). length (answers_of x m)) performs.is in
        performed_waits_on m apart performs (closed.each m k (omega (arith, long, same, le)) below on));
  }

-- ---- two operations on different words

-- operations at different words give what they give in either order
performed_twice : (op other : Op) (p : Position) (n i m j : ℕ) → n < length p.answers → m < length p.answers → ((m ≡ n) × (j ≡ i) → ⊥)
    → word_place other ≢ word_place op
    → with_performed_at other (with_performed_at op p n i) m j ≡ with_performed_at op (with_performed_at other p m j) n i
performed_twice op other p n i m j lt known apart words = grind (
  arith,
  answer_given,
  get_or-set_other,
  set_apart,
  cases_eq,
  performed_own,
  set_again,
  performed_apart,
)

-- ---- a way that begins on the line

-- a way that begins as an operation that waits on the line is performed
pub record BeginsOn (operations : Operations) (window count : ℕ) (p q : Position) (line : ℕ) : Type 0 where
  pub node : ℕ
  pub waits : WaitsOn operations p line node
  pub rest : ℕ
  pub is : count ≡ suc rest
  pub leads : Leads operations window rest (with_performed_at (operation_at operations node waits.place) p node waits.place) q

-- a step is taken after the operation is performed in place of before it
begins_after : (operations : Operations) (window count : ℕ) (p r q : Position) (line n i : ℕ) (next : BeginsOn operations window count r q line)
    → answer_at p next.node next.waits.place ≡ answer.Waiting → i < length (own_of operations n)
    → step_at operations window (with_performed_at (operation_at operations next.node next.waits.place) p next.node next.waits.place) n i
    ≡ Some (with_performed_at (operation_at operations next.node next.waits.place) r next.node next.waits.place)
    → BeginsOn operations window (suc count) p q line
begins_after operations window count p r q line n i next waits below step = record {
  node = next.node;
  waits = record { place = next.waits.place; waits = waits; on = next.waits.on };
  rest = count;
  is = refl;
  leads = subst (λ (k : ℕ). Leads operations window k (with_performed_at (operation_at operations next.node next.waits.place) p next.node next.waits.place) q)
      (sym next.is) (
        with_performed_at (operation_at operations next.node next.waits.place) r next.node next.waits.place,
        record { node = n; place = i; below = below; step = step },
        next.leads,
      );
}

-- what a node may issue blocks no line and is blocked by none
free_next : (operations : Operations) (window : ℕ) (p : Position) (n : ℕ) → MayIssue operations window p n → IsFree operations p n (length (answers_of p n))
free_next operations window p n may = grind (arith, and_parts, nat_eq, free_of, not_true)

-- operations on different lines are at different words
words_apart : (lines : ℕ) (operations : Operations) (n i m j : ℕ) → AreWithin lines operations → i < length (own_of operations n)
    → j < length (own_of operations m) → (operation_at operations n i).line ≢ (operation_at operations m j).line
    → word_place (operation_at operations n i) ≢ word_place (operation_at operations m j)
words_apart lines operations n i m j within below low apart same = grind arith

module _ (lines : ℕ) (operations : Operations) (window : ℕ) (within : AreWithin lines operations) where
  pub line_first : (count : ℕ) (p q : Position) (line : ℕ) → Fits operations p → AreAnswered operations q → IsClosed operations p line
      → Leads operations window count p q → BeginsOn operations window count p q line
  line_first zero p q line fits all closed is = grind (arith, waiting_below)
  line_first (suc count) p q line fits all closed (r, s, rest) =
      let n = s.node in
      let i = s.place in
      let nodes = fits.nodes in
      let other = list_below operations n i s.below in
      let lt : n < length p.answers = omega arith in
      let fits_r = step_fits operations window p r n i fits s.below s.step in
      elim (step_is operations window p r n i s.below s.step) [
        | inl issues ↦
            let next = line_first count r q line fits_r all (issued_closed operations window p r line n i lt closed issues) rest in
            let m = next.node in
            let j = next.waits.place in
            let op = operation_at operations m j in
            let free = free_next operations window p n issues.may in
            let new : (m ≡ n) × (j ≡ length (answers_of p n)) → ⊥ = λ both. (
            let here : (operation_at operations n (length (answers_of p n))).line ≡ line =
            sym (ap (λ (k : ℕ). (operation_at operations n k).line) both.1)
            ∙ (sym (ap (λ (k : ℕ). (operation_at operations k j).line) both.0) ∙ next.waits.on) in
            let known = issues.may.below in
            let w = closed.each n (length (answers_of p n)) (omega arith) known here in
            free w.place w.waits (w.on ∙ sym here)) in
            let waits : answer_at p m j ≡ answer.Waiting =
            sym (issued_other p n m j lt new) ∙ (ap (λ (x : Position). answer_at x m j) (sym issues.is) ∙ next.waits.waits) in
            let low = waiting_below p m j waits in
            let issued = fits.issued m in
            let known = list_below operations m j (omega (arith, low, issued)) in
            let mine : m < length p.answers = omega (arith, known, nodes) in
            let may : MayIssue operations window (with_performed_at op p m j) n = elim (cases_eq m n) [
              | inl e ↦ subst (MayIssue operations window (with_performed_at op p m j)) e
                  (may_after operations window p m j mine waits (subst (MayIssue operations window p) (sym e) issues.may))
              | inr apart ↦ may_same operations window p (with_performed_at op p m j) n (sym (performed_apart op p m j n (λ e. apart (sym e)))) issues.may
            ] in
            let place : length (answers_of (with_performed_at op p m j) n) ≡ i = performed_length op p m j n mine ∙ sym issues.at in
            let to : with_issued_at (with_performed_at op p m j) n ≡ with_performed_at op r m j =
            issued_performed op p m j n lt mine low ∙ ap (λ (x : Position). with_performed_at op x m j) (sym issues.is) in
            begins_after operations window count p r q line n i next waits s.below
            (subst (λ (k : ℕ). step_at operations window (with_performed_at op p m j) n k ≡ Some (with_performed_at op r m j)) place
            (may_step operations window (with_performed_at op p m j) n may ∙ ap Some to))
        | inr performs ↦ elim (cases_eq (operation_at operations n i).line line) [
          | inl here ↦ record {
            node = n;
            waits = record { place = i; waits = performs.waits; on = here };
            rest = count;
            is = refl;
            leads = subst (λ (x : Position). Leads operations window count x q) performs.is rest;
          }
          | inr apart ↦
              let next = line_first count r q line fits_r all (performed_closed operations window p r line n i lt closed apart performs) rest in
              let m = next.node in
              let j = next.waits.place in
              let op = operation_at operations m j in
              let two : (m ≡ n) × (j ≡ i) → ⊥ = λ both. apart
              (sym (ap (λ (k : ℕ). (operation_at operations n k).line) both.1)
              ∙ (sym (ap (λ (k : ℕ). (operation_at operations k j).line) both.0) ∙ next.waits.on)) in
              let waits : answer_at p m j ≡ answer.Waiting =
              sym (performed_other (operation_at operations n i) p n i m j lt two)
              ∙ (ap (λ (x : Position). answer_at x m j) (sym performs.is) ∙ next.waits.waits) in
              let low = waiting_below p m j waits in
              let issued = fits.issued m in
              let own : j < length (own_of operations m) = omega (arith, low, issued) in
              let known = list_below operations m j own in
              let mine : m < length p.answers = omega (arith, known, nodes) in
              let still : answer_at (with_performed_at op p m j) n i ≡ answer.Waiting =
              performed_other op p m j n i mine (λ both. two (sym both.0, sym both.1)) ∙ performs.waits in
              let words = words_apart lines operations n i m j within s.below own (λ e. apart (e ∙ next.waits.on)) in
              let to : with_performed_at (operation_at operations n i) (with_performed_at op p m j) n i ≡ with_performed_at op r m j =
              performed_twice op (operation_at operations n i) p m j n i mine lt (λ both. two (sym both.0, sym both.1)) words
              ∙ ap (λ (x : Position). with_performed_at op x m j) (sym performs.is) in
              begins_after operations window count p r q line n i next waits s.below
              (waits_step operations window (with_performed_at op p m j) n i still ∙ ap Some to)
        ]
      ]
