-- All numbers so far are at most the one that is read, so none of them is above the least if that is the one.
use Rattle.std.proofs.Common.{◌≡◌, ◌<◌, ◌+◌, ◌||◌, ℕ, Bool, true, false, arith, ap, get_or, inl, inr, refl, sym, take, ◌∙◌, ◌^◌, ◌-◌}
use Rattle.std.proofs.lemmas.{Bool.{cases_eq, eq-eqb, ne_eqb}, List.{get_or_default, take_all}, List.Folds.{list_any_kept, list_any_more, list_any_none}}
use Rattle.std.specs.{Prelude.{◌==◌, min}, List.{list_any}}
use Rattle.sci_reports.proofs.faulty.least_outside.Goals.{then-number-least, else-number-least}
use Rattle.sci_reports.proofs.faulty.least_outside.Goals as goal

or_true : (b : Bool) → (b || true) ≡ true
or_true true = refl
or_true false = refl

room : (n : ℕ) → n < 2 ^ 64 → min n (2 ^ 64 - 1) ≡ n
room n low = omega (arith, low)

pub loop-number-preserved : goal.loop-number-preserved
loop-number-preserved c =
    let numbers = c.args.numbers.now in
    let i = c.loop-number.number-index in
    let lt = c.loop-number-test.true in
    let was = c.loop-number.invariant in
    elim c.if-number-least.branch [
      | then-number-least w ↦
          let here : get_or numbers i 0 ≡ c.loop-number.least = w.if-number-least.true in
          let next : c.if-number-least.least ≡ c.loop-number.least + 1 =
          w.least-is ∙ w.saturating_add-least.ensures ∙ room (c.loop-number.least + 1) (omega (arith, was.few, c.requires.few, lt)) in
          record {
            positive = omega (arith, next);
            few = omega (arith, next, was.few);
            outside = λ k low is. let upper = c.requires.rise k i 0 (omega (arith, low)) lt in absurd (omega (arith, upper, is, here, next));
            below = λ n some under. elim (cases_eq n c.loop-number.least) [
              | inl same ↦ list_any_more (λ number. number == n) numbers i 0 lt
                  ∙ ap (λ b. list_any (λ number. number == n) (take i numbers) || b) (eq-eqb (get_or numbers i 0) n (here ∙ sym same))
                  ∙ or_true (list_any (λ number. number == n) (take i numbers))
              | inr other ↦ list_any_kept (λ number. number == n) numbers i (was.below n some (omega (arith, under, next, other)))
            ];
          }
      | else-number-least w ↦
          let same : c.if-number-least.least ≡ c.loop-number.least = w.least-is in
          record {
            positive = omega (arith, same, was.positive);
            few = omega (arith, same, was.few);
            outside = λ k low is. elim (cases_eq k i) [
              | inl last ↦ absurd (w.if-number-least.false (ap (λ n. get_or numbers n 0) (sym last) ∙ is ∙ same))
              | inr other ↦ was.outside k (omega (arith, low, other)) (is ∙ same)
            ];
            below = λ n some under. list_any_kept (λ number. number == n) numbers i (was.below n some (omega (arith, under, same)));
          }
    ]

pub returns : goal.returns
returns c =
    let numbers = c.args.numbers.now in
    let past = c.loop-number-test.false in
    let was = c.loop-number.invariant in
    record {
      positive = was.positive;
      outside = list_any_none (λ number. number == c.loop-number.least) numbers
          (λ k d lt. ne_eqb (get_or numbers k d) c.loop-number.least
          (λ is. was.outside k (omega (arith, lt, past)) (sym (get_or_default numbers k d 0 lt) ∙ is)));
      below = λ n some under. rw (sym (take_all c.loop-number.number-index numbers past)) (was.below n some under);
    }
