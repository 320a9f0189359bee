-- Levels behind one event after another.
use mir.Val.{bool_byte}
use Rattle.std.proofs.Common.{◌≡◌, ◌<◌, ◌≤◌, ℕ, ◌+◌, ◌-◌, ◌*◌, List, [], ◌∷◌, Bool, true, false, length, map, max, take, get_or, arith, sym, ap, ◌∙◌}
use Rattle.std.proofs.lemmas.List.FromFn.{map-range_with_len_more, sum_by-map-range_with_len_more}
use Rattle.std.proofs.lemmas.List.Sums.{fold-append, sum_by_more}
use Rattle.std.specs.{Prelude.{cond, count_by, sum}, List.{fold, range_with_len}}
use Rattle.sci_statistics.specs.declared.{levels.Level.{Level}, passage.Passage.{Passage}}
use Rattle.sci_statistics.specs.Levels.{begins, ends, level_at}

-- what has begun and ended in the first i events, and the levels behind them
pub record HasRisen (level : Level) (passages : List Passage) (i begun ended greatest total : ℕ) : Type 0 where
  pub begun_is : begun ≡ count_by (begins level) (take i passages)
  pub ended_is : ended ≡ count_by (ends level) (take i passages)
  pub greatest_is : greatest ≡ fold max 0 (map (level_at level passages) (range_with_len 1 i))
  pub total_is : total ≡ sum (map (level_at level passages) (range_with_len 1 i))
  pub few_begun : begun ≤ i
  pub few_ended : ended ≤ i
  pub small : total ≤ 500000 * i

greatest_more : (f : ℕ → ℕ) (i : ℕ) → fold max 0 (map f (range_with_len 1 (i + 1))) ≡ max (fold max 0 (map f (range_with_len 1 i))) (f (i + 1))
greatest_more f i = ap (fold max 0) (map-range_with_len_more f 1 i (i + 1) (omega arith)) ∙ fold-append max 0 (map f (range_with_len 1 i)) (f (i + 1) ∷ [])

total_more : (f : ℕ → ℕ) (i : ℕ) → sum (map f (range_with_len 1 (i + 1))) ≡ sum (map f (range_with_len 1 i)) + f (i + 1)
total_more f i = sum_by-map-range_with_len_more (λ x. x) f 1 i (i + 1) (omega arith)

at_most_one : (t : Bool) → cond t 1 0 ≤ 1
at_most_one true = omega arith
at_most_one false = omega arith

counted : (test : Passage → Bool) (passages : List Passage) (i : ℕ) (d : Passage) (n one : ℕ) → i < length passages
    → one ≡ cond (test (get_or passages i d)) 1 0 → n ≡ count_by test (take i passages) → n + one ≡ count_by test (take (i + 1) passages)
counted test passages i d n one lt is was =
    ap (λ m. m + one) was ∙ (ap (λ m. count_by test (take i passages) + m) is ∙ sym (sum_by_more (λ x. cond (test x) 1 0) passages i d lt))

-- the number of a flag that a test gave
pub flagged : (number : ℕ) (flag test : Bool) → number ≡ bool_byte flag → flag ≡ test → number ≡ cond test 1 0
flagged number true test is same = is ∙ ap (λ (t : Bool). cond t 1 0) same
flagged number false test is same = is ∙ ap (λ (t : Bool). cond t 1 0) same

-- one event more
pub rises_more : (level : Level) (passages : List Passage) (i : ℕ) (d : Passage) (begun ended greatest total up down there next : ℕ) → i < length passages
    → length passages ≤ 500000
    → up ≡ cond (begins level (get_or passages i d)) 1 0 → down ≡ cond (ends level (get_or passages i d)) 1 0 → there ≡ (begun + up) - (ended + down)
    → next ≡ max greatest there
    → HasRisen level passages i begun ended greatest total → HasRisen level passages (i + 1) (begun + up) (ended + down) next (total + there)
rises_more level passages i d begun ended greatest total up down there next lt few up_is down_is there_is next_is was =
    let f = level_at level passages in
    let begun_more = counted (begins level) passages i d begun up lt up_is was.begun_is in
    let ended_more = counted (ends level) passages i d ended down lt down_is was.ended_is in
    let level_is : there ≡ f (i + 1) =
    there_is ∙ (ap (λ n. n - (ended + down)) begun_more ∙ ap (λ n. count_by (begins level) (take (i + 1) passages) - n) ended_more) in
    let one_up : up ≤ 1 = rw up_is (at_most_one (begins level (get_or passages i d))) in
    let one_down : down ≤ 1 = rw down_is (at_most_one (ends level (get_or passages i d))) in
    let few_begun = was.few_begun in
    let few_ended = was.few_ended in
    let small = was.small in record {
      begun_is = begun_more;
      ended_is = ended_more;
      greatest_is = next_is ∙ (ap (λ n. max n there) was.greatest_is
          ∙ (ap (λ n. max (fold max 0 (map f (range_with_len 1 i))) n) level_is ∙ sym (greatest_more f i)));
      total_is = ap (λ n. n + there) was.total_is ∙ (ap (λ n. sum (map f (range_with_len 1 i)) + n) level_is ∙ sym (total_more f i));
      few_begun = omega (arith, few_begun, one_up);
      few_ended = omega (arith, few_ended, one_down);
      small = omega (arith, small, few_begun, one_up, there_is, lt, few);
    }
