-- How the number of rounds that are left changes with the states of one line.
use Rattle.std.proofs.Common.{◌≡◌, ◌≢◌, ◌⊎◌, ℕ, zero, suc, ◌+◌, ◌*◌, ◌<◌, ◌≤◌, refl, sym, ap, subst, ◌∙◌, arith, inl, inr}
use Rattle.std.proofs.lemmas.{Bool.{cases_eq}, List.Sums.{sum_by-cons}}
use Rattle.std.specs.List.{range_with_len, sum_by}
use Rattle.sci_cache.specs.State.{CacheState, Out, Joining, FreshJoining, FreshHead}
use Rattle.sci_core.specs.{Core.{Core, node_at}, Reached.{IsReached}, Rounds.{AreOut, entry_rank, rank}}
use Rattle.sci_core.specs.{Shape.{state_at}, Size.{Size}}
use Rattle.sci_core.proofs.{Settling.Shifts.{Shifts}, Tidy.Burdens.{entries_few, sum_to, sum_to_less}}
use Rattle.sci_core.proofs.WellFormed.WellFormedSteps.{reached_well}

-- ---- sums over numbers

-- f from + .. + f (from + count - 1)
abbrev pub sum_over : (ℕ → ℕ) → ℕ → ℕ → ℕ
sum_over f from count = sum_by f (range_with_len from count)

sum_more : (f : ℕ → ℕ) (from count : ℕ) → sum_over f from (suc count) ≡ f from + sum_over f (from + 1) count
sum_more f from count = sum_by-cons f from (range_with_len (from + 1) count)

pub sum_same : (f g : ℕ → ℕ) (from count : ℕ) → ((i : ℕ) → from ≤ i → i < from + count → g i ≡ f i) → sum_over g from count ≡ sum_over f from count
sum_same f g from zero same = refl
sum_same f g from (suc count) same =
    let a = sum_more f from count in
    let b = sum_more g from count in
    let here = same from (omega arith) (omega arith) in
    let rest = sum_same f g (from + 1) count (λ i low high. same i (omega arith) (omega arith)) in
    omega arith

-- one changes
pub sum_one : (f g : ℕ → ℕ) (from count a : ℕ) → from ≤ a → a < from + count → ((i : ℕ) → i ≢ a → g i ≡ f i)
    → sum_over g from count + f a ≡ sum_over f from count + g a
sum_one f g from zero a low high same = absurd (omega arith)
sum_one f g from (suc count) a low high same =
    let x = sum_more f from count in
    let y = sum_more g from count in
    elim (cases_eq from a) [
      | inl here ↦
          let rest = sum_same f g (from + 1) count (λ i lo hi. same i (λ e. absurd (omega arith))) in
          let fa = ap f here in
          let ga = ap g here in
          omega arith
      | inr other ↦
          let this = same from other in
          let rest = sum_one f g (from + 1) count a (omega arith) (omega arith) same in
          omega arith
    ]

-- one changes, and one that is past may
sum_past : (f g : ℕ → ℕ) (from count a b : ℕ) → a < from → from ≤ b → b < from + count → ((i : ℕ) → i ≢ a → i ≢ b → g i ≡ f i)
    → sum_over g from count + f b ≡ sum_over f from count + g b
sum_past f g from zero a b past low high same = absurd (omega arith)
sum_past f g from (suc count) a b past low high same =
    let x = sum_more f from count in
    let y = sum_more g from count in
    elim (cases_eq from b) [
      | inl here ↦
          let rest = sum_same f g (from + 1) count (λ i lo hi. same i (λ e. absurd (omega arith)) (λ e. absurd (omega arith))) in
          let fb = ap f here in
          let gb = ap g here in
          omega arith
      | inr other ↦
          let this = same from (λ e. absurd (omega arith)) other in
          let rest = sum_past f g (from + 1) count a b (omega arith) (omega arith) (omega arith) same in
          omega arith
    ]

-- two change
pub sum_two : (f g : ℕ → ℕ) (from count a b : ℕ) → from ≤ a → a < from + count → from ≤ b → b < from + count → a ≢ b → ((i : ℕ) → i ≢ a → i ≢ b → g i ≡ f i)
    → sum_over g from count + (f a + f b) ≡ sum_over f from count + (g a + g b)
sum_two f g from zero a b la ha lb hb apart same = absurd (omega arith)
sum_two f g from (suc count) a b la ha lb hb apart same =
    let x = sum_more f from count in
    let y = sum_more g from count in
    elim (cases_eq from a) [
      | inl here ↦
          let low : from + 1 ≤ b = (elim (cases_eq from b) [ inl e ↦ absurd (apart (sym here ∙ e)) | inr ne ↦ omega arith ]) in
          let rest = sum_past f g (from + 1) count a b (omega arith) low (omega arith) same in
          let fa = ap f here in
          let ga = ap g here in
          omega arith
      | inr other ↦ elim (cases_eq from b) [
        | inl there ↦
            let rest = sum_past f g (from + 1) count b a (omega arith) (omega arith) (omega arith) (λ i not_b not_a. same i not_a not_b) in
            let fb = ap f there in
            let gb = ap g there in
            omega arith
        | inr neither ↦
            let this = same from other neither in
            let rest = sum_two f g (from + 1) count a b (omega arith) (omega arith) (omega arith) (omega arith) apart same in
            omega arith
      ]
    ]

-- ---- the rounds that are left

abbrev node_rank : Core → ℕ → ℕ
node_rank core n = sum_over (λ line. entry_rank (state_at core line n)) 0 core.size.lines

-- one line of a node changes
one_node : (core new : Core) (n line : ℕ) → line < core.size.lines → new.size ≡ core.size → ((k : ℕ) → k ≢ line → state_at new k n ≡ state_at core k n)
    → node_rank new n + entry_rank (state_at core line n) ≡ node_rank core n + entry_rank (state_at new line n)
one_node core new n line inside size same =
    let one = sum_one (λ k. entry_rank (state_at core k n)) (λ k. entry_rank (state_at new k n)) 0 core.size.lines line (omega arith) (omega arith)
    (λ k other. ap entry_rank (same k other)) in
    subst (λ (s : Size). sum_over (λ k. entry_rank (state_at new k n)) 0 s.lines + entry_rank (state_at core line n) ≡ node_rank core n + entry_rank
    (state_at new line n)) (sym size) one

same_node : (core new : Core) (n : ℕ) → new.size ≡ core.size → ((k : ℕ) → state_at new k n ≡ state_at core k n) → node_rank new n ≡ node_rank core n
same_node core new n size same = grind (arith, sum_same)

pub rank_one : (core new : Core) (n line : ℕ) (state : CacheState) → n < core.size.nodes → line < core.size.lines → state_at new line n ≡ state
    → ((m k : ℕ) → ((m ≡ n) × (k ≡ line) → ⊥) → state_at new k m ≡ state_at core k m) → new.size ≡ core.size
    → rank new + entry_rank (state_at core line n) ≡ rank core + entry_rank state
rank_one core new n line state lt inside is others size =
    let here = one_node core new n line inside size (λ k other. others n k (λ h. other h.1)) in
    let all = sum_one (node_rank core) (node_rank new) 0 core.size.nodes n (omega arith) (omega arith)
    (λ m other. same_node core new m size (λ k. others m k (λ h. other h.0))) in
    let whole : rank new ≡ sum_over (node_rank new) 0 core.size.nodes = ap (λ (s : Size). sum_over (node_rank new) 0 s.nodes) size in
    let then_ = ap entry_rank is in
    omega arith

pub rank_shift : (core new : Core) (n line : ℕ) (state : CacheState) → n < core.size.nodes → line < core.size.lines → Shifts core new n line state
    → rank new + entry_rank (state_at core line n) ≡ rank core + entry_rank state
rank_shift core new n line state lt inside shift = rank_one core new n line state lt inside shift.here shift.others shift.size

-- one line of two nodes changes
pub record Pair (core new : Core) (n q line : ℕ) (a b : CacheState) : Type 0 where
  pub first : state_at new line n ≡ a
  pub second : state_at new line q ≡ b
  pub others : (m k : ℕ) → (k ≡ line → (m ≡ n) ⊎ (m ≡ q) → ⊥) → state_at new k m ≡ state_at core k m
  pub size : new.size ≡ core.size

pub rank_two : (core new : Core) (n q line : ℕ) (a b : CacheState) → n < core.size.nodes → q < core.size.nodes → line < core.size.lines → n ≢ q
    → Pair core new n q line a b
    → rank new + (entry_rank (state_at core line n) + entry_rank (state_at core line q)) ≡ rank core + (entry_rank a + entry_rank b)
rank_two core new n q line a b lt below inside apart pair =
    let here = one_node core new n line inside pair.size (λ k other. pair.others n k (λ e h. other e)) in
    let there = one_node core new q line inside pair.size (λ k other. pair.others q k (λ e h. other e)) in
    let all = sum_two (node_rank core) (node_rank new) 0 core.size.nodes n q (omega arith) (omega arith) (omega arith) (omega arith) apart
    (λ m not_n not_q. same_node core new m pair.size (λ k. pair.others m k (λ e h. elim h [ inl x ↦ not_n x | inr y ↦ not_q y ]))) in
    let whole : rank new ≡ sum_over (node_rank new) 0 core.size.nodes = ap (λ (s : Size). sum_over (node_rank new) 0 s.nodes) pair.size in
    let one = ap entry_rank pair.first in
    let two = ap entry_rank pair.second in
    omega arith

-- ---- no more than twice the entries

small : (s : CacheState) → entry_rank s ≤ 2
small Out = omega arith
small (Joining p sent) = omega arith
small (FreshJoining p sent c) = omega arith
small (FreshHead f c) = omega arith
small _ = omega arith

-- the last of a sum
sum_last : (f : ℕ → ℕ) (from count : ℕ) → sum_over f from (suc count) ≡ sum_over f from count + f (from + count)
sum_last f from zero = let more = sum_more f from 0 in let here : f (from + 0) ≡ f from = ap f (omega arith) in omega arith
sum_last f from (suc count) =
    let a = sum_more f from (suc count) in
    let b = sum_more f from count in
    let rest = sum_last f (from + 1) count in
    let here : f (from + 1 + count) ≡ f (from + suc count) = ap f (omega arith) in
    omega arith

over_to : (f : ℕ → ℕ) (count : ℕ) → sum_over f 0 count ≡ sum_to f count
over_to f zero = refl
over_to f (suc count) =
    let last = sum_last f 0 count in
    let before = over_to f count in
    let at : f (0 + count) ≡ f count = ap f (omega arith) in
    omega arith

pub sum_less : (f : ℕ → ℕ) (k count : ℕ) → ((i : ℕ) → i < count → f i ≤ k) → sum_over f 0 count ≤ count * k
sum_less f k count each = let same = over_to f count in let less = sum_to_less f k count each in omega arith

node_few : (core : Core) (n : ℕ) → IsReached core → n < core.size.nodes → node_rank core n ≤ 2 * core.size.slots
node_few core n reached lt =
    let few = entries_few entry_rank 2 small refl core.size n (node_at core n) ((reached_well core reached).each_part n lt) in
    let same = over_to (λ line. entry_rank (state_at core line n)) core.size.lines in
    omega arith

pub record IsFew (core : Core) : Type 0 where
  pub lines : rank core ≤ 2 * (core.size.nodes * core.size.lines)
  pub slots : rank core ≤ 2 * (core.size.nodes * core.size.slots)

pub few_rounds : (core : Core) → IsReached core → IsFew core
few_rounds core reached =
    let by_lines = sum_less (node_rank core) (core.size.lines * 2) core.size.nodes
    (λ n below. sum_less (λ line. entry_rank (state_at core line n)) 2 core.size.lines (λ line inside. small (state_at core line n))) in
    let by_slots = sum_less (node_rank core) (2 * core.size.slots) core.size.nodes (λ n below. node_few core n reached (omega arith)) in
    let one : core.size.nodes * (core.size.lines * 2) ≡ 2 * (core.size.nodes * core.size.lines) = grind arith in
    let other : core.size.nodes * (2 * core.size.slots) ≡ 2 * (core.size.nodes * core.size.slots) = grind arith in
    record { lines = omega arith; slots = omega arith }

-- no rounds are left if no cache has an entry
pub none_left : (core : Core) → AreOut core → rank core ≡ 0
none_left core out =
    let all = sum_less (node_rank core) 0 core.size.nodes (λ n below. (
    let lines = sum_less (λ line. entry_rank (state_at core line n)) 0 core.size.lines
    (λ line inside. (let none = ap entry_rank (out line n) in omega arith)) in
    let zero_ : core.size.lines * 0 ≡ 0 = grind arith in
    omega arith)) in
    let none : core.size.nodes * 0 ≡ 0 = grind arith in
    omega arith
