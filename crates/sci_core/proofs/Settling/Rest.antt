-- A node is at rest if it counts no pending operation and no entry.
use Rattle.std.proofs.Common.{◌≡◌, ℕ, zero, suc, ◌+◌, not, cond, Bool, true, false, List, [], ◌∷◌, length, get_or, Option, Some, None, refl, sym, ap, ◌∙◌}
use Rattle.std.proofs.{Common.{arith}, lemmas.List.Sums.{sum_by-cons}}
use Rattle.std.specs.Prelude.{count_by, is_some}
use Rattle.sci_cache.specs.{State.{is_out}, Line.{LineState, untouched}, Cache.{slots_taken}}
use Rattle.sci_core.specs.{declared.pending.Pending.{Pending}, Node.{NodeOf, IsNode, IsAtRest}}

first : (b : Bool) (n : ℕ) → cond {A = ℕ} b 1 0 + n ≡ 0 → b ≡ false
first true n e = absurd (let one : 1 + n ≡ 0 = e in omega arith)
first false n e = refl

rest : (b : Bool) (n : ℕ) → cond {A = ℕ} b 1 0 + n ≡ 0 → n ≡ 0
rest true n e = absurd (let one : 1 + n ≡ 0 = e in omega arith)
rest false n e = let none : 0 + n ≡ 0 = e in omega arith

-- what is counted no time is nowhere
none_counted : {X : Type 0} (p : X → Bool) (xs : List X) (d : X) → p d ≡ false → count_by p xs ≡ 0 → (i : ℕ) → p (get_or xs i d) ≡ false
none_counted p [] d at e i = at
none_counted p (x ∷ xs) d at e zero = first (p x) (count_by p xs) (sym (sum_by-cons (λ y. cond {A = ℕ} (p y) 1 0) x xs) ∙ e)
none_counted p (x ∷ xs) d at e (suc i) = none_counted p xs d at (rest (p x) (count_by p xs) (sym (sum_by-cons (λ y. cond {A = ℕ} (p y) 1 0) x xs) ∙ e)) i

-- and what is nowhere is counted no time
pub counted_none : {X : Type 0} (p : X → Bool) (xs : List X) (d : X) → ((i : ℕ) → p (get_or xs i d) ≡ false) → count_by p xs ≡ 0
counted_none p [] d none = refl
counted_none p (x ∷ xs) d none =
    let here : cond {A = ℕ} (p x) 1 0 ≡ 0 = ap (λ (b : Bool). cond {A = ℕ} b 1 0) (none zero) in
    let there : count_by p xs ≡ 0 = counted_none p xs d (λ i. none (suc i)) in
    let sum : count_by p (x ∷ xs) ≡ cond {A = ℕ} (p x) 1 0 + count_by p xs = sum_by-cons (λ y. cond {A = ℕ} (p y) 1 0) x xs in
    omega arith

none_of : (o : Option Pending) → is_some o ≡ false → o ≡ None
none_of None e = refl
none_of (Some p) e = cc

out_of : (b : Bool) → not b ≡ false → b ≡ true
out_of true e = refl
out_of false e = cc

pub at_rest : (node : NodeOf) → IsNode node → node.issued ≡ length node.log → slots_taken node.cache.lines ≡ 0 → IsAtRest node
at_rest node is done free = grind (arith, none_of, none_counted, out_of)

pub rest_is_done : (node : NodeOf) → IsNode node → IsAtRest node → node.issued ≡ length node.log
rest_is_done node is rest =
    let logged = is.logged in
    let none : count_by is_some node.pending ≡ 0 = counted_none is_some node.pending None (λ line. ap is_some (rest.none_pending line)) in
    omega arith

pub rest_is_free : (node : NodeOf) → IsAtRest node → slots_taken node.cache.lines ≡ 0
rest_is_free node rest = counted_none (λ (l : LineState). not (is_out l.state)) node.cache.lines untouched (λ line. ap not (rest.none_held line))
