-- The least line comes first, and the oldest operation has the least serial.
use Rattle.std.proofs.Common.{◌≡◌, ℕ, zero, suc, ◌+◌, ◌<◌, ◌≤◌, ◌&&◌, Bool, true, false, cond, ◌∷◌, filter, Option, Some, None, refl, ap, arith}
use Rattle.std.proofs.lemmas.{Bool.{and_parts, cases_eq}, Option.{IfSome_then}}
use Rattle.std.specs.{List.{find, range_with_len}, Prelude.{IfSome}}
use Rattle.sci_core.specs.Node.{NodeOf, lines_of}
use Rattle.sci_policy.specs.Lines.{has_pending, least, oldest, oldest_of, older, serial_on}
use Rattle.sci_policy.proofs.Found.{further, oldest_fits}

-- ---- the least line

-- something is found that isn't above a bound
abbrev IsFoundBy : (ℕ → ℕ) → Option ℕ → ℕ → Type 0
IsFoundBy measure found bound = (x : ℕ) × ((found ≡ Some x) × (measure x ≤ bound))

first_by : (p : ℕ → Bool) (a n x : ℕ) (b : Bool) → p a ≡ b → a ≤ x → (p a ≡ false → IsFoundBy (λ i. i) (find p (range_with_len (a + 1) n)) x)
    → IsFoundBy (λ i. i) (cond b (Some a) (find p (range_with_len (a + 1) n))) x
first_by p a n x true e from rest = (a, (refl, from))
first_by p a n x false e from rest = rest e

first_found : (p : ℕ → Bool) (a n x : ℕ) → a ≤ x → x < a + n → p x ≡ true → IsFoundBy (λ i. i) (find p (range_with_len a n)) x
first_found p a zero x from below passes = absurd (omega arith)
first_found p a (suc n) x from below passes =
    first_by p a n x (p a) refl from
    (λ fails. (let end : x < (a + 1) + n = omega arith in first_found p (a + 1) n x (further p a x from passes fails) end passes))

pub least_first : (node : NodeOf) (test : ℕ → Bool) (other : ℕ) → other < lines_of node → test other ≡ true
    → (line : ℕ) × ((least node test ≡ Some line) × (line ≤ other))
least_first node test other below passes = first_found test 0 (lines_of node) other (omega arith) (omega arith) passes

-- ---- the oldest operation

older_first : (node : NodeOf) (line : ℕ) (rest : Option ℕ) → serial_on node (older node line rest) ≤ serial_on node line
older_first node line None = omega arith
older_first node line (Some other) = grind (arith)

older_rest : (node : NodeOf) (line other : ℕ) → serial_on node (older node line (Some other)) ≤ serial_on node other
older_rest node line other = grind (arith)

older_yet : (node : NodeOf) (line bound : ℕ) (rest : Option ℕ) → IsFoundBy (serial_on node) rest bound
    → serial_on node (older node line rest) ≤ bound
older_yet node line bound None found = absurd (let none = found.1.0 in cc)
older_yet node line bound (Some other) found =
    let same : serial_on node other ≡ serial_on node found.0 = ap (serial_on node) (of_some found.1.0) in
    let first = older_rest node line other in
    let second = found.1.1 in
    omega arith
  where
    of_some : {a b : ℕ} → ◌≡◌ {A = Option ℕ} (Some a) (Some b) → a ≡ b
    of_some e = cc

oldest_by : (node : NodeOf) (p : ℕ → Bool) (a n x : ℕ) (b : Bool) → p a ≡ b → a ≤ x → p x ≡ true
    → (a + 1 ≤ x → IsFoundBy (serial_on node) (oldest_of node (filter p (range_with_len (a + 1) n))) (serial_on node x))
    → IsFoundBy (serial_on node) (oldest_of node (cond b (a ∷ filter p (range_with_len (a + 1) n)) (filter p (range_with_len (a + 1) n)))) (serial_on node x)
oldest_by node p a n x false e from passes rest = rest (further p a x from passes e)
oldest_by node p a n x true e from passes rest = grind (arith, cases_eq, older_first, older_yet)

oldest_found : (node : NodeOf) (p : ℕ → Bool) (a n x : ℕ) → a ≤ x → x < a + n → p x ≡ true
    → IsFoundBy (serial_on node) (oldest_of node (filter p (range_with_len a n))) (serial_on node x)
oldest_found node p a zero x from below passes = absurd (omega arith)
oldest_found node p a (suc n) x from below passes =
    oldest_by node p a n x (p a) refl from passes
    (λ later. (let end : x < (a + 1) + n = omega arith in oldest_found node p (a + 1) n x later end passes))

pub oldest_least : (node : NodeOf) (test : ℕ → Bool) (other : ℕ) → other < lines_of node → has_pending node other ≡ true → test other ≡ true
    → (line : ℕ) × ((oldest node test ≡ Some line) × (serial_on node line ≤ serial_on node other))
oldest_least node test other below pending passes =
    let both : (has_pending node other && test other) ≡ true = rw (pending, passes) refl in
    oldest_found node (λ line. has_pending node line && test line) 0 (lines_of node) other (omega arith) (omega arith) both

pub oldest_meant : (node : NodeOf) (test : ℕ → Bool)
    → IfSome (oldest node test) (λ line. (line < lines_of node) × ((has_pending node line ≡ true) × (test line ≡ true)))
oldest_meant node test = IfSome_then (oldest node test) (oldest_fits node test) (λ line fits. (fits.0, and_parts (has_pending node line) (test line) fits.1))
