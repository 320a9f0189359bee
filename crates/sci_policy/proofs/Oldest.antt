-- The oldest of the operations of some lines.
use Rattle.std.proofs.Common.{◌≡◌, ℕ, zero, suc, ◌+◌, ◌-◌, ◌<◌, ◌≤◌, nat_lt, ◌&&◌, Bool, true, false, if◌then◌else◌, cond, List, [], ◌∷◌, ◌++◌, filter}
use Rattle.std.proofs.Common.{Option, Some, None, refl, sym, ap, subst, ◌∙◌, arith}
use Rattle.std.proofs.lemmas.{Bool.{cases_Bool, false_from_ne_true}, List.{append-nil}}
use Rattle.std.proofs.lemmas.List.Elements.{filter-append, filter_agree}
use Rattle.std.specs.{Prelude.{IfSome, is_some, option_map}, List.{range_with_len}}
use Rattle.sci_cache.specs.LineSet.{is_in}
use Rattle.sci_core.specs.{Node.{NodeOf, pending_on}, declared.pending.Pending.{Pending}}
use Rattle.sci_policy.specs.Lines.{all_lines, has_pending, older, oldest, oldest_of, serial_on}
use Rattle.sci_policy.specs.Scan.{is_older_than}
use Rattle.sci_policy.proofs.LeastAmong.{range_more}

-- what becomes of the oldest by one line more
abbrev pub next_oldest : NodeOf → Option ℕ → ℕ → ℕ
next_oldest node None line = line
next_oldest node (Some found) line = if nat_lt (serial_on node line) (serial_on node found) then line else found

older_push : (node : NodeOf) (line last : ℕ) (rest : Option ℕ)
    → Some (older node line (Some (next_oldest node rest last))) ≡ Some (next_oldest node (Some (older node line rest)) last)
older_push node line last None = grind (arith)
older_push node line last (Some found) = grind (arith)

pub oldest_push : (node : NodeOf) (lines : List ℕ) (last : ℕ) → oldest_of node (lines ++ last ∷ []) ≡ Some (next_oldest node (oldest_of node lines) last)
oldest_push node [] last = refl
oldest_push node (line ∷ lines) last =
    ap (λ (o : Option ℕ). Some (older node line o)) (oldest_push node lines last) ∙ older_push node line last (oldest_of node lines)

-- the oldest of the first lines
abbrev pub oldest_below : NodeOf → (ℕ → Bool) → ℕ → Option ℕ
oldest_below node tested count = oldest_of node (filter (λ line. has_pending node line && tested line) (range_with_len 0 count))

one_more : (node : NodeOf) (tested : ℕ → Bool) (line : ℕ)
    → filter (λ l. has_pending node l && tested l) (range_with_len 0 (line + 1)) ≡ filter (λ l. has_pending node l && tested l) (range_with_len 0 line)
    ++ filter (λ l. has_pending node l && tested l) (line ∷ [])
one_more node tested line = ap (filter (λ l. has_pending node l && tested l)) (range_more line)
    ∙ filter-append (λ l. has_pending node l && tested l) (range_with_len 0 line) (line ∷ [])

filtered : (p : ℕ → Bool) (line : ℕ) (b : Bool) → p line ≡ b → filter p (line ∷ []) ≡ cond b (line ∷ []) []
filtered p line b e = ap (λ (c : Bool). cond {A = List ℕ} c (line ∷ []) []) e

-- a line that isn't meant leaves it
pub oldest_left : (node : NodeOf) (tested : ℕ → Bool) (line : ℕ) → (has_pending node line && tested line) ≡ false
    → oldest_below node tested (line + 1) ≡ oldest_below node tested line
oldest_left node tested line fails = grind (arith, one_more, filtered, append-nil)

-- a line that is meant is compared with it
pub oldest_next : (node : NodeOf) (tested : ℕ → Bool) (line : ℕ) → (has_pending node line && tested line) ≡ true
    → oldest_below node tested (line + 1) ≡ Some (next_oldest node (oldest_below node tested line) line)
oldest_next node tested line passes = grind (arith, one_more, filtered, oldest_push)

-- ---- what a walk over the lines has found so far: a line, and its operation's serial

abbrev pub IsFound : NodeOf → Option (ℕ × ℕ) → Type 0
IsFound node found = IfSome found (λ f. f.1 ≡ serial_on node f.0)

abbrev pub line_found : Option (ℕ × ℕ) → Option ℕ
line_found found = option_map (λ f. f.0) found

-- an older one takes its place
pub found_next : (node : NodeOf) (tested : ℕ → Bool) (line : ℕ) (found : Option (ℕ × ℕ)) → IsFound node found → line_found found ≡ oldest_below node tested line
    → (has_pending node line && tested line) ≡ true → is_older_than (serial_on node line) found ≡ true → Some line ≡ oldest_below node tested (line + 1)
found_next node tested line None is same passes older =
    sym (oldest_next node tested line passes ∙ ap (λ (o : Option ℕ). Some (next_oldest node o line)) (sym same))
found_next node tested line (Some f) is same passes older = grind (arith, oldest_next)

kept : (node : NodeOf) (tested : ℕ → Bool) (line : ℕ) (found : Option (ℕ × ℕ)) → IsFound node found → line_found found ≡ oldest_below node tested line
    → (has_pending node line && tested line) ≡ true → (is_older_than (serial_on node line) found ≡ true → ⊥)
    → line_found found ≡ oldest_below node tested (line + 1)
kept node tested line None is same passes younger = absurd (younger refl)
kept node tested line (Some f) is same passes younger = grind (arith, false_from_ne_true, oldest_next)

-- one that is younger, or isn't meant, doesn't
pub found_left : (node : NodeOf) (tested : ℕ → Bool) (line : ℕ) (found : Option (ℕ × ℕ)) → IsFound node found → line_found found ≡ oldest_below node tested line
    → (is_older_than (serial_on node line) found ≡ true → (has_pending node line && tested line) ≡ false)
    → line_found found ≡ oldest_below node tested (line + 1)
found_left node tested line found is same skips = grind (arith, cases_Bool, kept, oldest_left)

-- ---- one line more of the walk

-- what is found, and what it is for each test
abbrev pub IsFoundBelow : NodeOf → ((ℕ → Bool) → Type 0) → ℕ → Option (ℕ × ℕ) → Type 0
IsFoundBelow node IsMeant count found = IsFound node found × ((tested : ℕ → Bool) → IsMeant tested → line_found found ≡ oldest_below node tested count)

pending_and : (pending : Option Pending) (p : Pending) (b c : Bool) → pending ≡ Some p → b ≡ c → (is_some pending && b) ≡ c
pending_and None p b c e f = cc
pending_and (Some q) p b c e f = f

-- no test that is meant lets a line pass, or nothing is pending on it
abbrev pub IsPassedOver : NodeOf → ((ℕ → Bool) → Type 0) → ℕ → Type 0
IsPassedOver node IsMeant line = (tested : ℕ → Bool) → IsMeant tested → (has_pending node line && tested line) ≡ false

passed_over : (node : NodeOf) (IsMeant : (ℕ → Bool) → Type 0) (line : ℕ) (found : Option (ℕ × ℕ)) → IsPassedOver node IsMeant line
    → IsFoundBelow node IsMeant line found → IsFoundBelow node IsMeant (line + 1) found
passed_over node IsMeant line found over was = (was.0, λ tested is. found_left node tested line found was.0 (was.1 tested is) (λ older. over tested is))

pub nothing_pending : (node : NodeOf) (IsMeant : (ℕ → Bool) → Type 0) (line : ℕ) (found : Option (ℕ × ℕ)) → pending_on node line ≡ None
    → IsFoundBelow node IsMeant line found → IsFoundBelow node IsMeant (line + 1) found
nothing_pending node IsMeant line found none was =
    passed_over node IsMeant line found (λ tested is. ap (λ (o : Option Pending). is_some o && tested line) none) was

pub older_found : (node : NodeOf) (IsMeant : (ℕ → Bool) → Type 0) (line : ℕ) (found : Option (ℕ × ℕ)) (p : Pending) → pending_on node line ≡ Some p
    → is_older_than p.serial found ≡ true → ((tested : ℕ → Bool) → IsMeant tested → tested line ≡ true)
    → IsFoundBelow node IsMeant line found → IsFoundBelow node IsMeant (line + 1) (Some (line, p.serial))
older_found node IsMeant line found p at older passes was = grind (arith, found_next, pending_and)

pub not_meant : (node : NodeOf) (IsMeant : (ℕ → Bool) → Type 0) (line : ℕ) (found : Option (ℕ × ℕ)) (p : Pending) → pending_on node line ≡ Some p
    → ((tested : ℕ → Bool) → IsMeant tested → tested line ≡ false)
    → IsFoundBelow node IsMeant line found → IsFoundBelow node IsMeant (line + 1) found
not_meant node IsMeant line found p at fails was = grind (arith, found_left, pending_and)

pub not_older : (node : NodeOf) (IsMeant : (ℕ → Bool) → Type 0) (line : ℕ) (found : Option (ℕ × ℕ)) (p : Pending) → pending_on node line ≡ Some p
    → is_older_than p.serial found ≡ false
    → IsFoundBelow node IsMeant line found → IsFoundBelow node IsMeant (line + 1) found
not_older node IsMeant line found p at younger was = grind (arith, found_left)

-- ---- lines that are passed over

none_between : (node : NodeOf) (IsMeant : (ℕ → Bool) → Type 0) (k d : ℕ) (found : Option (ℕ × ℕ)) → ((j : ℕ) → k ≤ j → j < k + d → IsPassedOver node IsMeant j)
    → IsFoundBelow node IsMeant k found → IsFoundBelow node IsMeant (k + d) found
none_between node IsMeant k zero found none was = let same : k ≡ k + 0 = omega arith in subst (λ (n : ℕ). IsFoundBelow node IsMeant n found) same was
none_between node IsMeant k (suc d) found none was =
    let same : (k + d) + 1 ≡ k + suc d = omega arith in
    subst (λ (n : ℕ). IsFoundBelow node IsMeant n found) same
    (passed_over node IsMeant (k + d) found (none (k + d) (omega arith) (omega arith))
    (none_between node IsMeant k d found (λ j from below. (let lt : j < k + suc d = omega arith in none j from lt)) was))

pub none_up_to : (node : NodeOf) (IsMeant : (ℕ → Bool) → Type 0) (k n : ℕ) (found : Option (ℕ × ℕ)) → k ≤ n
    → ((j : ℕ) → k ≤ j → j < n → IsPassedOver node IsMeant j) → IsFoundBelow node IsMeant k found → IsFoundBelow node IsMeant n found
none_up_to node IsMeant k n found le none was =
    let whole : k + (n - k) ≡ n = omega arith in
    subst (λ (m : ℕ). IsFoundBelow node IsMeant m found) whole (none_between node IsMeant k (n - k) found (λ j from below. none j from (omega arith)) was)

-- ---- lines of a set

-- a test of the lines of a set by another test
abbrev pub IsNarrowed : ℕ → ((ℕ → Bool) → Type 0) → (ℕ → Bool) → Type 0
IsNarrowed set IsMeant test = (tested : ℕ → Bool) × (IsMeant tested × ((line : ℕ) → test line ≡ (is_in set line && tested line)))

not_both : (pending inside tested test : Bool) → inside ≡ false → test ≡ (inside && tested) → (pending && test) ≡ false
not_both false inside tested test none is = refl
not_both true false tested test none is = is
not_both true true tested test none is = cc

-- a line that isn't in the set is passed over
pub not_in : (node : NodeOf) (set : ℕ) (IsMeant : (ℕ → Bool) → Type 0) (line : ℕ) → is_in set line ≡ false → IsPassedOver node (IsNarrowed set IsMeant) line
not_in node set IsMeant line none = λ test is. not_both (has_pending node line) (is_in set line) (is.0 line) (test line) none (is.1.1 line)

-- what a test says of a line of the set
pub said_of : (set : ℕ) (IsMeant : (ℕ → Bool) → Type 0) (line : ℕ) (b : Bool) → is_in set line ≡ true
    → ((tested : ℕ → Bool) → IsMeant tested → tested line ≡ b) → (test : ℕ → Bool) → IsNarrowed set IsMeant test → test line ≡ b
said_of set IsMeant line b here says test is = is.1.1 line ∙ (ap (λ (k : Bool). k && is.0 line) here ∙ says is.0 is.1.0)

implied : (pending inside test : Bool) → (pending ≡ true → test ≡ true → inside ≡ true) → (pending && (inside && test)) ≡ (pending && test)
implied false inside test only = refl
implied true true test only = refl
implied true false true only = only refl refl
implied true false false only = refl

-- a set that has each line with an operation pending that passes needn't be asked for
pub oldest_in_set : (node : NodeOf) (set : ℕ) (test : ℕ → Bool) → ((line : ℕ) → has_pending node line ≡ true → test line ≡ true → is_in set line ≡ true)
    → oldest node (λ line. is_in set line && test line) ≡ oldest node test
oldest_in_set node set test only =
    ap (oldest_of node) (filter_agree _ _ (λ line. implied (has_pending node line) (is_in set line) (test line) (only line)) (all_lines node))

-- what is in both of two sets is in their intersection
pub in_both : (b c d : Bool) → b ≡ (c && d) → c ≡ true → d ≡ true → b ≡ true
in_both b c d both one other = both ∙ rw (one, other) refl
