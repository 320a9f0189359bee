-- No row of the tables raises the rank, but for the exceptions.
use Rattle.std.proofs.Common.{◌≡◌, ◌<◌, ◌≤◌, ℕ, Bool, true, false, ◌&&◌, ◌+◌, if◌then◌else◌, arith, Option, None, Some, rules}
use Rattle.std.proofs.lemmas.Bool.{leb-true, ltb-true}
use Rattle.std.specs.Prelude.{IfSome, nat_le, nat_lt}
use Rattle.sci_words.specs.declared.event.AskKind.{AskKind}
use Rattle.sci_packets.specs.declared.body.Body.{Body}
use Rattle.sci_cache.specs.{State.{CacheState}, Asking.{Asked, asking}, Serving.{serving}, Accepting.{accepting}}
use Rattle.sci_fair.specs.Rank.{IsHeldFor, answers_well, can_perform, counts_use, level, never_rises, rank, suits, used_after}

pub same_state : (used : Bool) (work : Option Bool) (s : CacheState) → never_rises used used work s s ≡ true
same_state used work s = search rules

pub accepting_keeps : (used : Bool) (work : Option Bool) (s : CacheState) (answer : Body) → answers_well work s answer ≡ true
    → IfSome (accepting s answer) (λ next. never_rises used used work s next ≡ true)
accepting_keeps used work s answer fits = search rules

pub serving_keeps : (used : Bool) (work : Option Bool) (s : CacheState) (n : ℕ) (request : Body) → IsHeldFor used work s request
    → IfSome (serving s n request) (λ (served : CacheState × Body). never_rises used used work s served.0 ≡ true)
serving_keeps used work s n request held = search rules

pub asking_keeps : (used : Bool) (work : Option Bool) (s : CacheState) (k : AskKind) → suits work k ≡ true → can_perform work s ≡ false
    → IfSome (asking s k) (λ (asked : Asked). never_rises used (used_after k used) work s asked.next ≡ true)
asking_keeps used work s k suit idle = first_of (search rules, cc)

-- ---- bounds

most_rank : (work : Option Bool) (s : CacheState) → nat_le (rank work s) 46 ≡ true
most_rank work s = search rules

lower_rank : (maker : Bool) (s : CacheState) → nat_lt (rank (Some maker) s) (rank None s) ≡ true
lower_rank maker s = search rules

pub rank_within : (work : Option Bool) (s : CacheState) → rank work s ≤ 46
rank_within work s = leb-true (rank work s) 46 (most_rank work s)

pub issue_lowers : (maker : Bool) (s : CacheState) → rank (Some maker) s < rank None s
issue_lowers maker s = ltb-true (rank (Some maker) s) (rank None s) (lower_rank maker s)

-- ---- levels

level_by : (b : Bool) (r : ℕ) → r ≤ 46 → (if b then 47 else 0) + r ≤ 93
level_by true r low = omega (arith, low)
level_by false r low = omega (arith, low)

pub level_within : (used : Bool) (work : Option Bool) (s : CacheState) → level used work s ≤ 93
level_within used work s = level_by (counts_use s && used) (rank work s) (rank_within work s)

same_by : (a b : Bool) (m n : ℕ) → m ≤ 46 → n ≤ 46 → (if a then 47 else 0) + m ≡ (if b then 47 else 0) + n → m ≡ n
same_by true true m n one two same = omega (arith, same)
same_by false false m n one two same = omega (arith, same)
same_by true false m n one two same = absurd (omega (arith, same, two))
same_by false true m n one two same = absurd (omega (arith, same, one))

-- what is on one level has one rank
pub level_rank : (used then_ : Bool) (work works : Option Bool) (s t : CacheState) → level used work s ≡ level then_ works t → rank work s ≡ rank works t
level_rank used then_ work works s t = same_by (counts_use s && used) (counts_use t && then_) (rank work s) (rank works t) (rank_within work s)
    (rank_within works t)
