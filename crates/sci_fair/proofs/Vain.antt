-- If each node takes 64 turns in vain, one of them is the one in which it lets requests go. So nothing is pending.
use Rattle.std.proofs.Common.{◌≡◌, ◌≢◌, ◌≤◌, ◌<◌, ◌+◌, ◌-◌, ◌%◌, ◌==◌, ℕ, zero, suc, Bool, true, false, if◌then◌else◌, cond, arith, List, [], ◌∷◌, length}
use Rattle.std.proofs.Common.{Option, Some, None, refl, sym, ap, subst, ◌∙◌, inl, inr}
use Rattle.std.proofs.lemmas.{Bool.{cases_Bool, cases_eq, eq-eqb, eqb-true}, List.Sums.{sum_by-cons}}
use Rattle.std.specs.Prelude.{count_by, IfSome, nat_lt}
use Rattle.sci_core.specs.declared.lane.LaneKind.TheVariants.{Answers}
use Rattle.sci_core.specs.{Core.{Core, lane_of, node_at}, Node.{NodeOf, pending_on}, Reached.{IsReached}}
use Rattle.sci_policy.specs.declared.{policy.TheConstants.{PATIENCE}, want.Want.{Want, TheVariants.{Perform, Ask}}}
use Rattle.sci_policy.specs.Policy.{PolicyOf, next_policy, next_wanted, noted, ticked, turned}
use Rattle.sci_turn.specs.{Idle.{IsIdleTurn, WasSo}, Moves.{taken_next}, Posts.{PostOf, post_at}}
use Rattle.sci_turn.proofs.AlonePosts.{still_alone}
use Rattle.sci_fair.specs.{Lanes.{AreOpen}, Stuck.{FindsNothing}, Vain.{AreInVain}}
use Rattle.sci_fair.proofs.Stuck.{stuck_has_none}
use Rattle.sci_words.specs.declared.event.AskKind.TheVariants as kind

-- ---- what was found in a turn in vain

was_here : (P : Core → ℕ → Type 0) (n : ℕ) (core : Core) (new : PostOf) → WasSo (λ post. P post.core post.me) (post_at n core) new → P core n
was_here P n core new was =
    let still = still_alone n (post_at n core) was.mid (record { me = refl; alone = refl }) was.before in
    subst (λ (c : Core). P c n) still.same (subst (P was.mid.core) still.is.me was.so)

idle_at : (n : ℕ) (core : Core) (before after : PolicyOf) → IsIdleTurn before (post_at n core) after (post_at n core) → (turned before).turns ≡ 0
    → FindsNothing core n
idle_at n core before after idle let_go = record {
  policy = turned before;
  let_go = let_go;
  reply = was_here (λ c m. IfSome (node_at c m).waiting (λ answer. 4 ≤ length (lane_of c Answers m answer.target))) n core _ idle.reply;
  answers = λ from f. was_here (λ c m. lane_of c Answers from m ≡ []) n core _ (idle.answers from f);
  requests = λ from f. was_here (λ c m. taken_next (turned before) c from m ≡ None) n core _ (idle.requests from f);
  wants = idle.wants;
}

-- ---- the turns are counted

pub noted_turns : (policy : PolicyOf) (node : NodeOf) (want : Option Want) → (noted policy node want).turns ≡ policy.turns
noted_turns policy node None = refl
noted_turns policy node (Some (Perform line)) = refl
noted_turns policy node (Some (Ask line kind.Purge)) = refl
noted_turns policy node (Some (Ask line kind.Mread)) = refl
noted_turns policy node (Some (Ask line kind.Fread)) = refl
noted_turns policy node (Some (Ask line _)) = refl

either_turns : (one two : PolicyOf) (b : Bool) → one.turns ≡ two.turns → (if b then one else two).turns ≡ two.turns
either_turns one two true same = same
either_turns one two false same = refl

pub ticked_turns : (policy : PolicyOf) (node : NodeOf) → (ticked policy node).turns ≡ policy.turns
ticked_turns policy node = either_turns _ _ (nat_lt (policy.patience + 1) PATIENCE) refl

pub next_turns : (policy : PolicyOf) (node : NodeOf) → (next_policy policy node).turns ≡ policy.turns
next_turns policy node = noted_turns (ticked policy node) node (next_wanted policy node) ∙ ticked_turns policy node

counted : (n : ℕ) (core : Core) (before after : PolicyOf) → IsIdleTurn before (post_at n core) after (post_at n core) → after.turns ≡ (before.turns + 1) % 64
counted n core before after idle = grind (arith, noted_turns, ticked_turns)

-- ---- one of 64

count_one : (n m : ℕ) (order : List ℕ) → m ≡ n → count_by (λ k. k == n) (m ∷ order) ≡ 1 + count_by (λ k. k == n) order
count_one n m order same =
    sum_by-cons (λ k. cond {A = ℕ} (k == n) 1 0) m order
    ∙ ap (λ (b : Bool). cond {A = ℕ} b 1 0 + count_by (λ k. k == n) order) (eq-eqb m n same)

count_other : (n m : ℕ) (order : List ℕ) → m ≢ n → count_by (λ k. k == n) (m ∷ order) ≡ count_by (λ k. k == n) order
count_other n m order other = grind (arith, cases_Bool, eqb-true, sum_by-cons)

pub one_more : (t need : ℕ) → (t + suc need + 1) % 64 ≡ 0 → ((t + 1) % 64 + need + 1) % 64 ≡ 0
one_more t need due = omega arith

pub first_need : (t : ℕ) → (t + (63 - t % 64) + 1) % 64 ≡ 0
first_need t = omega arith

-- node n needs this many more turns until it lets requests go
idle_in : (core : Core) (order : List ℕ) (old new : ℕ → PolicyOf) (n need : ℕ) → AreInVain core order old new → ((old n).turns + need + 1) % 64 ≡ 0
    → need < count_by (λ k. k == n) order → FindsNothing core n
idle_in core [] old new n need vain due many = absurd (let none : need < 0 = many in omega arith)
idle_in core (m ∷ order) old new n zero vain due many = elim (cases_eq m n) [
  | inl same ↦
      let idle = subst (λ (k : ℕ). IsIdleTurn (old k) (post_at k core) (vain.0 k) (post_at k core)) same vain.1.idle in
      idle_at n core (old n) (vain.0 n) idle (let now : ((old n).turns + 0 + 1) % 64 ≡ 0 = due in omega arith)
  | inr other ↦
      let stays : vain.0 n ≡ old n = vain.1.others n (λ is. other (sym is)) in
      idle_in core order vain.0 new n zero vain.2 (ap (λ (p : PolicyOf). (p.turns + zero + 1) % 64) stays ∙ due)
      (let as_many = count_other n m order other in omega arith)
]
idle_in core (m ∷ order) old new n (suc need) vain due many = elim (cases_eq m n) [
  | inl same ↦
      let idle = subst (λ (k : ℕ). IsIdleTurn (old k) (post_at k core) (vain.0 k) (post_at k core)) same vain.1.idle in
      let count : (vain.0 n).turns ≡ ((old n).turns + 1) % 64 = counted n core (old n) (vain.0 n) idle in
      idle_in core order vain.0 new n need vain.2
      (ap (λ (t : ℕ). (t + need + 1) % 64) count ∙ one_more (old n).turns need due)
      (let more = count_one n m order same in omega arith)
  | inr other ↦
      let stays : vain.0 n ≡ old n = vain.1.others n (λ is. other (sym is)) in
      idle_in core order vain.0 new n (suc need) vain.2 (ap (λ (p : PolicyOf). (p.turns + suc need + 1) % 64) stays ∙ due)
      (let as_many = count_other n m order other in omega arith)
]

pub vain_has_none : (core : Core) (order : List ℕ) (old new : ℕ → PolicyOf) → IsReached core → AreOpen core → AreInVain core order old new
    → ((n : ℕ) → n < core.size.nodes → 64 ≤ count_by (λ m. m == n) order) → (n line : ℕ) → n < core.size.nodes → pending_on (node_at core n) line ≡ None
vain_has_none core order old new reached lanes vain many =
    stuck_has_none core reached lanes (λ n some.
    idle_in core order old new n (63 - (old n).turns % 64) vain (first_need (old n).turns) (let enough = many n some in omega arith))
