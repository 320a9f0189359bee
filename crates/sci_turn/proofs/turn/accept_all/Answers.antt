use Rattle.std.proofs.{Common.{rules, ◌≡◌, ◌<◌, ◌+◌, ◌-◌, ℕ, suc, refl, sym, subst, arith}}
use Rattle.std.specs.List.{range_with_len}
use Rattle.sci_core.specs.Size.{Size}
use Rattle.sci_policy.specs.Policy.{opening_policy}
use Rattle.sci_turn.specs.{Posts.{IsSamePost, PostOf, nodes_in}, Moves.{stage}, Whole.{AcceptsFrom, InTurn}}
use Rattle.sci_turn.proofs.{Moments.{node_stays}, LongerTurns.{goes_then}, Steps.{passes_empty}}
use Rattle.sci_turn.proofs.turn.accept_all.Goals.{After-accept_from}
use Rattle.sci_turn.proofs.turn.accept_all.Goals as goal

-- a node that is there before is one of this many
below_nodes : (from nodes : ℕ) (old mid : PostOf) → IsSamePost old mid → nodes ≡ nodes_in old → from < nodes_in mid → from < nodes
below_nodes from nodes old mid same is lt = subst (λ (n : ℕ). from < n) (sym is) (subst (λ (size : Size). from < size.nodes) same.size lt)

pub returns-in_err-accept_from-clause-goes : goal.returns-in_err-accept_from-clause-goes
returns-in_err-accept_from-clause-goes g c = λ policy. goes_then _ _ _ (c.answers.invariant.goes policy) (c.accept_from.ensures.goes policy)

pub answers-preserved : goal.answers-preserved
answers-preserved g c =
    let nodes = c.nodes-nodes.result in
    let old = g.P.Post.post c.args.post.now in
    let mid = g.P.Post.post c.answers.post in
    let next = c.answers.next in
    let from = c.in-Some.from in
    let came = c.answers.invariant.goes opening_policy in
    let order = c.in-Some.ensures.order in
    let here : from < nodes = below_nodes from nodes old mid came.same c.nodes-nodes.ensures c.in-Some.ensures.here in
    let few = c.answers.invariant.few in
    let there : next + (from - next) ≡ from = omega arith in
    let left : (from - next) + (nodes - from) ≡ nodes - next = omega arith in
    let more : nodes - from ≡ suc (nodes - (from + 1)) = omega arith in
    record {
      goes = λ policy. goes_then _ _ _ (c.answers.invariant.goes policy) (c.accept_from.ensures.goes policy);
      stays = search rules;
      passed = λ policy end rest. (
          let now = stage policy mid c.answers.progress in
          c.answers.invariant.passed policy end
          (subst (λ (n : ℕ). InTurn AcceptsFrom (range_with_len next n) now end) left
          (passes_empty now end next (from - next) (nodes - from)
          (λ other some below. c.in-Some.ensures.passed other some (node_stays other old mid came.same (subst (λ (n : ℕ). other < n) c.nodes-nodes.ensures
          (omega arith))) (subst (λ (k : ℕ). other < k) there below))
          (subst (λ (k : ℕ). InTurn AcceptsFrom (range_with_len k (nodes - from)) now end) (sym there)
          (subst (λ (n : ℕ). InTurn AcceptsFrom (range_with_len from n) now end) (sym more)
          (_, c.in_ok-accept_from.ensures.accepts refl policy, rest))))));
      few = omega arith;
    }

pub overflow_add-next : goal.overflow_add-next
overflow_add-next g c = let here =
    below_nodes c.in-Some.from c.nodes-nodes.result _ _ (c.answers.invariant.goes opening_policy).same c.nodes-nodes.ensures c.in-Some.ensures.here in let few =
    c.nodes-nodes.type_inv in omega arith

pub answers-smaller : goal.answers-smaller
answers-smaller g c =
    let here = below_nodes c.in-Some.from c.nodes-nodes.result _ _ (c.answers.invariant.goes opening_policy).same c.nodes-nodes.ensures
    c.in-Some.ensures.here in
    let order = c.in-Some.ensures.order in
    omega arith

pub returns-clause-accepts : goal.returns-clause-accepts
returns-clause-accepts g c = λ _ policy.
    let nodes = c.nodes-nodes.result in
    let old = g.P.Post.post c.args.post.now in
    let mid = g.P.Post.post c.answers.post in
    let next = c.answers.next in
    let came = c.answers.invariant.goes opening_policy in
    let few = c.answers.invariant.few in
    let left : (nodes - next) + 0 ≡ nodes - next = omega arith in
    let now = stage policy mid c.answers.progress in
    subst (λ (n : ℕ). InTurn AcceptsFrom (range_with_len 0 n) (stage policy old c.args.progress.now) now) c.nodes-nodes.ensures
    (c.answers.invariant.passed policy now
    (subst (λ (n : ℕ). InTurn AcceptsFrom (range_with_len next n) now now) left
    (passes_empty now now next (nodes - next) 0
    (λ other some below. c.in_default.ensures.passed other some (node_stays other old mid came.same (subst (λ (n : ℕ). other < n) c.nodes-nodes.ensures
    (omega arith))) tt)
    refl)))
