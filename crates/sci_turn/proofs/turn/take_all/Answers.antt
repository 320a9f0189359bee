use Rattle.std.proofs.Common.{rules, ◌≡◌, ◌<◌, ◌+◌, ◌-◌, ℕ, suc, refl, sym, subst, arith}
use Rattle.std.proofs.Math.Nat.{mod-lt}
use Rattle.sci_turn.specs.{Moves.{stage}, Whole.{InTurn, TakesFrom, circle}}
use Rattle.sci_turn.proofs.LongerTurns.{goes_then}
use Rattle.sci_turn.proofs.turn.take_all.Goals as goal

pub returns-in_err-take_from-clause-goes : goal.returns-in_err-take_from-clause-goes
returns-in_err-take_from-clause-goes g c = goes_then _ _ _ c.loop-place.invariant.goes c.take_from.ensures.goes

pub loop-place-preserved : goal.loop-place-preserved
loop-place-preserved g c =
    let mid = stage c.loop-place.policy (g.P.Post.post c.loop-place.post) c.loop-place.progress in
    let new = stage c.take_from.new.policy (g.P.Post.post c.take_from.new.post) c.take_from.new.progress in
    let nodes = c.nodes-nodes.result in
    let place = c.loop-place._place in
    let from = c.loop-place.from in
    let invariant = c.loop-place.invariant in
    let some = c.loop-place-test.true in
    let left : nodes - place ≡ suc (nodes - (place + 1)) = omega arith in
    record {
      goes = goes_then _ _ _ invariant.goes c.take_from.ensures.goes;
      below = subst (λ (k : ℕ). k < nodes) (sym c.after-from.ensures) (mod-lt (from + 1) (let below = invariant.below in omega arith));
      stays = search rules;
      passed = λ end rest. invariant.passed end
          (subst (λ (n : ℕ). InTurn TakesFrom (circle nodes from n) mid end) (sym left) (
            new,
            c.in_ok-take_from.ensures.takes refl,
            subst (λ (j : ℕ). InTurn TakesFrom (circle nodes j (nodes - (place + 1))) new end) c.after-from.ensures rest,
          ));
    }

pub returns-clause-takes : goal.returns-clause-takes
returns-clause-takes g c = grind arith
