use Rattle.std.proofs.Common.{◌≡◌, ℕ, List, refl, sym, subst, rules, arith}
use Rattle.std.specs.Prelude.{slice_index_or}
use Rattle.sci_core.specs.{Core.{node_at}, Node.{NodeOf, no_node}}
use Rattle.sci_policy.specs.{Rest.{MayIdle}}
use Rattle.sci_runs.specs.{Deeds.{IsTurnSoFar}, Recorded.{course_of}}
use Rattle.sci_runs.proofs.turn.turn_on.Goals.{After-take_turn}
use Rattle.sci_runs.proofs.turn.turn_on.Goals as goal

pub returns-clause-rest : goal.returns-clause-rest
returns-clause-rest c = λ idle.
    let post = c.take_turn.new.post in
    let there : (parts : List NodeOf) → parts ≡ post.recorder.now.core.parts → MayIdle (slice_index_or parts c.args.node no_node) = λ parts is.
    subst (λ (ps : List NodeOf). MayIdle (slice_index_or ps c.args.node no_node)) (sym is)
    (subst (λ (n : ℕ). MayIdle (node_at post.recorder.now.core n)) c.take_turn.ensures.stays.0 (c.in_ok-take_turn.ensures.rest refl idle))
    in
    there _ (search rules)

-- what was done, at the node as it is named then
so_far : (c : After-take_turn)
    → IsTurnSoFar c.args.node c.args.policy.now (course_of c.args.recorder.now) c.take_turn.new.policy (course_of c.take_turn.new.post.recorder.now)
    c.take_turn.new.progress
so_far c = grind arith

pub returns-clause-done : goal.returns-clause-done
returns-clause-done c = grind (arith, so_far)

pub returns-in_err-take_turn-clause-part : goal.returns-in_err-take_turn-clause-part
returns-in_err-take_turn-clause-part c = grind (arith, so_far)
