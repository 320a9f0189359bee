use Rattle.std.proofs.{Common.{◌≤◌, List, length, sym, ap, subst, ◌∙◌, arith}}
use Rattle.std.specs.{List.{All}, Prelude.{Vec}, declared.alloc.Global.{Global}}
use Rattle.sci_words.specs.declared.{limits.TheConstants.{MAX_OPERATIONS}, operation.Op.{Op}}
use Rattle.sci_allowed.{proofs.Litmuses.{node_count}}
use Rattle.sci_allowed.proofs.litmus.Litmus.outcome_of.Goals as goal

pub outcome_of-requires-clause-nodes : goal.outcome_of-requires-clause-nodes
outcome_of-requires-clause-nodes c =
    let count = node_count c.args.self.now c.requires.litmus in
    let same = ap (λ (ops : List (Vec Op Global)). length ops) c.deref.ensures.value in
    let few = c.requires.litmus.good.size.few_nodes in
    omega arith

pub outcome_of-requires-clause-few : goal.outcome_of-requires-clause-few
outcome_of-requires-clause-few c =
    subst (λ (ops : List (Vec Op Global)). All (λ own. length own.items ≤ MAX_OPERATIONS) ops) (sym c.deref.ensures.value) c.requires.litmus.few

pub outcome_of-requires-clause-answers : goal.outcome_of-requires-clause-answers
outcome_of-requires-clause-answers c =
    let count = node_count c.args.self.now c.requires.litmus in
    let same = ap (λ (ops : List (Vec Op Global)). length ops) c.deref.ensures.value in
    c.requires.nodes ∙ (sym count ∙ sym same)

pub returns : goal.returns
returns c = grind arith
