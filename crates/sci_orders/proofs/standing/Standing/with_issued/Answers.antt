-- The node's answers end with one more.
use Rattle.std.proofs.Common.{◌++◌, ◌∷◌, [], ◌∙◌, rules}
use Rattle.sci_orders.{proofs.{Copies.{list_changed}, Sameness.{same_position}}, specs.declared.standing.Answer.TheVariants.{Waiting}}
use Rattle.sci_orders.proofs.standing.Standing.with_issued.Goals as goal

pub returns : goal.returns
returns c = same_position _ _
    (list_changed c.args.self.now.answers.items c.in_ok-answers.answers.items c.args.n c.index_mut.result.now c.push.new.self (λ as_. as_ ++ Waiting ∷ [])
    c.in_ok-answers.ensures c.requires c.index_mut.ensures.value (search rules)) (c.in_ok-words.ensures.items ∙ c.deref.ensures.value)
