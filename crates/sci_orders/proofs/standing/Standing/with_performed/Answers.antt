-- One answer of the node is another, and one word.
use Rattle.std.proofs.{Common.{◌≡◌, set, get_or, ◌∙◌, ap, rules, arith}, lemmas.Grind.{common_steps}}
use Rattle.sci_words.specs.Operation.{effect}
use Rattle.sci_orders.{proofs.{Copies.{list_changed}, Sameness.{same_position}}, specs.{Positions.{answer_of, word_place}, declared.standing.Answer.{Answer}}}
use Rattle.sci_orders.proofs.standing.Standing.with_performed.Goals as goal

pub returns : goal.returns
returns c =
    let old = get_or c.args.self.now.words.items (word_place c.args.op) 0 in
    let effect_is : c.effect-word.result ≡ effect c.args.op old = grind (arith, common_steps) in
    let mine = answer_of (effect c.args.op old).1 in
    let given : c.answer_of.result ≡ mine = c.answer_of.ensures ∙ ap (λ (r : _). answer_of r.1) effect_is in
    same_position _ _
    (list_changed c.args.self.now.answers.items c.in_ok-answers.answers.items c.args.n c.index_mut.result.now _ (λ as_. set as_ c.args.i mine)
    c.in_ok-answers.ensures c.requires.node c.index_mut.ensures.value (ap (λ (a : Answer). set c.index_mut.result.now.items c.args.i a) given))
    (search rules)
