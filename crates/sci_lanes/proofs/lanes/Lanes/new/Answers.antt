use Rattle.std.proofs.Common.{arith}
use Rattle.std.proofs.{Common.{ℕ, List, length, get_or, ap, ◌∙◌}, lemmas.List.{length-replicate}}
use Rattle.sci_core.specs.Size.{size_of}
use Rattle.sci_lanes.proofs.Opening.{machine_size, opened, replicated, ends_more, none_left}
use Rattle.sci_lanes.proofs.lanes.Lanes.new.Goals as goal

pub of_words-requires : goal.of_words-requires
of_words-requires c =
    let words = c.deref.ensures.value ∙ c.in_ok-words.ensures.items_if_clones_equal (λ y e. e) in
    opened (size_of c.args.extent c.args.limit) c.deref.result.now (machine_size c.args.extent c.args.limit c.requires.some c.requires.few)
    (ap (λ (ws : List ℕ). length ws) words ∙ (length-replicate c.own_word.result 0 ∙ c.own_word.ensures))
    (λ k. ap (λ (ws : List ℕ). get_or ws k 0) words ∙ replicated c.own_word.result k 0)

pub loop-node-preserved : goal.loop-node-preserved
loop-node-preserved c = grind (arith, ends_more)

pub invariant_of-result : goal.invariant_of-result
invariant_of-result c = grind (arith, none_left)
