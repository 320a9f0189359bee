use Rattle.std.proofs.Common.{◌≡◌, ◌++◌, ◌∙◌, ℕ, ap, arith}
use Rattle.sci_allowed.proofs.WrittenWords.{first_written, written_more, written_same}
use Rattle.sci_allowed.proofs.place.push_written.Goals.{then-contains+in_ok-push, else-contains}
use Rattle.sci_allowed.proofs.place.push_written.Goals as goal

pub loop-word-preserved : goal.loop-word-preserved
loop-word-preserved c = grind (arith, written_more, else-contains, written_same)

pub returns : goal.returns
returns c = λ operations are.
    let end = c.loop-word-test.false in
    let bound = c.loop-word.auto.word-end in
    let all : c.loop-word.word ≡ 8 = omega (arith, end, bound) in
    c.loop-word.invariant operations are ∙ ap (λ (n : ℕ). c.args.places.now.items ++ first_written operations c.args.line n) all
