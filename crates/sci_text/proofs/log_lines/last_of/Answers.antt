use Rattle.std.proofs.{Common.{arith}, lemmas.List.{ext_get_or}}
use Rattle.sci_words.specs.Stamped.{zero_stamped}
use Rattle.sci_text.proofs.log_lines.last_of.Goals as goal

pub returns : goal.returns
returns c =
    let h = c.loop-line.invariant in
    ext_get_or zero_stamped c.loop-line.last.value c.args.contents.now h.long (λ k lt. h.same k (omega (arith, h.long)))
