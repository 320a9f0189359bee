use Rattle.std.proofs.Common.{arith}
use Rattle.std.proofs.lemmas.List.FromFn.{fill_by_all}
use Rattle.sci_words.specs.Stamped.{zero_stamped}
use Rattle.sci_core.specs.Sharing.{last_at}
use Rattle.sci_c.proofs.machine.put_last.Goals as goal

pub returns : goal.returns
returns c =
    let core = c.args.machine.now in
    fill_by_all (last_at core) c.loop-line.last core.size.lines zero_stamped c.loop-line.invariant.long
    (λ k below. c.loop-line.invariant.there k (omega arith))
