use Rattle.std.proofs.Common.{arith}
use Rattle.sci_judge.proofs.ForcedChecks.{word_behind}
use Rattle.sci_judge.proofs.site.Site.word_before.Goals as goal

pub returns : goal.returns
returns c =
    word_behind c.args.self.now.accesses.now c.args.makers.now c.args.index c.in_ok-maker.field-0.0 c.left.result
    c.in_ok-maker.field-0.1 (omega arith) c.in_ok-maker.ensures c.left.ensures
