use Rattle.std.proofs.Common.{false, refl}
use Rattle.sci_cache.proofs.KindSets.{for_each_kind}
use Rattle.sci_cache.proofs.line_kinds.LineKinds.new.Goals as goal

pub returns : goal.returns
returns c = λ kind line. for_each_kind _ line (λ of. false) (c.new.ensures line) (c.new-2.ensures line) (c.new-3.ensures line)
    (c.new-4.ensures line) (c.new-5.ensures line) (c.new-6.ensures line) refl kind
