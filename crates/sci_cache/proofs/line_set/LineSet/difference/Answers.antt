use Rattle.std.proofs.Common.{◌&&◌, not, ap, ◌∙◌, arith}
use Rattle.sci_cache.specs.LineSet.{is_in}
use Rattle.sci_cache.proofs.LineSets.{in_first}
use Rattle.sci_cache.proofs.line_set.LineSet.difference.Goals as goal

pub returns : goal.returns
returns c = λ line. in_first c.self.inside.bits c.other.inside.bits line (omega arith) (omega arith)
    ∙ (ap (λ set. is_in set line && not (is_in c.other.inside.bits line)) c.self.view_is
    ∙ ap (λ set. is_in c.args.self line && not (is_in set line)) c.other.view_is)
