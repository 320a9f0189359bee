use Rattle.std.proofs.Common.{◌||◌, ap, ◌∙◌}
use Rattle.sci_cache.specs.LineSet.{is_in}
use Rattle.sci_cache.proofs.LineSets.{in_either}
use Rattle.sci_cache.proofs.line_set.LineSet.union.Goals as goal

pub returns : goal.returns
returns c = λ line. in_either c.self.inside.bits c.other.inside.bits line
    ∙ (ap (λ set. is_in set line || is_in c.other.inside.bits line) c.self.view_is ∙ ap (λ set. is_in c.args.self line || is_in set line) c.other.view_is)
