use Rattle.std.proofs.Common.{ap, sym, ◌∙◌, arith}
use Rattle.std.proofs.lemmas.Bool.{le-ltb}
use Rattle.sci_cache.specs.LineSet.{is_in}
use Rattle.sci_cache.proofs.LineSets.{above_none}
use Rattle.sci_cache.proofs.line_set.LineSet.contains.Goals as goal

pub returns-else-line-lt-MAX_LINES-clause-inside : goal.returns-else-line-lt-MAX_LINES-clause-inside
returns-else-line-lt-MAX_LINES-clause-inside c =
    le-ltb c.args.line 64 (omega arith)
    ∙ (sym (above_none c.self.inside.bits c.args.line (omega arith) (omega arith)) ∙ ap (λ set. is_in set c.args.line) c.self.view_is)
