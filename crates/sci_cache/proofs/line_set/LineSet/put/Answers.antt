use Rattle.std.proofs.Common.{sym, ap, ◌∙◌, arith}
use Rattle.sci_cache.specs.LineSet.{is_in}
use Rattle.sci_cache.proofs.LineSets.{clear_here, clear_other, set_here, set_other}
use Rattle.sci_cache.proofs.line_set.LineSet.put.Goals as goal

pub returns-then-inside-clause-here : goal.returns-then-inside-clause-here
returns-then-inside-clause-here c = set_here _ c.args.line c.requires ∙ sym c.if-inside.true

pub returns-then-inside-clause-others : goal.returns-then-inside-clause-others
returns-then-inside-clause-others c = λ other ne. set_other _ c.args.line other c.requires ne ∙ ap (λ set. is_in set other) c.self.view_is

pub returns-else-inside-clause-here : goal.returns-else-inside-clause-here
returns-else-inside-clause-here c = clear_here _ c.args.line c.requires ∙ sym c.if-inside.false

pub returns-else-inside-clause-others : goal.returns-else-inside-clause-others
returns-else-inside-clause-others c = λ other ne. clear_other _ c.args.line other (omega arith) c.requires ne ∙ ap (λ set. is_in set other) c.self.view_is
