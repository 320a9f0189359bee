use Rattle.std.proofs.Common.{subst}
use Rattle.sci_text.specs.Script.{IsScript}
use Rattle.sci_text.proofs.ScriptLimits.{is_script_inside}
use Rattle.sci_text.proofs.script.Script.operations.Goals as goal

pub returns-clause-good : goal.returns-clause-good
returns-clause-good c = subst IsScript c.self.view_is
    (is_script_inside c.self.inside.extent c.self.inside.counts c.self.inside.operations.items c.self.invariant)
