-- The home, then each node in turn.
use Rattle.std.proofs.Common.{sym, ◌∙◌, arith}
use Rattle.sci_core.proofs.Shape.LastContents.{authority_more, last_authority, last_nowhere}
use Rattle.sci_core.proofs.state.State.last_at.Goals as goal

pub returns-in-Some-authority : goal.returns-in-Some-authority
returns-in-Some-authority c = grind (arith, last_authority)

pub loop-n-preserved : goal.loop-n-preserved
loop-n-preserved c = authority_more c.args.self.now c.args.line c.loop-n.n (omega arith) c.loop-n.invariant
    ∙ (sym c.authority.ensures ∙ c.in_default-authority.is)

pub returns : goal.returns
returns c = grind (arith, last_nowhere)
