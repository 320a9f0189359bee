use Rattle.std.proofs.Common.{◌≡◌, None, sym, ap, subst, ◌∙◌}
use Rattle.std.specs.Prelude.{is_some}
use Rattle.sci_core.specs.{Core.{Core, node_at}, Node.{NodeOf, node_issuing}}
use Rattle.sci_core.proofs.Submitting.{issued_freely}
use Rattle.sci_locked.proofs.lent.submit_on.Goals as goal

pub of-requires : goal.of-requires
of-requires c =
    let same = c.node.ensures.node ∙ ap (λ (core : Core). node_at core c.args.node) (c.issue.ensures.same c.in-None.is) in
    subst (λ (node : NodeOf). node_issuing node c.args.op ≡ None) (sym same) (c.issue.ensures.none c.in-None.is)

pub returns-in-Some-clause-may : goal.returns-in-Some-clause-may
returns-in-Some-clause-may c = λ _. issued_freely (node_at c.args.machine.now c.args.node) c.args.op (ap is_some c.in-Some.ensures.issued)
