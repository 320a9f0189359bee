-- The node's call is the step.
use Rattle.std.proofs.{Common.{◌≡◌, None, Some, ap, subst, ◌∙◌, arith}, lemmas.Grind.{common_steps}}
use Rattle.std.proofs.lemmas.Option.{IfSome_then}
use Rattle.sci_core.specs.{Node.{NodeOf, node_issuing}, Core.{changes}, Work.{IsIssued}}
use Rattle.sci_core.proofs.Step.States.{at_both, node_call}
use Rattle.sci_words.specs.declared.event.Event.TheVariants as event
use Rattle.sci_core.proofs.state.State.issue.Goals as goal

pub returns : goal.returns
returns c =
    let made = c.issue.ensures in
    let call = node_call _ _ (event.Issue c.args.n c.args.op) c.from.result _ c.issue.new.self c.issue.result c.self.view_is
    c.self.invariant.parts_long c.from.ensures c.requires c.index_mut.ensures.value in
    record {
      done = call.done (IfSome_then c.issue.result made.issued (λ x e. ap changes e));
      issued = IfSome_then c.issue.result made.issued
          (λ x so. at_both (λ before after. node_issuing before c.args.op ≡ Some after) _ _ _ _ call.was call.is so);
      serial = IfSome_then c.issue.result made.serial (λ serial is. is ∙ ap (λ (node : NodeOf). node.issued) call.was);
      pending = IfSome_then c.issue.result made.pending (λ x so. at_both (λ before after. IsIssued before after c.args.op) _ _ _ _ call.was call.is so);
      none = λ none. subst (λ (node : NodeOf). node_issuing node c.args.op ≡ None) call.was (made.none none);
      not = call.not (λ none. ap changes (made.none none));
      same = grind (arith, common_steps);
    }
