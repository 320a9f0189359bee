-- The node's call is the step.
use Rattle.std.proofs.{Common.{◌≡◌, None, Some, ap, subst, arith}, lemmas.{Grind.{common_steps}, Option.{IfSome_then}}}
use Rattle.sci_core.specs.{Node.{NodeOf, node_performing}, Core.{performs}, Work.{IsLogged}}
use Rattle.sci_core.proofs.Step.States.{at_both, node_call}
use Rattle.sci_words.specs.declared.event.Event.TheVariants as event
use Rattle.sci_core.proofs.state.State.perform.Goals as goal

pub returns : goal.returns
returns c =
    let made = c.perform.ensures in
    let call = node_call _ _ (event.Perform c.args.n c.args.line) c.from.result _ c.perform.new.self c.perform.result c.self.view_is
    c.self.invariant.parts_long c.from.ensures c.requires c.index_mut.ensures.value in
    record {
      done = call.done (IfSome_then c.perform.result made.performed (λ x e. ap performs e));
      performed = IfSome_then c.perform.result made.performed
          (λ entry so. at_both (λ before after. node_performing before c.args.line ≡ Some (after, entry)) _ _ _ _ call.was call.is so);
      logged = IfSome_then c.perform.result made.logged
          (λ entry so. at_both (λ before after. IsLogged before after c.args.line entry) _ _ _ _ call.was call.is so);
      none = λ none. subst (λ (node : NodeOf). node_performing node c.args.line ≡ None) call.was (made.none none);
      not = call.not (λ none. ap performs (made.none none));
      same = grind (arith, common_steps);
    }
