-- The packet that is sent is the one that the ask makes.
use Rattle.std.proofs.Common.{refl, ap, sym, ◌∙◌, arith}
use Rattle.sci_cache.specs.Cache.{letter_of}
use Rattle.sci_core.specs.{declared.lane.LaneKind.TheVariants.{Requests}, Node.{NodeOf, node_asking}}
use Rattle.sci_core.specs.{contracts.state.State.{the_view}}
use Rattle.sci_core.proofs.Step.{Stepping.{stepping_idle}, Applied.{target_below, sent_done, sent_enabled}}
use Rattle.sci_core.proofs.Step.States.{read_at}
use Rattle.sci_words.specs.declared.event.Event.TheVariants as event
use Rattle.sci_core.proofs.state.State.ask.Goals as goal

pub returns-in_default-clause-refused : goal.returns-in_default-clause-refused
returns-in_default-clause-refused c = grind (arith, stepping_idle)

pub send-requires-clause-to : goal.send-requires-clause-to
send-requires-clause-to c =
    let made = c.in-Some.ensures.asked in
    let small = target_below c.args.self.now c.args.n c.args.line c.args.kind made.0 (letter_of c.in-Some.request) c.requires.well c.requires.n
    (ap (λ (node : NodeOf). node_asking node c.args.line c.args.kind) (sym c.node.ensures) ∙ made.1) in
    omega arith

pub returns-in-Err-clause-refused : goal.returns-in-Err-clause-refused
returns-in-Err-clause-refused c =
    let made = c.in-Some.ensures.asked in (
      sent_enabled c.args.self.now (event.Ask c.args.n c.args.line c.args.kind) Requests (λ node. node_asking node c.args.line c.args.kind) c.requires.n
          (λ node. refl) made.0 (letter_of c.in-Some.request)
          (ap (λ (node : NodeOf). node_asking node c.args.line c.args.kind) (sym c.node.ensures) ∙ made.1),
      refl,
    )

pub apply_ask-requires : goal.apply_ask-requires
apply_ask-requires c = grind (arith, read_at)

pub returns-clause-done : goal.returns-clause-done
returns-clause-done c =
    sent_done c.args.self.now (the_view c.self.inside) (event.Ask c.args.n c.args.line c.args.kind) Requests
    (λ node. node_asking node c.args.line c.args.kind) c.from.result c.index_mut.result.now c.apply_ask.new.self _ (letter_of c.in-Some.request) c.requires.n
    (λ node. refl) (ap (λ (node : NodeOf). node_asking node c.args.line c.args.kind) (sym c.node.ensures) ∙ c.in-Some.ensures.asked.1)
    (c.self.view_is ∙ c.in_default-send.ensures.ok) c.from.ensures c.self.invariant.parts_long c.index_mut.ensures.value c.apply_ask.ensures
