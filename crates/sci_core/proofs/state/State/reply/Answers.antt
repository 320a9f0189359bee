-- The packet that is sent is the answer that waits.
use Rattle.std.proofs.Common.{◌≡◌, None, Some, Option, option_map, refl, ap, sym, subst, ◌∙◌, arith}
use Rattle.std.specs.Prelude.{IfSome}
use Rattle.sci_packets.specs.declared.packet.Packet.{Packet}
use Rattle.sci_cache.specs.Cache.{Letter, letter_of}
use Rattle.sci_core.specs.{declared.lane.LaneKind.TheVariants.{Answers}, Node.{NodeOf, node_replying}}
use Rattle.sci_core.specs.{Core.{node_at}, contracts.state.State.{the_view}}
use Rattle.sci_core.proofs.Step.{Stepping.{stepping_idle}, Applied.{sent_done, sent_enabled, waits_replying}}
use Rattle.sci_words.specs.declared.event.Event.TheVariants as event
use Rattle.sci_core.proofs.state.State.reply.Goals as goal

gone : (old new : NodeOf) (result : Option Packet) → IfSome result (λ answer. node_replying old ≡ Some (new, letter_of answer))
    → (result ≡ None → node_replying old ≡ None) → IfSome (node_replying old) (λ sent. new ≡ sent.0)
gone old new None taken none = subst (λ (o : Option (NodeOf × Letter)). IfSome o (λ sent. new ≡ sent.0)) (sym (none refl)) tt
gone old new (Some answer) taken none = subst (λ (o : Option (NodeOf × Letter)). IfSome o (λ sent. new ≡ sent.0)) (sym taken) refl

pub returns-in_default-clause-refused : goal.returns-in_default-clause-refused
returns-in_default-clause-refused c = grind (arith, stepping_idle)

pub returns-in-Err-clause-refused : goal.returns-in-Err-clause-refused
returns-in-Err-clause-refused c =
    let some : (node_at c.args.self.now c.args.n).waiting ≡ Some (letter_of c.in-Some.answer) =
    ap (λ (node : NodeOf). node.waiting) (sym c.node.ensures) ∙ (sym c.waiting.ensures ∙ ap (option_map letter_of) (sym c.copied.ensures ∙ c.in-Some.is)) in (
      sent_enabled c.args.self.now (event.Reply c.args.n) Answers node_replying c.requires.n (λ node. refl) _ (letter_of c.in-Some.answer)
          (waits_replying (node_at c.args.self.now c.args.n) (letter_of c.in-Some.answer) some),
      refl,
    )

pub returns-clause-done : goal.returns-clause-done
returns-clause-done c =
    let some : (node_at c.args.self.now c.args.n).waiting ≡ Some (letter_of c.in-Some.answer) =
    ap (λ (node : NodeOf). node.waiting) (sym c.node.ensures) ∙ (sym c.waiting.ensures ∙ ap (option_map letter_of) (sym c.copied.ensures ∙ c.in-Some.is)) in
    sent_done c.args.self.now (the_view c.self.inside) (event.Reply c.args.n) Answers node_replying c.from.result c.index_mut.result.now
    c.take_answer-answer.new.self _ (letter_of c.in-Some.answer) c.requires.n (λ node. refl)
    (waits_replying (node_at c.args.self.now c.args.n) (letter_of c.in-Some.answer) some) (c.self.view_is ∙ c.in_default-send.ensures.ok) c.from.ensures
    c.self.invariant.parts_long c.index_mut.ensures.value
    (gone c.index_mut.result.now c.take_answer-answer.new.self c.take_answer-answer.result c.take_answer-answer.ensures.taken c.take_answer-answer.ensures.none)
