-- A round, the Perform, and a round.
use Rattle.std.proofs.Common.{◌++◌, ◌∷◌, [], sym, ap, ◌∙◌}
use Rattle.sci_words.specs.declared.event.Event.{Event}
use Rattle.sci_core.specs.Size.{size_of}
use Rattle.sci_orders.proofs.Ways.{turn_made}
use Rattle.sci_orders.proofs.schedule.push_turn.Goals as goal

pub returns : goal.returns
returns c = λ limit.
    turn_made (size_of c.args.extent limit) c.in-Perform.node c.in-Perform.line c.args.event c.args.events.now.items c.extend_from_slice.new.self.items
    c.push-2.new.self.items c.extend_from_slice-2.new.self.items c.round.result c.round-2.result c.in-Perform.is c.in_ok-extend_from_slice.ensures.items
    (c.in_ok-push-2.ensures.items ∙ ap (λ (e : Event). c.extend_from_slice.new.self.items ++ e ∷ []) (sym c.in-Perform.is))
    c.in_ok-extend_from_slice-2.ensures.items (c.round.ensures limit) (c.round-2.ensures limit)
