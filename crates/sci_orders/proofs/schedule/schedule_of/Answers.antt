-- One event more.
use Rattle.std.proofs.Common.{◌≡◌, ◌<◌, ◌+◌, ◌++◌, ℕ, List, length, get_or, take, sym, ap, ◌∙◌}
use Rattle.sci_words.specs.declared.event.Event.{Event}
use Rattle.sci_core.specs.Size.{Size, size_of}
use Rattle.sci_orders.proofs.Ways.{schedule_take}
use Rattle.sci_orders.specs.Witness.{schedule_of, turn_of}
use Rattle.sci_orders.proofs.schedule.schedule_of.Goals as goal

schedule_more : (size : Size) (order : List Event) (k : ℕ) (d : Event) (old new : List Event) → k < length order → old ≡ schedule_of size (take k order)
    → new ≡ old ++ turn_of size (get_or order k d) → new ≡ schedule_of size (take (k + 1) order)
schedule_more size order k d old new low before added =
    added ∙ (ap (λ (es : List Event). es ++ turn_of size (get_or order k d)) before ∙ sym (schedule_take size order k d low))

pub loop-event-preserved : goal.loop-event-preserved
loop-event-preserved c = λ limit.
    schedule_more (size_of c.args.extent limit) c.args.order.now c.loop-event.event-index _ c.loop-event.events.items c.push_turn.new.events.items
    c.loop-event-test.true (c.loop-event.invariant limit) (c.in_ok-push_turn.ensures limit)
