use Rattle.std.proofs.Common.{◌≡◌, None, refl, sym, ap, ◌∙◌}
use Rattle.std.specs.Prelude.{option_copied, option_map}
use Rattle.sci_cache.specs.Cache.{letter_of}
use Rattle.sci_core.specs.Node.{NodeOf}
use Rattle.sci_policy.proofs.Deciding.{none_seen}
use Rattle.sci_station.proofs.StationEvents.{may_serve}
use Rattle.sci_running_tests.proofs.by_hand.serve.Goals as goal

pub free-requires-clause-may : goal.free-requires-clause-may
free-requires-clause-may c =
    let cell = c.next_to_take-cell in
    let part = c.receive.new.end.part in
    let none = none_seen (λ o. option_map letter_of (option_copied o)) refl c.waiting.result _ c.waiting.ensures (sym c.is_some.ensures ∙ c.if-is_some.false) in
    let free : part.node.waiting ≡ None = ap (λ (m : NodeOf). m.waiting) (c.receive.ensures.still.node ∙ sym c.node.ensures.node) ∙ none in
    may_serve part cell.result c.in-Some.request c.args.from c.me.result c.in-Some.ensures.read cell.ensures.cell.0 cell.ensures.cell.1 c.me.ensures free
