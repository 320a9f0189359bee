-- The packet that is found is one of them.
use Rattle.std.proofs.Common.{◌≡◌, ◌<◌, Bool, length, map, get_or, true, sym, ap, ◌∙◌, arith}
use Rattle.std.proofs.lemmas.List.{get_or-map, length-map, Folds.{list_any_at}}
use Rattle.sci_cache.specs.Cache.{Letter, letter_of}
use Rattle.sci_core.specs.Sharing.{asks_about}
use Rattle.sci_core.proofs.asked.any_asks.Goals as goal

pub returns-then-asks : goal.returns-then-asks
returns-then-asks c =
    let packets = c.args.packets.now in
    let i = c.loop-packet.packet-index in
    let item = c.packet-item.result in
    let p : Letter → Bool = asks_about c.args.n c.args.line in
    let is : p (letter_of item) ≡ true = sym c.asks.ensures ∙ c.if-asks.true in
    let test = c.loop-packet-test.true in
    let here : get_or (map letter_of packets) i (letter_of item) ≡ letter_of item =
    get_or-map letter_of packets i item (letter_of item) (omega arith) ∙ ap letter_of (sym c.packet-item.is) in
    let within : i < length (map letter_of packets) = omega (arith, length-map packets letter_of) in
    sym (list_any_at p (map letter_of packets) i (letter_of item) within (ap p here ∙ is))
