-- The cache keeps its sizes.
use Rattle.std.proofs.Common.{◌≡◌, Ok}
use Rattle.sci_cache.specs.Cache.{letter_of, cache_asking}
use Rattle.sci_packets.specs.declared.packet.Packet.{Packet}
use Rattle.sci_core.specs.contracts.node.Node.{the_view}
use Rattle.sci_core.proofs.Step.{Caches.{same_either, same_asking}, Nodes.{fits_kept, node_with_cache}}
use Rattle.sci_core.proofs.node.Node.ask.Goals as goal

pub invariant_of-self : goal.invariant_of-self
invariant_of-self c =
    let same = same_either c.ask.result (λ (packet : Packet). cache_asking c.self.inside.cache c.args.line c.args.kind ≡ Ok (c.ask.new.self, letter_of packet))
    c.self.inside.cache c.ask.new.self c.ask.ensures.asked
    (λ packet. same_asking c.self.inside.cache c.args.line c.args.kind c.ask.new.self (letter_of packet)) c.ask.ensures.same in
    (fits_kept _ _ _ _ _ _ same c.self.invariant.0, node_with_cache (the_view c.self.inside) _ same c.self.invariant.1)
