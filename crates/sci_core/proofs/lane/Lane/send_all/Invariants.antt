-- The packets so far are sent.
use Rattle.std.proofs.Common.{◌≡◌, ◌++◌, map, take}
use Rattle.sci_cache.specs.Cache.{letter_of}
use Rattle.sci_core.proofs.lane.Lane.send_all.Given as goal

abbrev pub invariant-loop-packet : goal.invariant-loop-packet
invariant-loop-packet l = l.self ≡ l.initial.self ++ map letter_of (take l.packet-index l.packets)
