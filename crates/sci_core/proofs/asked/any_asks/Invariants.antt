-- No packet so far is such a request.
use Rattle.std.proofs.Common.{◌≡◌, map, take, false}
use Rattle.std.specs.List.{list_any}
use Rattle.sci_cache.specs.Cache.{letter_of}
use Rattle.sci_core.specs.Sharing.{asks_about}
use Rattle.sci_core.proofs.asked.any_asks.Given as goal

abbrev pub invariant-loop-packet : goal.invariant-loop-packet
invariant-loop-packet l = list_any (asks_about l.n l.line) (map letter_of (take l.packet-index l.packets)) ≡ false
