-- No packet so far is an answer to the node about the line.
use Rattle.std.proofs.Common.{◌≡◌, filter, map, take, None}
use Rattle.sci_cache.specs.Cache.{letter_of}
use Rattle.sci_core.specs.Sharing.{is_about, answer_in}
use Rattle.sci_core.proofs.last.answer_among.Given as goal

abbrev pub invariant-loop-packet : goal.invariant-loop-packet
invariant-loop-packet l = answer_in (filter (is_about l.n l.line) (map letter_of (take l.packet-index l.packets))) ≡ None
