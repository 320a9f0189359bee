use Rattle.std.proofs.Common.{length, arith}
use Rattle.std.specs.List.{between}
use Rattle.byteorder.specs.Numbers.{big_from-lt}
use Rattle.sci_packets.proofs.Fields.{IsBytes-between}
use Rattle.sci_packets.proofs.header.Header.read.Goals as goal

pub returns-clause-offset : goal.returns-clause-offset
returns-clause-offset c =
    let bytes = c.args.bytes.now in
    rw c.read_u48.ensures (big_from-lt 0 6 (between 8 (length bytes) bytes) (IsBytes-between 8 (length bytes) bytes (λ i. omega (arith, c.type_inv.bytes i))))
