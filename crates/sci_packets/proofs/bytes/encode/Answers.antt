use Rattle.std.proofs.Common.{arith}
use Rattle.sci_packets.proofs.Packets.{packet_made, short_written, long_written, length-spelling}
use Rattle.sci_packets.proofs.bytes.encode.Goals as goal

pub returns-in-None-clause-bytes : goal.returns-in-None-clause-bytes
returns-in-None-clause-bytes c =
    short_written c.args.p.now _ c.args.to.now c.write.new.to c.header_for.ensures.header (grind arith) c.write.ensures.bytes

pub returns-in-None-clause-length : goal.returns-in-None-clause-length
returns-in-None-clause-length c = grind (arith, packet_made, length-spelling)

pub returns-in-Some-clause-bytes : goal.returns-in-Some-clause-bytes
returns-in-Some-clause-bytes c =
    long_written c.args.p.now _ c.in-Some.contents.now c.args.to.now c.write.new.to c.write_contents.new.to c.header_for.ensures.header (grind arith)
    c.told-to c.write.ensures.bytes c.write_contents.ensures.bytes

pub returns-in-Some-clause-length : goal.returns-in-Some-clause-length
returns-in-Some-clause-length c = grind (arith, packet_made, length-spelling)
