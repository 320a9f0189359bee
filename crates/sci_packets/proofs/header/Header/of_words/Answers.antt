use Rattle.std.proofs.Common.{arith}
use Rattle.sci_packets.proofs.WordLaws.{header_read}
use Rattle.sci_packets.proofs.header.Header.of_words.Goals as goal

pub returns-clause-header : goal.returns-clause-header
returns-clause-header c = header_read c.args.words.now (λ i. omega (arith, c.type_inv.words i)) c.requires
