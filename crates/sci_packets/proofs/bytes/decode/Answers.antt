use Rattle.std.proofs.{Common.{arith, Err, Ok}, lemmas.Result.{err_from_is_err_and}}
use Rattle.sci_packets.specs.declared.fault.PacketFault.TheVariants.{Short}
use Rattle.sci_packets.proofs.Packets.{Found, only_found, none_found, none_refused, is_found, too_short}
use Rattle.sci_packets.proofs.bytes.decode.Goals.{After-size_of-len}
use Rattle.sci_packets.proofs.bytes.decode.Goals as goal

found : (c : After-size_of-len) → Found c.in_ok-packet.packet c.size_of-len.result c.args.bytes.now
found c = grind (arith, is_found)

pub returns-then-bytes-lt-SHORT-clause-only : goal.returns-then-bytes-lt-SHORT-clause-only
returns-then-bytes-lt-SHORT-clause-only c =
    only_found c.args.bytes.now (Err Short) (λ i. omega (arith, c.type_inv.bytes i)) tt tt (too_short c.args.bytes.now (omega arith))

pub returns-then-bytes-lt-SHORT-clause-none : goal.returns-then-bytes-lt-SHORT-clause-none
returns-then-bytes-lt-SHORT-clause-none c =
    none_found c.args.bytes.now (Err Short) (λ i. omega (arith, c.type_inv.bytes i)) tt tt (too_short c.args.bytes.now (omega arith))

pub returns-then-bytes-lt-SHORT-clause-fault : goal.returns-then-bytes-lt-SHORT-clause-fault
returns-then-bytes-lt-SHORT-clause-fault c = too_short c.args.bytes.now (omega arith)

pub returns-in_err-packet-clause-only : goal.returns-in_err-packet-clause-only
returns-in_err-packet-clause-only c =
    let e = err_from_is_err_and c.from_residual.result c.from_residual.ensures.1 in
    rw (e.1, e.2) (only_found c.args.bytes.now (Err c.in_err-packet.field-0.0) (λ i. omega (arith, c.type_inv.bytes i)) tt tt c.in_err-packet.ensures.fault)

pub returns-in_err-packet-clause-none : goal.returns-in_err-packet-clause-none
returns-in_err-packet-clause-none c =
    let e = err_from_is_err_and c.from_residual.result c.from_residual.ensures.1 in
    none_refused c.args.bytes.now c.from_residual.result e.0 c.in_err-packet.field-0.0 e.1 e.2 (λ i. omega (arith, c.type_inv.bytes i))
    c.in_err-packet.ensures.fault

pub returns-clause-found : goal.returns-clause-found
returns-clause-found c = (found c).spells

pub returns-clause-length : goal.returns-clause-length
returns-clause-length c = (found c).within

pub returns-clause-only : goal.returns-clause-only
returns-clause-only c =
    only_found c.args.bytes.now (Ok (c.in_ok-packet.packet, c.size_of-len.result)) (λ i. omega (arith, c.type_inv.bytes i)) (found c).spells (found c).within
    c.in_ok-packet.ensures.fault

pub returns-clause-none : goal.returns-clause-none
returns-clause-none c = grind (arith, none_found, found)
