use Rattle.std.proofs.Common.{refl}
use Rattle.sci_c.proofs.turning.send.Goals as goal

pub returns-clause-sent : goal.returns-clause-sent
returns-clause-sent c = record {
  sent = c.packet_out.result;
  says = record { packet = c.args.packet.now; is_letter = refl; says = c.packet_out.ensures.says; plain = c.packet_out.ensures.plain };
  put = refl;
  one_more = refl;
}
