use Rattle.std.proofs.Common.{refl, sym}
use Rattle.sci_cache.specs.Cache.{letter_of}
use Rattle.sci_c.proofs.looking.read_answer.Goals as goal

pub returns-in-Some-clause-found : goal.returns-in-Some-clause-found
returns-in-Some-clause-found c = λ ok. record {
  letter = letter_of c.in-Some.answer.now;
  waits = sym c.in-Some.ensures;
  says = record { packet = c.in-Some.answer.now; is_letter = refl; says = c.packet_out.ensures.says; plain = c.packet_out.ensures.plain };
}
