use Rattle.std.proofs.Common.{List, refl, sym, ap, ◌∙◌}
use Rattle.std.specs.Prelude.{slice_get}
use Rattle.sci_cache.specs.Cache.{Letter, letter_of}
use Rattle.sci_c.proofs.looking.read_packet.Goals as goal

pub returns-in-Some-clause-found : goal.returns-in-Some-clause-found
returns-in-Some-clause-found c = λ ok. record {
  letter = letter_of c.in-Some.found.now;
  found = ap (λ (lane : List Letter). slice_get lane c.args.place) (sym c.lane.ensures) ∙ sym c.in-Some.ensures;
  says = record { packet = c.in-Some.found.now; is_letter = refl; says = c.packet_out.ensures.says; plain = c.packet_out.ensures.plain };
}

pub returns-in-None-clause-none : goal.returns-in-None-clause-none
returns-in-None-clause-none c = λ none. ap (λ (lane : List Letter). slice_get lane c.args.place) (sym c.lane.ensures) ∙ sym c.in-None.ensures
