use Rattle.std.proofs.Common.{ap, ◌∙◌, arith, ℕ, List}
use Rattle.sci_packets.specs.Fields.{field, word_bytes}
use Rattle.sci_packets.proofs.Fields.{words_written}
use Rattle.sci_packets.proofs.contents.write_contents.Goals as goal

pub returns-clause-bytes : goal.returns-clause-bytes
unfolding field
returns-clause-bytes c =
    words_written c.args.to.now c.write_u64.new.buf c.write_u64_into.new.dst _ c.args.stamped.now.line c.args.stamped.now.version c.told-to c.write_u64.ensures
    (c.write_u64_into.ensures ∙ ap (λ (words : List ℕ). word_bytes words) c.words.ensures.words) (omega (arith, c.write_u64.auto.buf))
    (omega (arith, c.write_u64_into.auto.dst))

pub returns-clause-contents : goal.returns-clause-contents
returns-clause-contents c = record { version = omega arith; width = c.read_words.ensures.width; words = c.read_words.ensures.fits }
