use Rattle.std.proofs.{Common.{ℕ, List, length, ap, ◌∙◌, arith}, lemmas.Slice.{between_to_end}}
use Rattle.byteorder.specs.Endian.{big_number}
use Rattle.sci_packets.specs.Fields.{field_at}
use Rattle.sci_packets.proofs.Fields.{contents_read}
use Rattle.sci_packets.proofs.contents.InBytesSpelled.contents.Goals as goal

pub returns-clause-contents : goal.returns-clause-contents
unfolding field_at
returns-clause-contents c =
    contents_read c.args.self.now.bytes.now c.read_u64_into.new.dst c.of_words.result c.read_u64.result (omega arith) c.read_u64_into.auto.dst
    c.read_u64_into.ensures c.of_words.ensures
    (c.read_u64.ensures ∙ ap (λ (b : List ℕ). big_number 8 b)
    (between_to_end c.args.self.now.bytes.now 16 (length c.args.self.now.bytes.now) (omega arith)))
