use Rattle.std.proofs.Common.{refl, arith}
use Rattle.sci_c_values.proofs.PacketWords.{says_out, second_again}
use Rattle.sci_c_values.proofs.packet.packet_out.Goals as goal

pub overflow_cast-result : goal.overflow_cast-result
overflow_cast-result c =
    omega (arith, c.parted-target.ensures.word, c.parted-before_source.ensures.word, c.parted-before_control.ensures.front)

pub returns-clause-says : goal.returns-clause-says
returns-clause-says c =
    let a = c.parted-before_control.ensures in let b = c.parted-before_source.ensures in let t = c.parted-target.ensures in let o = c.parted-offset.ensures in
    says_out _ c.args.packet.now c.to_words-count.new.to _ c.to_words-count.result c.to_words-count.ensures.packet c.to_words-count.ensures.words
    c.to_words-count.ensures.length (omega (arith, a.word, b.word, t.word))
    (second_again c.args.packet.now c.to_words-count.new.to _ c.to_words-count.result _ _ c.to_words-count.ensures.packet c.to_words-count.ensures.words
    o.word o.back)
    (omega (arith, o.front)) c.from.ensures refl refl
