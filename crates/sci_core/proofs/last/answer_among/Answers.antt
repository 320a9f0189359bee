-- The packets so far, and one more.
use Rattle.std.proofs.Common.{◌+◌, sym, ◌∙◌}
use Rattle.sci_cache.specs.Cache.{letter_of}
use Rattle.sci_core.proofs.Tidy.Seeking.{seek_more, seek_other, seek_this, seek_whole}
use Rattle.sci_core.proofs.last.answer_among.Goals as goal

pub returns-then-answers : goal.returns-then-answers
returns-then-answers c =
    let packets = c.args.packets.now in
    let i = c.loop-packet.packet-index in
    let item = c.packet-item.result in
    sym (seek_whole c.args.n c.args.line packets (i + 1) item.body
    (seek_more c.args.n c.args.line packets i item c.packet-item.is c.loop-packet-test.true c.loop-packet.invariant
    ∙ seek_this c.args.n c.args.line (letter_of item) (sym c.answers.ensures ∙ c.if-answers.true)))

pub loop-packet-preserved : goal.loop-packet-preserved
loop-packet-preserved c =
    seek_more c.args.n c.args.line c.args.packets.now c.loop-packet.packet-index c.packet-item.result c.packet-item.is c.loop-packet-test.true
    c.loop-packet.invariant
    ∙ seek_other c.args.n c.args.line (letter_of c.packet-item.result) (sym c.answers.ensures ∙ c.if-answers.false)
