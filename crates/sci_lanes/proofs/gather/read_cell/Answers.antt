use Rattle.std.proofs.Common.{◌≡◌, ◌++◌, ◌∷◌, [], refl, ap, ◌∙◌, length}
use Rattle.sci_packets.specs.{declared.packet.Packet.{Packet}, Spelling.{words_of}}
use Rattle.sci_lanes.proofs.{Calls.{ok_first, ok_err}, Reading.{spelled_here}}
use Rattle.sci_lanes.proofs.gather.read_cell.Goals as goal

pub returns-in-Ok-clause-full : goal.returns-in-Ok-clause-full
returns-in-Ok-clause-full c = λ packet some at.
    let spelled = spelled_here c.args.words.now c.args.place packet at in
    let is : c.in-Ok.packet ≡ packet =
    ok_first _ _ _ _ c.from_words.result c.in-Ok.is (c.from_words.ensures.only packet (length (words_of packet)) spelled.0 spelled.1) in
    (refl, c.push_back_reserved.ensures.items ∙ ap (λ (p : Packet). c.args.packets.now.items ++ p ∷ []) is)

pub returns-in-Err-clause-full : goal.returns-in-Err-clause-full
returns-in-Err-clause-full c = λ packet some at.
    let spelled = spelled_here c.args.words.now c.args.place packet at in
    absurd (ok_err _ _ c.from_words.result (c.from_words.ensures.only packet (length (words_of packet)) spelled.0 spelled.1) c.in-Err.is)
