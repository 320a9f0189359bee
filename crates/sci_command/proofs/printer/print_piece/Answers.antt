-- The piece waits behind what waits, or both are written.
use Rattle.std.proofs.Common.{◌≡◌, ◌++◌, []}
use Rattle.sci_text.specs.Tap.{has_failed, tapped}
use Rattle.sci_command.proofs.Printed.{waits_more}
use Rattle.sci_command.proofs.printer.print_piece.Goals as goal

pub returns-then-is_err-clause-printed : goal.returns-then-is_err-clause-printed
returns-then-is_err-clause-printed g c = λ start text is.
    let contents = g.W.Write.contents in
    let piece = c.args.piece.now in
    let mid = c.write_on.new.writer in
    let kept : c.extend_from_slice.new.self.items ≡ c.make_room.new.waiting.items =
    rw (c.is_err.ensures.negation, c.if-is_err.true) at c.extend_from_slice.ensures.items in
    let written = c.write_on.ensures.printed start text (rw (c.deref.ensures.value, kept) (c.make_room.ensures.printed start text is)) in
    rw c.clear.ensures.items (c.write_on-then-is_err.ensures.printed start (text ++ piece)
    (waits_more start (contents (tapped mid)) (has_failed mid) [] text piece written))

pub returns-else-is_err-clause-printed : goal.returns-else-is_err-clause-printed
returns-else-is_err-clause-printed g c = λ start text is.
    let room = c.make_room.new in
    let kept : c.extend_from_slice.new.self.items ≡ room.waiting.items ++ c.args.piece.now =
    rw (c.is_err.ensures.negation, c.if-is_err.false) at c.extend_from_slice.ensures.items in
    rw kept (waits_more start (g.W.Write.contents (tapped room.writer)) (has_failed room.writer) room.waiting.items text c.args.piece.now
    (c.make_room.ensures.printed start text is))
