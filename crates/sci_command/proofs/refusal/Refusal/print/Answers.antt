use Rattle.std.proofs.Common.{◌++◌, refl}
use Rattle.sci_command.specs.Message.{message, note_text, place_text}
use Rattle.sci_command.proofs.{Joined.{joined4}, Printed.{as_text}}
use Rattle.sci_command.proofs.refusal.Refusal.print.Goals as goal

pub returns-clause-printed : goal.returns-clause-printed
unfolding message
returns-clause-printed g c = λ start text is.
    let name = c.args.name.now in
    let fault = c.args.self.now.fault in
    let place = place_text fault.line in
    let note = note_text fault c.args.self.now.note in
    let named = rw c.as_bytes.ensures.value at (c.print_piece.ensures.printed start text is) in
    let placed = rw (c.as_slice.ensures, c.place.ensures) at (c.print_piece-2.ensures.printed start (text ++ name) named) in
    let noted = c.print_note.ensures.printed start ((text ++ name) ++ place) placed in
    as_text (joined4 text name place note _ _ _ _ _ refl refl refl refl) (c.print_piece-3.ensures.printed start (((text ++ name) ++ place) ++ note) noted)
