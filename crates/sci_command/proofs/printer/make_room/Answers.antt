use Rattle.sci_command.proofs.printer.make_room.Goals as goal

pub returns-then-len-ge-WAITING_BYTES-clause-printed : goal.returns-then-len-ge-WAITING_BYTES-clause-printed
returns-then-len-ge-WAITING_BYTES-clause-printed g c = λ start text is.
    rw c.clear.ensures.items (c.write_on.ensures.printed start text (rw c.deref.ensures.value is))
