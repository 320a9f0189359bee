use Rattle.std.proofs.Common.{ap, sym, ◌∙◌}
use Rattle.sci_command.specs.Message.{note_text}
use Rattle.sci_command.proofs.Printed.{as_said}
use Rattle.sci_command.proofs.refusal.Refusal.print_note.Goals as goal

pub returns-in-Kind-clause-printed : goal.returns-in-Kind-clause-printed
unfolding note_text
returns-in-Kind-clause-printed g c = λ start text is.
    let said = c.as_slice.ensures ∙ c.kind_words.ensures ∙ sym (ap (note_text c.args.self.now.fault) c.in-Kind.is) in
    as_said text said (c.print_piece.ensures.printed start text is)

pub returns-in-Fixed-clause-printed : goal.returns-in-Fixed-clause-printed
unfolding note_text
returns-in-Fixed-clause-printed g c = λ start text is.
    as_said text (c.as_bytes.ensures.value ∙ sym (ap (note_text c.args.self.now.fault) c.in-Fixed.is)) (c.print_piece-in-Fixed.ensures.printed start text is)

pub returns-in-Made-clause-printed : goal.returns-in-Made-clause-printed
unfolding note_text
returns-in-Made-clause-printed g c = λ start text is.
    as_said text (c.deref.ensures.value ∙ sym (ap (note_text c.args.self.now.fault) c.in-Made.is)) (c.print_piece-in-Made.ensures.printed start text is)
