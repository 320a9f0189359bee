use Rattle.std.proofs.Common.{refl}
use Rattle.sci_command.specs.Message.{dead_text}
use Rattle.sci_command.proofs.message.dead_line.Goals as goal

pub returns : goal.returns
unfolding dead_text
returns c =
    rw (
      c.put_text-5.ensures,
      c.put_field-2.ensures.text,
      c.from-2.ensures,
      c.put_text-4.ensures,
      c.put_field.ensures.text,
      c.from.ensures,
      c.put_text-3.ensures,
      c.put_text-2.ensures,
      c.name.ensures.name,
      c.put_text.ensures,
      c.new-line.ensures,
    ) refl
