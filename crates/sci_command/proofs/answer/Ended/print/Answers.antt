use Rattle.std.proofs.Common.{◌≡◌, ℕ, List, ◌++◌, Bool, true, Option, None, ap, append_assoc, codes, sym}
use Rattle.sci_core.specs.declared.dead.DeadEvents.{DeadEvents}
use Rattle.sci_command.specs.{declared.refusal.Refusal.{Refusal}, Message.{message, whole_words}}
use Rattle.sci_command.proofs.Printed.{as_said, as_text}
use Rattle.sci_command.proofs.answer.Ended.print.Goals as goal

unwritten : (text name : List ℕ) (refusal : Option Refusal) (dead : Option DeadEvents) (broken : Bool) → refusal ≡ None → broken ≡ true
    → (text ++ name) ++ codes ": standard output can't be written\n" ≡ text ++ message name refusal dead broken
unfolding message whole_words
unwritten text name refusal dead broken none is = rw (none, is) (append_assoc text name (codes ": standard output can't be written\n"))

pub returns-in-Some-clause-printed : goal.returns-in-Some-clause-printed
unfolding message
returns-in-Some-clause-printed g c = λ start text is.
    as_said text (sym (ap (λ r. message c.args.name.now r c.args.self.now.dead c.args.is_broken) c.in-Some.is)) (c.print.ensures.printed start text is)

pub returns-in-None-clause-printed : goal.returns-in-None-clause-printed
returns-in-None-clause-printed g c = λ start text is.
    let named = rw c.as_bytes.ensures.value at (c.print_piece.ensures.printed start text is) in
    as_text (unwritten text c.args.name.now c.args.self.now.refusal c.args.self.now.dead c.args.is_broken c.in-None.is c.if-is_broken.true)
    (c.print_piece-in-None.ensures.printed start (text ++ c.args.name.now) named)

pub returns-in-None-2-clause-printed : goal.returns-in-None-2-clause-printed
returns-in-None-2-clause-printed g c = λ start text is.
    rw (c.in-None-2.is, c.if-is_broken.false) (c.print_dead.ensures.printed start text is)
