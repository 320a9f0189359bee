use Rattle.std.proofs.Common.{◌≡◌, ℕ, List, ◌++◌, Option, Some, None, false, append_assoc, sym, ◌∙◌}
use Rattle.std.proofs.lemmas.List.{append-nil}
use Rattle.sci_core.specs.declared.dead.DeadEvents.{DeadEvents}
use Rattle.sci_command.specs.Message.{dead_text, message}
use Rattle.sci_command.proofs.Printed.{as_text}
use Rattle.sci_command.proofs.answer.Ended.print_dead.Goals as goal

said : (text name line : List ℕ) (dead : Option DeadEvents) (d : DeadEvents) → dead ≡ Some d → line ≡ dead_text d
    → (text ++ name) ++ line ≡ text ++ message name None dead false
unfolding message
said text name line dead d is words = rw (is, words) (append_assoc text name (dead_text d))

nothing : (text name : List ℕ) (dead : Option DeadEvents) → dead ≡ None → text ≡ text ++ message name None dead false
unfolding message
nothing text name dead none = rw none (sym (append-nil text))

pub returns-in-Some-clause-printed : goal.returns-in-Some-clause-printed
returns-in-Some-clause-printed g c = λ start text is.
    let named = rw c.as_bytes.ensures.value at (c.print_piece.ensures.printed start text is) in
    as_text (said text c.args.name.now c.as_slice.result.now c.args.self.now.dead c.in-Some.dead c.in-Some.is (c.as_slice.ensures ∙ c.dead_line.ensures))
    (c.print_piece-in-Some.ensures.printed start (text ++ c.args.name.now) named)

pub returns-in_default-clause-printed : goal.returns-in_default-clause-printed
returns-in_default-clause-printed g c = λ start text is. as_text (nothing text c.args.name.now c.args.self.now.dead c.in_default.is) is
