use Rattle.std.proofs.Common.{◌∙◌, sym, arith}
use Rattle.sci_text.proofs.WholeNumbers.{whole_here, whole_longer, whole_none}
use Rattle.sci_text.proofs.number.whole_number.Goals as goal

pub returns-in_err-value : goal.returns-in_err-value
returns-in_err-value c = grind (arith, whole_none)

pub returns-then-is_empty : goal.returns-then-is_empty
returns-then-is_empty c = whole_here c.args.bytes.now c.in_ok-value.value c.in_ok-value.rest.now c.in_ok-value.ensures
    (sym c.is_empty.ensures ∙ c.if-is_empty.true)

pub returns-else-is_empty : goal.returns-else-is_empty
returns-else-is_empty c = whole_longer c.args.bytes.now c.in_ok-value.value c.in_ok-value.rest.now c.in_ok-value.ensures
    (sym c.is_empty.ensures ∙ c.if-is_empty.false)
