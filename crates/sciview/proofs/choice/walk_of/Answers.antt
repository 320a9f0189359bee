use Rattle.std.proofs.Common.{[], arith}
use Rattle.sciview.proofs.WalkWords.{five_said}
use Rattle.sciview.proofs.choice.walk_of.Goals as goal

pub returns : goal.returns
returns c = five_said (λ word. word.now) c.args.words.now (record { ref_ptr = (0, 0); now = [] }) c.in_ok-whole_number.field-0 c.in_ok-whole_number-2.field-0
    c.in_ok-whole_number-3.field-0 c.in_ok-whole_number-4.field-0 c.in_ok-whole_number-5.field-0 c.whole_number.result c.whole_number-2.result
    c.whole_number-3.result c.whole_number-4.result c.whole_number-5.result (omega (arith, c.in-len5.len_at_least, c.in-len5.len_below))
    c.in_ok-whole_number.was c.in_ok-whole_number-2.was c.in_ok-whole_number-3.was c.in_ok-whole_number-4.was c.in_ok-whole_number-5.was
    (rw c.as_bytes.ensures.value at c.whole_number.ensures) (rw c.as_bytes-2.ensures.value at c.whole_number-2.ensures)
    (rw c.as_bytes-3.ensures.value at c.whole_number-3.ensures) (rw c.as_bytes-4.ensures.value at c.whole_number-4.ensures)
    (rw c.as_bytes-5.ensures.value at c.whole_number-5.ensures)
