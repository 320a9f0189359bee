use Rattle.std.proofs.{Common.{sym, ◌∙◌, arith}, lemmas.Option.{same_Some}}
use Rattle.sci_text.proofs.Operations.{byte_some, byte_refused}
use Rattle.sci_text.proofs.log_form.log_size.Goals.{then-nodes-eq0-via-then-nodes-eq0, then-nodes-eq0-via-else-nodes-eq0+then-nodes-gt-MAX_NODES}
use Rattle.sci_text.proofs.log_form.log_size.Goals.{then-nodes-eq0-via-else-nodes-eq0+else-nodes-gt-MAX_NODES+then-lines-eq0}
use Rattle.sci_text.proofs.log_form.log_size.Goals.{then-nodes-eq0-via-else-nodes-eq0+else-nodes-gt-MAX_NODES+else-lines-eq0+then-lines-gt-MAX_LINES}
use Rattle.sci_text.proofs.log_form.log_size.Goals as goal

pub returns-in_err-nodes-clause-none : goal.returns-in_err-nodes-clause-none
returns-in_err-nodes-clause-none c =
    rw c.from_residual.ensures (λ n m a b size. absurd (omega (arith, byte_refused c.args.nodes n (sym c.byte.ensures ∙ c.in_err-nodes.was) a, size.few_nodes)))

pub returns-in_err-lines-clause-none : goal.returns-in_err-lines-clause-none
returns-in_err-lines-clause-none c = grind (arith, byte_refused)

pub returns-then-nodes-eq0-clause-none : goal.returns-then-nodes-eq0-clause-none
returns-then-nodes-eq0-clause-none c = grind (arith, same_Some, byte_some, then-nodes-eq0-via-then-nodes-eq0)

pub returns-clause-some : goal.returns-clause-some
returns-clause-some c = grind (arith, byte_some)
