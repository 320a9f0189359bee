-- What is written is the oracle's text of the script that was read.
use Rattle.std.proofs.Common.{List, ℕ, sym, subst, rules}
use Rattle.std.specs.Prelude.{count_by, ◌≤◌, ◌==◌}
use Rattle.sci_words.specs.declared.{limits.TheConstants.{MAX_OPERATIONS}, operation.Op.{Op}}
use Rattle.sci_text.specs.Script.{script_text}
use Rattle.scimem.proofs.{Counts.{few_of_each}, OracleLogs.{oracle_is}}
use Rattle.scimem.proofs.oracle.oracle.Goals as goal

pub run_oracle-requires-clause-room : goal.run_oracle-requires-clause-room
run_oracle-requires-clause-room g c = λ node.
    subst (λ (ops : List (ℕ × Op)). count_by (λ p. p.0 == node) ops ≤ MAX_OPERATIONS) (sym c.operations.ensures.value)
    (few_of_each c.in_ok-script.script c.in_ok-script.ensures.good node)

pub returns : goal.returns
returns g c =
    let script = c.in_ok-script.script in
    let read = c.in_ok-script.ensures.text in (
      (
        λ is. cc,
        (
          c.in_ok-script.ensures.unfailed,
          (script_text script, read, oracle_is c.in_ok-text.text.items script c.in_ok-script.ensures.good read.few (search rules)),
        ),
      ),
      c.read_script.ensures.again,
    )
