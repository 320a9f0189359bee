use Rattle.std.proofs.Common.{ℕ, List, subst, arith}
use Rattle.std.proofs.lemmas.{Bool.{eqb-true}, List.{nil_from_length}}
use Rattle.sci_text.specs.{FirstFault.{IsRefusal}, ScriptFault.{IsScriptFault}}
use Rattle.sci_allowed.proofs.LineFaults.{conditioned_is, front_refusal}
use Rattle.sci_allowed.proofs.conditioned.conditioned_of.Goals as goal

pub returns-in-Err-clause-fault : goal.returns-in-Err-clause-fault
returns-in-Err-clause-fault c =
    front_refusal c.args.input.now c.front_length.result c.front_length.ensures c.in-Err.fault c.of_text.result.fault c.of_text.ensures
    (subst (λ (bytes : List ℕ). IsRefusal IsScriptFault bytes c.in-Err.fault) c.split_at.ensures.front c.in-Err.ensures.fault)

pub returns-then-is_empty-clause-ok : goal.returns-then-is_empty-clause-ok
returns-then-is_empty-clause-ok c = grind (arith, eqb-true, conditioned_is, nil_from_length)
