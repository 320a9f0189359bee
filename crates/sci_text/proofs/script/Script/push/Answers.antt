use Rattle.std.proofs.Common.{subst, arith, rules}
use Rattle.sci_text.specs.Script.{IsScript, IsWithin}
use Rattle.sci_text.proofs.ScriptLimits.{is_script_inside, within_push, counts_push}
use Rattle.sci_text.proofs.script.Script.push.Goals as goal

pub returns-then-not-is_operation_within-clause-good : goal.returns-then-not-is_operation_within-clause-good
returns-then-not-is_operation_within-clause-good c =
    subst IsScript c.self.view_is (is_script_inside c.self.inside.extent c.self.inside.counts c.self.inside.operations.items c.self.invariant)

pub returns-then-self-place-ge-MAX_OPERATIONS-clause-good :
    goal.returns-then-self-place-ge-MAX_OPERATIONS-clause-good
returns-then-self-place-ge-MAX_OPERATIONS-clause-good c =
    subst IsScript c.self.view_is (is_script_inside c.self.inside.extent c.self.inside.counts c.self.inside.operations.items c.self.invariant)

pub returns-in_default-clause-good : goal.returns-in_default-clause-good
returns-in_default-clause-good c =
    rw c.in_default.ensures.items (is_script_inside c.self.inside.extent c.self.inside.counts c.self.inside.operations.items c.self.invariant)

pub invariant_of-self-2 : goal.invariant_of-self-2
invariant_of-self-2 c =
    let extent = c.self.inside.extent in
    let one : IsWithin extent.nodes extent.lines c.args.node c.args.op = search rules in
    rw c.in-Ok.ensures.items (
      within_push extent.nodes extent.lines c.args.node c.args.op c.self.inside.operations.items c.self.invariant.0 one,
      counts_push c.self.inside.counts c.args.node c.args.op c.self.inside.operations.items c.self.invariant.1 (omega (arith, one.known_node, extent.few_nodes))
          (omega arith),
    )

pub returns-clause-good : goal.returns-clause-good
returns-clause-good c = is_script_inside c.self.inside.extent _ c.push.new.self.items (invariant_of-self-2 c)
