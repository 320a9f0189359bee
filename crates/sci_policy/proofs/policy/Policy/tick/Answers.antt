use Rattle.std.proofs.Common.{arith}
use Rattle.std.proofs.{Common.{◌≡◌, ◌+◌, ◌≤◌, ◌<◌, Bool, List, sym, ap, ◌∙◌}, lemmas.Bool.{le-ltb, lt-ltb}}
use Rattle.sci_core.specs.Node.{NodeOf}
use Rattle.sci_policy.specs.declared.policy.TheConstants.{PATIENCE}
use Rattle.sci_policy.specs.Policy.{PolicyOf, draining_at_last, due_at_last, set_of, still_draining, still_due, ticked}
use Rattle.sci_policy.proofs.PolicyLaws.{ticked_if}
use Rattle.sci_policy.proofs.policy.Policy.tick.Goals as goal

-- one call more, when patience ends
at_last : (policy : PolicyOf) (node : NodeOf) (draining due : List Bool) → PATIENCE ≤ policy.patience + 1 → draining ≡ set_of (draining_at_last policy node)
    → due ≡ set_of (due_at_last policy node)
    → record policy { draining = draining; due = due; patience = 0 } ≡ ticked policy node
at_last policy node draining due ended drains dues = grind (arith, le-ltb, ticked_if)

-- one call more, while patience lasts
still : (policy : PolicyOf) (node : NodeOf) (draining due : List Bool) → policy.patience + 1 < PATIENCE → draining ≡ set_of (still_draining policy node)
    → due ≡ set_of (still_due policy node)
    → record policy { draining = draining; due = due; patience = policy.patience + 1 } ≡ ticked policy node
still policy node draining due lasts drains dues = grind (arith, lt-ltb, ticked_if)

pub returns-then-self-lt-PATIENCE : goal.returns-then-self-lt-PATIENCE
returns-then-self-lt-PATIENCE c =
    let node = c.args.node.now in
    let fields = c.self.inside in
    let policy : PolicyOf = record {
      draining = fields.draining;
      due = fields.due;
      used = fields.used;
      patience = fields.patience;
      turns = fields.turns;
      served = fields.served;
    } in
    let drains = c.still_draining-self-inside.ensures ∙ ap (λ (p : PolicyOf). set_of (still_draining p node)) (sym c.self.view_is) in
    still policy node c.still_draining-self-inside.result c.still_due-self-inside.result c.if-self-lt-PATIENCE.true drains c.still_due-self-inside.ensures
    ∙ ap (λ (p : PolicyOf). ticked p node) c.self.view_is

pub returns-else-self-lt-PATIENCE : goal.returns-else-self-lt-PATIENCE
returns-else-self-lt-PATIENCE c =
    let node = c.args.node.now in
    let fields = c.self.inside in
    let policy : PolicyOf = record {
      draining = fields.draining;
      due = fields.due;
      used = fields.used;
      patience = fields.patience;
      turns = fields.turns;
      served = fields.served;
    } in
    let drains = c.draining_at_last-self-inside.ensures ∙ ap (λ (p : PolicyOf). set_of (draining_at_last p node)) (sym c.self.view_is) in
    at_last policy node c.draining_at_last-self-inside.result c.due_at_last-self-inside.result c.if-self-lt-PATIENCE.false drains
    c.due_at_last-self-inside.ensures
    ∙ ap (λ (p : PolicyOf). ticked p node) c.self.view_is
