-- A sort and a `dedup` keep what is seen where runs end.
use Rattle.std.proofs.{Common.{◌≡◌, List, length, sym, subst}, lemmas.List.Filters.{dedup_is}}
use Rattle.std.specs.List.{All}
use Rattle.sci_orders.specs.declared.standing.Standing.{Standing}
use Rattle.sci_allowed.proofs.{Allowing.{are_allowed}, Litmuses.{nodes_all}}
use Rattle.sci_allowed.specs.Allowed.{AreSeenAt}
use Rattle.sci_allowed.proofs.litmus.Litmus.outcomes.Goals as goal

pub outcomes_of-requires-clause-nodes : goal.outcomes_of-requires-clause-nodes
outcomes_of-requires-clause-nodes c =
    let script = c.args.self.now.script in
    subst (λ (ss : List Standing). All (λ standing. length standing.answers.items ≡ script.nodes) ss) (sym c.deref.ensures.value)
    (nodes_all c.args.self.now c.args.window c.in_ok-standings.standings.items c.requires c.in_ok-standings.ensures.runs)

pub returns-clause-allowed : goal.returns-clause-allowed
returns-clause-allowed c =
    let script = c.args.self.now.script in
    are_allowed c.args.self.now c.args.window c.in_ok-standings.standings.items c.in_ok-outcomes.outcomes.items c.sort.new.self.items
    c.dedup.new.self.items c.requires c.in_ok-standings.ensures.runs
    (subst (λ (ss : List Standing). AreSeenAt script ss c.in_ok-outcomes.outcomes.items) c.deref.ensures.value c.in_ok-outcomes.ensures)
    c.sort.ensures.permutation c.in_ok-sort.ensures.sorted (dedup_is _ _ _ c.dedup.ensures.filtered)
