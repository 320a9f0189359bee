-- Each node's log has its own entries.
use Rattle.std.proofs.Common.{◌≡◌, List, ap, sym, subst, ◌∙◌, refl, arith}
use Rattle.std.specs.List.{All}
use Rattle.sci_history.specs.{declared.entry.Entry.{Entry}, Audit.{AreWithin}, Lawful.{Lawful}}
use Rattle.sci_history.specs.Sequential.{IsSequentiallyConsistent}
use Rattle.sci_core.specs.{Node.{NodeOf}, Core.{Core}, Outcome.{logs_of}, Reached.{IsReached}, Sharing.{last_of}}
use Rattle.sci_core.proofs.WellFormed.WellFormedSteps.{reached_well}
use Rattle.sci_core.proofs.ReachedLaws.{reached_consistent, reached_lawful, reached_within}
use Rattle.sci_core.proofs.Basics.Logs.{all_logs, own_log}
use Rattle.sci_core.proofs.machine.Machine.logs.Goals as goal

pub put-requires-clause-own : goal.put-requires-clause-own
put-requires-clause-own c =
    let log = c.in_ok-from_slice.ensures.items ∙ (c.log.ensures ∙ ap (λ (node : NodeOf). node.log) c.node.ensures) in
    subst (All (λ (entry : Entry). entry.node ≡ c.loop-n.n)) (sym log)
    (own_log c.self.inside.state c.loop-n.n (reached_well c.self.inside.state c.self.invariant) (omega arith))

pub returns : goal.returns
returns c =
    let core = c.self.inside.state in
    let well = reached_well core c.self.invariant in
    let long = well.sizes.parts_long in
    let logs = c.loop-n.logs in
    let all = all_logs core logs c.loop-n.n (omega arith) c.loop-n.invariant.0 c.loop-n.invariant.1 in
    let so = λ (P : Core → List (List Entry) → Type 0) (h : P core (logs_of core)).
    subst (λ (k : Core). P k logs) c.self.view_is (subst (P core) (sym all) h) in
    record {
      logs = so (λ k ls. ls ≡ logs_of k) refl;
      lawful = so (λ k ls. Lawful ls (last_of k)) (reached_lawful core c.self.invariant);
      within = so (λ k ls. AreWithin k.size.lines ls) (reached_within core c.self.invariant);
      consistent = so (λ k ls. IsSequentiallyConsistent ls (last_of k)) (reached_consistent core c.self.invariant);
      reached = subst IsReached c.self.view_is c.self.invariant;
    }
