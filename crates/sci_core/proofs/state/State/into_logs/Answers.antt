-- Each node's log is put in its place.
use Rattle.std.proofs.Common.{◌≡◌, ◌++◌, ◌∷◌, [], ℕ, List, ◌+◌, length, nat_lt, if◌then◌else◌, set, sym, ap, subst, ◌∙◌, append_assoc, arith}
use Rattle.std.proofs.lemmas.List.{length-append, length-set}
use Rattle.std.specs.List.{All}
use Rattle.sci_history.specs.{declared.entry.Entry.{Entry}, Placed.{log_of}}
use Rattle.sci_core.specs.{Node.{NodeOf}, Core.{Core, core_of, node_at}, WellFormed.{IsWellFormed}}
use Rattle.sci_core.proofs.Basics.Logs.{IsNextNode, all_logs, logged_more, next_node}
use Rattle.sci_core.proofs.state.State.into_logs.Goals.{In-Some}
use Rattle.sci_core.proofs.state.State.into_logs.Goals as goal

abbrev core : (c : In-Some) → Core
core c = core_of c.self.inside.extent c.self.inside.limit c.self.inside.nodes.items c.self.inside.lanes.items

-- the nodes so far, this one and those to come are those of the machine
whole : (c : In-Some) → c.loop-node.yielded ++ c.in-Some.node ∷ c.next.new.self.rest.items ≡ (core c).parts
whole c = ap (λ (xs : List NodeOf). c.loop-node.yielded ++ xs) (sym c.in-Some.ensures.steps.0) ∙ c.loop-node.invariant.1

next : (c : In-Some) → IsNextNode (core c) (length c.loop-node.yielded) c.in-Some.node
next c = next_node (core c) c.loop-node.yielded c.in-Some.node c.next.new.self.rest.items
    (subst IsWellFormed (sym c.self.view_is) c.requires) (whole c)

pub put-requires-clause-own : goal.put-requires-clause-own
put-requires-clause-own c =
    let d = (goal.at.put-requires-clause-own c).In-Some in
    subst (λ (log : List Entry). All (λ (entry : Entry). entry.node ≡ c.me.result) log) (sym c.into_log.ensures)
    (subst (λ (n : ℕ). All (λ (entry : Entry). entry.node ≡ n) c.in-Some.node.log) (sym (c.me.ensures ∙ (next d).numbered)) (next d).own)

pub loop-node-preserved : goal.loop-node-preserved
loop-node-preserved c =
    let d = (goal.at.loop-node-preserved c).In-Some in
    let done = c.loop-node.yielded in
    let one = c.in-Some.node in
    let rest = c.next.new.self.rest.items in
    let count = (core d).size.nodes in
    let few = (next d).below in
    let most = c.self.inside.extent.few_nodes in
    let sixteen = c.loop-node.invariant.0 in
    let place = c.me.ensures ∙ (next d).numbered in
    let new : c.put.new.self ≡ set c.loop-node.logs (length done) one.log =
    c.put.ensures ∙ (ap (λ (n : ℕ). set c.loop-node.logs n c.into_log.result.items) place ∙ ap (set c.loop-node.logs (length done)) c.into_log.ensures) in
    let longer : length (done ++ one ∷ []) ≡ length done + 1 = length-append done (one ∷ []) in (
      ap length new ∙ (length-set c.loop-node.logs (length done) one.log ∙ sixteen),
      append_assoc done (one ∷ []) rest ∙ whole d,
      λ k. ap (λ (logs : List (List Entry)). log_of logs k) new
          ∙ (logged_more (core d) c.loop-node.logs (length done) one.log (omega arith) (sym (ap (λ (node : NodeOf). node.log) (next d).here))
          c.loop-node.invariant.2 k
          ∙ ap (λ (n : ℕ). if nat_lt k n then (node_at (core d) k).log else []) (sym longer)),
    )

pub returns : goal.returns
returns c = grind (arith, length-append, all_logs)
