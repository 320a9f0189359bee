-- What an Issue and a Perform of a node do to a reached state.
use Rattle.std.proofs.Common.{◌≡◌, ℕ, ◌<◌, Option, Some, None, sym, ap, ◌∙◌, arith}
use Rattle.std.specs.Prelude.{option_map}
use Rattle.sci_words.specs.declared.{event.Event.TheVariants.{Issue, Perform}, operation.Op.{Op}}
use Rattle.sci_history.specs.declared.entry.Entry.{Entry}
use Rattle.sci_core.specs.Core.{Core, node_at, stepping, with_node}
use Rattle.sci_core.specs.{Node.{IsNode, NodeOf, node_issuing, node_performing}, Reached.{IsReached}}
use Rattle.sci_core.specs.Work.{IsIssued, IsLogged}
use Rattle.sci_core.proofs.{History.Pendings.{issue_puts, perform_puts}, Step.Sides.{steps_by_sides}}
use Rattle.sci_core.proofs.WellFormed.WellFormedSteps.{reached_well}
use Rattle.sci_turn.proofs.Working.{own_node}

pub node_fits : (core : Core) (n : ℕ) → IsReached core → n < core.size.nodes → IsNode (node_at core n)
node_fits core n reached some = ((reached_well core reached).each_part n some).fits

-- ---- Issue

issued_by : (core new : Core) (n : ℕ) (o : Option NodeOf) → IsReached core → n < core.size.nodes → option_map (with_node core n) o ≡ Some new
    → o ≡ Some (node_at new n)
issued_by core new n None reached some e = cc
issued_by core new n (Some next) reached some e = grind (arith, own_node)

pub issue_makes : (core new : Core) (n : ℕ) (op : Op) → IsReached core → n < core.size.nodes → stepping core (Issue n op) ≡ Some new
    → IsIssued (node_at core n) (node_at new n) op
issue_makes core new n op reached some steps =
    issue_puts (node_at core n) (node_at new n) op (node_fits core n reached some)
    (issued_by core new n (node_issuing (node_at core n) op) reached some (sym ((steps_by_sides core n some).issue op) ∙ steps))

-- ---- Perform

performed_by : (core new : Core) (n : ℕ) (o : Option (NodeOf × Entry)) → IsReached core → n < core.size.nodes
    → option_map (λ (done : NodeOf × Entry). with_node core n done.0) o ≡ Some new → (entry : Entry) × (o ≡ Some (node_at new n, entry))
performed_by core new n None reached some e = cc
performed_by core new n (Some done) reached some e =
    let same : with_node core n done.0 ≡ new = cc in
    let node : done.0 ≡ node_at new n = sym (own_node core n done.0 reached some) ∙ ap (λ (c : Core). node_at c n) same in
    (done.1, ap (λ (m : NodeOf). Some (m, done.1)) node)

pub perform_makes : (core new : Core) (n line : ℕ) → IsReached core → n < core.size.nodes → stepping core (Perform n line) ≡ Some new
    → (entry : Entry) × (node_performing (node_at core n) line ≡ Some (node_at new n, entry)) × IsLogged (node_at core n) (node_at new n) line entry
perform_makes core new n line reached some steps =
    let made = performed_by core new n (node_performing (node_at core n) line) reached some (sym ((steps_by_sides core n some).perform line) ∙ steps) in
    (made.0, made.1, perform_puts (node_at core n) (node_at new n) line made.0 (node_fits core n reached some) made.1)
