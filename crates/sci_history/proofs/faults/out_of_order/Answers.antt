use Rattle.std.proofs.Common.{◌≡◌, ◌<◌, true, false, sym, ap, ◌∙◌, arith, take, get_or, inl, inr, Some, None, set}
use Rattle.std.proofs.lemmas.{Bool.{cases_eq}, List.{get_or-set_same, get_or-set_other, length-set}}
use Rattle.sci_words.specs.declared.limits.TheConstants.{MAX_NODES}
use Rattle.sci_history.specs.Audit.{is_out_of_order, entries_of}
use Rattle.sci_history.proofs.AuditFinds.{entry_at, later_here, later_more, all_at, latest_own, latest_other}
use Rattle.sci_history.proofs.faults.out_of_order.Goals as goal

pub bounds-latest-node : goal.bounds-latest-node
bounds-latest-node c = all_at (λ entry. entry.node < MAX_NODES) c.args.entries.now c.loop-entry.entry-index c.loop-entry-test.true c.requires

pub bounds-latest-node-in-loop-entry : goal.bounds-latest-node-in-loop-entry
bounds-latest-node-in-loop-entry c = all_at (λ entry. entry.node < MAX_NODES) c.args.entries.now c.loop-entry.entry-index c.loop-entry-test.true c.requires

pub returns-then-breaks_order : goal.returns-then-breaks_order
returns-then-breaks_order c =
    let refs = c.args.entries.now in
    let i = c.loop-entry.entry-index in
    let below : (entry_at refs i).node < MAX_NODES = all_at (λ entry. entry.node < MAX_NODES) refs i c.loop-entry-test.true c.requires in
    let latest = c.loop-entry.invariant.latest (entry_at refs i).node below in
    let fails : is_out_of_order (take i (entries_of refs)) (entry_at refs i) ≡ true = rw (← latest) (sym c.breaks_order.ensures ∙ c.if-breaks_order.true) in
    later_here is_out_of_order refs i c.loop-entry-test.true fails c.loop-entry.invariant.ordered

pub loop-entry-preserved : goal.loop-entry-preserved
loop-entry-preserved c =
    let refs = c.args.entries.now in
    let i = c.loop-entry.entry-index in
    let at = entry_at refs i in
    let below : at.node < MAX_NODES = all_at (λ entry. entry.node < MAX_NODES) refs i c.loop-entry-test.true c.requires in
    let latest = c.loop-entry.invariant.latest at.node below in
    let passes : is_out_of_order (take i (entries_of refs)) at ≡ false = rw (← latest) (sym c.breaks_order.ensures ∙ c.if-breaks_order.false) in
    record {
      sixteen = length-set c.loop-entry.latest at.node (Some at) ∙ c.loop-entry.invariant.sixteen;
      latest = λ node low.
          elim (cases_eq at.node node) [
            | inl own ↦ ap (λ n. get_or (set c.loop-entry.latest at.node (Some at)) n None) (sym own)
                ∙ get_or-set_same c.loop-entry.latest at.node (Some at) None (omega arith) ∙ sym (latest_own refs i node c.loop-entry-test.true own)
            | inr other ↦ get_or-set_other c.loop-entry.latest at.node node (Some at) None (λ is. other (sym is)) ∙ c.loop-entry.invariant.latest node low
                ∙ sym (latest_other refs i node c.loop-entry-test.true other)
          ];
      ordered = later_more is_out_of_order refs i c.loop-entry-test.true passes c.loop-entry.invariant.ordered;
    }
