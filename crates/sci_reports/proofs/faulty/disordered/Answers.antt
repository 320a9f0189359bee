use Rattle.std.proofs.Common.{◌≡◌, ◌<◌, Option, Some, None, false, arith, ap, get_or, inl, inr, length, set, subst, sym, take, ◌∙◌, ◌+◌}
use Rattle.std.proofs.lemmas.{Bool.{cases_eq, eq-eqb, ne_eqb}, List.{get_or-set_same, get_or-set_other, get_or_default, length-set}}
use Rattle.std.specs.Prelude.{option_map}
use Rattle.sci_words.specs.declared.limits.TheConstants.{MAX_NODES}
use Rattle.sci_history.specs.{declared.entry.Entry.{Entry}, Audit.{breaks_order, is_out_of_order}}
use Rattle.sci_history.proofs.AuditFinds.{latest_other, latest_own}
use Rattle.sci_reports.specs.{EntryLines.{entries_in, entry_of, entry_refs}, Faulty.{IsLast, is_by}}
use Rattle.sci_reports.proofs.FoundEntries.{all_so, fails_here, fails_later, last_here, last_stays, no_numbered, ref_at, stands_first, within_refs}
use Rattle.sci_reports.proofs.faulty.disordered.Goals as goal

pub loop-at-preserved-then-node-ge-NODES : goal.loop-at-preserved-then-node-ge-NODES
loop-at-preserved-then-node-ge-NODES c =
    let below = all_so (λ entry. entry.node < MAX_NODES) c.args.entries.now c.loop-at.at-index c.loop-at-test.true in
    record {
      sixteen = c.loop-at.invariant.sixteen;
      latest = λ within node low. let below = below within in absurd (omega (arith, below, c.from-node.ensures, c.if-node-ge-NODES.true));
      earlier = λ within node low. let below = below within in absurd (omega (arith, below, c.from-node.ensures, c.if-node-ge-NODES.true));
      ordered = λ within. let below = below within in absurd (omega (arith, below, c.from-node.ensures, c.if-node-ge-NODES.true));
    }

pub returns-in-Some-clause-first : goal.returns-in-Some-clause-first
returns-in-Some-clause-first c = grind (arith, no_numbered, all_so, get_or_default, fails_here)

pub returns-in-Some-clause-cause : goal.returns-in-Some-clause-cause
returns-in-Some-clause-cause c = grind (arith, no_numbered, all_so, get_or_default, stands_first)

pub loop-at-preserved : goal.loop-at-preserved
loop-at-preserved c =
    let list = c.args.entries.now in
    let i = c.loop-at.at-index in
    let it = get_or list i no_numbered in
    let at = it.entry.now in
    let f = c.from-node.result in
    let lt = within_refs list i c.loop-at-test.true in
    let is = ref_at list i c.loop-at-test.true in
    let own_node = ap (λ (e : Entry). e.node) is in
    let below = all_so (λ entry. entry.node < MAX_NODES) list i c.loop-at-test.true in
    record {
      sixteen = length-set c.loop-at.latest f (Some it) ∙ c.loop-at.invariant.sixteen;
      latest = λ within node low.
          let below = below within in
          let long : f < length c.loop-at.latest = omega (arith, below, c.from-node.ensures, c.loop-at.invariant.sixteen) in
          elim (cases_eq at.node node) [
            | inl own ↦ ap (λ n. option_map entry_of (get_or (set c.loop-at.latest f (Some it)) n None)) (sym (c.from-node.ensures ∙ own))
                ∙ ap (option_map entry_of) (get_or-set_same c.loop-at.latest f (Some it) None long)
                ∙ ap Some (sym is) ∙ sym (latest_own (entry_refs list) i node lt (own_node ∙ own))
            | inr other ↦ ap (option_map entry_of)
                (get_or-set_other c.loop-at.latest f node (Some it) None (λ e. other (sym (e ∙ c.from-node.ensures))))
                ∙ c.loop-at.invariant.latest within node low ∙ sym (latest_other (entry_refs list) i node lt (λ e. other (sym own_node ∙ e)))
          ];
      earlier = λ within node low.
          let below = below within in
          let long : f < length c.loop-at.latest = omega (arith, below, c.from-node.ensures, c.loop-at.invariant.sixteen) in
          elim (cases_eq at.node node) [
            | inl own ↦
                let latest = ap (λ n. get_or (set c.loop-at.latest f (Some it)) n None) (sym (c.from-node.ensures ∙ own))
                ∙ get_or-set_same c.loop-at.latest f (Some it) None long in
                subst (IsLast (is_by node) (take (i + 1) list)) (sym latest)
                (last_here (is_by node) list i c.loop-at-test.true (eq-eqb at.node node own))
            | inr other ↦
                let latest = get_or-set_other c.loop-at.latest f node (Some it) None (λ e. other (sym (e ∙ c.from-node.ensures))) in
                subst (IsLast (is_by node) (take (i + 1) list)) (sym latest)
                (last_stays (is_by node) list i c.loop-at-test.true (get_or c.loop-at.latest node None) (ne_eqb at.node node other)
                (c.loop-at.invariant.earlier within node low))
          ];
      ordered = λ within.
          let below = below within in
          let seen = c.loop-at.invariant.latest within at.node below in
          let long : at.node < length c.loop-at.latest = omega (arith, below, c.loop-at.invariant.sixteen) in
          let told = rw c.from-node.ensures at c.in_default.ensures.breaks in
          let same = get_or_default c.loop-at.latest at.node c.index-latest-node.result None long in
          let here : is_out_of_order (take i (entries_in list)) at ≡ false =
          ap (λ (o : Option Entry). breaks_order o at) (sym seen ∙ ap (option_map entry_of) (sym same)) ∙ sym told in
          fails_later is_out_of_order list i c.loop-at-test.true (c.loop-at.invariant.ordered within) here;
    }
