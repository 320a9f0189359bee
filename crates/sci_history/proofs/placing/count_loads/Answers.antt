use Rattle.std.specs.Global.{Vec}
use Rattle.std.proofs.{Common.{◌≡◌, ◌≤◌, ◌+◌, ℕ, List, set, sym, ap, subst, ◌∙◌, arith}, lemmas.List.{get_or_default}}
use Rattle.sci_history.specs.{declared.entry.Entry.{Entry}, Audit.{entries_of}, Placed.{maker_count}}
use Rattle.sci_history.proofs.AuditFinds.{all_at, entry_at}
use Rattle.sci_history.proofs.LoadCounts.{HasCounted, counted_load, counted_maker, few_counted}
use Rattle.sci_history.proofs.placing.count_loads.Goals.{then-not-is_maker, else-not-is_maker}
use Rattle.sci_history.proofs.placing.count_loads.Goals as goal

pub index_mut-requires : goal.index_mut-requires
index_mut-requires c =
    let makers = maker_count (entries_of c.args.entries.now) in
    let within = all_at (λ (e : Entry). e.version ≤ makers) c.args.entries.now c.loop-entry.entry-index c.loop-entry-test.true c.requires in
    omega (arith, within, c.loop-entry.invariant.long)

pub overflow_add-index_mut : goal.overflow_add-index_mut
overflow_add-index_mut c =
    let makers = maker_count (entries_of c.args.entries.now) in
    let within = all_at (λ (e : Entry). e.version ≤ makers) c.args.entries.now c.loop-entry.entry-index c.loop-entry-test.true c.requires in
    let few = few_counted c.loop-entry.counts.items c.args.entries.now c.loop-entry.entry-index makers
    (entry_at c.args.entries.now c.loop-entry.entry-index).version within c.loop-entry.invariant in
    let is = c.index_mut.ensures.value in
    let below = c.loop-entry-test.true in
    let same = get_or_default c.loop-entry.counts.items (entry_at c.args.entries.now c.loop-entry.entry-index).version c.index_mut.result.now 0
    (omega (arith, within, c.loop-entry.invariant.long)) in
    omega arith

pub loop-entry-preserved : goal.loop-entry-preserved
loop-entry-preserved c =
    let refs = c.args.entries.now in
    let i = c.loop-entry.entry-index in
    let makers = maker_count (entries_of refs) in
    elim c.if-not-is_maker.branch [
      | then-not-is_maker w ↦
          let within = all_at (λ (e : Entry). e.version ≤ makers) refs i c.loop-entry-test.true c.requires in
          let same = get_or_default c.loop-entry.counts.items (entry_at refs i).version w.index_mut.result.now 0
          (omega (arith, within, c.loop-entry.invariant.long)) in
          let is : c.if-not-is_maker.counts.items ≡ set c.loop-entry.counts.items (entry_at refs i).version (w.index_mut.result.now + 1) =
          ap (λ (vec : Vec ℕ). vec.items) w.counts-is in
          subst (λ (items : List ℕ). HasCounted items refs (i + 1) makers)
          (sym (is ∙ ap (λ (k : ℕ). set c.loop-entry.counts.items (entry_at refs i).version (k + 1)) (w.index_mut.ensures.value ∙ same)))
          (counted_load c.loop-entry.counts.items refs i makers c.loop-entry-test.true (sym c.is_maker.ensures ∙ w.if-not-is_maker.true) within
          c.loop-entry.invariant)
      | else-not-is_maker w ↦
          subst (λ (vec : Vec ℕ). HasCounted vec.items refs (i + 1) makers) (sym w.counts-is)
          (counted_maker c.loop-entry.counts.items refs i makers c.loop-entry-test.true (sym c.is_maker.ensures ∙ w.if-not-is_maker.false)
          c.loop-entry.invariant)
    ]
