use Rattle.std.proofs.Common.{◌≡◌, true, None, Some, ap, sym, subst, ◌∙◌}
use Rattle.std.proofs.lemmas.{Option.{slice_get-get_or}, Result.{IfOk-weaker}}
use Rattle.sci_judge.specs.{declared.cycle.Reason.{Reason}, Access.{left_by}}
use Rattle.sci_judge.specs.{Cycle.{AreAtOneAddress, IsFirst, StandsFirst}, Judgement.{at_address, last_at}, Witness.{IsAt, IsPath}}
use Rattle.sci_judge.proofs.linking.Sorted.is_first.Goals as goal

pub returns-else-not-are_parted : goal.returns-else-not-are_parted
returns-else-not-are_parted c =
    let timed = c.args.self.now.timed in
    let trace = c.args.self.now.trace.now in
    let link = c.args.link.now in
    let y = c.in-Some-Some.before.now in
    let x = c.in-Some-Some.behind.now in
    let low = c.in-Some-Some.ensures.lookup in
    let high = c.in-Some-Some.ensures'.lookup in
    let at_y : IsAt trace.accesses.items link.place y =
    rw (sym c.deref.ensures.value) (slice_get-get_or c.deref.result.now link.place y low.3.0 ∙ ap Some (sym low.1)) in
    let at_x : IsAt trace.accesses.items c.args.place x =
    rw (sym c.deref-2.ensures.value) (slice_get-get_or c.deref-2.result.now c.args.place x high.3.0 ∙ ap Some (sym high.1)) in
    let path : IsPath timed (at_address y.address trace.accesses.items) (last_at y.address trace) None c.in-Words.steps.items
    (record { low = left_by y.kind; high = left_by x.kind })
    = rw (sym c.deref-in-Words.ensures.value) (c.are_parted.ensures c.if-not-are_parted.false) in
    IfOk-weaker c.are_at_one_address-in-Words.result (λ one. one ≡ true → AreAtOneAddress trace y x)
    (λ first. first ≡ true → IsFirst timed trace link c.args.place)
    (λ one has shown.
    (y, x, at_y, at_x, subst (λ (r : Reason). StandsFirst timed trace r link.place c.args.place y x) (sym c.in-Words.is) (has shown, path)))
    c.are_at_one_address-in-Words.ensures
