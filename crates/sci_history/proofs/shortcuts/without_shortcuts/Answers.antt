use Rattle.std.specs.Global.{Vec}
use Rattle.std.proofs.Common.{◌<◌, ◌≡◌, ◌++◌, ◌∷◌, [], get_or, length, ap, sym, subst, refl, ◌∙◌, arith}
use Rattle.std.proofs.lemmas.Option.{slice_get-get_or}
use Rattle.sci_history.specs.{declared.order_verdict.Step.{Step}, Shortcuts.{IsBareRoundOf}}
use Rattle.sci_history.proofs.Shortening.{IsKept, kept_closes, kept_more, no_step, still_kept}
use Rattle.sci_history.proofs.shortcuts.without_shortcuts.Goals.{then-place-next+in_ok-push, else-place-next}
use Rattle.sci_history.proofs.shortcuts.without_shortcuts.Goals as goal

pub loop-place-preserved : goal.loop-place-preserved
loop-place-preserved c =
    let steps = c.args.steps.now in
    let part = c.shortest_part-part.ensures in
    let at = c.loop-place.place in
    let x = get_or steps at no_step in
    let inside : at < length steps = let below = c.loop-place-test.true in let within = part.within in omega arith in
    elim c.if-place-next.branch [
      | then-place-next+in_ok-push w ↦
          let onward = w.farthest-onward in
          let z : Step = record { entry = x.entry; place = x.place; reason = onward.result.1 } in
          let kept = subst (IsKept steps c.loop-place.kept.items c.shortest_part-part.result.first c.shortest_part-part.result.last) (sym w.if-place-next.true)
          c.loop-place.invariant.kept in
          let more = kept_more steps c.loop-place.kept.items c.shortest_part-part.result.first c.shortest_part-part.result.last at onward.result.0 x z
          part.least kept c.loop-place-test.true (slice_get-get_or steps at no_step inside)
          (record { entry = refl; place = refl }) onward.ensures.onward onward.ensures.last onward.ensures.comes onward.ensures.farthest in
          record {
            reached = let more_on = onward.ensures.onward in let is = w.next-is in omega arith;
            kept = still_kept steps (c.loop-place.kept.items ++ z ∷ []) c.if-place-next.kept.items c.shortest_part-part.result.first
                c.shortest_part-part.result.last onward.result.0 c.if-place-next.next more
                (ap (λ (v : Vec Step). v.items) w.kept-is ∙ w.in_ok-push.ensures.items) w.next-is;
          }
      | else-place-next w ↦
          record {
            reached = let le = c.loop-place.invariant.reached in let ne = w.if-place-next.false in let is = w.next-is in omega (arith, le, ne, is);
            kept = still_kept steps c.loop-place.kept.items c.if-place-next.kept.items c.shortest_part-part.result.first c.shortest_part-part.result.last
                c.loop-place.next c.if-place-next.next c.loop-place.invariant.kept
                (ap (λ (v : Vec Step). v.items) w.kept-is) w.next-is;
          }
    ]

pub returns : goal.returns
returns c =
    let steps = c.args.steps.now in
    let part = c.shortest_part-part.ensures in
    let first = c.shortest_part-part.result.first in
    let last = c.shortest_part-part.result.last in
    let x = get_or steps last no_step in
    let z : Step = record { entry = x.entry; place = x.place; reason = c.shortest_part-part.result.reason } in
    let there : c.loop-place.next ≡ last = let le = c.loop-place.invariant.reached in let past = c.loop-place-test.false in let before =
    c.loop-place.invariant.kept.before in omega arith in
    let kept = subst (IsKept steps c.loop-place.kept.items first last) there c.loop-place.invariant.kept in
    let order = part.order in
    let within = part.within in
    let below : first < length steps = omega arith in
    let closes = kept_closes steps c.loop-place.kept.items first last x z (get_or steps first no_step) c.shortest_part-part.result.reason kept part.order
    (slice_get-get_or steps last no_step part.within) (record { entry = refl; place = refl }) refl
    (slice_get-get_or steps first no_step below) part.round part.within in
    subst (IsBareRoundOf steps) (sym c.in_ok-push-2.ensures.items) closes
