use Rattle.std.proofs.Common.{rules, arith, ◌≡◌, ◌<◌, ◌≤◌, length, get_or}
use Rattle.sci_statistics.specs.Transitions.{transition_place}
use Rattle.sci_statistics.proofs.Counts.{counted}
use Rattle.sci_statistics.proofs.coverage.Coverage.count.Goals as goal

pub returns : goal.returns
returns c = λ t.
    let long : length c.args.self.now.counts ≡ 833 = search rules in
    let small : get_or c.args.self.now.counts (transition_place t) 0 ≤ 0xffff_ffff_ffff_ffff = search rules in
    let few = c.place-place.ensures.few in
    let there : c.place-place.result < length c.args.self.now.counts = omega (arith, long, few) in
    counted c.args.self.now.counts c.place-place.result _ (transition_place t) _ c.place-place.ensures.place there small c.saturating_add.ensures
