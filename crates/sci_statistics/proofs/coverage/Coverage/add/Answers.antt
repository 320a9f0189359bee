use Rattle.std.proofs.Common.{rules, arith}
use Rattle.sci_statistics.proofs.Counts.{adds_more, place_small}
use Rattle.sci_statistics.proofs.coverage.Coverage.add.Goals as goal

pub loop-place-init : goal.loop-place-init
loop-place-init c = record { added = λ q less. omega (arith, less); left = λ q more. search rules; long = search rules }

pub loop-place-preserved : goal.loop-place-preserved
loop-place-preserved c =
    let test = c.loop-place-test.true in
    adds_more c.args.self.now.counts c.args.other.now.counts c.loop-place.self.counts c.loop-place.place _ test c.saturating_add.ensures c.loop-place.invariant

pub returns : goal.returns
returns c = λ t.
    let small = place_small t in
    let end = c.loop-place-test.false in
    c.loop-place.invariant.added _ (omega (arith, small, end))
