use Rattle.std.proofs.Common.{ℕ, Some, sym, ap, ◌∙◌, arith}
use Rattle.sci_judge.proofs.ForcedChecks.{held_more}
use Rattle.std.proofs.lemmas.Option.{slice_get-get_or, slice_get_within}
use Rattle.sci_judge.proofs.site.Site.are_held.Goals as goal

pub loop-place-preserved : goal.loop-place-preserved
loop-place-preserved c =
    let there = c.in-Some.ensures.lookup in
    held_more c.args.self.now.timed c.args.self.now.accesses.now c.args.versions.now c.args.makers.now c.loop-place.place c.in-Some.version.now
    (λ access at. c.is_held.ensures access at c.if-not-is_held.false)
    (slice_get-get_or c.args.versions.now c.loop-place.place 0 there.3.0 ∙ ap (λ (v : ℕ). Some v) (sym (there.3.1 0))) c.loop-place.invariant

pub returns : goal.returns
returns c = grind (arith, slice_get_within)
