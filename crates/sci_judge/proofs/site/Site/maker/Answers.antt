use Rattle.std.proofs.Common.{Some, refl, sym, ap, ◌∙◌}
use Rattle.std.proofs.lemmas.Option.{slice_get-get_or}
use Rattle.sci_judge.specs.declared.forcing.Maker.{Maker}
use Rattle.sci_judge.proofs.site.Site.maker.Goals as goal

pub returns : goal.returns
returns c =
    let x = c.in_ok-place.field-0.now in
    let there = c.in_ok-place.ensures.lookup in
    (x, slice_get-get_or c.args.makers.now c.args.index x there.3.0 ∙ ap (λ (m : Maker). Some m) (sym (there.3.1 x)), refl, sym c.at.ensures ∙ c.in_ok-at.was)
