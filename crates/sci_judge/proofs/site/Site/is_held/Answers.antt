use Rattle.std.proofs.Common.{◌≡◌, ◌-◌, ℕ, true, false, refl, sym, ap, subst, ◌∙◌, arith}
use Rattle.std.proofs.lemmas.Bool.{eqb-true}
use Rattle.sci_judge.specs.{Access.{is_making}, Forced.{IsAbove, IsUnder, IsMaker}, declared.access.Access.{Access}}
use Rattle.sci_judge.proofs.ForcedChecks.{held_load, held_maker, one_access}
use Rattle.sci_judge.proofs.site.Site.is_held.Goals as goal

pub returns-then-is_above : goal.returns-then-is_above
returns-then-is_above c = λ access at is.
    let s = c.args.self.now in
    let h = c.in-Some-Ok in
    let same = one_access s.accesses.now c.args.place h.access access (sym c.at.ensures ∙ h.is-0) at in
    let load : is_making access.kind ≡ false = ap (λ (x : Access). is_making x.kind) (sym same) ∙ (sym c.is_making.ensures ∙ c.if-not-is_making.true) in
    let version : h.version ≡ c.args.version = h.ensures'.1 in
    held_load s.timed s.accesses.now c.args.makers.now c.args.place c.args.version access load
    (subst (λ (v : ℕ). IsAbove s.timed s.accesses.now c.args.makers.now c.args.place v access) version (c.if-is_above.ensures access at refl))
    (subst (λ (v : ℕ). IsUnder s.timed s.accesses.now c.args.makers.now c.args.place v access) version (c.is_under.ensures access at is))

pub returns-in-Some : goal.returns-in-Some
returns-in-Some c = λ access at is.
    let s = c.args.self.now in
    let h = c.in-Some-Ok in
    let same = one_access s.accesses.now c.args.place h.access access (sym c.at.ensures ∙ h.is-0) at in
    let making : is_making access.kind ≡ true = ap (λ (x : Access). is_making x.kind) (sym same) ∙ (sym c.is_making.ensures ∙ c.if-not-is_making.false) in
    let version : h.version ≡ c.args.version = h.ensures'.1 in
    held_maker s.timed s.accesses.now c.args.makers.now c.args.place c.in-Some.there c.args.version access c.in-Some.field-0-1 making (omega arith)
    (subst (λ (v : ℕ). IsMaker s.accesses.now c.args.makers.now (v - 1) c.in-Some.there c.in-Some.field-0-1) version c.in-Some.ensures)
    (eqb-true c.in-Some.there c.args.place is)
