use Rattle.std.proofs.Common.{◌≡◌, true, false, sym, ap, ◌∙◌, arith, inl, inr}
use Rattle.std.proofs.lemmas.Bool.{eqb-true}
use Rattle.sci_judge.specs.{Access.{left_by}, declared.access.Access.{Access}}
use Rattle.sci_judge.proofs.ForcedChecks.{above, one_access}
use Rattle.sci_judge.proofs.site.Site.is_above.Goals.{then-is_writing, else-is_writing}
use Rattle.sci_judge.proofs.site.Site.is_above.Goals as goal

pub returns-then-left : goal.returns-then-left
returns-then-left c = λ access at is.
    let h = c.in-Some-Some in
    let same = one_access c.args.self.now.accesses.now c.args.place h.access access (sym c.at.ensures ∙ h.is-1) at in
    elim c.if-is_writing.branch [
      | then-is_writing w ↦
          above c.args.self.now.timed c.args.self.now.accesses.now c.args.makers.now c.args.version h.there c.args.place h.other access
          (omega arith) h.ensures (inl (
            sym w.if-is_writing.ensures,
            sym w.left.ensures ∙ (eqb-true w.left.result w.left-then-is_writing.result (sym w.value-is ∙ is)
                ∙ (w.left-then-is_writing.ensures ∙ ap (λ (x : Access). left_by x.kind) same)),
          ))
      | else-is_writing w ↦ absurd (let no_ : true ≡ false = sym is ∙ (w.value-is ∙ w.if-is_writing.false) in cc)
    ]

pub returns-else-left : goal.returns-else-left
returns-else-left c = λ access at is.
    above c.args.self.now.timed c.args.self.now.accesses.now c.args.makers.now c.args.version c.in-Some-Some.there c.args.place c.in-Some-Some.other access
    (omega arith) c.in-Some-Some.ensures (inr (c.comes_before.ensures c.in-Some-Some.other access c.in-Some-Some.ensures.3 at is))
