use Rattle.std.proofs.Common.{◌≡◌, sym, ap, ◌∙◌, inr, arith}
use Rattle.sci_judge.specs.{Access.{left_by}, declared.access.Access.{Access}}
use Rattle.sci_judge.proofs.ForcedChecks.{one_access}
use Rattle.sci_judge.proofs.site.Site.is_under.Goals as goal

pub returns-then-left-word-2 : goal.returns-then-left-word-2
returns-then-left-word-2 c = grind (arith, one_access)

pub returns-else-left-word-2 : goal.returns-else-left-word-2
returns-else-left-word-2 c = λ access at is.
    let h = c.in-Some-Some-Some in
    let same = one_access c.args.self.now.accesses.now c.args.place h.access access (sym c.at.ensures ∙ h.is-2) at in
    let leaves : left_by access.kind ≡ h.word = ap (λ (x : Access). left_by x.kind) (sym same) ∙ (sym c.left.ensures ∙ c.if-left-word.true) in
    inr (h.there, h.other, h.word, h.ensures, h.ensures', leaves, inr (c.comes_before.ensures access h.other at h.ensures.3 is))
