use Rattle.std.proofs.Common.{sym, ap, ◌∙◌, arith, inl, inr}
use Rattle.sci_judge.specs.{Access.{is_writing}, declared.access.Access.{Access}}
use Rattle.sci_judge.proofs.ForcedChecks.{behind, one_access}
use Rattle.sci_judge.proofs.site.Site.is_behind_previous.Goals as goal

pub returns-then-not-is_writing : goal.returns-then-not-is_writing
returns-then-not-is_writing c = λ access at is.
    let h = c.in-Some-Some in
    behind c.args.self.now.timed c.args.self.now.accesses.now c.args.makers.now c.args.index h.before c.args.place h.other access (omega arith) h.ensures
    (inr (c.comes_before.ensures h.other access h.ensures.3 at is))

pub returns-then-is_writing : goal.returns-then-is_writing
returns-then-is_writing c = λ access at is.
    let h = c.in-Some-Some in
    behind c.args.self.now.timed c.args.self.now.accesses.now c.args.makers.now c.args.index h.before c.args.place h.other access (omega arith) h.ensures
    (inr (c.comes_before-then-is_writing.ensures h.other access h.ensures.3 at is))

pub returns : goal.returns
returns c = λ access at is.
    let h = c.in-Some-Some in
    let same = one_access c.args.self.now.accesses.now c.args.place h.access access (sym c.at.ensures ∙ h.is-1) at in
    behind c.args.self.now.timed c.args.self.now.accesses.now c.args.makers.now c.args.index h.before c.args.place h.other access (omega arith) h.ensures
    (inl (sym c.is_writing.ensures ∙ c.if-not-is_writing.false, ap (λ (x : Access). is_writing x.kind) (sym same) ∙ sym c.if-is_writing.ensures))
