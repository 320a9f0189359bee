use Rattle.std.proofs.Common.{ap, arith, refl, subst, ◌≡◌, ◌∙◌, List, Option, length}
use Rattle.sci_history.specs.declared.faults.LineFault.{LineFault}
use Rattle.sci_windows.proofs.{CutOffs.{lawful_cut_off, verdict_cut_off}, Loops.{audit_within}, Relatives.{relative_long}}
use Rattle.sci_windows.specs.CutOff.{IsBeforeLast, IsVerdictCutOff}
use Rattle.sci_windows.proofs.cut_off.audit_cut_off.Goals.{After-before_last}
use Rattle.sci_windows.proofs.cut_off.audit_cut_off.Goals as goal

pub line_faults-requires : goal.line_faults-requires
line_faults-requires c =
    audit_within c.args.first.now c.args.first.now c.args.logs.now c.in_ok-relative.relative c.deref.result.now c.in_ok-relative.ensures.logs
    (c.deref.ensures ∙ c.in_ok-contents.ensures.contents) refl c.requires.within

pub before_last-requires : goal.before_last-requires
before_last-requires c = grind (arith, relative_long)

verdict : (c : After-before_last) → IsVerdictCutOff c.args.logs.now c.args.first.now c.before_last.result
verdict c =
    let long : length c.deref.result.now ≡ length c.args.first.now =
    ap length (c.deref.ensures ∙ c.in_ok-contents.ensures.contents) ∙ relative_long c.args.first.now c.args.first.now refl in
    verdict_cut_off c.args.logs.now c.in_ok-relative.relative c.args.first.now c.deref.result.now (length c.deref.result.now) _
    c.before_last.result (record {
      own = c.in_ok-relative.ensures.own;
      sixteen = c.in_ok-relative.ensures.sixteen;
      few = c.are_few.ensures.0 c.if-not-are_few.false;
      within = c.requires.within;
      lines = c.in_ok-contents.ensures.first;
      early = c.requires.early;
    }) c.in_ok-relative.ensures.logs long c.in_ok-faults.ensures.found
    (subst (λ (xs : List (Option LineFault)). IsBeforeLast xs c.before_last.result) c.deref-2.ensures.value c.before_last.ensures)

pub returns-clause-verdict : goal.returns-clause-verdict
returns-clause-verdict c = verdict (goal.at.returns-clause-verdict c).After-before_last

pub returns-clause-lawful : goal.returns-clause-lawful
returns-clause-lawful c =
    lawful_cut_off c.args.logs.now c.args.first.now c.before_last.result (verdict (goal.at.returns-clause-lawful c).After-before_last)
