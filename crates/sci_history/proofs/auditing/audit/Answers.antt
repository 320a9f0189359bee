-- Each line is judged by its own entries, and the lines that were found lawful are all.
use Rattle.std.proofs.Common.{◌≡◌, arith}
use Rattle.sci_history.specs.{Audit.{entries_of}, Placed.{on_line}}
use Rattle.sci_history.proofs.ByLine.{list_at}
use Rattle.sci_history.proofs.AuditLines.{known_on_line, lawful_from_found, lawful_all, lawful_more, fault_found, verdict_is}
use Rattle.sci_history.proofs.auditing.audit.Goals.{After-get}
use Rattle.sci_history.specs.declared.verdict.Verdict.TheVariants as verdicts
use Rattle.sci_history.proofs.auditing.audit.Goals as goal

entries : (c : After-get) → entries_of c.deref.result.now ≡ on_line c.loop-line.line c.args.logs.now
entries c = grind (arith, list_at)

pub line_fault-requires : goal.line_fault-requires
line_fault-requires c = known_on_line c.loop-line.line c.args.logs.now _ _ (entries c) c.in_ok-lists.ensures.own c.in_ok-lists.ensures.sixteen c.requires

pub returns-in-Some-clause-lawful : goal.returns-in-Some-clause-lawful
returns-in-Some-clause-lawful c =
    let lists = c.in_ok-lists.ensures in
    verdict_is c.args.logs.now c.args.last.now (verdicts.Fault c.loop-line.line c.in-Some.fault.kind c.in-Some.fault.at) lists.own lists.sixteen
    (fault_found c.args.logs.now c.args.last.now c.loop-line.line _ _ _ c.in-Some.fault (omega arith) c.loop-line.invariant
    (entries (goal.at.returns-in-Some-clause-lawful c).After-get) c.get.ensures c.in-Some.is c.in_ok-fault.ensures)

pub loop-line-preserved : goal.loop-line-preserved
loop-line-preserved c =
    let lists = c.in_ok-lists.ensures in
    lawful_more c.args.logs.now c.args.last.now c.loop-line.line c.loop-line.invariant
    (lawful_from_found c.args.logs.now c.args.last.now c.loop-line.line _ _ _ lists.own lists.sixteen (entries (goal.at.loop-line-preserved c).After-get)
    c.get.ensures c.in_default.is c.in_ok-fault.ensures)

pub returns-clause-verdict : goal.returns-clause-verdict
returns-clause-verdict c =
    lawful_all c.args.logs.now c.args.last.now c.in_ok-lists.ensures.own c.in_ok-lists.ensures.sixteen c.requires
    (λ line lt. c.loop-line.invariant line (omega arith))

pub returns-clause-lawful : goal.returns-clause-lawful
returns-clause-lawful c =
    verdict_is c.args.logs.now c.args.last.now verdicts.Lawful c.in_ok-lists.ensures.own c.in_ok-lists.ensures.sixteen
    (lawful_all c.args.logs.now c.args.last.now c.in_ok-lists.ensures.own c.in_ok-lists.ensures.sixteen c.requires
    (λ line lt. c.loop-line.invariant line (omega arith)))
