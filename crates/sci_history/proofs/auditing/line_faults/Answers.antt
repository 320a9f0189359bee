-- Each line is judged by its own entries.
use Rattle.std.proofs.Common.{◌≡◌, arith, length}
use Rattle.sci_history.specs.{Audit.{entries_of}, Placed.{on_line}}
use Rattle.sci_history.proofs.{ByLine.{list_at}, AuditLines.{known_on_line, faults_more, lawful_if_none}}
use Rattle.sci_history.proofs.auditing.line_faults.Goals.{After-get}
use Rattle.sci_history.proofs.auditing.line_faults.Goals as goal

entries : (c : After-get) → entries_of c.deref.result.now ≡ on_line c.loop-line.line c.args.logs.now
entries c =
    list_at c.in_ok-lists.lists.items c.args.logs.now c.loop-line.line _ c.index.result.now c.deref.result.now c.in_ok-lists.ensures.lines
    c.loop-line-test.true c.index.ensures c.deref.ensures.value c.in_ok-lists.ensures.lists

pub line_fault-requires : goal.line_fault-requires
line_fault-requires c = known_on_line c.loop-line.line c.args.logs.now _ _ (entries c) c.in_ok-lists.ensures.own c.in_ok-lists.ensures.sixteen c.requires

pub loop-line-preserved : goal.loop-line-preserved
loop-line-preserved c = grind (arith, faults_more, entries)

pub returns-clause-lawful : goal.returns-clause-lawful
returns-clause-lawful c =
    let lists = c.in_ok-lists.ensures in
    let all : c.loop-line.line ≡ length c.args.last.now = omega arith in
    lawful_if_none c.args.logs.now c.args.last.now c.loop-line.faults.items lists.own lists.sixteen c.requires (rw all at c.loop-line.invariant)
