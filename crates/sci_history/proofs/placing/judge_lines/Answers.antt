use denote.Ref.{Bor}
use Rattle.std.specs.Prelude.{All}
use Rattle.std.proofs.{Common.{◌≡◌, ◌≤◌, List, length, sym, subst, arith}, lemmas.List.Elements.{All-from_recursion}}
use Rattle.sci_history.specs.{declared.entry.Entry.{Entry}, Audit.{entries_of}, Lawful.{IsLawfulLine}}
use Rattle.sci_history.specs.{Memory.{stamped_at}, Placed.{maker_count, on_line}, Placing.{HasCounts}}
use Rattle.sci_history.proofs.AuditLines.{known_on_line, lawful_from_found, lawful_all, lawful_more, fault_found, verdict_is}
use Rattle.sci_history.proofs.{ByLine.{list_at}, FoundOrders.{orderable}, LoadCounts.{counts_more}}
use Rattle.sci_history.proofs.placing.judge_lines.Goals.{After-index-entries, After-deref-in-loop-line}
use Rattle.sci_history.specs.declared.verdict.Verdict.TheVariants as verdicts
use Rattle.sci_history.proofs.placing.judge_lines.Goals as goal

-- the entries of the line, each time that its list is read
entries : (c : After-index-entries) (refs : List (Bor Entry)) → refs ≡ c.index-entries.result.now.items
    → entries_of refs ≡ on_line c.loop-line.line c.args.logs.now
entries c refs is = grind (arith, list_at)

-- the line that was found to have no fault
lawful : (c : After-deref-in-loop-line) → entries_of c.deref.result.now ≡ on_line c.loop-line.line c.args.logs.now
    → IsLawfulLine c.args.logs.now c.loop-line.line (stamped_at c.args.last.now c.loop-line.line)
lawful c is = grind (arith, lawful_from_found)

pub line_fault-requires : goal.line_fault-requires
line_fault-requires c =
    known_on_line c.loop-line.line c.args.logs.now _ _ (entries (goal.at.line_fault-requires c).After-index-entries _ c.deref.ensures.value)
    c.in_ok-lists.ensures.own c.in_ok-lists.ensures.sixteen c.requires

pub returns-in-Some-clause-judged : goal.returns-in-Some-clause-judged
returns-in-Some-clause-judged c =
    let lists = c.in_ok-lists.ensures in
    let found = fault_found c.args.logs.now c.args.last.now c.loop-line.line _ _ _ c.in-Some.fault (omega arith) c.loop-line.invariant.lawful
    (entries (goal.at.returns-in-Some-clause-judged c).After-index-entries _ c.deref.ensures.value) c.get.ensures c.in-Some.is c.in_ok-fault.ensures in
    let same = verdict_is c.args.logs.now c.args.last.now (verdicts.Fault c.loop-line.line c.in-Some.fault.kind c.in-Some.fault.at) lists.own lists.sixteen
    found in
    (found, λ lawful. (let is = same.1 lawful in cc))

pub count_loads-requires : goal.count_loads-requires
count_loads-requires c =
    let index = (goal.at.count_loads-requires c).After-index-entries in
    let here = on_line c.loop-line.line c.args.logs.now in
    let line = lawful c (entries index _ c.deref.ensures.value) in
    subst (λ (es : List Entry). All (λ (entry : Entry). entry.version ≤ maker_count es) es) (sym (entries index _ c.deref-in-loop-line.ensures.value))
    (All-from_recursion (λ (entry : Entry). entry.version ≤ maker_count here) here line.versions.within)

pub loop-line-preserved : goal.loop-line-preserved
loop-line-preserved c =
    let at = goal.at.loop-line-preserved c in
    let counted = entries at.After-index-entries _ c.deref-in-loop-line.ensures.value in
    record {
      lawful = lawful_more c.args.logs.now c.args.last.now c.loop-line.line c.loop-line.invariant.lawful
          (lawful at.After-deref-in-loop-line (entries at.After-index-entries _ c.deref.ensures.value));
      lines = omega (arith, c.loop-line.invariant.lines, c.in_ok-push.ensures.len);
      counts = counts_more c.loop-line.loads.items c.push.new.self.items c.in_ok-count_loads.field-0 c.loop-line.line c.args.logs.now
          c.loop-line.invariant.lines c.in_ok-push.ensures.items c.loop-line.invariant.counts
          (subst (HasCounts c.in_ok-count_loads.field-0.items) counted c.in_ok-count_loads.ensures);
    }

pub returns-clause-judged : goal.returns-clause-judged
returns-clause-judged c =
    let lists = c.in_ok-lists.ensures in
    let lines = c.lines-lines.ensures.lines in
    let lawful = lawful_all c.args.logs.now c.args.last.now lists.own lists.sixteen c.requires (λ line lt. c.loop-line.invariant.lawful line (omega arith)) in
    let long : length c.loop-line.loads.items ≡ length c.args.last.now = omega (arith, c.loop-line.invariant.lines) in (
      lawful,
      orderable c.args.logs.now c.args.last.now c.loop-line.loads.items lawful lists.own lists.sixteen c.requires long
          (λ line lt. c.loop-line.invariant.counts line (omega arith)),
      long,
    )
