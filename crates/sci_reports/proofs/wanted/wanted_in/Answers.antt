use Rattle.std.proofs.Common.{◌<◌, arith, length, refl, sym, ◌∙◌, subst}
use Rattle.sci_history.proofs.AuditLines.{known_on_line}
use Rattle.sci_reports.specs.{declared.finding.Subject.{Subject}, EntryLines.{numbered_on}, Subject.{IsSubject}}
use Rattle.sci_reports.proofs.{EntriesOn.{entries_on_line, list_taken}, Wants.{wants}}
use Rattle.sci_reports.proofs.wanted.wanted_in.Goals as goal

pub returns : goal.returns
returns c =
    let before = c.args.before in
    let logs = c.args.logs.now in
    let last = c.args.last.now in
    let line = c.in-Fault-default-WrongReply-default.line in
    let named = c.in-Fault-default-WrongReply-default.at in
    let finding = c.in_ok-finding.finding in
    let arm = c.in-Fault-default-WrongReply-default in
    let some = rw arm.is at c.in_ok-line.ensures.verdict in
    let fault = rw arm.kind-is at some in
    let lists = c.in_ok-lists.lists.items in
    let low_list : line < length lists = omega (arith, fault.in_range, c.in_ok-lists.ensures.lines) in
    let taken = list_taken lists line c.swap_remove-entries.result (numbered_on line before logs) low_list c.swap_remove-entries.ensures.value
    (c.in_ok-lists.ensures.lists line (omega (arith, fault.in_range))) in
    let about = c.subject_of-subject.ensures logs taken in
    let on_line = entries_on_line line before logs c.subject_of-subject.result.entries.items about.entries in
    let sixteen = sym c.nodes-nodes.ensures.nodes ∙ c.nodes-nodes.ensures.sixteen in
    let known = known_on_line line logs _ _ on_line c.nodes-nodes.ensures.own sixteen c.requires.within in
    let is_about = subst (λ (subject : Subject). IsSubject before logs last line subject) (sym c.in_ok-finding.ensures.subject) about in
    rw c.wanted_at.ensures (wants before line logs last named finding finding.found fault is_about (c.in_ok-finding.ensures.found known) refl)
