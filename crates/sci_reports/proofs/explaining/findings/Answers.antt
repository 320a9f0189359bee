use Rattle.std.proofs.Common.{◌≡◌, ◌<◌, List, [], ◌∷◌, ap, arith, length, None, refl, Some, sym, ◌∙◌, subst}
use Rattle.sci_words.specs.declared.stamped.Stamped.{Stamped}
use Rattle.std.proofs.lemmas.List.{get_or_default, length-set}
use Rattle.sci_history.proofs.AuditLines.{known_on_line}
use Rattle.sci_reports.specs.{declared.finding.{Subject.{Subject}}, EntryLines.{numbered_on, numberings}, Subject.{IsSubject}}
use Rattle.sci_reports.proofs.{EntriesOn.{entries_on_line, list_stays, list_taken}, FoundOnLines.{line_more, line_past}}
use Rattle.sci_reports.proofs.explaining.findings.Goals as goal

pub loop-line-preserved : goal.loop-line-preserved
loop-line-preserved c =
    let faults = c.args.faults.now in
    let before = c.args.log.now.before in
    let logs = c.args.log.now.logs in
    let last = c.args.log.now.last.value in
    let line = c.loop-line.line in
    let lists = c.loop-line.lists.items in
    let was = c.loop-line.invariant in
    let finding = c.in_ok-finding.finding in
    let held : c.deref-last.result.now ≡ last = c.deref-last.ensures in
    let same : length c.deref-last.result.now ≡ length last = ap (λ (l : List Stamped). length l) held in
    let low : line < length last = omega (arith, same, c.loop-line-test.true) in
    let within : line < length faults = omega (arith, low, c.requires.found.many) in
    let low_list : line < length lists = omega (arith, low, was.lines) in
    let entries = c.replace-entries.result in
    let taken : numberings entries.items ≡ numbered_on line before logs =
    list_taken lists line entries (numbered_on line before logs) low_list (rw (sym c.replace-entries.ensures.value) at c.index_mut.ensures.value)
    (was.left line (omega arith) low) in
    let about = subst (λ (l : List Stamped). IsSubject before logs l line c.subject_of-subject.result) held (c.subject_of-subject.ensures logs taken) in
    let on_line = entries_on_line line before logs c.subject_of-subject.result.entries.items about.entries in
    let sixteen = sym c.nodes-nodes.ensures.nodes ∙ c.nodes-nodes.ensures.sixteen in
    let known = known_on_line line logs _ _ on_line c.nodes-nodes.ensures.own sixteen c.requires.within in
    let is_about = subst (λ (subject : Subject). IsSubject before logs last line subject) (sym c.in_ok-finding.ensures.subject) about in
    let found = sym c.in-Some.is ∙ get_or_default faults line None (Some c.in-Some.fault) within in
    record {
      found =
          line_more before logs last faults line (Some c.in-Some.fault) c.loop-line.findings.items (finding ∷ []) c.push.new.self.items
          within was.found found (finding, is_about, c.in_ok-finding.ensures.found known, refl) c.in_ok-push.ensures.items;
      lines = length-set lists _ _ ∙ was.lines;
      left = λ other above below.
          list_stays lists line other _ (numbered_on other before logs) (omega (arith, above)) (was.left other (omega (arith, above)) below);
    }

pub loop-line-preserved-in_default : goal.loop-line-preserved-in_default
loop-line-preserved-in_default c = grind (arith, line_past)
