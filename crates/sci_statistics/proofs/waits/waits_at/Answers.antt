use Rattle.std.proofs.Common.{arith, rules, ◌<◌, ◌≡◌, ◌-◌, get_or, length, None, false, ap, ◌∙◌, sym, length-append}
use Rattle.std.proofs.lemmas.Grind.{get_or_default_zero}
use Rattle.sci_statistics.specs.declared.passage.Passage.{Passage}
use Rattle.sci_words.specs.declared.event.EventKind.TheVariants.{Issue}
use Rattle.sci_statistics.proofs.Waiting.{behind_kept, behind_set, waits_kept, waits_longer}
use Rattle.sci_statistics.proofs.waits.waits_at.Goals.{in-Some+in_ok-push, in_default, in-Some-issued_line, in_default-issued_line}
use Rattle.sci_statistics.proofs.waits.waits_at.Goals as goal

pub loop-place-preserved : goal.loop-place-preserved
loop-place-preserved c =
    let n = c.args.node in
    let passages = c.args.passages.now in
    let i = c.loop-place.place in
    let d : Passage = record { event = Issue; enabled = false; node = 0; line = None; made = None; sent = None; taken = None; answer = None } in
    let test = c.loop-place-test.true in
    let within : i < length passages = omega (arith, test) in
    let behind = c.loop-place.behind_issue.items in
    let was = c.loop-place.invariant in record {
      places = elim c.match-issued_line.branch [
        | in-Some-issued_line w ↦
            let named : w.in-Some-issued_line.line < 256 = search rules in
            let at : w.from-in-Some-issued_line.result ≡ w.in-Some-issued_line.line = w.from-in-Some-issued_line.ensures in
            rw (w.behind_issue-is, at) (behind_set n passages i d behind w.in-Some-issued_line.line within
            (sym c.issued_line.ensures ∙ w.in-Some-issued_line.is) named was.places)
        | in_default-issued_line w ↦ rw w.behind_issue-is
            (behind_kept n passages i d behind within (sym c.issued_line.ensures ∙ w.in_default-issued_line.is) was.places)
      ];
      found = elim c.match-performed_at.branch [
        | in-Some+in_ok-push w ↦
            let named : w.in-Some.line < 256 = search rules in
            let long = was.places.long in
            let there : w.in-Some.line < length behind = omega (arith, named, long) in
            let at : w.from.result ≡ w.in-Some.line = w.from.ensures in
            let read : w.index.result.now ≡ get_or behind w.in-Some.line 0 =
            w.index.ensures ∙ (ap (λ k. get_or behind k w.index.result.now) at ∙ get_or_default_zero behind w.in-Some.line w.index.result.now there) in
            rw w.found-is (waits_longer n passages i d behind w.in-Some.access w.in-Some.line c.loop-place.found.items w.push.new.self.items _ within
            (sym c.performed_at.ensures ∙ w.in-Some.is) named was.places (ap (λ k. i - k) read) w.in_ok-push.ensures.items was.found)
        | in_default w ↦ rw w.found-is (waits_kept n passages i d c.loop-place.found.items within (sym c.performed_at.ensures ∙ w.in_default.is) was.found)
      ];
      few = elim c.match-performed_at.branch [
        | in-Some+in_ok-push w ↦
            let few = was.few in
            let more = w.in_ok-push.ensures.items in
            rw w.found-is (omega (arith, few, simp length-append at (ap length more)))
        | in_default w ↦ let few = was.few in rw w.found-is (omega (arith, few))
      ];
    }
