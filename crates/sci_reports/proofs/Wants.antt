-- The cause of a wrong reply is another word.
use Rattle.std.proofs.Common.{◌≡◌, ℕ, List, Option, Some, None, sym, ap, subst, ◌∙◌, arith, refl}
use Rattle.std.specs.Prelude.{option_map}
use Rattle.sci_words.specs.declared.stamped.Stamped.{Stamped}
use Rattle.sci_history.specs.declared.{entry.Entry.{Entry}, verdict.FaultKind.TheVariants.{WrongReply}}
use Rattle.sci_history.specs.Audit.{IsFault, Names}
use Rattle.sci_history.proofs.AuditLines.{versions_low}
use Rattle.sci_reports.specs.declared.faulty.{Cause.{Cause}, FaultyEntry.{FaultyEntry}}
use Rattle.sci_reports.specs.declared.faulty.Cause.TheVariants.{MadeBefore, FewMakers, OtherWord, SerialAfter, PlacedAfter}
use Rattle.sci_reports.specs.declared.{finding.Finding.{Finding}, numbered.Numbered.{Numbered}, wanted.Wanted.{Wanted}}
use Rattle.sci_reports.specs.{EntryLines.{entry_of}, Faulty.{IsOtherWord, faulty}, Finding.{IsFinding}, Subject.{IsSubject}}
use Rattle.sci_reports.specs.Wanted.{IsWanted, wanted_by, wanted_by_cause}
use Rattle.sci_reports.proofs.EntriesOn.{entries_on_line}

wants_cause : (before : List Numbered) (entry : Entry) (cause : Cause) → IsOtherWord before entry cause
    → (wanted : Wanted) × (wanted_by_cause cause ≡ Some wanted)
wants_cause before entry (MadeBefore earlier) h = elim h [ ]
wants_cause before entry (FewMakers makers least) h = elim h [ ]
wants_cause before entry (OtherWord word maker) h = (record { word = word; maker = option_map entry_of maker }, refl)
wants_cause before entry (SerialAfter earlier) h = elim h [ ]
wants_cause before entry (PlacedAfter earlier) h = elim h [ ]

named_by : (found : Option Entry) (named : Option (ℕ × ℕ)) → found ≡ None → Names found named → ⊥
named_by found named none h = subst (λ (o : Option Entry). Names o named) none h

-- a wrong reply is found
is_found : (before line : ℕ) (logs : List (List Entry)) (last : List Stamped) (named : Option (ℕ × ℕ)) (finding : Finding)
    → IsFault logs last line WrongReply named → IsSubject before logs last line finding.subject
    → IsFinding (record { kind = WrongReply; at = named }) finding → finding.found ≡ None → ⊥
is_found before line logs last named finding fault subject is none = grind (arith, entries_on_line, versions_low, named_by)

pub wants : (before line : ℕ) (logs : List (List Entry)) (last : List Stamped) (named : Option (ℕ × ℕ)) (finding : Finding) (found : Option FaultyEntry)
    → IsFault logs last line WrongReply named → IsSubject before logs last line finding.subject
    → IsFinding (record { kind = WrongReply; at = named }) finding → finding.found ≡ found → IsWanted before logs last (wanted_by found)
wants before line logs last named finding None fault subject is e = absurd (is_found before line logs last named finding fault subject is e)
wants before line logs last named finding (Some found) fault subject is e =
    let cause = rw e at is.cause in
    let w = wants_cause cause.before (faulty found) found.cause cause.cause in
    subst (IsWanted before logs last) (sym w.1) (record {
      line = line;
      named = named;
      fault = fault;
      finding = finding;
      subject = subject;
      is = is;
      wants = ap wanted_by e ∙ w.1;
    })
