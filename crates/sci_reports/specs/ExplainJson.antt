-- What `explain --json` writes: what is wrong with a log as one JSON object.
use Rattle.std.specs.Prelude.{ℕ, false, true, List, ◌++◌, codes, Option, Some, None}
use Rattle.std.specs.List.{flat_map}
use Rattle.json.specs.Token.{Token}
use Rattle.sci_json.specs.Members.{array_member, null_member, number_member, object_line, object_member, object_of, truth_member, word_member}
use Rattle.sci_json.specs.Parts.{contents_members, entry_members}
use Rattle.sci_reports.specs.declared.{faulty.{Cause.{Cause}, FaultyEntry.{FaultyEntry}}, finding.Finding.{Finding}, numbered.Numbered.{Numbered}}
use Rattle.sci_reports.specs.declared.faulty.Cause.TheVariants.{MadeBefore, FewMakers, OtherWord, SerialAfter, PlacedAfter}
use Rattle.sci_reports.specs.{EntryLines.{entry_of}, OrderJson.{fault_members}, Window.{window}}

-- the line of the text that has an entry, its node and its serial
unfoldable pub place_members : Numbered → List Token
place_members it =
    number_member (codes "text_line") it.text_line
    ++ (number_member (codes "node") (entry_of it).node ++ number_member (codes "serial") (entry_of it).serial)

-- who made a word; null if it is as at first
unfoldable pub maker_member : Option Numbered → List Token
maker_member None = null_member (codes "made_by")
maker_member (Some maker) = object_member (codes "made_by") (place_members maker)

-- how many makers a line has, and the least version that none of them makes
unfoldable pub makers_members : ℕ → ℕ → List Token
makers_members makers least = number_member (codes "makers") makers ++ number_member (codes "least_not_made") least

-- why an entry is at fault
unfoldable pub cause_members : Cause → List Token
cause_members (MadeBefore earlier) = object_member (codes "made_by") (place_members earlier)
cause_members (FewMakers makers least) = makers_members makers least
cause_members (OtherWord word maker) = word_member (codes "word_there") word ++ maker_member maker
cause_members (SerialAfter earlier) = object_member (codes "logged_after") (place_members earlier)
cause_members (PlacedAfter earlier) = object_member (codes "logged_after") (place_members earlier)

-- the last contents, and those that the entries leave
unfoldable pub last_members : Finding → List Token
last_members finding = number_member (codes "text_line") finding.subject.last_line
    ++ (object_member (codes "last") (contents_members finding.subject.last) ++ object_member (codes "left") (contents_members finding.left))

-- the entry that was found and why it is at fault, or else the last contents
unfoldable pub found_members : Option FaultyEntry → Finding → List Token
found_members None finding = last_members finding
found_members (Some found) finding = number_member (codes "text_line") found.at.text_line ++ cause_members found.cause

-- an entry, and the line of the text that has it
unfoldable pub numbered_members : Numbered → List Token
numbered_members it = number_member (codes "text_line") it.text_line ++ entry_members (entry_of it)

unfoldable pub numbered_object : Numbered → List Token
numbered_object it = object_of (numbered_members it)

-- the line of the text that has the entry at fault; 0 if none is
unfoldable pub marked_by : Option FaultyEntry → ℕ
marked_by None = 0
marked_by (Some found) = found.at.text_line

-- the entries around the one on a line of the text
unfoldable pub around_member : List Numbered → ℕ → List Token
around_member placed marked = array_member (codes "entries") (flat_map numbered_object (window placed marked))

unfoldable pub finding_members : Finding → List Token
finding_members finding = fault_members finding.subject.line finding.fault.kind finding.fault.at
    ++ (found_members finding.found finding ++ around_member finding.placed.items (marked_by finding.found))

unfoldable pub finding_object : Finding → List Token
finding_object finding = object_of (finding_members finding)

-- that a log isn't lawful, and what is found
unfoldable pub unlawful_members : List Finding → List Token
unlawful_members findings = truth_member (codes "lawful") false ++ array_member (codes "faults") (flat_map finding_object findings)

abbrev pub findings_json : List Finding → List ℕ
findings_json findings = object_line (unlawful_members findings)

abbrev pub lawful_json : List ℕ
lawful_json = object_line (truth_member (codes "lawful") true)
