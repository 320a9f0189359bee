-- What a note of a faulty line of memory says.
use Rattle.std.specs.Prelude.{ℕ, ◌==◌, List, [], ◌∷◌, ◌++◌, length, codes, Option, Some, None, if◌then◌else◌}
use Rattle.std.specs.List.{flat_map}
use Rattle.sci_words.specs.declared.operation.{Act.{Act, TheVariants.{Load, Store, Lock}}, Reply.{Reply, TheVariants.{Stored, Got}}}
use Rattle.sci_words.specs.declared.stamped.Stamped.{Stamped}
use Rattle.sci_history.specs.{declared.entry.Entry.{Entry}, Placed.{is_making}}
use Rattle.sci_text.specs.{Number.{field}, Log.{issue_text, outcome_text}}
use Rattle.sci_command.specs.{PacketLine.{contents_text}, VerdictLine.{verdict_text}}
use Rattle.sci_reports.specs.declared.{faulty.{Cause.{Cause}, FaultyEntry.{FaultyEntry}}, finding.Finding.{Finding}, numbered.Numbered.{Numbered}}
use Rattle.sci_reports.specs.declared.faulty.Cause.TheVariants.{MadeBefore, FewMakers, OtherWord, SerialAfter, PlacedAfter}
use Rattle.sci_reports.specs.{EntryLines.{entry_of}, Faulty.{faulty}, Window.{window}}
use Rattle.sci_history.specs.declared.verdict.Verdict.TheVariants as verdicts

-- a label, a space and a number
abbrev pub labelled : List ℕ → ℕ → List ℕ
labelled label n = label ++ field n

-- ---- who it is

-- `node N serial S`
unfoldable pub who_text : Entry → List ℕ
who_text entry = labelled (codes "node") entry.node ++ labelled (codes " serial") entry.serial

-- `node N serial S on line K`
unfoldable pub where_text : Numbered → List ℕ
where_text it = who_text (entry_of it) ++ labelled (codes " on line") it.text_line

-- ---- another word

-- what an operation does to its word
unfoldable pub verb_text : Act → List ℕ
verb_text Load = codes " loads word"
verb_text (Store word) = codes " stores to word"
verb_text (Lock lock) = codes " locks word"

-- what an entry answered
unfoldable pub got_text : Reply → List ℕ
got_text Stored = codes " and got no word"
got_text (Got word) = labelled (codes " and got") word

-- who made a word
unfoldable pub maker_text : Option Numbered → List ℕ
maker_text None = codes ", as at first"
maker_text (Some maker) = codes ", made by " ++ who_text (entry_of maker)

-- what an entry did and got
unfoldable pub done_text : Entry → List ℕ
done_text entry = verb_text entry.op.act ++ (field entry.op.word ++ (labelled (codes " at version") entry.version ++ got_text entry.reply))

-- that, the word that was there, and who made it
unfoldable pub other_word_text : Entry → ℕ → Option Numbered → List ℕ
other_word_text entry word maker = done_text entry ++ (labelled (codes "; the word there is") word ++ maker_text maker)

-- ---- a version that is missing

-- the version of an entry
unfoldable pub version_text : Entry → List ℕ
version_text entry = labelled (if is_making entry then codes " makes version" else codes " loads at version") entry.version

-- the versions that some makers should make
unfoldable pub some_makers_text : ℕ → List ℕ
some_makers_text makers =
    if makers == 1 then codes "; the line has 1 maker, which should make version 1"
    else labelled (codes "; the line has") makers ++ labelled (codes " makers, which should make versions 1 to") makers

-- the versions that this many makers should make, and the least one that isn't made
unfoldable pub makers_text : ℕ → ℕ → List ℕ
makers_text makers least =
    if makers == 0 then codes "; the line has no maker, so its only version is 0"
    else some_makers_text makers ++ labelled (codes "; the least version that no entry makes is") least

-- ---- why an entry is at fault

-- an earlier entry made its version
unfoldable pub made_before_text : Entry → Numbered → List ℕ
made_before_text entry earlier = labelled (codes " makes version") entry.version ++ (codes ", which was made by " ++ where_text earlier)

-- it was logged after an entry whose serial isn't below
unfoldable pub serial_after_text : Numbered → List ℕ
serial_after_text earlier = codes " was logged after " ++ (where_text earlier ++ codes ", whose serial isn't below")

-- it was logged after an entry that is placed after it
unfoldable pub placed_after_text : Entry → Numbered → List ℕ
placed_after_text entry earlier = labelled (codes " at version") entry.version
    ++ (codes " was logged after " ++ (where_text earlier ++ labelled (codes ", which is at version") (entry_of earlier).version))

unfoldable pub cause_text : Entry → Cause → List ℕ
cause_text entry (MadeBefore earlier) = made_before_text entry earlier
cause_text entry (FewMakers makers least) = version_text entry ++ makers_text makers least
cause_text entry (OtherWord word maker) = other_word_text entry word maker
cause_text entry (SerialAfter earlier) = serial_after_text earlier
cause_text entry (PlacedAfter earlier) = placed_after_text entry earlier

-- the line of the text that has the entry, who it is, why it is at fault, and the line feed
unfoldable pub fault_text : FaultyEntry → List ℕ
fault_text found =
    labelled (codes "  line") found.at.text_line ++ (codes ": " ++ (who_text (faulty found) ++ (cause_text (faulty found) found.cause ++ 10 ∷ [])))

-- ---- the entries around it

-- an entry with its line of the text, which has a mark if it is this one
unfoldable pub shown_line : ℕ → Numbered → List ℕ
shown_line marked it = labelled (if it.text_line == marked then codes "  > line" else codes "    line") it.text_line
    ++ (codes ": " ++ ((issue_text (entry_of it) ++ outcome_text (entry_of it)) ++ 10 ∷ []))

-- what stands before the entries
unfoldable pub around_title : List ℕ
around_title = codes "  entries of the line in the order of versions:" ++ 10 ∷ []

-- the entries around the one on a line of the text, which is marked; nothing if there are no entries
unfoldable pub around_text : List Numbered → ℕ → List ℕ
around_text placed marked = if length placed == 0 then [] else around_title ++ flat_map (shown_line marked) (window placed marked)

-- ---- last contents that differ

-- the line of the text that has the last contents, and these
unfoldable pub last_are_text : ℕ → Stamped → List ℕ
last_are_text text_line last = labelled (codes "  line") text_line ++ (codes ": the last contents are" ++ contents_text last)

-- the contents that the entries leave, and the line feed
unfoldable pub left_text : Stamped → List ℕ
left_text left = codes "; the entries leave" ++ (contents_text left ++ 10 ∷ [])

-- the line that says both
unfoldable pub last_text : Finding → List ℕ
last_text finding = last_are_text finding.subject.last_line finding.subject.last ++ left_text finding.left

-- ---- what is found

-- of the entry that was found, or else of the last contents and their line of the text; and the entries, none of which is marked then
unfoldable pub note_text : Option FaultyEntry → Finding → List ℕ
note_text None finding = last_text finding ++ around_text finding.placed.items 0
note_text (Some found) finding = fault_text found ++ around_text finding.placed.items found.at.text_line

-- the line of an audit that names the fault, and then the note
abbrev pub finding_text : Finding → List ℕ
finding_text finding = verdict_text (verdicts.Fault finding.subject.line finding.fault.kind finding.fault.at) ++ note_text finding.found finding
