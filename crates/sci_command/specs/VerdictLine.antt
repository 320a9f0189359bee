-- The line that says what an audit found.
use Rattle.std.specs.Prelude.{ℕ, List, [], ◌∷◌, ◌++◌, codes, Option, Some, None}
use Rattle.sci_history.specs.declared.verdict.FaultKind.{FaultKind}
use Rattle.sci_history.specs.declared.verdict.FaultKind.TheVariants.{VersionTwice, VersionMissing, WrongReply, OutOfOrder, LastDiffers}
use Rattle.sci_history.specs.declared.verdict.Verdict.{Verdict}
use Rattle.sci_text.specs.Number.{field}
use Rattle.sci_history.specs.declared.verdict.Verdict.TheVariants as verdicts

-- the number of a kind of fault, and its name
unfoldable pub kind_text : FaultKind → List ℕ
kind_text VersionTwice = codes "fault 1 version-twice"
kind_text VersionMissing = codes "fault 2 version-missing"
kind_text WrongReply = codes "fault 3 wrong-reply"
kind_text OutOfOrder = codes "fault 4 out-of-order"
kind_text LastDiffers = codes "fault 5 last-differs"

-- ` node N serial S`, if an entry is named
unfoldable pub named_text : Option (ℕ × ℕ) → List ℕ
named_text None = []
named_text (Some named) = codes " node" ++ (field named.0 ++ (codes " serial" ++ field named.1))

-- `lawful`, or `fault K NAME line L node N serial S`, and the line feed
unfoldable pub verdict_text : Verdict → List ℕ
verdict_text verdicts.Lawful = codes "lawful" ++ 10 ∷ []
verdict_text (verdicts.Fault line kind named) = kind_text kind ++ (codes " line" ++ (field line ++ (named_text named ++ 10 ∷ [])))
