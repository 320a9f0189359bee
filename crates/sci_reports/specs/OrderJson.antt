-- What `order --json` writes: a verdict as one JSON object.
use Rattle.std.specs.Prelude.{ℕ, Bool, true, false, List, [], ◌++◌, codes, Option, Some, None, if◌then◌else◌}
use Rattle.std.specs.List.{flat_map}
use Rattle.json.specs.Token.{Token}
use Rattle.sci_history.specs.declared.{entry.Entry.{Entry}, verdict.FaultKind.{FaultKind}}
use Rattle.sci_history.specs.declared.verdict.FaultKind.TheVariants.{VersionTwice, VersionMissing, WrongReply, OutOfOrder, LastDiffers}
use Rattle.sci_json.specs.Members.{array_member, number_member, object_line, object_member, object_of, optional_member, text_member, truth_member}
use Rattle.sci_json.specs.Parts.{entry_members}
use Rattle.sci_reports.specs.declared.ordering.{NodeOrder.{NodeOrder}, NumberedStep.{NumberedStep}, OrderRequest.{OrderRequest}}
use Rattle.sci_reports.specs.OrderWords.{order_name, reason_text}

-- the name of a kind of fault
unfoldable pub fault_name : FaultKind → List ℕ
fault_name VersionTwice = codes "version-twice"
fault_name VersionMissing = codes "version-missing"
fault_name WrongReply = codes "wrong-reply"
fault_name OutOfOrder = codes "out-of-order"
fault_name LastDiffers = codes "last-differs"

-- the node and the serial of an entry at fault, if there is one
unfoldable pub at_members : Option (ℕ × ℕ) → List Token
at_members None = []
at_members (Some at) = number_member (codes "node") at.0 ++ number_member (codes "serial") at.1

unfoldable pub fault_members : ℕ → FaultKind → Option (ℕ × ℕ) → List Token
fault_members line kind at = text_member (codes "kind") (fault_name kind) ++ (number_member (codes "line") line ++ at_members at)

-- that logs aren't lawful, and their fault
unfoldable pub unlawful_members : ℕ → FaultKind → Option (ℕ × ℕ) → List Token
unlawful_members line kind at = truth_member (codes "lawful") false ++ object_member (codes "fault") (fault_members line kind at)

-- that logs are lawful, in which order each node's entries have to stand, and whether there is such an order of all
unfoldable pub judged_members : NodeOrder → Bool → List Token
judged_members keeps consistent = truth_member (codes "lawful") true
    ++ (text_member (codes "order") (order_name keeps) ++ truth_member (codes "sequentially_consistent") consistent)

unfoldable pub entry_object : Entry → List Token
entry_object entry = object_of (entry_members entry)

-- the entries of an order, if they are asked for
unfoldable pub shown_members : Bool → List Entry → List Token
shown_members shows order = if shows then array_member (codes "entries") (flat_map entry_object order) else []

-- an entry of a cycle: the line of the text on which it stands, the entry, and why it comes after the next one
unfoldable pub step_members : NodeOrder → NumberedStep → List Token
step_members keeps x =
    optional_member (codes "text_line") x.line
    ++ (entry_members x.step.entry ++ text_member (codes "comes_after_next") (reason_text keeps x.step.reason))

unfoldable pub step_object : NodeOrder → NumberedStep → List Token
step_object keeps x = object_of (step_members keeps x)

unfoldable pub found_members : OrderRequest → List Entry → List Token
found_members request order = judged_members request.keeps true ++ shown_members request.shows order

unfoldable pub cycle_members : NodeOrder → List NumberedStep → List Token
cycle_members keeps steps = judged_members keeps false ++ array_member (codes "cycle") (flat_map (step_object keeps) steps)

abbrev pub fault_json : ℕ → FaultKind → Option (ℕ × ℕ) → List ℕ
fault_json line kind at = object_line (unlawful_members line kind at)

abbrev pub found_json : OrderRequest → List Entry → List ℕ
found_json request order = object_line (found_members request order)

abbrev pub cycle_json : NodeOrder → List NumberedStep → List ℕ
cycle_json keeps steps = object_line (cycle_members keeps steps)
