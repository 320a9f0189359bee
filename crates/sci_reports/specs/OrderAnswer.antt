-- What `order` writes for its input.
use Rattle.std.specs.Prelude.{◌≡◌, ◌↔◌, ℕ, Bool, List, [], ◌∷◌, ◌++◌, length, map, codes, Option, Some, None, if◌then◌else◌}
use Rattle.std.specs.List.{AllByRecursion, flat_map}
use Rattle.sci_words.specs.declared.stamped.Stamped.{Stamped}
use Rattle.sci_history.specs.declared.{entry.Entry.{Entry}, order_verdict.OrderVerdict.{OrderVerdict}}
use Rattle.sci_history.specs.declared.order_verdict.{OrderVerdict.TheVariants.{Fault, Order, Cycle}, Reason.{Reason}}
use Rattle.sci_history.specs.declared.verdict.FaultKind.{FaultKind}
use Rattle.sci_history.specs.{declared.order_verdict.Step.{Step}, Audit.{IsFault, entries_of}, Lawful.{Lawful}}
use Rattle.sci_history.specs.{Cycle.{IsOrderVerdict}, Sequential.{IsSequentiallyConsistent, by_serial}}
use Rattle.sci_text.specs.{Number.{field}, FirstFault.{IsTold}, Log.{entry_line, issue_text, outcome_text}}
use Rattle.sci_text.specs.LogFault.{IsLogFault}
use Rattle.sci_command.specs.{declared.outcome.Outcome.{Outcome, TheVariants.{Done, Refused}}, Answer.{IsAnswerBy}}
use Rattle.sci_command.specs.VerdictLine.{verdict_text}
use Rattle.sci_reports.specs.declared.ordering.NodeOrder.{NodeOrder, TheVariants.{Logged, BySerial}}
use Rattle.sci_reports.specs.declared.ordering.{NumberedStep.{NumberedStep}, OrderRequest.{OrderRequest}}
use Rattle.sci_reports.specs.{EntryLines.{IsLineOf}, OrderJson.{cycle_json, fault_json, found_json}, OrderWords.{reason_text}, ReadLog.{IsOfLogs}}
use Rattle.sci_history.specs.declared.verdict.Verdict.TheVariants as verdicts

-- each node's entries in the order that is asked for
abbrev pub kept : NodeOrder → List (List Entry) → List (List Entry)
kept Logged logs = logs
kept BySerial logs = by_serial logs

-- ---- texts

-- the number of the line on which an entry stands
unfoldable pub place_text : Option ℕ → List ℕ
place_text None = []
place_text (Some line) = codes "line" ++ (field line ++ codes ": ")

-- why an entry of a cycle comes after the one on the next line, and the line feed
unfoldable pub why_text : NodeOrder → Reason → List ℕ
why_text keeps reason = codes " comes after the next: " ++ (reason_text keeps reason ++ 10 ∷ [])

-- where an entry of a cycle stands, the entry, and why it comes after the one on the next line
unfoldable pub step_text : NodeOrder → NumberedStep → List ℕ
step_text keeps x = place_text x.line ++ ((issue_text x.step.entry ++ outcome_text x.step.entry) ++ why_text keeps x.step.reason)

-- whether logs are sequentially consistent, and in which sense
unfoldable pub sense_text : NodeOrder → List ℕ
sense_text Logged = codes "sequentially consistent"
sense_text BySerial = codes "sequentially consistent in program order"

-- that there is no order, and the entries of a cycle
unfoldable pub cycle_text : NodeOrder → List NumberedStep → List ℕ
cycle_text keeps steps = codes "not " ++ (sense_text keeps ++ (10 ∷ [] ++ flat_map (step_text keeps) steps))

-- the entries of an order, a line each, if they are asked for
unfoldable pub shown_text : Bool → List Entry → List ℕ
shown_text shows order = if shows then flat_map entry_line order else []

-- that there is an order, and its entries
unfoldable pub found_text : OrderRequest → List Entry → List ℕ
found_text request order = sense_text request.keeps ++ (10 ∷ [] ++ shown_text request.shows order)

-- entries of a cycle with the lines of the text on which they stand
abbrev pub AreNumbered : ℕ → List (List Entry) → List Step → List NumberedStep → Type 0
AreNumbered before logs steps numbered = (map (λ x. x.step) numbered ≡ steps) × AllByRecursion (λ x. IsLineOf before logs x.step.entry x.line) numbered

-- the fault of logs that aren't lawful, in words or as a JSON object; the same of an order, and of a cycle
abbrev pub fault_shown : OrderRequest → ℕ → FaultKind → Option (ℕ × ℕ) → List ℕ
fault_shown request line kind at = if request.json then fault_json line kind at else verdict_text (verdicts.Fault line kind at)

abbrev pub found_shown : OrderRequest → List Entry → List ℕ
found_shown request order = if request.json then found_json request order else found_text request order

abbrev pub cycle_shown : OrderRequest → List NumberedStep → List ℕ
cycle_shown request steps = if request.json then cycle_json request.keeps steps else cycle_text request.keeps steps

abbrev pub IsOrderText : OrderRequest → ℕ → List (List Entry) → OrderVerdict → List ℕ → Type 0
IsOrderText request before logs (Fault line kind at) text = text ≡ fault_shown request line kind at
IsOrderText request before logs (Order order) text = text ≡ found_shown request (entries_of order.items)
IsOrderText request before logs (Cycle steps) text =
    (numbered : List NumberedStep) × AreNumbered before logs steps.items numbered × (text ≡ cycle_shown request numbered)

-- ---- the answer

-- the fault of logs that aren't lawful, or else what a search for an order of these finds, each node's entries in the order that is asked for
abbrev pub IsVerdictOf : NodeOrder → List (List Entry) → List Stamped → OrderVerdict → Type 0
IsVerdictOf keeps logs last (Fault line kind at) = IsFault logs last line kind at
IsVerdictOf keeps logs last (Order order) = Lawful logs last × IsOrderVerdict (kept keeps logs) last (Order order)
IsVerdictOf keeps logs last (Cycle steps) = Lawful logs last × IsOrderVerdict (kept keeps logs) last (Cycle steps)

-- What a search for an order finds is written, where this many lines of the text come before the entries. It is Done exactly if
-- the logs are lawful and there is such an order
pub record IsFound (request : OrderRequest) (before : ℕ) (logs : List (List Entry)) (last : List Stamped) (text : List ℕ) (outcome : Outcome) : Type 0 where
  pub verdict : OrderVerdict
  pub found : IsVerdictOf request.keeps logs last verdict
  pub written : IsOrderText request before logs verdict text
  pub judged : outcome ≡ Refused → ⊥
  pub ends : (outcome ≡ Done) ↔ (Lawful logs last × IsSequentiallyConsistent (kept request.keeps logs) last)

-- the input is the text of logs with last contents, and what is found of them is written
abbrev pub IsOrderOf : OrderRequest → List ℕ → List ℕ → Outcome → Type 0
IsOrderOf request input text outcome = IsOfLogs (λ before logs last. IsFound request before logs last text outcome) input

-- what `order` writes, and how it ends, for the bytes of a reader, which has failed or not
abbrev pub IsOrderAnswer : OrderRequest → Option (List ℕ) → Bool → List ℕ → Outcome → Type 0
IsOrderAnswer request = IsAnswerBy (IsOrderOf request) (IsTold IsLogFault)
