-- What a search for an order finds, as `order` writes it.
use Rattle.std.proofs.Common.{◌≡◌, ◌↔◌, ℕ, List, Option, length, arith}
use Rattle.std.specs.Prelude.{Result, Ok, Err, IfOk}
use Rattle.sci_words.specs.declared.{limits.TheConstants.{MAX_NODES}, stamped.Stamped.{Stamped}}
use Rattle.sci_history.specs.declared.{entry.Entry.{Entry}, verdict.{FaultKind.{FaultKind}, Verdict.{Verdict}}}
use Rattle.sci_history.specs.declared.order_verdict.OrderVerdict.{OrderVerdict, TheVariants.{Fault, Order, Cycle}}
use Rattle.sci_history.specs.{Audit.{IsVerdict}, Cycle.{IsOrderVerdict, IsOrdered}, Lawful.{Lawful}, Placed.{AreOwn}}
use Rattle.sci_history.specs.Sequential.{IsSequentiallyConsistent, by_serial}
use Rattle.sci_history.proofs.AuditLines.{verdict_is}
use Rattle.sci_command.specs.declared.outcome.Outcome.{Outcome, TheVariants.{Done, Unlawful, Refused}}
use Rattle.sci_reports.specs.declared.ordering.NodeOrder.{NodeOrder, TheVariants.{Logged, BySerial}}
use Rattle.sci_reports.specs.declared.ordering.OrderRequest.{OrderRequest}
use Rattle.sci_reports.specs.OrderAnswer.{IsFound, IsVerdictOf, fault_shown, kept, IsOrderText}
use Rattle.sci_history.specs.declared.verdict.Verdict.TheVariants as verdicts

-- three facts of what was answered give a fourth
pub if_ok_three : {X E : Type 0} (P Q R S : X → Type 0) (r : Result X E) → ((x : X) → P x → Q x → R x → S x) → IfOk r P → IfOk r Q → IfOk r R → IfOk r S
if_ok_three P Q R S (Ok x) f p q r = f x p q r
if_ok_three P Q R S (Err e) f p q r = tt

-- logs that aren't lawful
pub fault_found : (request : OrderRequest) (before : ℕ) (logs : List (List Entry)) (last : List Stamped) (line : ℕ) (kind : FaultKind) (at : Option (ℕ × ℕ))
    (text : List ℕ) → (let fault : Verdict = verdicts.Fault line kind at in
    IsVerdict logs last fault × ((fault ≡ verdicts.Lawful) ↔ Lawful logs last) × (text ≡ fault_shown request line kind at))
    → IsFound request before logs last text Unlawful
fault_found request before logs last line kind at text h = record {
  verdict = Fault line kind at;
  found = h.0;
  written = h.2;
  judged = λ e. absurd (cc);
  ends = (λ e. absurd (cc), λ lawful. let same = h.1.1 lawful.0 in absurd (cc));
}

-- what is found of lawful logs, each in the order that is kept
kept_verdict : (keeps : NodeOrder) (logs : List (List Entry)) (last : List Stamped) (verdict : OrderVerdict) → Lawful logs last → Lawful (kept keeps logs) last
    → AreOwn (kept keeps logs) → length (kept keeps logs) ≡ MAX_NODES
    → IsOrderVerdict (kept keeps logs) last verdict → IsVerdictOf keeps logs last verdict
kept_verdict keeps logs last (Fault line kind at) lawful sorted own sixteen is = let same =
    (verdict_is (kept keeps logs) last (verdicts.Fault line kind at) own sixteen is).1 sorted in absurd (cc)
kept_verdict keeps logs last (Order order) lawful sorted own sixteen is = (lawful, is)
kept_verdict keeps logs last (Cycle steps) lawful sorted own sixteen is = (lawful, is)

pub serial_found : (request : OrderRequest) (before : ℕ) (logs sorted : List (List Entry)) (last : List Stamped) (verdict : OrderVerdict) (text : List ℕ)
    (outcome : Outcome) → request.keeps ≡ BySerial → sorted ≡ by_serial logs → Lawful logs last → Lawful (by_serial logs) last → AreOwn sorted
    → length sorted ≡ MAX_NODES
    → IsOrderVerdict sorted last verdict → IsOrdered verdict ↔ (Lawful sorted last × IsSequentiallyConsistent sorted last)
    → IsOrderText request before logs verdict text → (outcome ≡ Refused → ⊥) → (outcome ≡ Done) ↔ IsOrdered verdict
    → IsFound request before logs last text outcome
serial_found request before logs sorted last verdict text outcome keeps is lawful still own sixteen found ordered written judged ends = grind (
  arith,
  kept_verdict,
)

-- what is found of logs as they are
logged_verdict : (logs : List (List Entry)) (last : List Stamped) (verdict : OrderVerdict) → IsOrderVerdict logs last verdict
    → IsVerdictOf Logged logs last verdict
logged_verdict logs last (Fault line kind at) is = is
logged_verdict logs last (Order order) is = (is.0, is)
logged_verdict logs last (Cycle steps) is = (is.0, is)

pub logged_found : (request : OrderRequest) (before : ℕ) (logs : List (List Entry)) (last : List Stamped) (verdict : OrderVerdict) (text : List ℕ)
    (outcome : Outcome) → request.keeps ≡ Logged
    → IsOrderVerdict logs last verdict → IsOrdered verdict ↔ (Lawful logs last × IsSequentiallyConsistent logs last)
    → IsOrderText request before logs verdict text → (outcome ≡ Refused → ⊥) → (outcome ≡ Done) ↔ IsOrdered verdict
    → IsFound request before logs last text outcome
logged_found request before logs last verdict text outcome keeps found ordered written judged ends = grind (arith, logged_verdict)
