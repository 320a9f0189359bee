-- Logs in which a look for an order finds a fault are not lawful.
use Rattle.std.proofs.Common.{◌≡◌, ℕ, List, Option, length, sym, subst}
use Rattle.sci_words.specs.declared.{limits.TheConstants.{MAX_NODES}, stamped.Stamped.{Stamped}}
use Rattle.sci_history.specs.declared.{entry.Entry.{Entry}, verdict.FaultKind.{FaultKind}}
use Rattle.sci_history.specs.{declared.order_verdict.OrderVerdict.{OrderVerdict}, Audit.{IsFault}}
use Rattle.sci_history.specs.{Cycle.{IsOrderVerdict}, Lawful.{Lawful}, Placed.{AreOwn}}
use Rattle.sci_history.proofs.AuditLines.{verdict_is}
use Rattle.sci_history.specs.declared.verdict.Verdict.TheVariants as verdict
use Rattle.sci_history.specs.declared.order_verdict.OrderVerdict.TheVariants as order_verdict

fault_is_none : (line : ℕ) (kind : FaultKind) (at : Option (ℕ × ℕ)) → verdict.Fault line kind at ≡ verdict.Lawful → ⊥
fault_is_none line kind at e = absurd cc

-- logs with a fault aren't lawful
faulty_not : (logs : List (List Entry)) (last : List Stamped) (line : ℕ) (kind : FaultKind) (at : Option (ℕ × ℕ)) → AreOwn logs → length logs ≡ MAX_NODES
    → IsFault logs last line kind at → Lawful logs last → ⊥
faulty_not logs last line kind at own sixteen fault lawful =
    fault_is_none line kind at ((verdict_is logs last (verdict.Fault line kind at) own sixteen fault).1 lawful)

-- the same of what was asked for, which is what the logs are
pub faulty_for : (logs seen : List (List Entry)) (last kept : List Stamped) (found : OrderVerdict) (line : ℕ) (kind : FaultKind) (at : Option (ℕ × ℕ))
    → seen ≡ logs → kept ≡ last → found ≡ order_verdict.Fault line kind at → AreOwn seen → length seen ≡ MAX_NODES → IsOrderVerdict seen kept found
    → Lawful logs last → ⊥
faulty_for logs seen last kept found line kind at p q r own sixteen h lawful =
    faulty_not seen kept line kind at own sixteen (subst (IsOrderVerdict seen kept) r h)
    (subst (λ (ls : List (List Entry)). Lawful ls kept) (sym p) (subst (Lawful logs) (sym q) lawful))
