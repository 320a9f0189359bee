-- Words of an order: which order each node's entries keep, and why an entry comes after another.
use Rattle.std.specs.Prelude.{ℕ, List, codes}
use Rattle.sci_history.specs.declared.order_verdict.Reason.{Reason}
use Rattle.sci_reports.specs.declared.ordering.NodeOrder.{NodeOrder, TheVariants.{Logged, BySerial}}
use Rattle.sci_history.specs.declared.order_verdict.Reason.TheVariants as reasons

-- the name of the order in which each node's entries have to stand
unfoldable pub order_name : NodeOrder → List ℕ
order_name Logged = codes "log order"
order_name BySerial = codes "program order"

-- why an entry comes after another
unfoldable pub reason_text : NodeOrder → Reason → List ℕ
reason_text keeps reasons.Logged = order_name keeps
reason_text keeps reasons.ReadsFrom = codes "write before read"
reason_text keeps reasons.FromRead = codes "read before write"
reason_text keeps reasons.Coherence = codes "version order"
