-- An audit of lawful logs that were written as a text finds them lawful.
use Rattle.std.proofs.Common.{◌≡◌, ℕ, List, sym, ap, subst, ◌∙◌}
use Rattle.sci_words.specs.declared.stamped.Stamped.{Stamped}
use Rattle.sci_history.specs.{declared.entry.Entry.{Entry}, Lawful.{Lawful}}
use Rattle.sci_text.specs.LogValue.{IsLogs}
use Rattle.sci_command.specs.{declared.outcome.Outcome.{Outcome, TheVariants.{Done}}, VerdictLine.{verdict_text}}
use Rattle.scimem.specs.LogAnswer.{outcome_of, IsAuditOf}
use Rattle.sci_history.specs.declared.verdict.Verdict.TheVariants as verdicts

-- a text is of one log, as sci_text's law says
abbrev pub OneLog : Type 0
OneLog = (input : List ℕ) (n m : ℕ) (a b : List (List Entry)) (x y : List Stamped) → IsLogs input n a x → IsLogs input m b y → (n ≡ m) × (a ≡ b) × (x ≡ y)

pub audited_lawful : OneLog → (text said : List ℕ) (nodes : ℕ) (logs : List (List Entry)) (last : List Stamped) (outcome : Outcome)
    → IsLogs text nodes logs last → Lawful logs last → IsAuditOf text said outcome → (said ≡ verdict_text verdicts.Lawful) × (outcome ≡ Done)
audited_lawful one_log text said nodes logs last outcome says is_lawful audit =
    let one = one_log text audit.nodes nodes audit.logs logs audit.last last audit.read says in
    let lawful : Lawful audit.logs audit.last =
    subst (λ (l : List Stamped). Lawful audit.logs l) (sym one.2) (subst (λ (ls : List (List Entry)). Lawful ls last) (sym one.1) is_lawful) in
    let verdict : audit.verdict ≡ verdicts.Lawful = audit.lawful.1 lawful in
    (audit.written ∙ ap verdict_text verdict, audit.ends ∙ ap outcome_of verdict)
