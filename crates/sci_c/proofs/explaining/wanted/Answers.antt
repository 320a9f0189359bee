use Rattle.std.proofs.Common.{List, ℕ, inr, refl, subst, ◌∙◌}
use Rattle.sci_reports.specs.Wanted.{IsWantedOf}
use Rattle.sci_c.proofs.Explanations.{not_refused}
use Rattle.sci_c.proofs.explaining.wanted.Goals as goal

pub returns-in-Err-clause-range : goal.returns-in-Err-clause-range
returns-in-Err-clause-range c = λ is. inr (λ are.
    let journal = c.args.journal.now in
    not_refused journal.nodes _ journal.logs _ journal.last _ c.in_ok-made.made.items c.deref.result.now c.in-Err.refusal.fault
    refl refl refl c.in_ok-made.ensures.says c.deref.ensures.value c.no_log_fault.ensures
    c.in-Err.ensures.fault (c.status_of_unread.ensures.range is) are)

pub returns-in-Ok-wanted-clause-wanted : goal.returns-in-Ok-wanted-clause-wanted
returns-in-Ok-wanted-clause-wanted c =
    subst (λ (text : List ℕ). IsWantedOf text c.in-Ok-wanted.wanted) (c.deref.ensures.value ∙ c.in_ok-made.ensures.text)
    (c.in-Ok-wanted.ensures c.deref.result.now c.in-Ok.ensures.read)
