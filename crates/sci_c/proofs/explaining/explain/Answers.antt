use Rattle.std.proofs.Common.{List, ℕ, ap, false, inr, length, refl, subst, ◌∙◌}
use Rattle.sci_reports.specs.ExplainAnswer.{IsExplanationOf}
use Rattle.sci_c.specs.Written.{StandOver}
use Rattle.sci_c.proofs.Explanations.{not_refused}
use Rattle.sci_c.proofs.explaining.explain.Goals as goal

pub returns-in-Err-of-clause-range : goal.returns-in-Err-of-clause-range
returns-in-Err-of-clause-range c = λ is. inr (λ are.
    let journal = c.args.journal.now in
    not_refused journal.nodes _ journal.logs _ journal.last _ c.in-Ok.made.items c.deref.result.now c.in-Err-of.refusal.fault
    refl refl refl c.in-Ok.ensures.says c.deref.ensures.value c.no_log_fault.ensures
    c.in-Err-of.ensures.fault (c.status_of_unread.ensures.range is) are)

pub returns-in-Ok-explained-clause-written : goal.returns-in-Ok-explained-clause-written
returns-in-Ok-explained-clause-written c = λ ok.
    let text_is = c.deref.ensures.value ∙ c.in-Ok.ensures.text in
    record {
      zeros = c.in-Ok.ensures.zeros;
      words = c.in-Ok-explained.answer.text.items;
      outcome = c.in-Ok-explained.answer.outcome;
      explains = subst (λ (text : List ℕ). IsExplanationOf false text c.in-Ok-explained.answer.text.items c.in-Ok-explained.answer.outcome) text_is
          (c.in-Ok-explained.ensures c.deref.result.now c.in-Ok-of.ensures.read);
      stand = subst (λ (words : List ℕ). StandOver words c.args.text.now c.put_over.new.room c.put_over.new.used)
          c.deref-in-Ok-explained.ensures.value (c.put_over.ensures.written ok);
    }

pub returns-in-Ok-explained-clause-full : goal.returns-in-Ok-explained-clause-full
returns-in-Ok-explained-clause-full c = λ full.
    let text_is = c.deref.ensures.value ∙ c.in-Ok.ensures.text in
    record {
      words = c.in-Ok-explained.answer.text.items;
      outcome = c.in-Ok-explained.answer.outcome;
      explains = subst (λ (text : List ℕ). IsExplanationOf false text c.in-Ok-explained.answer.text.items c.in-Ok-explained.answer.outcome) text_is
          (c.in-Ok-explained.ensures c.deref.result.now c.in-Ok-of.ensures.read);
      length_is = c.put_over.ensures.used ∙ ap length c.deref-in-Ok-explained.ensures.value;
      more = c.put_over.ensures.full full;
    }
