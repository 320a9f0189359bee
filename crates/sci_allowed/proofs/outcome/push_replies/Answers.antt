use Rattle.std.proofs.Common.{ℕ, sym, ap, ◌∙◌}
use Rattle.std.specs.Prelude.{slice_index_or}
use Rattle.sci_orders.specs.declared.standing.Answer.TheVariants.{Stored}
use Rattle.sci_allowed.{proofs.Replies.{none_replied, one_replied}, specs.Outcome.{replied_at}}
use Rattle.sci_allowed.proofs.outcome.push_replies.Goals.{in-Some+in_ok-push, in_default}
use Rattle.sci_allowed.proofs.outcome.push_replies.Goals as goal

pub loop-serial-preserved : goal.loop-serial-preserved
loop-serial-preserved c =
    let f = λ (i : ℕ). replied_at c.args.node i (slice_index_or c.args.answers.now i Stored) in
    elim c.match-reply_of.branch [
      | in-Some+in_ok-push w ↦
          one_replied f c.loop-serial.serial c.args.replies.now.items c.loop-serial.replies.items _ w.in-Some.reply (sym c.reply_of.ensures ∙ w.in-Some.is)
          c.loop-serial.invariant (ap (λ replies. replies.items) w.replies-is ∙ w.in_ok-push.ensures.items)
      | in_default w ↦
          ap (λ replies. replies.items) w.replies-is
          ∙ none_replied f c.loop-serial.serial c.args.replies.now.items c.loop-serial.replies.items (sym c.reply_of.ensures ∙ w.in_default.is)
          c.loop-serial.invariant
    ]
