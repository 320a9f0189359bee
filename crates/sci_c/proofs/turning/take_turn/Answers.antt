use Rattle.std.proofs.Common.{subst}
use Rattle.sci_policy.specs.Policy.{PolicyOf}
use Rattle.sci_c.specs.Turning.{Replies, stage}
use Rattle.sci_c.proofs.turning.take_turn.Goals as goal

pub returns : goal.returns
returns c =
    let marks = c.args.taken.now in
    let replied = stage c.reply.new.controller marks c.reply.new.room c.reply.new.used in
    record {
      replied = replied;
      accepted = stage c.accept_all.new.controller c.accept_all.new.taken c.reply.new.room c.reply.new.used;
      taken = stage c.take_all.new.controller c.take_all.new.taken c.take_all.new.room c.take_all.new.used;
      replies = subst (λ (policy : PolicyOf). Replies (stage (record c.args.controller.now { policy = policy }) marks c.args.room.now 0) replied)
          c.begin_turn.ensures (c.reply.ensures.replies marks);
      accepts = c.accept_all.ensures.accepts c.reply.new.room c.reply.new.used;
      takes = c.take_all.ensures.takes;
      asks = c.ask_some.ensures c.take_all.new.taken;
    }
