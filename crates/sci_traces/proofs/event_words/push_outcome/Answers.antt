use Rattle.sci_traces.proofs.EventEffects.{reason_given, effect_given}
use Rattle.sci_traces.proofs.event_words.push_outcome.Goals as goal

pub returns-in-Err-NotEnabled-clause-text : goal.returns-in-Err-NotEnabled-clause-text
returns-in-Err-NotEnabled-clause-text c =
    let same = c.in-Err-NotEnabled.ensures.same in
    let idle = rw c.in-Err-NotEnabled.field-0-is at c.in-Err-NotEnabled.ensures.refused in
    let told = c.in_ok-push_reason-in-Err-NotEnabled.ensures in
    reason_given c.args.machine.now c.args.event.now _ _ c.obstacle_to.result idle (rw same at c.obstacle_to.ensures.obstacle) (rw same at told)

pub returns-clause-text : goal.returns-clause-text
returns-clause-text c =
    effect_given c.args.machine.now c.apply.new.self c.args.event.now _ _ _ _ _ _ _ _ _ _ _ _ c.in-Ok.ensures.done
    c.sent-sent.ensures c.taken-taken.ensures c.line_changed-line.ensures c.node_of-node.ensures c.in_ok-old.ensures.cache c.in_ok-old.ensures.home
    c.entry_of.ensures
    c.in_ok-push_moved.ensures c.in_ok-push_moved-2.ensures c.in_ok-push_changes.ensures c.in_ok-push_logged.ensures
