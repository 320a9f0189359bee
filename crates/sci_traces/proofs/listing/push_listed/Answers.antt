use Rattle.sci_core.specs.Core.{stepping}
use Rattle.sci_traces.proofs.Listed.{none_listed}
use Rattle.sci_traces.proofs.listing.push_listed.Goals as goal

pub returns-in-Err-NotEnabled-clause-text : goal.returns-in-Err-NotEnabled-clause-text
returns-in-Err-NotEnabled-clause-text c =
    let idle = rw c.in-Err-NotEnabled.field-0-is at c.in-Err-NotEnabled.ensures.refused in
    none_listed c.args.place.number c.args.out.now.items c.args.place.line (stepping c.args.machine.now c.args.event.now) idle

pub returns-clause-text : goal.returns-clause-text
returns-clause-text c = rw (← c.in-Ok.ensures.done) at c.push_list_behind.ensures
