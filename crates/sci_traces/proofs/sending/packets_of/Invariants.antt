use Rattle.std.proofs.Common.{drop}
use Rattle.sci_command.specs.Beginning.{before}
use Rattle.sci_traces.specs.PacketsAnswer.{letters_sent}
use Rattle.sci_traces.proofs.Sent.{HasSent}
use Rattle.sci_traces.proofs.sending.packets_of.Given as goal

abbrev pub invariant-loop-event : goal.invariant-loop-event
invariant-loop-event l = HasSent (letters_sent (before l.fn.schedule) l.fn.schedule.events) l.machine (drop l.event-index l.event-items) l.bytes.items
