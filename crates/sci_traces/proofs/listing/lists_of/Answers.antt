use Rattle.std.proofs.Common.{arith, ◌≡◌, ◌+◌, ◌<◌, ◌≤◌, ℕ, Option, get_or, length, subst}
use Rattle.sci_core.specs.Core.{stepping}
use Rattle.sci_traces.specs.ListsAnswer.{IsListed}
use Rattle.sci_words.specs.declared.{event.Event.{Event, TheVariants.{Issue}}, operation.Act.TheVariants.{Load}}
use Rattle.sci_command.specs.Beginning.{before}
use Rattle.sci_traces.proofs.Listed.{lists_more, lists_all}
use Rattle.sci_traces.proofs.listing.lists_of.Goals as goal

pub loop-event-preserved : goal.loop-event-preserved
loop-event-preserved c =
    let events = c.events-event-items.result.now in
    let k = c.loop-event.event-index in
    let first : Event = Issue 0 (record { line = 0; word = 0; act = Load }) in
    let test = c.loop-event-test.true in
    let within : k < length events = omega (arith, test) in
    let counted : c.loop-event.number + 1 ≡ 2 + (k + 1) = omega (arith, c.loop-event.invariant.counted) in
    let list = c.in-Ok.ensures.text in record {
      listed = rw (list.1, c.in-Ok.ensures.step)
          (lists_more c.args.asked (before c.args.schedule.now) c.args.schedule.now.events c.loop-event.text.items c.loop-event.machine c.loop-event.number
          events k first list.0 within (subst
          (λ (l : Option ℕ). IsListed c.loop-event.number l (stepping c.loop-event.machine (get_or events k first)) list.0) c.listed_line-line.ensures.shown
          list.2) c.loop-event.invariant.listed);
      counted = counted;
    }

pub returns : goal.returns
returns c =
    let events = c.events-event-items.result.now in
    let k = c.loop-event.event-index in
    let end = c.loop-event-test.false in
    let past : length events ≤ k = omega (arith, end) in
    lists_all c.args.asked (before c.args.schedule.now) c.args.schedule.now.events c.loop-event.text.items c.loop-event.machine c.loop-event.number events k
    past c.loop-event.invariant.listed
