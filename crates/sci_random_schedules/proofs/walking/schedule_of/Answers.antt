-- Each event is the machine's, and there is room for it.
use Rattle.std.proofs.{Common.{arith, List, [], subst}, lemmas.List.{append-nil}}
use Rattle.sci_words.specs.declared.{event.Event.{Event}, limits.TheConstants.{MAX_OPERATIONS}}
use Rattle.sci_random.specs.Drawing.{seeded}
use Rattle.sci_core.specs.{Core.{opening}, Size.{size_of}}
use Rattle.sci_random_schedules.specs.Walking.{Walks}
use Rattle.sci_random_schedules.proofs.{RandomWalks.{memory_alone}, Walks.{within_of}}
use Rattle.sci_random_schedules.proofs.walking.schedule_of.Goals as goal

pub returns-in-Err-clause-kind : goal.returns-in-Err-clause-kind
returns-in-Err-clause-kind c = grind (arith, within_of, memory_alone)

pub returns-clause-walked : goal.returns-clause-walked
returns-clause-walked c =
    let size = size_of c.args.extent MAX_OPERATIONS in
    let invariant = c.loop-event.invariant in
    let schedule = c.loop-event.schedule in
    let ended = c.loop-event-test.false in
    let most = c.loop-event.auto._event-end in
    let counted = invariant.counted in
    record {
      good = invariant.good;
      nodes_are = invariant.nodes_are;
      lines_are = invariant.lines_are;
      slots_are = invariant.slots_are;
      counted = omega (arith, ended, most, counted);
      drawn = subst (λ (events : List Event). Walks c.args.share (opening size) (seeded c.args.seed) events) (append-nil schedule.events)
          (invariant.walks [] tt);
    }
