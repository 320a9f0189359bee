-- A standing where runs end has the outcome, and the schedule that leads to it is a run.
use Rattle.std.proofs.Common.{◌≡◌, ℕ, List, length, get_or, sym, ap, subst, ◌∙◌, arith}
use Rattle.std.specs.{List.{All, Any}}
use Rattle.sci_text.specs.Schedule.{AreEventsWithin}
use Rattle.sci_drive.specs.ScriptLogs.{size_for}
use Rattle.sci_orders.specs.{Orders.{HasRun}, Positions.{position_of}, declared.standing.Standing.{Standing}}
use Rattle.sci_allowed.proofs.Litmuses.{moved, moved_back, node_count, nodes_all, script_good, shares_good}
use Rattle.sci_allowed.proofs.Schedules.{IsOfWay, events_within, reached_at, schedule_is, some_standing, too_long}
use Rattle.sci_allowed.proofs.Shares.{machine_size}
use Rattle.sci_allowed.proofs.litmus.Litmus.schedule_to.Goals.{After-deref-2}
use Rattle.sci_allowed.specs.{Allowed.{seen_at, shares_of}, Outcome.{shown_of}}
use Rattle.sci_allowed.proofs.litmus.Litmus.schedule_to.Goals as goal

pub place_of-requires-clause-nodes : goal.place_of-requires-clause-nodes
place_of-requires-clause-nodes c =
    subst (λ (ss : List Standing). All (λ standing. length standing.answers.items ≡ c.args.self.now.script.nodes) ss) (sym c.deref.ensures.value)
    (nodes_all c.args.self.now c.args.window c.in_ok-standings.standings.items c.requires.litmus c.in_ok-standings.ensures.runs)

pub place_of-requires-clause-some : goal.place_of-requires-clause-some
place_of-requires-clause-some c =
    subst (λ (ss : List Standing). Any (λ standing. shown_of c.args.outcome.now ≡ seen_at c.args.self.now.script (position_of standing)) ss)
    (sym c.deref.ensures.value)
    (some_standing c.args.self.now c.args.window c.in_ok-standings.standings.items c.args.outcome.now c.requires.litmus c.in_ok-standings.ensures.runs
    c.requires.allowed)

pub schedule_to-requires-clause-script : goal.schedule_to-requires-clause-script
schedule_to-requires-clause-script c = grind (arith, script_good)

pub schedule_to-requires-clause-nodes : goal.schedule_to-requires-clause-nodes
schedule_to-requires-clause-nodes c = grind (arith, node_count)

pub schedule_to-requires-clause-reached : goal.schedule_to-requires-clause-reached
schedule_to-requires-clause-reached c = grind (arith, moved_back, reached_at)

way : (c : After-deref-2) → IsOfWay (size_for c.args.self.now.script) (shares_of c.args.self.now.script) c.args.window (position_of c.index.result.now)
    c.deref-2.result.now
way c = grind (arith, moved)

run : (c : After-deref-2) → HasRun (size_for c.args.self.now.script) (shares_of c.args.self.now.script) c.args.window (position_of c.index.result.now)
    c.deref-2.result.now
run c = grind (arith, moved)

pub schedule_with-requires : goal.schedule_with-requires
schedule_with-requires c =
    let extent = c.extent-extent.ensures in
    let events = c.deref-2.result.now in
    subst (λ (n : ℕ). AreEventsWithin n c.extent-extent.result.lines events) (sym extent.nodes)
    (subst (λ (n : ℕ). AreEventsWithin c.args.self.now.script.nodes n events) (sym extent.lines)
    (events_within c.args.self.now.script c.args.window (position_of c.index.result.now) events c.requires.litmus.good
    (way (goal.at.schedule_with-requires c).After-deref-2)))

pub returns-clause-schedule : goal.returns-clause-schedule
returns-clause-schedule c =
    let extent = c.extent-extent.ensures in
    let place = c.in_ok-place.place in
    let item = c.index.result.now in
    schedule_is c.args.self.now.script c.args.window c.args.outcome.now c.extent-extent.result c.deref-2.result.now c.schedule_with.result
    extent.nodes extent.lines extent.slots c.schedule_with.ensures.value c.schedule_with.ensures.good (record {
      position = position_of item;
      run = run (goal.at.returns-clause-schedule c).After-deref-2;
      is = c.in_ok-place.ensures.1 item ∙ ap (λ (s : Standing). seen_at c.args.self.now.script (position_of s))
          (ap (λ (ss : List Standing). get_or ss place item) c.deref.ensures.value ∙ sym c.index.ensures);
    })

pub returns-clause-long : goal.returns-clause-long
returns-clause-long c = grind (arith, too_long, way, machine_size, shares_good, run)
