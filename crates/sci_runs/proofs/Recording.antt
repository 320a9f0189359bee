-- The schedule of a recorder, and an event more.
use Rattle.std.proofs.Common.{◌≡◌, ℕ, ◌<◌, ◌≤◌, ◌^◌, length, Bool, true, false, if◌then◌else◌, arith, List, [], ◌∷◌, ◌++◌, Option, Some, None}
use Rattle.std.proofs.{Common.{refl, sym, ap, subst, ◌∙◌}, lemmas.Bool.{and_parts, ltb-true}}
use Rattle.std.specs.Prelude.{◌&&◌, nat_lt, IsSome, option_map}
use Rattle.sci_words.specs.declared.{event.AskKind.{AskKind}, extent.Extent.{Extent}}
use Rattle.sci_words.specs.declared.{limits.TheConstants.{MAX_EVENTS, MAX_OPERATIONS, WORDS_PER_LINE}, event.Event.{Event}}
use Rattle.sci_words.specs.declared.operation.{Act.{Act, TheVariants.{Load, Store, Lock}}, LockOp.{LockOp}}
use Rattle.sci_words.specs.declared.operation.LockOp.TheVariants.{MaskSwap, CompareSwap, FetchAdd, BoundedAdd, WrapAdd}
use Rattle.sci_words.specs.{declared.operation.Op.{Op}, Operation.{are_words, has_words}}
use Rattle.sci_cache.specs.Cache.{Letter}
use Rattle.sci_text.specs.{Operation.{ActFits, LockFits}, Script.{IsWithin}}
use Rattle.sci_text.specs.Schedule.{IsEventWithin, ScheduleValue, with_event}
use Rattle.sci_core.specs.declared.lane.LaneKind.TheVariants.{Requests, Answers}
use Rattle.sci_core.specs.Core.{AreEnabled, Core, IsEnabled, node_at, opening, run, stepping, with_node, sent_by}
use Rattle.sci_core.specs.Node.{NodeOf, is_in_range, lines_of, may_issue, node_accepting, node_issued, node_refusing, node_serving}
use Rattle.sci_core.specs.{Reached.{IsReached}, Size.{Size, size_of}}
use Rattle.sci_core.proofs.{Settling.Drains.{some_node, some_sender}, Step.{Nodes.{some_below}, Sides.{steps_by_sides}}}
use Rattle.sci_core.proofs.WellFormed.WellFormedSteps.{reached_well}
use Rattle.sci_core.proofs.Schedules.{enabled_more, node_opened, run_further}
use Rattle.sci_runs.proofs.{NodeSteps.{perform_makes}, Issues.{issues_on}, Limits.{opening_raised, stepping_raised}}
use Rattle.sci_runs.specs.declared.fault.RunFault.{RunFault, TheVariants.{TooMany}}
use Rattle.sci_runs.specs.Goings.{lost_by}
use Rattle.sci_runs.specs.Recorded.{HasIssued, HasLed, IsOfSize, IsRecorder, IsSameSize, raised, with_limit}
use Rattle.sci_words.specs.declared.event.Event.TheVariants as event

-- ---- an event that is enabled is one of the machine's

lock_fits : (lock : LockOp) → are_words lock ≡ true → LockFits lock
lock_fits (MaskSwap arg datum) e = let both = and_parts (nat_lt arg (2 ^ 64)) (nat_lt datum (2 ^ 64)) e in
    (ltb-true arg (2 ^ 64) both.0, ltb-true datum (2 ^ 64) both.1)
lock_fits (CompareSwap arg datum) e = let both = and_parts (nat_lt arg (2 ^ 64)) (nat_lt datum (2 ^ 64)) e in
    (ltb-true arg (2 ^ 64) both.0, ltb-true datum (2 ^ 64) both.1)
lock_fits (FetchAdd datum) e = ltb-true datum (2 ^ 64) e
lock_fits (BoundedAdd arg datum) e = let both = and_parts (nat_lt arg (2 ^ 64)) (nat_lt datum (2 ^ 64)) e in
    (ltb-true arg (2 ^ 64) both.0, ltb-true datum (2 ^ 64) both.1)
lock_fits (WrapAdd arg datum) e = let both = and_parts (nat_lt arg (2 ^ 64)) (nat_lt datum (2 ^ 64)) e in
    (ltb-true arg (2 ^ 64) both.0, ltb-true datum (2 ^ 64) both.1)

act_fits : (act : Act) → has_words act ≡ true → ActFits act
act_fits Load e = tt
act_fits (Store word) e = ltb-true word (2 ^ 64) e
act_fits (Lock lock) e = lock_fits lock e

-- a choice that gives something chose so
if_there : {A B : Type 0} (f : A → B) (b : Bool) (o : Option A) (y : B) → option_map f (if b then o else None) ≡ Some y → b ≡ true
if_there f true o y e = refl
if_there f false o y e = cc

module _ (core new : Core) (n : ℕ) (reached : IsReached core) (some : n < core.size.nodes) where
  lines_are : (line : ℕ) → line < lines_of (node_at core n) → line < core.size.lines
  lines_are line lt = let each = ((reached_well core reached).each_part n some).each in omega (arith, lt, each)

  issue_within : (op : Op) → stepping core (event.Issue n op) ≡ Some new → IsWithin core.size.nodes core.size.lines n op
  issue_within op steps =
      let node = node_at core n in
      let may : may_issue node op ≡ true =
      if_there (with_node core n) (may_issue node op) (Some (node_issued node op)) new (sym ((steps_by_sides core n some).issue op) ∙ steps) in
      let range = and_parts (is_in_range node op) _ may in
      let fits = and_parts (nat_lt op.line (lines_of node) && nat_lt op.word WORDS_PER_LINE) (has_words op.act) range.0 in
      let both = and_parts (nat_lt op.line (lines_of node)) (nat_lt op.word WORDS_PER_LINE) fits.0 in
      record {
        known_node = some;
        known_line = lines_are op.line (ltb-true op.line (lines_of node) both.0);
        known_word = ltb-true op.word WORDS_PER_LINE both.1;
        words = act_fits op.act fits.1;
      }

  perform_within : (line : ℕ) → stepping core (event.Perform n line) ≡ Some new → line < core.size.lines
  perform_within line steps =
      let made = perform_makes core new n line reached some steps in
      let below = some_below (node_at core n).pending line _ made.2.pending in
      let long = ((reached_well core reached).each_part n some).fits.pending in
      lines_are line (omega (arith, below, long))

  ask_within : (line : ℕ) (kind : AskKind) → stepping core (event.Ask n line kind) ≡ Some new → line < core.size.lines
  ask_within line kind steps =
      let node = node_at core n in
      lines_are line (ltb-true line (lines_of node)
      (if_there (λ (sent : NodeOf × Letter). sent_by core n Requests sent.0 sent.1) (nat_lt line (lines_of node)) _ new
      (sym ((steps_by_sides core n some).ask line kind) ∙ steps)))

pub enabled_within : (core new : Core) (e : Event) → IsReached core → stepping core e ≡ Some new → IsEventWithin core.size.nodes core.size.lines e
enabled_within core new (event.Issue n op) reached steps = issue_within core new n reached (some_node core new (event.Issue n op) steps) op steps
enabled_within core new (event.Perform n line) reached steps = let some = some_node core new (event.Perform n line) steps in
    (some, perform_within core new n reached some line steps)
enabled_within core new (event.Ask n line kind) reached steps = let some = some_node core new (event.Ask n line kind) steps in
    (some, ask_within core new n reached some line kind steps)
enabled_within core new (event.Serve from n) reached steps = let some = some_node core new (event.Serve from n) steps in
    (some_sender core new (event.Serve from n) Requests from (node_serving (node_at core n)) some refl steps, some)
enabled_within core new (event.Refuse from n) reached steps = let some = some_node core new (event.Refuse from n) steps in
    (some_sender core new (event.Refuse from n) Requests from (node_refusing (node_at core n)) some refl steps, some)
enabled_within core new (event.Reply n) reached steps = some_node core new (event.Reply n) steps
enabled_within core new (event.Accept from n) reached steps = let some = some_node core new (event.Accept from n) steps in
    (some_sender core new (event.Accept from n) Answers from (node_accepting (node_at core n)) some refl steps, some)

-- ---- the schedule goes on

pub led_more : (events : List Event) (core new : Core) (e : Event) → IsReached core → stepping core e ≡ Some new → new.size ≡ core.size → HasLed events core
    → HasLed (events ++ e ∷ []) new
led_more events core new e reached steps size led =
    let most = with_limit MAX_OPERATIONS core.size in
    let steps_too : stepping (raised MAX_OPERATIONS core) e ≡ Some (raised MAX_OPERATIONS new) =
    stepping_raised MAX_OPERATIONS core new e reached.size.few_operations (reached_well core reached) steps in
    let enabled : IsEnabled (run most events) e = subst (λ (o : Core). IsEnabled o e) (sym led.leads) (subst IsSome (sym steps_too) refl) in
    let same : with_limit MAX_OPERATIONS new.size ≡ most = ap (with_limit MAX_OPERATIONS) size in
    record {
      leads = subst (λ (z : Size). run z (events ++ e ∷ []) ≡ raised MAX_OPERATIONS new) (sym same)
          (run_further most events (raised MAX_OPERATIONS core) (raised MAX_OPERATIONS new) e led.leads steps_too);
      enabled = subst (λ (z : Size). AreEnabled z [] (events ++ e ∷ [])) (sym same) (enabled_more most [] events e led.enabled enabled);
      issued = λ n lt.
          let some : n < core.size.nodes = subst (λ (z : Size). n < z.nodes) size lt in
          issues_on core new e n events reached some steps (led.issued n some);
    }

-- ---- a new machine

none_issued : (node : NodeOf) → node.issued ≡ 0 → HasIssued [] node
none_issued node zero_ = record { counted = sym zero_; each = λ serial op at. cc }

pub led_opening : (size : Size) → HasLed [] (opening size)
led_opening size = grind (arith, opening_raised, none_issued, node_opened)

-- ---- a recorder

pub opened_recorder : (core : Core) (schedule : ScheduleValue) (extent : Extent) (limit : ℕ) → core ≡ opening (size_of extent limit)
    → schedule ≡ record { nodes = extent.nodes; lines = extent.lines; slots = extent.slots; events = [] }
    → IsRecorder (record { core = core; schedule = schedule; lost = None })
opened_recorder core schedule extent limit opens empty =
    subst (λ (s : ScheduleValue). IsRecorder (record { core = core; schedule = s; lost = None })) (sym empty)
    (subst (λ (c : Core). IsRecorder
    (record { core = c; schedule = record { nodes = extent.nodes; lines = extent.lines; slots = extent.slots; events = [] }; lost = None })) (sym opens)
    (record { sized = record { nodes_are = refl; lines_are = refl; slots_are = refl }; led = λ none. led_opening (size_of extent limit); full = λ many. cc }))

-- an event that happens is one of the schedule's machine
pub event_within : (core new : Core) (schedule : ScheduleValue) (e : Event) → IsOfSize core.size schedule → IsReached core → stepping core e ≡ Some new
    → IsEventWithin schedule.nodes schedule.lines e
event_within core new schedule e sized reached steps = grind (arith, enabled_within)

within_some : (core : Core) (schedule : ScheduleValue) (e : Event) (o : Option Core) → IsOfSize core.size schedule → IsReached core → stepping core e ≡ o
    → IsSome o → IsEventWithin schedule.nodes schedule.lines e
within_some core schedule e None sized reached is some = cc
within_some core schedule e (Some new) sized reached is some = event_within core new schedule e sized reached is

pub enabled_fits : (core : Core) (schedule : ScheduleValue) (e : Event) → IsOfSize core.size schedule → IsReached core → IsEnabled core e
    → IsEventWithin schedule.nodes schedule.lines e
enabled_fits core schedule e sized reached enabled = within_some core schedule e (stepping core e) sized reached refl enabled

-- the size stays
pub same_size : (old new : ScheduleValue) (e : Event) → new ≡ with_event old e → IsSameSize old new
same_size old new e is = subst (IsSameSize old) (sym is) (record { nodes_are = refl; lines_are = refl; slots_are = refl })

-- an event was recorded, and none is lost
pub recorder_more : (core new : Core) (old now : ScheduleValue) (was lost : Option RunFault) (e : Event)
    → IsRecorder (record { core = core; schedule = old; lost = was }) → IsReached core → stepping core e ≡ Some new → new.size ≡ core.size
    → now ≡ with_event old e → lost ≡ None → was ≡ None → IsRecorder (record { core = new; schedule = now; lost = lost })
recorder_more core new old now was lost e is reached steps size more none before =
    let same = same_size old now e more in
    record {
      sized = record {
        nodes_are = same.nodes_are ∙ (is.sized.nodes_are ∙ ap (λ (z : Size). z.nodes) (sym size));
        lines_are = same.lines_are ∙ (is.sized.lines_are ∙ ap (λ (z : Size). z.lines) (sym size));
        slots_are = same.slots_are ∙ (is.sized.slots_are ∙ ap (λ (z : Size). z.slots) (sym size));
      };
      led = λ _. subst (λ (s : ScheduleValue). HasLed s.events new) (sym more) (led_more old.events core new e reached steps size (is.led before));
      full = λ many. let other : None ≡ Some TooMany = sym none ∙ many in cc;
    }

-- if there were too many when an event was lost, the schedule was full
full_by : (core : Core) (old : ScheduleValue) (was lost : Option RunFault) → IsRecorder (record { core = core; schedule = old; lost = was })
    → ((fault : RunFault) → was ≡ Some fault → lost ≡ Some fault) → (was ≡ None → lost ≡ Some TooMany → MAX_EVENTS ≤ length old.events)
    → lost ≡ Some TooMany → MAX_EVENTS ≤ length old.events
full_by core old None lost is keeps full many = full refl many
full_by core old (Some fault) lost is keeps full many = is.full (sym (keeps fault refl) ∙ many)

-- an event was lost, and the schedule is the same
pub recorder_kept : (core new : Core) (old now : ScheduleValue) (was lost : Option RunFault)
    → IsRecorder (record { core = core; schedule = old; lost = was }) → new.size ≡ core.size → now ≡ old → (lost ≡ None → ⊥)
    → (lost ≡ Some TooMany → MAX_EVENTS ≤ length old.events) → IsRecorder (record { core = new; schedule = now; lost = lost })
recorder_kept core new old now was lost is size same gone full = grind (arith, lines_are)

-- what a push says
pub record HasPushed (old now : ScheduleValue) (was lost : Option RunFault) (e : Event) (recorded : Bool) : Type 0 where
  pub recorded_is : recorded ≡ true → now ≡ with_event old e
  pub none : recorded ≡ true → lost ≡ None
  pub same : recorded ≡ false → now ≡ old
  pub gone : recorded ≡ false → lost ≡ None → ⊥
  pub keeps : (fault : RunFault) → was ≡ Some fault → lost ≡ Some fault
  pub full : was ≡ None → lost ≡ Some TooMany → MAX_EVENTS ≤ length old.events

pub has_pushed : {old now : ScheduleValue} {was lost : Option RunFault} {e : Event} {recorded : Bool} → (recorded ≡ true → now ≡ with_event old e)
    → (recorded ≡ true → lost ≡ None) → (recorded ≡ false → now ≡ old) → (recorded ≡ false → lost ≡ None → ⊥)
    → ((fault : RunFault) → was ≡ Some fault → lost ≡ Some fault) → (was ≡ None → lost ≡ Some TooMany → MAX_EVENTS ≤ length old.events)
    → HasPushed old now was lost e recorded
has_pushed recorded none same gone keeps full =
    record { recorded_is = recorded; none = none; same = same; gone = gone; keeps = keeps; full = full }

-- it is recorded, or lost
pub recorder_on : (core new : Core) (old now : ScheduleValue) (was lost : Option RunFault) (e : Event) (recorded : Bool)
    → IsRecorder (record { core = core; schedule = old; lost = was }) → IsReached core → stepping core e ≡ Some new → new.size ≡ core.size
    → HasPushed old now was lost e recorded → IsRecorder (record { core = new; schedule = now; lost = lost })
recorder_on core new old now was lost e true is reached steps size push =
    recorder_more core new old now was lost e is reached steps size (push.recorded_is refl) (push.none refl) (lost_by was lost push.keeps (push.none refl))
recorder_on core new old now was lost e false is reached steps size push =
    recorder_kept core new old now was lost is size (push.same refl) (push.gone refl) (full_by core old was lost is push.keeps push.full)
