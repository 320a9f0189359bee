-- What a replay writes.
use Rattle.std.proofs.Common.{◌≡◌, ℕ, ◌+◌, ◌<◌, ◌≤◌, List, [], ◌∷◌, ◌++◌, length, Option, refl, sym, ap, subst, ◌∙◌, arith}
use Rattle.std.proofs.lemmas.List.{length-append, Sums.{fold-append}}
use Rattle.std.specs.Prelude.{IfSome}
use Rattle.sci_words.specs.declared.limits.TheConstants.{MAX_EVENTS}
use Rattle.sci_core.specs.declared.{dead.DeadEvents.{DeadEvents}, obstacle.Obstacle.{Obstacle}}
use Rattle.sci_core.specs.Dead.{dead_at, dead_events, obstacle_if_dead, summary}
use Rattle.sci_core.proofs.Summaries.{dead_events_more}
use Rattle.sci_command.specs.Beginning.{before, dead_of}
use Rattle.sci_words.specs.declared.{extent.Extent.{Extent}, event.Event.{Event}, stamped.Stamped.{Stamped}}
use Rattle.sci_core.specs.{Core.{Core, opening, run_from, step}, Size.{Size, IsMachineSize}, Outcome.{logs_of}}
use Rattle.sci_core.specs.Sharing.{last_of}
use Rattle.sci_history.specs.declared.entry.Entry.{Entry}
use Rattle.sci_core.proofs.{ReachedLaws.{reached_consistent, reached_lawful}, Tidy.TidyRuns.{run_reached, run_size}}
use Rattle.sci_core.proofs.WellFormed.WellFormedSteps.{is_size}
use Rattle.sci_text.specs.{Schedule.{ScheduleValue, IsSchedule, schedule_text}, Log.{log_text}, LogValue.{IsLogs}}
use Rattle.sci_text.specs.ScheduleEvents.{EventsOf, AreBefore, schedule_with}
use Rattle.sci_text.proofs.LogLaws.{written_again}
use Rattle.scimem.specs.ReplayAnswer.{replay_size, replayed, replay_text, IsReplayOf, IsWhereLed}
use Rattle.scimem.proofs.ReachedLogs.{run_logs}

-- the events so far stand before what is left of the input, led the machine here, and these of them weren't enabled
pub record IsLed (input : List ℕ) (events : EventsOf) (machine : Core) (dead : Option DeadEvents) (place : ℕ) : Type 0 where
  pub made : List Event
  pub before : AreBefore made events
  pub text : events.text ≡ input
  pub led : machine ≡ replayed (schedule_with events.extent made)
  pub are : dead ≡ dead_of (schedule_with events.extent made)
  pub counted : place ≡ length made
  pub few : IfSome dead (λ dead. dead.count ≤ place)

-- one event more leaves room in the schedule
pub room_for : (input : List ℕ) (old new : EventsOf) (core : Core) (dead : Option DeadEvents) (place : ℕ) (event : Event) → IsLed input old core dead place
    → ((events : List Event) → AreBefore events old → AreBefore (events ++ event ∷ []) new) → place < MAX_EVENTS
room_for input old new core dead place event l more =
    let few = (more l.made l.before).good.few in
    let counted = l.counted in
    let one_more : length (l.made ++ event ∷ []) ≡ length l.made + 1 = length-append l.made (event ∷ []) in
    omega arith

pub led_further : (input : List ℕ) (old new : EventsOf) (core next : Core) (dead also : Option DeadEvents) (place : ℕ) (event : Event)
    (obstacle : Option Obstacle) → IsLed input old core dead place → new.text ≡ old.text
    → new.extent ≡ old.extent → ((events : List Event) → AreBefore events old → AreBefore (events ++ event ∷ []) new)
    → next ≡ step core event → obstacle ≡ obstacle_if_dead core event
    → ((known : List (ℕ × Obstacle)) → dead ≡ summary known → also ≡ summary (known ++ dead_at place obstacle))
    → IfSome also (λ dead. dead.count ≤ place + 1) → IsLed input new next also (place + 1)
led_further input old new core next dead also place event obstacle l text extent more is stands sums few =
    let was = schedule_with old.extent l.made in
    let size = replay_size was in
    let begun = before was in
    let known = dead_events begun 0 l.made in
    let one_more : length (l.made ++ event ∷ []) ≡ length l.made + 1 = length-append l.made (event ∷ []) in
    let counted = l.counted in
    let placed : 0 + length l.made ≡ place = omega arith in
    let counted_more : place + 1 ≡ length (l.made ++ event ∷ []) = omega arith in
    record {
      made = l.made ++ event ∷ [];
      before = more l.made l.before;
      text = text ∙ l.text;
      led = is ∙ ap (λ (c : Core). step c event) l.led ∙ sym (fold-append step (opening size) l.made (event ∷ []))
          ∙ ap (λ (e : Extent). replayed (schedule_with e (l.made ++ event ∷ []))) (sym extent);
      are = sums known l.are ∙ ap (λ (o : Option Obstacle). summary (known ++ dead_at place o)) (stands ∙ ap (λ (c : Core). obstacle_if_dead c event) l.led)
          ∙ ap (λ (k : ℕ). summary (known ++ dead_at k (obstacle_if_dead (run_from begun l.made) event))) (sym placed)
          ∙ ap summary (sym (dead_events_more begun 0 l.made event))
          ∙ ap (λ (e : Extent). dead_of (schedule_with e (l.made ++ event ∷ []))) (sym extent);
      counted = counted_more;
      few = few;
    }

within_limits : (s : ScheduleValue) → IsSchedule s → IsMachineSize (replay_size s)
within_limits s is = record { extent = is.size; some_operation = omega arith; few_operations = omega arith }

pub replay_is : (text : List ℕ) (s : ScheduleValue) → IsSchedule s → text ≡ replay_text s → IsReplayOf (schedule_text s) text
replay_is text s is written = record {
  schedule = s;
  good = is;
  read = refl;
  written = written;
  says = subst (λ (bytes : List ℕ). IsLogs bytes s.nodes (logs_of (replayed s)) (last_of (replayed s))) (sym written)
      (written_again s.nodes (logs_of (replayed s)) (last_of (replayed s)) (run_logs (replay_size s) s.events (within_limits s is)));
  lawful = reached_lawful (replayed s) (run_reached (replay_size s) s.events (within_limits s is));
  consistent = reached_consistent (replayed s) (run_reached (replay_size s) s.events (within_limits s is));
}

-- what is written of a machine where a schedule led
pub written_is : (input text : List ℕ) (machine : Core) (dead : Option DeadEvents) (nodes : ℕ) (logs : List (List Entry)) (last : List Stamped)
    → IsWhereLed input machine dead
    → nodes ≡ machine.size.nodes → logs ≡ logs_of machine → last ≡ last_of machine → text ≡ log_text nodes logs last → IsReplayOf input text
written_is input text machine dead nodes logs last w n l t is =
    let s = w.schedule in
    let limits = within_limits s w.good in
    let size = n ∙ ap (λ (m : Core). m.size.nodes) w.led ∙ ap (λ (z : Size). z.nodes) (run_size (replay_size s) s.events (is_size (replay_size s) limits)) in
    let here = l ∙ ap logs_of w.led in
    let there = t ∙ ap last_of w.led in
    let whole = is ∙ ap (λ (k : ℕ). log_text k logs last) size ∙ ap (λ (k : List (List Entry)). log_text s.nodes k last) here
    ∙ ap (λ (k : List Stamped). log_text s.nodes (logs_of (replayed s)) k) there in
    subst (λ (bytes : List ℕ). IsReplayOf bytes text) (sym w.read) (replay_is text s w.good whole)
