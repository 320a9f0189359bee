-- A schedule's text is a listing: a line for each event.
use Rattle.std.proofs.Common.{◌≡◌, ℕ, ◌+◌, ◌*◌, ◌≤◌, List, [], ◌∷◌, ◌++◌, length, refl, ap, arith}
use Rattle.std.proofs.lemmas.List.{length-append, Elements.{recursion_from_All}}
use Rattle.std.specs.List.{AllByRecursion}
use Rattle.sci_words.specs.declared.limits.TheConstants.{MAX_EVENTS, MAX_INPUT_BYTES, MAX_TEXT_LINE_BYTES}
use Rattle.sci_words.specs.declared.event.Event.{Event, TheVariants.{Issue, Reply}}
use Rattle.sci_text.specs.Script.{machine_line}
use Rattle.sci_text.specs.Schedule.{ScheduleValue, IsSchedule, IsEventWithin, event_lines, event_line, schedule_text}
use Rattle.sci_text.proofs.{ScriptReads.{machine_format, limits_fit}, ScheduleReads.{EventFits, event_line_format}}
use Rattle.sci_text.proofs.Listings.{Listing, all_fit}

within_fits : (nodes lines : ℕ) (event : Event) → nodes ≤ 16 → lines ≤ 64 → IsEventWithin nodes lines event → EventFits event
within_fits nodes lines (Issue node op) few less within =
    (omega (arith, within.known_node), (omega (arith, within.known_line), (omega (arith, within.known_word), within.words)))
within_fits nodes lines (Reply node) few less within = omega (arith, within)
within_fits nodes lines _ few less within = (omega (arith, within.0), omega (arith, within.1))

pub event_fits : (s : ScheduleValue) → IsSchedule s → (event : Event) → IsEventWithin s.nodes s.lines event → EventFits event
event_fits s good event within = within_fits s.nodes s.lines event (omega (arith, good.size.few_nodes)) (omega (arith, good.size.few_lines)) within

pub has_room : (s b : ScheduleValue) (x : Event) (more : List Event) → IsSchedule s → IsEventWithin s.nodes s.lines x → s.events ≡ b.events ++ x ∷ more
    → MAX_EVENTS ≤ length b.events → ⊥
has_room s b x more good within parts full = absurd (omega (arith, good.few, full, ap length parts, length-append b.events (x ∷ more)))

abbrev pub schedules : Listing ScheduleValue Event
schedules = record {
  line = event_line_format;
  size = λ s. (s.nodes, s.lines, s.slots);
  items = λ s. s.events;
  value_of = λ z events. record { nodes = z.0; lines = z.1; slots = z.2; events = events };
  is_value = λ s. refl;
  IsGood = IsSchedule;
  Within = λ z event. IsEventWithin z.0 z.1 event;
  is_full = λ s event. MAX_EVENTS ≤ length s.events;
  limits = λ s good. good.size;
  fits = event_fits;
  each = λ s good. recursion_from_All (IsEventWithin s.nodes s.lines) s.events good.within;
  room = has_room;
}

lines_short : (events : List Event) → AllByRecursion EventFits events → length (event_lines events) ≤ (MAX_TEXT_LINE_BYTES + 1) * length events
lines_short [] fit = omega arith
lines_short (x ∷ events) fit =
    omega (arith, event_line_format.short x fit.0, lines_short events fit.1, length-append (event_line x) (event_lines events))

pub schedule_short : (s : ScheduleValue) → IsSchedule s → length (schedule_text s) ≤ MAX_INPUT_BYTES
schedule_short s good =
    omega (
      arith,
      good.few,
      machine_format.short (s.nodes, s.lines, s.slots) (limits_fit (s.nodes, s.lines, s.slots) good.size),
      lines_short s.events (all_fit schedules s s.events good (schedules.each s good)),
      length-append (machine_line s.nodes s.lines s.slots) (event_lines s.events),
    )
