-- The events of a schedule's text, one after another.
use Rattle.std.proofs.Common.{◌≡◌, ℕ, ◌+◌, ◌<◌, List, [], ◌∷◌, ◌++◌, length, sym, ap, ◌∙◌, append_assoc, arith, rules}
use Rattle.std.proofs.lemmas.List.{flat_map_more, length-append, Elements.{All-append}}
use Rattle.sci_words.specs.declared.{limits.TheConstants.{MAX_EVENTS}, event.Event.{Event}}
use Rattle.sci_text.specs.declared.fault.{TextFault.{TextFault}, TextFaultKind.{TextFaultKind}}
use Rattle.sci_text.specs.declared.fault.TextFaultKind.TheVariants.{Syntax, Range, TooMany, Read, Write, Memory}
use Rattle.sci_text.specs.{FirstFault.{IsRefusalOf, IsRefusal}, Script.{machine_line}}
use Rattle.sci_text.specs.Schedule.{IsEventWithin, event_line, schedule_text}
use Rattle.sci_text.specs.ScheduleEvents.{EventsOf, AreBefore, schedule_with}
use Rattle.sci_text.specs.ScheduleFault.{EventFault, IsScheduleFault}
use Rattle.sci_text.proofs.FirstFaults.{IsOfLine, line_fault_is}

-- one event more
pub before_more : (e : EventsOf) (event : Event) (rest : List ℕ) → e.rest ≡ event_line event ++ rest → IsEventWithin e.extent.nodes e.extent.lines event
    → e.count < MAX_EVENTS → (events : List Event) → AreBefore events e → AreBefore (events ++ event ∷ []) (record e { rest = rest; count = e.count + 1 })
before_more e event rest says within few events before =
    let size = machine_line e.extent.nodes e.extent.lines e.extent.slots in
    let so_far = schedule_text (schedule_with e.extent events) in
    let longer : length (events ++ event ∷ []) ≡ length events + 1 = length-append events (event ∷ []) in
    record {
      good = record {
        size = before.good.size;
        within = All-append (IsEventWithin e.extent.nodes e.extent.lines) events (event ∷ []) before.good.within (search rules);
        few = omega (arith, longer, before.count, few);
      };
      parts = before.parts ∙ ap (λ (l : List ℕ). so_far ++ l) says ∙ sym (append_assoc so_far (event_line event) rest)
          ∙ ap (λ (l : List ℕ). l ++ rest) (flat_map_more event_line size events event);
      count = omega (arith, longer, before.count);
    }

-- ---- faults

-- a fault of the next line is the first of the text
pub next_is_first : (e : EventsOf) (events : List Event) (kind : TextFaultKind) → AreBefore events e → 0 < length e.rest
    → EventFault (schedule_with e.extent events) e.rest kind → IsScheduleFault e.text (e.count + 2) kind
next_is_first e events kind before some wrong = grind arith

first_is_of_line : (input : List ℕ) (line : ℕ) (kind : TextFaultKind) → IsScheduleFault input line kind → IsOfLine kind
first_is_of_line input line kind fault = grind (arith, line_fault_is)

refusal_is : (kind : TextFaultKind) (input : List ℕ) (line : ℕ) → IsOfLine kind → IsScheduleFault input line kind → IsRefusalOf IsScheduleFault kind input line
refusal_is Syntax input line is fault = fault
refusal_is Range input line is fault = fault
refusal_is TooMany input line is fault = fault
refusal_is Read input line is fault = is
refusal_is Write input line is fault = is
refusal_is Memory input line is fault = absurd is

-- the first fault of a text is why it is refused
pub first_refuses : (input : List ℕ) (fault : TextFault) → IsScheduleFault input fault.line fault.kind → IsRefusal IsScheduleFault input fault
first_refuses input fault first = refusal_is fault.kind input fault.line (first_is_of_line input fault.line fault.kind first) first
