use Rattle.std.proofs.Common.{◌≡◌, ◌<◌, ◌+◌, ℕ, Option, None, refl, ap, subst, ◌∙◌, arith, inl, inr}
use Rattle.std.proofs.lemmas.Bool.{cases_lt}
use Rattle.sci_words.specs.declared.event.Event.{Event}
use Rattle.sci_core.specs.Core.{Core}
use Rattle.sci_random_schedules.specs.Walking.{IsFound, looked_for}
use Rattle.sci_random_schedules.proofs.{Possible.{never}, Walks.{found_at}}
use Rattle.sci_random_schedules.proofs.walking.first_found.Goals as goal

-- what was found of an event that was looked for here
found_here : (core here : Core) (lines place : ℕ) (first : Event) (found want : Option Event) → here ≡ core → lines ≡ core.size.lines
    → first ≡ looked_for lines place → found ≡ want → IsFound here first found → IsFound core (looked_for core.size.lines place) want
found_here core here lines place first found want same lines_are is so found_is =
    let named : first ≡ looked_for core.size.lines place = is ∙ ap (λ (k : ℕ). looked_for k place) lines_are in
    subst (λ (e : Event). IsFound core e want) named (found_at core here first found want same so found_is)

one_more : (core : Core) (place : ℕ) → ((earlier : ℕ) → earlier < place → IsFound core (looked_for core.size.lines earlier) None)
    → IsFound core (looked_for core.size.lines place) None → (earlier : ℕ) → earlier < place + 1 → IsFound core (looked_for core.size.lines earlier) None
one_more core place none here earlier lt = elim (cases_lt earlier place) [
  | inl before ↦ none earlier before
  | inr not ↦
      let same : place ≡ earlier = omega arith in
      subst (λ (k : ℕ). IsFound core (looked_for core.size.lines k) None) same here
]

pub loop-place-init : goal.loop-place-init
loop-place-init c = record { same = refl; none = λ earlier lt. absurd (omega arith) }

pub loop-place-preserved : goal.loop-place-preserved
loop-place-preserved c =
    let was = c.loop-place.invariant in
    let core = c.args.machine.now in
    let here = found_here core c.loop-place.machine _ c.loop-place.place c.looked_for.result _ None was.same c.extent-extent.ensures.lines
    c.looked_for.ensures.event c.in_default.is c.in_ok-event.ensures.found in record {
      same = c.in_ok-event.ensures.same c.in_default.is ∙ was.same;
      none = one_more core c.loop-place.place was.none here;
    }

pub returns-in-Some-clause-found : goal.returns-in-Some-clause-found
returns-in-Some-clause-found c = grind (arith, found_here)

pub unreachable-requires : goal.unreachable-requires
unreachable-requires c =
    let was = c.loop-place.invariant in
    let past = c.loop-place-test.false in
    let nodes = c.extent-extent.ensures.nodes in
    let lines = c.extent-extent.ensures.lines in
    never c.args.machine.now c.extent-extent.ensures.reached (λ place lt. was.none place (omega (arith, past, nodes, lines)))
