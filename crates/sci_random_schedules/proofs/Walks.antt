-- Draws and walks, one event after another.
use Rattle.std.proofs.Common.{◌≡◌, ◌<◌, ◌≤◌, ◌+◌, ◌-◌, ℕ, suc, List, [], ◌∷◌, Option, Some, None, refl, sym, ap, subst, ◌∙◌, arith}
use Rattle.std.proofs.Common.{inl, inr}
use Rattle.sci_words.specs.declared.event.Event.{Event}
use Rattle.sci_random.specs.Drawing.{after}
use Rattle.sci_core.specs.{Core.{Core, step}, Reached.{IsReached}, Size.{Size}}
use Rattle.sci_text.specs.Schedule.{IsEventWithin, ScheduleValue}
use Rattle.sci_core.proofs.WellFormed.WellFormedSteps.{reached_well, run_well}
use Rattle.sci_random_schedules.specs.{declared.walking.TheConstants.{DRAWS}, Walking.{Draws, IsDrawn, IsFirstFound, IsFound}}

-- ---- draws

pub drawn_at : (core : Core) (nodes lines : ℕ) (state : List ℕ) (event : Event) (later : List ℕ) → nodes ≡ core.size.nodes → lines ≡ core.size.lines
    → IsDrawn nodes lines state event later → IsDrawn core.size.nodes core.size.lines state event later
drawn_at core nodes lines state event later nodes_are lines_are drawn =
    subst (λ (k : ℕ). IsDrawn k core.size.lines state event later) nodes_are (subst (λ (k : ℕ). IsDrawn nodes k state event later) lines_are drawn)

pub found_at : (core here : Core) (first : Event) (found want : Option Event) → here ≡ core → found ≡ want → IsFound here first found → IsFound core first want
found_at core here first found want same is so =
    subst (λ (c : Core). IsFound c first want) same (subst (IsFound here first) is so)

pub draws_begin : (core : Core) (state mid : List ℕ) (event : Event) (later : List ℕ) → mid ≡ after state → Draws (DRAWS - 0) core mid event later
    → Draws DRAWS core (after state) event later
draws_begin core state mid event later is rest = subst (λ (s : List ℕ). Draws DRAWS core s event later) is rest

pub draws_on : (draw : ℕ) (core : Core) (state mid : List ℕ) (first event : Event) (later : List ℕ) → draw < DRAWS
    → IsDrawn core.size.nodes core.size.lines state first mid → IsFound core first None → Draws (DRAWS - (draw + 1)) core mid event later
    → Draws (DRAWS - draw) core state event later
draws_on draw core state mid first event later few drawn none rest =
    let left : DRAWS - draw ≡ suc (DRAWS - (draw + 1)) = omega arith in
    subst (λ (k : ℕ). Draws k core state event later) (sym left) (first, mid, drawn, inr (none, rest))

pub draws_one : (draw : ℕ) (core : Core) (state mid : List ℕ) (first event : Event) → draw < DRAWS
    → IsDrawn core.size.nodes core.size.lines state first mid → IsFound core first (Some event) → Draws (DRAWS - draw) core state event mid
draws_one draw core state mid first event few drawn found =
    let left : DRAWS - draw ≡ suc (DRAWS - (draw + 1)) = omega arith in
    subst (λ (k : ℕ). Draws k core state event mid) (sym left) (first, mid, drawn, inl (found, refl))

pub draws_first : (draw : ℕ) (core : Core) (state : List ℕ) (event : Event) → DRAWS ≤ draw → IsFirstFound core event
    → Draws (DRAWS - draw) core state event state
draws_first draw core state event many found =
    let left : DRAWS - draw ≡ 0 = omega arith in
    subst (λ (k : ℕ). Draws k core state event state) (sym left) (found, refl)

-- ---- sizes

step_size : (core : Core) (e : Event) → IsReached core → (step core e).size ≡ core.size
step_size core e reached = (run_well core (e ∷ []) (reached_well core reached)).same

pub size_then : (core here new : Core) (e : Event) → here ≡ core → IsReached core → new ≡ step here e → new.size ≡ core.size
size_then core here new e same reached is = ap (λ (c : Core). c.size) (is ∙ ap (λ (c : Core). step c e) same) ∙ step_size core e reached

-- ---- walks

-- an event of the machine is one of its schedule
pub within_of : (schedule : ScheduleValue) (here size : Size) (event : Event) → schedule.nodes ≡ size.nodes → schedule.lines ≡ size.lines → here ≡ size
    → IsEventWithin here.nodes here.lines event → IsEventWithin schedule.nodes schedule.lines event
within_of schedule here size event nodes lines same within =
    subst (λ (k : ℕ). IsEventWithin k schedule.lines event) (sym nodes)
    (subst (λ (k : ℕ). IsEventWithin size.nodes k event) (sym lines) (subst (λ (s : Size). IsEventWithin s.nodes s.lines event) same within))
