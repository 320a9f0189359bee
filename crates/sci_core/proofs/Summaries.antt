-- Dead events, one after another.
use Rattle.std.proofs.Common.{◌≡◌, ℕ, suc, ◌+◌, ◌<◌, List, [], ◌∷◌, ◌++◌, length, take, get_or, sym, ap, ◌∙◌, append_assoc, arith}
use Rattle.std.proofs.lemmas.List.{length-take-le, take_more, Sums.{fold_more}}
use Rattle.sci_words.specs.declared.event.Event.{Event}
use Rattle.sci_core.specs.declared.{obstacle.Obstacle.{Obstacle}}
use Rattle.sci_core.specs.{Core.{Core, run_from, step}, Dead.{dead_at, dead_events, obstacle_if_dead}}

-- of one event more
pub dead_events_more : (core : Core) (place : ℕ) (events : List Event) (e : Event)
    → dead_events core place (events ++ e ∷ []) ≡ dead_events core place events ++ dead_at (place + length events) (obstacle_if_dead (run_from core events) e)
dead_events_more core place [] e = grind arith
dead_events_more core place (x ∷ events) e =
    let here = dead_at place (obstacle_if_dead core x) in
    ap (λ (more : List (ℕ × Obstacle)). here ++ more) (dead_events_more (step core x) (suc place) events e)
    ∙ sym (append_assoc here (dead_events (step core x) (suc place) events)
    (dead_at (suc place + length events) (obstacle_if_dead (run_from (step core x) events) e)))
    ∙ ap (λ (at : ℕ). (here ++ dead_events (step core x) (suc place) events) ++ dead_at at (obstacle_if_dead (run_from core (x ∷ events)) e)) (omega arith)

-- of one event more of a list
pub dead_events_of_more : (core : Core) (events : List Event) (i : ℕ) (d : Event) → i < length events
    → dead_events core 0 (take (i + 1) events)
    ≡ dead_events core 0 (take i events) ++ dead_at i (obstacle_if_dead (run_from core (take i events)) (get_or events i d))
dead_events_of_more core events i d below =
    let within = length-take-le i events (omega arith) in
    let at : 0 + length (take i events) ≡ i = omega arith in
    ap (dead_events core 0) (take_more events i d below) ∙ dead_events_more core 0 (take i events) (get_or events i d)
    ∙ ap (λ (k : ℕ). dead_events core 0 (take i events) ++ dead_at k (obstacle_if_dead (run_from core (take i events)) (get_or events i d))) at

-- and where it leads
pub ran_on : (begun : Core) (events : List Event) (i : ℕ) (d : Event) → i < length events → (core new : Core) → core ≡ run_from begun (take i events)
    → new ≡ step core (get_or events i d) → new ≡ run_from begun (take (i + 1) events)
ran_on begun events i d below core new led steps =
    steps ∙ ap (λ (x : Core). step x (get_or events i d)) led ∙ sym (fold_more step begun events i d below)
