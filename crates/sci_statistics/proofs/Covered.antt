-- One event of a schedule more is counted.
use Rattle.std.proofs.Common.{◌≡◌, ◌<◌, ◌≤◌, ℕ, ◌+◌, List, [], ◌∷◌, ◌++◌, Option, Some, None, length, drop, get_or, count_by, arith, sym, ap, ◌∙◌}
use Rattle.std.specs.{Prelude.{cond}, List.{cons_option}}
use Rattle.std.proofs.lemmas.List.{drop_all, drop_more, Sums.{sum_by-cons}}
use Rattle.sci_words.specs.declared.event.Event.{Event}
use Rattle.sci_core.specs.Core.{Core, step}
use Rattle.sci_statistics.specs.declared.transition.Transition.{Transition}
use Rattle.sci_statistics.specs.{Coverage.{capped}, Meetings.{transition_of, transitions}, Transitions.{is_transition}}

-- how often a transition is this one
abbrev came : Transition → Option Transition → ℕ
came t None = 0
came t (Some u) = cond (is_transition t u) 1 0

-- how often it comes in the events from a state on
abbrev coming : Transition → Core → List Event → ℕ
coming t core events = count_by (is_transition t) (transitions core events)

first_comes : (t : Transition) (core : Core) (e : Event) (rest : List Event) (found : Option Transition) → found ≡ transition_of core e
    → coming t core (e ∷ rest) ≡ came t found + coming t (step core e) rest
first_comes t core e rest found is =
    let all = transitions (step core e) rest in
    sym (ap (λ (o : Option Transition). count_by (is_transition t) (cons_option o [] ++ all)) is) ∙ of_option found
  where
    of_option : (o : Option Transition) → count_by (is_transition t) (cons_option o [] ++ transitions (step core e) rest)
        ≡ came t o + coming t (step core e) rest
    of_option None = omega arith
    of_option (Some u) = sum_by-cons (λ v. cond (is_transition t v) 1 0) u (transitions (step core e) rest)

-- what is left, with its first event
rest_comes : (t : Transition) (core next : Core) (events : List Event) (i : ℕ) (d : Event) (found : Option Transition) → i < length events
    → found ≡ transition_of core (get_or events i d) → next ≡ step core (get_or events i d)
    → coming t core (drop i events) ≡ came t found + coming t next (drop (i + 1) events)
rest_comes t core next events i d found less is leads =
    ap (coming t core) (drop_more events i d less) ∙ (first_comes t core (get_or events i d) (drop (i + 1) events) found is
    ∙ ap (λ (c : Core). came t found + coming t c (drop (i + 1) events)) (sym leads))

-- an event that is no transition
pub none_more : (t : Transition) (core next : Core) (events : List Event) (i : ℕ) (d : Event) (found : Option Transition) (was total : ℕ) → i < length events
    → found ≡ transition_of core (get_or events i d) → next ≡ step core (get_or events i d) → found ≡ None
    → capped (was + coming t core (drop i events)) ≡ total → capped (was + coming t next (drop (i + 1) events)) ≡ total
none_more t core next events i d found was total less is leads none before =
    let rest = rest_comes t core next events i d found less is leads in
    let nothing : came t found ≡ 0 = ap (came t) none in
    omega (arith, rest, nothing, before)

-- an event that is one
pub one_more : (t u : Transition) (core next : Core) (events : List Event) (i : ℕ) (d : Event) (found : Option Transition) (was now total : ℕ)
    → i < length events
    → found ≡ transition_of core (get_or events i d) → next ≡ step core (get_or events i d) → found ≡ Some u
    → now ≡ capped (was + cond (is_transition t u) 1 0)
    → capped (was + coming t core (drop i events)) ≡ total → capped (now + coming t next (drop (i + 1) events)) ≡ total
one_more t u core next events i d found was now total less is leads some counted before =
    let rest = rest_comes t core next events i d found less is leads in
    let one : came t found ≡ cond (is_transition t u) 1 0 = ap (came t) some in
    omega (arith, rest, one, counted, before)

-- behind the last event nothing is left
pub all_counted : (t : Transition) (core : Core) (events : List Event) (i now total : ℕ) → length events ≤ i → now ≤ 0xffff_ffff_ffff_ffff
    → capped (now + coming t core (drop i events)) ≡ total → now ≡ total
all_counted t core events i now total all small before =
    let none : coming t core (drop i events) ≡ 0 = ap (coming t core) (drop_all i events all) in
    omega (arith, none, small, before)

-- before the first event nothing is counted
pub nothing_counted : (t : Transition) (core start : Core) (events : List Event) (n : ℕ) → n ≡ 0 → core ≡ start
    → capped (n + coming t core events) ≡ capped (coming t start events)
nothing_counted t core start events n none same =
    let begins : coming t core events ≡ coming t start events = ap (λ (c : Core). coming t c events) same in
    omega (arith, none, begins)
