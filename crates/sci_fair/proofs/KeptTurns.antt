-- What becomes of a line in a turn of its node in which a Cread for it is kept, whatever the turn changes: if it leads a list of its own it
-- still does, and if it leads nobody its Cread isn't kept.
use Rattle.std.proofs.Common.{◌≡◌, ◌<◌, if◌then◌else◌, ℕ, Bool, true, false, ◌∷◌, Option, sym, ap, subst, ◌∙◌, inl, inr, rules}
use Rattle.std.proofs.lemmas.Bool.{cases_Bool}
use Rattle.sci_packets.specs.declared.body.Body.TheVariants.{Cread}
use Rattle.sci_cache.specs.{State.{CacheState, waits}, Cache.{Letter}}
use Rattle.sci_core.specs.declared.lane.LaneKind.TheVariants.{Requests}
use Rattle.sci_core.specs.{Core.{Core, lane_of, node_at}, Size.{Size}}
use Rattle.sci_policy.specs.{Lines.{state_on}, Policy.{decided, kept_by, refused_by, turned}}
use Rattle.sci_fair.specs.{Rank.{CannotPerform, can_perform, work_on}, Steady.{Working}}
use Rattle.sci_fair.proofs.Awaiting.{Awaits, accepted_idle, awaiting_waits, is_open_head, is_settled, settle_all}
use Rattle.sci_fair.proofs.{Fronts.{opens_serve}}
use Rattle.sci_fair.proofs.{Going.{Whatever}, HomeAnswers.{AnsweredAt}}
use Rattle.sci_fair.proofs.Leaders.{IsServedWell, Passes, accepts_pass, asks_none, asks_pass, goes_home, home_accepts, home_left, is_left, is_lone, kept_lone}
use Rattle.sci_fair.proofs.Leaders.{kept_may, kept_owned, kept_settled, left_served, lone_accepts, lone_makes, lone_performs, lone_served}
use Rattle.sci_fair.proofs.Leaders.{may_keep, owned, owned_accepts, owned_served, owns, owns_asks, owns_owned, owns_served, returning_goes}
use Rattle.sci_fair.proofs.Leaders.{settled_served, takes_pass, works_stay}
use Rattle.sci_fair.proofs.Standing.{StandsAt, front_inside, kept_there}
use Rattle.sci_fair.proofs.Standing.{within}
use Rattle.sci_fair.proofs.{SteadyTurns.{HeldBy}, Trace.{Look, Trace}}
use Rattle.sci_policy.specs.declared.decision.Decision.TheVariants as decision

-- ---- what becomes of the line in a turn of its node in which the front is kept

kept_keep : (k r : Bool) → k ≡ true → (if k then decision.Keep else if r then decision.Refuse else decision.Serve) ≡ decision.Keep
kept_keep k r is = search rules

-- what leads nobody can be performed, or would serve a Cread, by what is pending alone
same_lone : (test : Option Bool → CacheState → Bool) → ((work : Option Bool) (s t : CacheState) → is_lone s ≡ true → is_lone t ≡ true
    → test work s ≡ test work t)
    → (one two : Option Bool) (s t : CacheState) → is_lone s ≡ true → is_lone t ≡ true → two ≡ one → test one s ≡ true → test two t ≡ true
same_lone test same one two s t here there work is =
    ap (λ (w : Option Bool). test w t) work ∙ (sym (same one s t here there) ∙ is)

can_same : (work : Option Bool) (s t : CacheState) → is_lone s ≡ true → is_lone t ≡ true → can_perform work s ≡ can_perform work t
can_same work s t here there = search rules

open_same : (work : Option Bool) (s t : CacheState) → is_lone s ≡ true → is_lone t ≡ true → is_open_head work s ≡ is_open_head work t
open_same work s t here there = search rules

module _ (size : Size) (n j : ℕ) (some : n < size.nodes) (f : j < size.nodes) (front : Letter) where
  -- the same, said of its line
  abbrev On : (CacheState → Bool) → Core → Type 0
  On test core = Passes test n front.line core

  pub record IsKeptIn (old new : Working) (held : HeldBy Whatever n old new) : Type 0 where
    pub at : StandsAt size n j front old
    pub cread : front.body ≡ Cread
    pub still : lane_of held.trace.c2 Requests j n ≡ front ∷ at.rest

  module _ (old new : Working) (held : HeldBy Whatever n old new) (kept : IsKeptIn old new held) where
    abbrev t : Trace n (old.policies n) old.core (new.policies n) new.core
    t = held.trace

    inside : j < old.core.size.nodes
    inside = within size n j some f front j old.core kept.at.size_is f

    abbrev look : Look n j old.core t.p1 t.c1 t.p2 t.c2
    look = t.looks j inside

    lane_accepted : lane_of t.c1 Requests j n ≡ front ∷ kept.at.rest
    lane_accepted = t.accepted.requests j n inside (within size n j some f front n old.core kept.at.size_is some) ∙ kept.at.lane

    look_lane : lane_of look.c Requests j n ≡ front ∷ kept.at.rest
    look_lane = look.lane ∙ lane_accepted

    inside_accepted : j < t.c1.size.nodes
    inside_accepted = subst (λ (z : Size). j < z.nodes) (sym t.accepted.since.size) inside

    inside_look : j < look.c.size.nodes
    inside_look = subst (λ (z : Size). j < z.nodes) (sym look.so.so.since.size) inside

    is_kept : kept_by look.p (node_at look.c n) front ≡ true
    is_kept = kept_there size n j some f front old new held kept.at kept.still inside

    may : may_keep (state_on (node_at look.c n) front.line) ≡ true
    may = kept_may look.p (node_at look.c n) front is_kept

    to_look : (test : CacheState → Bool) → IsServedWell test → On test t.c1 → On test look.c
    to_look test well is =
        takes_pass Whatever test n well j front kept.at.rest kept.cread t.p1 t.c1 look.first look.p look.c look.first_takes (held.before j inside)
        inside_accepted lane_accepted look_lane is

    from_look : (test : CacheState → Bool) → IsServedWell test → On test look.c → On test t.c2
    from_look test well is =
        takes_pass Whatever test n well j front kept.at.rest kept.cread look.p look.c look.second t.p2 t.c2 look.second_takes (held.after j inside)
        inside_look look_lane kept.still is

    -- to the end of the turn
    owns_on : On owns look.c → On owns new.core
    owns_on is =
        asks_pass Whatever owns n owns_asks front.line t.p2 t.c2 t.e3 t.p3 new.core t.are_asks held.asks (from_look owns owns_served is)

    -- a line that leads a list of its own still does
    pub owned_turn : On owns old.core → On owns new.core
    owned_turn is =
        let begun = owns_owned (state_on (node_at old.core n) front.line) is in
        let first = accepts_pass Whatever owned n owned_accepts front.line (turned (old.policies n)) old.core t.e1 t.p1 t.c1 t.are_accepts held.accepts begun in
        owns_on (kept_owned (state_on (node_at look.c n) front.line) (to_look owned owned_served first) may)

    front_line : front.line < old.core.size.lines
    front_line =
        front_inside old.core n j front kept.at.rest kept.at.good (within size n j some f front n old.core kept.at.size_is some) inside kept.at.lane

    idle : AnsweredAt n front.line old.core → waits (state_on (node_at t.c1 n) front.line) ≡ false
    idle answered =
        accepted_idle n answered.from front.line old new answered.letter kept.at.good held
        (within size n j some f front n old.core kept.at.size_is some) front_line
        answered.sender answered.answers answered.about answered.among

    -- one that awaited its home, and has its answer, leads one now
    pub settled_turn : Awaits n front.line old.core → AnsweredAt n front.line old.core → On owns new.core
    settled_turn awaits answered =
        elim (settle_all n front.line Whatever (turned (old.policies n)) old.core t.e1 t.p1 t.c1 t.are_accepts held.accepts (inl awaits)) [
          | inl still ↦
              absurd (let clash : true ≡ false = sym (awaiting_waits (state_on (node_at t.c1 n) front.line) still) ∙ idle answered in cc)
          | inr settled ↦ owns_on (kept_settled (state_on (node_at look.c n) front.line) (to_look is_settled settled_served settled) may)
        ]

    -- who is kept is no open head
    closed : is_open_head (work_on (node_at look.c n) front.line) (state_on (node_at look.c n) front.line) ≡ false
    closed =
        elim (cases_Bool (is_open_head (work_on (node_at look.c n) front.line) (state_on (node_at look.c n) front.line))) [
          | inr none ↦ none
          | inl opened ↦
              let serve = opens_serve look.p (node_at look.c n) front opened in
              let keep : decided look.p (node_at look.c n) front ≡ decision.Keep =
              kept_keep (kept_by look.p (node_at look.c n) front) (refused_by look.p (node_at look.c n) front) is_kept in
              absurd (let clash : decision.Serve ≡ decision.Keep = sym serve ∙ keep in cc)
        ]

    -- one that led nobody, and gave its list back in vain, leads nobody at the turn's end: a maker waits for it
    pub lone_turn : On owns old.core → Awaits n front.line old.core → AnsweredAt n front.line old.core → On is_lone new.core
    lone_turn own awaits answered =
        let begun = returning_goes (state_on (node_at old.core n) front.line) awaits own in
        let first = accepts_pass Whatever goes_home n home_accepts front.line (turned
        (old.policies n)) old.core t.e1 t.p1 t.c1 t.are_accepts held.accepts begun in
        let left = home_left (state_on (node_at t.c1 n) front.line) first (idle answered) in
        let here = kept_lone (state_on (node_at look.c n) front.line) (to_look is_left left_served left) may in
        let can = lone_makes (work_on (node_at look.c n) front.line) (state_on (node_at look.c n) front.line) here closed in
        let there = from_look is_lone lone_served here in
        let work = works_stay Whatever n front.line look.p look.c look.second t.p2 t.c2 (held.after j inside) in
        asks_none Whatever n front.line t.p2 t.c2 t.e3 t.p3 new.core t.are_asks held.asks there
        (same_lone can_perform can_same (work_on (node_at look.c n) front.line) (work_on (node_at t.c2 n) front.line)
        (state_on (node_at look.c n) front.line) (state_on (node_at t.c2 n) front.line) here there work can)

    -- and where nothing can be performed, such a line's Cread isn't kept
    pub lone_never : On is_lone old.core → CannotPerform (node_at old.core n) → ⊥
    lone_never is cannot =
        let opened = lone_performs (work_on (node_at old.core n) front.line) (state_on (node_at old.core n) front.line) is (cannot front.line) in
        let first = accepts_pass Whatever is_lone n lone_accepts front.line (turned (old.policies n)) old.core t.e1 t.p1 t.c1 t.are_accepts held.accepts is in
        let here = to_look is_lone lone_served first in
        let work = works_stay Whatever n front.line t.p1 t.c1 look.first look.p look.c (held.before j inside)
        ∙ works_stay Whatever n front.line (turned (old.policies n)) old.core t.e1 t.p1 t.c1 held.accepts in
        let now = same_lone is_open_head open_same (work_on (node_at old.core n) front.line) (work_on (node_at look.c n) front.line)
        (state_on (node_at old.core n) front.line) (state_on (node_at look.c n) front.line) is here work opened in
        let clash : true ≡ false = sym now ∙ closed in
        cc
