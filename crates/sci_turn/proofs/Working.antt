-- What a turn does to its node: the node's own sides of its events, which leave its work.
use Rattle.std.proofs.Common.{◌≡◌, ◌≢◌, ◌<◌, ℕ, Bool, true, false, if◌then◌else◌, arith, List, [], ◌∷◌, Option, Some, None, refl, sym, ap, subst, ◌∙◌, inl}
use Rattle.std.proofs.{Common.{inr}, lemmas.{Bool.{eq-eqb, ne_eqb}, List.{get_or-set_other, get_or-set_same}}}
use Rattle.std.specs.{Prelude.{IfSome, cond, is_some, nat_lt, unwrap_or}, List.{AllByRecursion}}
use Rattle.sci_words.specs.declared.event.Event.{Event}
use Rattle.sci_packets.specs.declared.body.Body.TheVariants.{Busy}
use Rattle.sci_cache.specs.Cache.{Letter}
use Rattle.sci_core.specs.declared.lane.LaneKind.{LaneKind}
use Rattle.sci_core.specs.Core.{Core, Side, Idle, Changes, Sends, Takes, lane_of, lane_place, node_at, node_of, sends, sent_by, side, step_by, stepping}
use Rattle.sci_core.specs.Core.{taken_as, taken_from, with_lane, with_node}
use Rattle.sci_core.specs.Node.{NodeOf, is_setback, no_node, node_accepting, node_asking, node_serving, replied_by, with_answer}
use Rattle.sci_core.specs.{Reached.{IsReached}, Size.{Size}}
use Rattle.sci_core.proofs.{Settling.Drains.{some_node}, Step.{NodeSides.{serve_as}, Stepping.{stepping_side}}}
use Rattle.sci_core.proofs.Basics.Options.{of_some, same_some}
use Rattle.sci_core.proofs.WellFormed.WellFormedSteps.{reached_stepping, reached_well, run_well}
use Rattle.sci_core.proofs.History.Works.{SameWork, accept_work, ask_work, serve_work}
use Rattle.sci_policy.specs.{declared.progress.Progress.{Progress}, Policy.{PolicyOf}, Turn.{IsTurnEvent, MayPerform}}
use Rattle.sci_policy.specs.Worker.{HasSameWork, IsNodeTurn, Makes, SidesLead}
use Rattle.sci_turn.specs.{Posts.{IsPost, PostOf, node_in}, Moves.{IsTurn, Leads, own_of}}
use Rattle.sci_words.specs.declared.event.Event.TheVariants as event

-- ---- an event of another node

pub other_node : (core : Core) (m n : ℕ) (next : NodeOf) → m ≢ n → node_at (with_node core m next) n ≡ node_at core n
other_node core m n next apart = get_or-set_other core.parts m n next no_node (λ e. apart (sym e))

other_as : (core new : Core) (m n place : ℕ) (rest : List Letter) (o : Option NodeOf) → m ≢ n → taken_as core m place rest o ≡ Some new
    → node_at new n ≡ node_at core n
other_as core new m n place rest None apart is = cc
other_as core new m n place rest (Some next) apart is =
    ap (λ (c : Core). node_at c n) (sym (same_some (with_lane (with_node core m next) place rest) new is)) ∙ other_node core m n next apart

other_takes : (core new : Core) (m n place : ℕ) (taking : Letter → Option NodeOf) (lane : List Letter) → m ≢ n → taken_from core m place taking lane ≡ Some new
    → node_at new n ≡ node_at core n
other_takes core new m n place taking [] apart is = cc
other_takes core new m n place taking (letter ∷ rest) apart is = other_as core new m n place rest (taking letter) apart is

other_if : (core new : Core) (m n place : ℕ) (taking : Letter → Option NodeOf) (lane : List Letter) (b : Bool) → m ≢ n
    → (if b then taken_from core m place taking lane else None) ≡ Some new → node_at new n ≡ node_at core n
other_if core new m n place taking lane true apart is = other_takes core new m n place taking lane apart is
other_if core new m n place taking lane false apart is = cc

other_by : (core new : Core) (m n : ℕ) (s : Side) → m ≢ n → step_by core m s ≡ Some new → node_at new n ≡ node_at core n
other_by core new m n Idle apart is = cc
other_by core new m n (Changes next) apart is = ap (λ (c : Core). node_at c n) (sym (same_some (with_node core m next) new is)) ∙ other_node core m n next apart
other_by core new m n (Sends kind next letter) apart is =
    ap (λ (c : Core). node_at c n) (sym (same_some (sent_by core m kind next letter) new is)) ∙ other_node core m n next apart
other_by core new m n (Takes kind from taking) apart is =
    other_if core new m n (lane_place core.size.nodes kind from m) taking (lane_of core kind from m) (nat_lt from core.size.nodes) apart is

-- an event of another node leaves the node
pub other_stays : (core new : Core) (e : Event) (n : ℕ) → node_of e ≢ n → stepping core e ≡ Some new → node_at new n ≡ node_at core n
other_stays core new e n apart steps =
    let s = side (node_at core (node_of e)) e in
    other_by core new (node_of e) n s apart (sym (stepping_side core e s (some_node core new e steps) refl) ∙ steps)

-- ---- an event of the node's own

-- the node's side of its event makes the next state
pub stepped : (core new : Core) (n : ℕ) (e : Event) (s : Side) → n < core.size.nodes → node_of e ≡ n → side (node_at core n) e ≡ s → stepping core e ≡ Some new
    → step_by core n s ≡ Some new
stepped core new n e s some own is steps = grind (arith, stepping_side)

pub own_node : (core : Core) (n : ℕ) (next : NodeOf) → IsReached core → n < core.size.nodes → node_at (with_node core n next) n ≡ next
own_node core n next reached some = get_or-set_same core.parts n next no_node (let long = (reached_well core reached).sizes.parts_long in omega arith)

takes_as : (core new : Core) (n place from : ℕ) (kind : LaneKind) (rest : List Letter) (taking : Letter → Option NodeOf) (letter : Letter) (o : Option NodeOf)
    → IsReached core → n < core.size.nodes → taking letter ≡ o → taken_as core n place rest o ≡ Some new
    → Makes (Takes kind from taking) (node_at new n)
takes_as core new n place from kind rest taking letter None reached some takes is = cc
takes_as core new n place from kind rest taking letter (Some next) reached some takes is = grind (arith, same_some, own_node)

takes_from : (core new : Core) (n place from : ℕ) (kind : LaneKind) (taking : Letter → Option NodeOf) (lane : List Letter) → IsReached core
    → n < core.size.nodes → taken_from core n place taking lane ≡ Some new → Makes (Takes kind from taking) (node_at new n)
takes_from core new n place from kind taking [] reached some is = cc
takes_from core new n place from kind taking (letter ∷ rest) reached some is =
    takes_as core new n place from kind rest taking letter (taking letter) reached some refl is

takes_if : (core new : Core) (n place from : ℕ) (kind : LaneKind) (taking : Letter → Option NodeOf) (lane : List Letter) (b : Bool) → IsReached core
    → n < core.size.nodes → (if b then taken_from core n place taking lane else None) ≡ Some new → Makes (Takes kind from taking) (node_at new n)
takes_if core new n place from kind taking lane true reached some is = takes_from core new n place from kind taking lane reached some is
takes_if core new n place from kind taking lane false reached some is = cc

made_makes : (core new : Core) (n : ℕ) (s : Side) → IsReached core → n < core.size.nodes → step_by core n s ≡ Some new → Makes s (node_at new n)
made_makes core new n Idle reached some is = cc
made_makes core new n (Changes next) reached some is =
    sym (own_node core n next reached some) ∙ ap (λ (c : Core). node_at c n) (same_some (with_node core n next) new is)
made_makes core new n (Sends kind next letter) reached some is =
    sym (own_node core n next reached some) ∙ ap (λ (c : Core). node_at c n) (same_some (sent_by core n kind next letter) new is)
made_makes core new n (Takes kind from taking) reached some is =
    takes_if core new n (lane_place core.size.nodes kind from n) from kind taking (lane_of core kind from n) (nat_lt from core.size.nodes) reached some is

step_size : (core new : Core) (e : Event) → IsReached core → stepping core e ≡ Some new → new.size ≡ core.size
step_size core new e reached steps = ap (λ (o : Option Core). (unwrap_or o core).size) (sym steps) ∙ (run_well core (e ∷ []) (reached_well core reached)).same

-- ---- the events of a turn

sides_lead : (n : ℕ) (before : PolicyOf) (x : Core) (more : List Event) (after : PolicyOf) (y : Core) → IsReached x → n < x.size.nodes
    → Leads n before x more after y → SidesLead (node_at x n) (own_of n more) (node_at y n)
sides_lead n before x [] after y reached some leads = ap (λ (c : Core). node_at c n) leads.1
sides_lead n before x (e ∷ more) after y reached some leads =
    let next = leads.0 in
    let here : n < next.size.nodes = subst (λ (z : Size). n < z.nodes) (sym (step_size x next e reached leads.2)) some in
    let rest = sides_lead n leads.1 next more after y (reached_stepping x next e reached leads.2) here leads.4 in
    elim leads.3 [
      | inl own ↦ subst (λ (b : Bool). SidesLead (node_at x n) (cond b (e ∷ own_of n more) (own_of n more)) (node_at y n))
          (sym (eq-eqb (node_of e) n own.kind.own)) (
            node_at next n,
            made_makes x next n (side (node_at x n) e) reached some (stepped x next n e (side (node_at x n) e) some own.kind.own refl leads.2),
            rest,
          )
      | inr other ↦ subst (λ (b : Bool). SidesLead (node_at x n) (cond b (e ∷ own_of n more) (own_of n more)) (node_at y n))
          (sym (ne_eqb (node_of e) n other.apart))
          (subst (λ (m : NodeOf). SidesLead m (own_of n more) (node_at y n)) (other_stays x next e n other.apart leads.2) rest)
    ]

all_own : (n : ℕ) (before : PolicyOf) (x : Core) (more : List Event) (after : PolicyOf) (y : Core) → Leads n before x more after y
    → AllByRecursion (IsTurnEvent n) (own_of n more)
all_own n before x [] after y leads = tt
all_own n before x (e ∷ more) after y leads =
    let rest = all_own n leads.1 leads.0 more after y leads.4 in
    elim leads.3 [
      | inl own ↦ subst (λ (b : Bool). AllByRecursion (IsTurnEvent n) (cond b (e ∷ own_of n more) (own_of n more))) (sym (eq-eqb (node_of e) n own.kind.own))
          (own.kind, rest)
      | inr other ↦ subst (λ (b : Bool). AllByRecursion (IsTurnEvent n) (cond b (e ∷ own_of n more) (own_of n more))) (sym (ne_eqb (node_of e) n other.apart))
          rest
    ]

-- a turn as a worker's
pub node_turn : (before : PolicyOf) (old : PostOf) (after : PolicyOf) (new : PostOf) (progress : Progress) → IsPost old → IsTurn before old after new progress
    → MayPerform (node_in new) progress.ready → IsNodeTurn (node_in old) (node_in new) progress
node_turn before old after new progress here turn ready =
    let moved = turn.moved in
    let n = old.me in
    record {
      events = own_of n moved.more;
      leads = subst (λ (m : ℕ). SidesLead (node_in old) (own_of n moved.more) (node_at new.core m)) (sym moved.same.me)
          (sides_lead n _ old.core moved.more turn.policy new.core here.reached here.some moved.leads);
      own = subst (λ (m : ℕ). AllByRecursion (IsTurnEvent m) (own_of n moved.more)) (sym ((reached_well old.core here.reached).each_part n here.some).me)
          (all_own n _ old.core moved.more turn.policy new.core moved.leads);
      counts = moved.counts;
      ready = ready;
    }

-- ---- work

work_then : (old mid new : NodeOf) → SameWork old mid → SameWork mid new → SameWork old new
work_then old mid new one two = record { pending = two.pending ∙ one.pending; issued = two.issued ∙ one.issued; log = two.log ∙ one.log }

sent_work : (old new : NodeOf) (kind : LaneKind) (o : Option (NodeOf × Letter)) → IfSome o (λ (sent : NodeOf × Letter). SameWork old sent.0)
    → Makes (sends kind o) new → SameWork old new
sent_work old new kind None work makes = absurd makes
sent_work old new kind (Some sent) work makes = subst (SameWork old) makes work

refused_work : (old new : NodeOf) (request : Letter) (busy fixed : Bool)
    → (if busy then None else (if fixed then None else Some (with_answer old request Busy))) ≡ Some new → SameWork old new
refused_work old new request true fixed e = cc
refused_work old new request false true e = cc
refused_work old new request false false e = let is : with_answer old request Busy ≡ new = cc in
    subst (SameWork old) is (record { pending = refl; issued = refl; log = refl })

replied_work : (old : NodeOf) (waiting : Option Letter) → IfSome (replied_by old waiting) (λ (sent : NodeOf × Letter). SameWork old sent.0)
replied_work old None = tt
replied_work old (Some letter) = record { pending = refl; issued = refl; log = refl }

made_work : (n : ℕ) (old : NodeOf) (e : Event) (new : NodeOf) → IsTurnEvent n e → Makes (side old e) new → SameWork old new
made_work n old (event.Issue m op) new own makes = let kind = own.kind in cc
made_work n old (event.Perform m line) new own makes = let kind = own.kind in cc
made_work n old (event.Ask m line kind) new own makes = sent_work old new _ (node_asking old line kind) (ask_work old line kind) makes
made_work n old (event.Serve from m) new own makes = serve_work old makes.0 new (of_some _ (node_serving old makes.0) new makes.1 (serve_as old makes.0))
made_work n old (event.Refuse from m) new own makes = refused_work old new makes.0 (is_some old.waiting) (is_setback makes.0.body) makes.1
made_work n old (event.Reply m) new own makes = sent_work old new _ (replied_by old old.waiting) (replied_work old old.waiting) makes
made_work n old (event.Accept from m) new own makes = of_some (SameWork old) (node_accepting old makes.0) new makes.1 (accept_work old makes.0)

sides_work : (n : ℕ) (old : NodeOf) (events : List Event) (new : NodeOf) → AllByRecursion (IsTurnEvent n) events → SidesLead old events new → SameWork old new
sides_work n old [] new own leads = subst (SameWork old) leads (record { pending = refl; issued = refl; log = refl })
sides_work n old (e ∷ events) new own leads =
    work_then old leads.0 new (made_work n old e leads.0 own.0 leads.1) (sides_work n leads.0 events new own.1 leads.2)

limit_in : (post : PostOf) → IsPost post → (node_in post).limit ≡ post.core.size.limit
limit_in post here = ((reached_well post.core here.reached).each_part post.me here.some).most

leads_reach : (n : ℕ) (before : PolicyOf) (x : Core) (more : List Event) (after : PolicyOf) (y : Core) → IsReached x → Leads n before x more after y
    → IsReached y
leads_reach n before x [] after y reached leads = subst IsReached leads.1 reached
leads_reach n before x (e ∷ more) after y reached leads = leads_reach n leads.1 leads.0 more after y (reached_stepping x leads.0 e reached leads.2) leads.4

-- a turn leaves its node at a post
pub post_after : (before : PolicyOf) (old : PostOf) (after : PolicyOf) (new : PostOf) (progress : Progress) → IsPost old → IsTurn before old after new progress
    → IsPost new
post_after before old after new progress here turn = grind (arith, leads_reach)

-- a turn leaves the same operations pending, and the same log
pub turn_work : (before : PolicyOf) (old : PostOf) (after : PolicyOf) (new : PostOf) (progress : Progress) → IsPost old → IsTurn before old after new progress
    → MayPerform (node_in new) progress.ready → HasSameWork (node_in old) (node_in new)
turn_work before old after new progress here turn ready =
    let made = node_turn before old after new progress here turn ready in
    let work = sides_work (node_in old).cache.me (node_in old) made.events (node_in new) made.own made.leads in
    let there = post_after before old after new progress here turn in
    record {
      pending = work.pending;
      issued = work.issued;
      limit = limit_in new there ∙ (ap (λ (z : Size). z.limit) turn.moved.same.size ∙ sym (limit_in old here));
      log = work.log;
    }
