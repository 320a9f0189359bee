-- A node's turn looks at the front of each lane of requests to it. Until the turn comes to node j, none of its events takes a
-- packet from the lane of requests from j, and no other node has an event. So the lane is found as it was at the start.
use Rattle.std.proofs.Common.{◌≡◌, ◌≢◌, ◌<◌, ◌/◌, ◌%◌, ◌⊎◌, ℕ, zero, suc, arith, List, [], ◌∷◌, ◌++◌}
use Rattle.std.proofs.Common.{Option, Some, None, refl, sym, ap, subst, ◌∙◌, inl, inr, get_or-set_other}
use Rattle.std.proofs.lemmas.Bool.{cases_eq}
use Rattle.std.specs.List.{AllByRecursion}
use Rattle.sci_words.specs.declared.event.Event.{Event}
use Rattle.sci_cache.specs.Cache.{Letter}
use Rattle.sci_core.specs.declared.lane.LaneKind.{TheVariants.{Requests, Answers}}
use Rattle.sci_core.specs.Core.{Core, Side, Idle, Changes, Sends, Takes, lane_at, lane_of, lane_place, node_at, node_of, sends}
use Rattle.sci_core.specs.Core.{sent_by, side, step_by, stepping, with_lane, with_node}
use Rattle.sci_core.specs.{Node.{NodeOf, node_replying}, Reached.{IsReached}, Size.{Size}}
use Rattle.sci_core.proofs.Step.Places.{place_answers, place_from, place_requests}
use Rattle.sci_core.proofs.WellFormed.WellFormedSteps.{reached_stepping}
use Rattle.sci_policy.specs.declared.progress.Progress.{Progress}
use Rattle.sci_policy.specs.Policy.{PolicyOf, first_sender, turned}
use Rattle.sci_policy.proofs.Circles.{comes_by}
use Rattle.sci_turn.specs.Posts.{IsMade, PostOf, nodes_in, post_at}
use Rattle.sci_turn.specs.{Moves.{Stage, stage, taken_next}}
use Rattle.sci_turn.specs.Whole.{Accepts, AcceptsFrom, FindsNoAnswer, FindsNoRequest, InTurn, IsWholeTurn, Makes, MakesNone, Replies}
use Rattle.sci_turn.specs.Whole.{Takes as TakesNext, TakesFrom}
use Rattle.sci_turn.specs.Whole.{UpTo, no_progress}
use Rattle.sci_turn.proofs.{AlonePosts.{IsAlone, made_alone, still_alone}, Wholes.{first_below, of_circle}, Working.{stepped}}
use Rattle.sci_fair.{specs.Looks.{HasLooked}, proofs.Taking.{took}}
use Rattle.sci_words.specs.declared.event.Event.TheVariants as event

-- ---- events that leave a lane of requests as it is

-- the side of node n sends into another lane than this, or takes from another
abbrev pub SideSpares : Core → ℕ → ℕ → Side → Type 0
SideSpares core n place (Sends kind next letter) = place ≢ lane_place core.size.nodes kind n letter.target
SideSpares core n place (Takes kind from taking) = from < core.size.nodes → place ≢ lane_place core.size.nodes kind from n
SideSpares core n place _ = Unit {0}

pub record Spared (old new : Core) (place : ℕ) : Type 0 where
  pub lane : lane_at new place ≡ lane_at old place
  pub size : new.size ≡ old.size

pub set_spares : (core : Core) (n p place : ℕ) (next : NodeOf) (lane : List Letter) → place ≢ p → Spared core (with_lane (with_node core n next) p lane) place
set_spares core n p place next lane other = record { lane = get_or-set_other core.lanes p place lane [] other; size = refl }

pub side_spares : (core new : Core) (n place : ℕ) (s : Side) → SideSpares core n place s → step_by core n s ≡ Some new → Spared core new place
side_spares core new n place Idle spares is = cc
side_spares core new n place (Changes next) spares is =
    let made : with_node core n next ≡ new = cc in
    subst (λ (c : Core). Spared core c place) made (record { lane = refl; size = refl })
side_spares core new n place (Sends kind next letter) spares is =
    let made : sent_by core n kind next letter ≡ new = cc in
    let p = lane_place core.size.nodes kind n letter.target in
    subst (λ (c : Core). Spared core c place) made (set_spares core n p place next (lane_at core p ++ letter ∷ []) spares)
side_spares core new n place (Takes kind from taking) spares is =
    let front = took core new n from kind taking is in
    subst (λ (c : Core). Spared core c place) front.made
    (set_spares core n (lane_place core.size.nodes kind from n) place front.next front.rest (spares front.sender))

-- the events of node n in its turn that leave the lane of requests from node j as it is
abbrev pub SparesFrom : ℕ → Event → Type 0
SparesFrom j (event.Serve from n) = from ≢ j
SparesFrom j (event.Refuse from n) = from ≢ j
SparesFrom j (event.Reply n) = Unit {0}
SparesFrom j (event.Accept from n) = Unit {0}
SparesFrom j _ = ⊥

pub answers_apart : (nodes from to j n : ℕ) → j < nodes → n < nodes → lane_place nodes Requests j n ≢ lane_place nodes Answers from to
answers_apart nodes from to j n f t = grind (arith, place_requests, place_answers)

pub senders_apart : (nodes from j n : ℕ) → j < nodes → n < nodes → from < nodes → from ≢ j → lane_place nodes Requests j n ≢ lane_place nodes Requests from n
senders_apart nodes from j n f t below other = λ same.
    other (sym (place_from nodes Requests from n below t) ∙ (ap (λ (p : ℕ). p / nodes % nodes) (sym same) ∙ place_from nodes Requests j n f t))

reply_spares : (core : Core) (n j : ℕ) (o : Option (NodeOf × Letter)) → j < core.size.nodes → n < core.size.nodes
    → SideSpares core n (lane_place core.size.nodes Requests j n) (sends Answers o)
reply_spares core n j None f t = tt
reply_spares core n j (Some sent) f t = answers_apart core.size.nodes n sent.1.target j n f t

event_spares : (core : Core) (n j : ℕ) (e : Event) → j < core.size.nodes → n < core.size.nodes → node_of e ≡ n → SparesFrom j e
    → SideSpares core n (lane_place core.size.nodes Requests j n) (side (node_at core n) e)
event_spares core n j (event.Serve from m) f t own spares = λ below. senders_apart core.size.nodes from j n f t below spares
event_spares core n j (event.Refuse from m) f t own spares = λ below. senders_apart core.size.nodes from j n f t below spares
event_spares core n j (event.Reply m) f t own spares = reply_spares core n j (node_replying (node_at core n)) f t
event_spares core n j (event.Accept from m) f t own spares = λ below. answers_apart core.size.nodes from n j n f t
event_spares core n j _ f t own spares = elim spares [ ]

pub step_spares : (core new : Core) (n j : ℕ) (e : Event) → j < core.size.nodes → n < core.size.nodes → node_of e ≡ n → SparesFrom j e
    → stepping core e ≡ Some new → Spared core new (lane_place core.size.nodes Requests j n)
step_spares core new n j e f t own spares steps =
    side_spares core new n (lane_place core.size.nodes Requests j n) (side (node_at core n) e) (event_spares core n j e f t own spares)
    (stepped core new n e (side (node_at core n) e) t own refl steps)

-- ---- the lane so far

-- at this stage of a turn of node n the lane from node j is this one, and this many turns are counted
pub record IsSo (n j nodes turns : ℕ) (lane : List Letter) (s : Stage) : Type 0 where
  pub is : IsAlone n s.post
  pub reached : IsReached s.post.core
  pub all : s.post.core.size.nodes ≡ nodes
  pub here : lane_of s.post.core Requests j n ≡ lane
  pub counted : s.policy.turns ≡ turns

none_so : (n j nodes turns : ℕ) (lane : List Letter) (old new : Stage) → IsSo n j nodes turns lane old → MakesNone old new → IsSo n j nodes turns lane new
none_so n j nodes turns lane old new so none =
    let still = still_alone n old.post new.post so.is none.still in
    record {
      is = still.is;
      reached = subst IsReached (sym still.same) so.reached;
      all = ap (λ (c : Core). c.size.nodes) still.same ∙ so.all;
      here = ap (λ (c : Core). lane_of c Requests j n) still.same ∙ so.here;
      counted = ap (λ (p : PolicyOf). p.turns) none.policy ∙ so.counted;
    }

-- an event of the turn that spares the lane, and counts no turn
made_so : (n j nodes turns : ℕ) (lane : List Letter) (old new : Stage) (e : Event) → j < nodes → n < nodes → IsSo n j nodes turns lane old
    → IsMade old.post e new.post → node_of e ≡ n → SparesFrom j e → new.policy.turns ≡ old.policy.turns → IsSo n j nodes turns lane new
made_so n j nodes turns lane old new e f t so made own spares counted =
    let alone = made_alone n old.post new.post e so.is made in
    let below : (k : ℕ) → k < nodes → k < old.post.core.size.nodes = λ k. subst (λ (m : ℕ). k < m) (sym so.all) in
    let spared = step_spares old.post.core new.post.core n j e (below j f) (below n t) own spares alone.steps in
    record {
      is = alone.is;
      reached = reached_stepping old.post.core new.post.core e so.reached alone.steps;
      all = ap (λ (z : Size). z.nodes) spared.size ∙ so.all;
      here = ap (λ (z : Size). lane_at new.post.core (lane_place z.nodes Requests j n)) spared.size ∙ (spared.lane ∙ so.here);
      counted = counted ∙ so.counted;
    }

replies_so : (n j nodes turns : ℕ) (lane : List Letter) (old new : Stage) → j < nodes → n < nodes → IsSo n j nodes turns lane old → Replies old new
    → IsSo n j nodes turns lane new
replies_so n j nodes turns lane old new f t so (inl makes) =
    made_so n j nodes turns lane old new (event.Reply old.post.me) f t so makes.made so.is.me tt (ap (λ (p : PolicyOf). p.turns) makes.decides)
replies_so n j nodes turns lane old new f t so (inr none) = none_so n j nodes turns lane old new so none.0

accepts_so : (n j nodes turns from : ℕ) (lane : List Letter) (old new : Stage) → j < nodes → n < nodes → IsSo n j nodes turns lane old → Accepts from old new
    → IsSo n j nodes turns lane new
accepts_so n j nodes turns from lane old new f t so makes =
    made_so n j nodes turns lane old new (event.Accept from old.post.me) f t so makes.made so.is.me tt (ap (λ (p : PolicyOf). p.turns) makes.decides)

served_so : (n j nodes turns from : ℕ) (lane : List Letter) (old new : Stage) → j < nodes → n < nodes → from ≢ j → IsSo n j nodes turns lane old
    → Makes (event.Serve from old.post.me) old new ⊎ Makes (event.Refuse from old.post.me) old new → IsSo n j nodes turns lane new
served_so n j nodes turns from lane old new f t other so (inl makes) =
    made_so n j nodes turns lane old new (event.Serve from old.post.me) f t so makes.made so.is.me other (ap (λ (p : PolicyOf). p.turns) makes.decides.1)
served_so n j nodes turns from lane old new f t other so (inr makes) =
    made_so n j nodes turns lane old new (event.Refuse from old.post.me) f t so makes.made so.is.me other (ap (λ (p : PolicyOf). p.turns) makes.decides.1)

takes_so : (n j nodes turns from : ℕ) (lane : List Letter) (old new : Stage) → j < nodes → n < nodes → from ≢ j → IsSo n j nodes turns lane old
    → TakesNext from old new → IsSo n j nodes turns lane new
takes_so n j nodes turns from lane old new f t other so takes =
    replies_so n j nodes turns lane takes.taken new f t (served_so n j nodes turns from lane old takes.taken f t other so takes.takes) takes.replies

-- ---- up to four times, and for each node

pub up_to_so : (k : ℕ) (Step Ends : Stage → Stage → Type 0) (P : Stage → Type 0) → ((a b : Stage) → P a → Step a b → P b) → ((a b : Stage) → P a → Ends a b
    → P b)
    → (old new : Stage) → P old → UpTo k Step Ends old new → P new
up_to_so zero Step Ends P steps ends old new so same = subst P same so
up_to_so (suc k) Step Ends P steps ends old new so (inl last) = ends old new so last
up_to_so (suc k) Step Ends P steps ends old new so (inr rest) =
    up_to_so k Step Ends P steps ends rest.0 new (steps old rest.0 so rest.1) rest.2

pub in_turn_so : (Step : ℕ → Stage → Stage → Type 0) (P : Stage → Type 0) → ((from : ℕ) (a b : Stage) → P a → Step from a b → P b) → (froms : List ℕ)
    → (old new : Stage) → P old → InTurn Step froms old new → P new
in_turn_so Step P steps [] old new so same = subst P same so
in_turn_so Step P steps (from ∷ froms) old new so rest = in_turn_so Step P steps froms rest.0 new (steps from old rest.0 so rest.1) rest.2

-- ---- the look

looked : (n j nodes turns : ℕ) (lane : List Letter) (old : Stage) (core : Core) → IsSo n j nodes turns lane old → core ≡ old.post.core
    → (taken_next old.policy core j old.post.me ≡ None)
    ⊎ ((e : Event) × (next : Core) × (taken_next old.policy core j old.post.me ≡ Some e) × (stepping core e ≡ Some next))
    → HasLooked n j turns lane
looked n j nodes turns lane old core so same did = grind arith

made_looked : (n j nodes turns : ℕ) (lane : List Letter) (old new : Stage) (e : Event) → IsSo n j nodes turns lane old → (made : IsMade old.post e new.post)
    → taken_next old.policy made.mid.core j old.post.me ≡ Some e → HasLooked n j turns lane
made_looked n j nodes turns lane old new e so made next =
    let alone = made_alone n old.post new.post e so.is made in
    looked n j nodes turns lane old made.mid.core so alone.mid_is (inr (e, new.post.core, next, made.made))

from_looked : (n j nodes turns : ℕ) (lane : List Letter) (old new : Stage) → IsSo n j nodes turns lane old → TakesFrom j old new → HasLooked n j turns lane
from_looked n j nodes turns lane old new so (inl ends) =
    let still = still_alone n old.post new.post so.is ends.0.still in
    looked n j nodes turns lane new new.post.core (none_so n j nodes turns lane old new so ends.0) refl (inl ends.1)
from_looked n j nodes turns lane old new so (inr rest) = elim rest.1.takes [
  | inl makes ↦ made_looked n j nodes turns lane old rest.1.taken (event.Serve j old.post.me) so makes.made makes.decides.0
  | inr makes ↦ made_looked n j nodes turns lane old rest.1.taken (event.Refuse j old.post.me) so makes.made makes.decides.0
]

all_same : (A : Type 0) (j : ℕ) (froms : List ℕ) → A → AllByRecursion (λ from. from ≡ j → A) froms
all_same A j [] a = tt
all_same A j (from ∷ froms) a = ((λ is. a), all_same A j froms a)

-- if a node in the circle is node j, its lane is looked at
all_looked : (n j nodes turns : ℕ) (lane : List Letter) (froms : List ℕ) (old new : Stage) → j < nodes → n < nodes → IsSo n j nodes turns lane old
    → InTurn TakesFrom froms old new → AllByRecursion (λ from. from ≡ j → HasLooked n j turns lane) froms
all_looked n j nodes turns lane [] old new f t so steps = tt
all_looked n j nodes turns lane (from ∷ froms) old new f t so steps = elim (cases_eq from j) [
  | inl same ↦
      let look = from_looked n j nodes turns lane old steps.0 so (subst (λ (i : ℕ). TakesFrom i old steps.0) same steps.1) in
      ((λ is. look), all_same (HasLooked n j turns lane) j froms look)
  | inr other ↦
      let then_ = up_to_so 4 (TakesNext from) (FindsNoRequest from) (IsSo n j nodes turns lane)
      (λ a b is takes. takes_so n j nodes turns from lane a b f t other is takes)
      (λ a b is none. none_so n j nodes turns lane a b is none.0) old steps.0 so steps.1 in
      ((λ is. absurd (other is)), all_looked n j nodes turns lane froms steps.0 new f t then_ steps.2)
]

-- a whole turn looks at each lane
pub turn_looks : (n j : ℕ) (before after : PolicyOf) (old : Core) (new : PostOf) (progress : Progress) → IsReached old → n < old.size.nodes → j < old.size.nodes
    → IsWholeTurn before (post_at n old) after new progress → HasLooked n j (turned before).turns (lane_of old Requests j n)
turn_looks n j before after old new progress reached t f whole =
    let nodes = old.size.nodes in
    let turns = (turned before).turns in
    let lane = lane_of old Requests j n in
    let begun = stage (turned before) (post_at n old) no_progress in
    let first : IsSo n j nodes turns lane begun =
    record { is = record { me = refl; alone = refl }; reached = reached; all = refl; here = refl; counted = refl } in
    let second = replies_so n j nodes turns lane begun whole.replied f t first whole.replies in
    let third = in_turn_so AcceptsFrom (IsSo n j nodes turns lane)
    (λ from a b so steps. up_to_so 4 (Accepts from) (FindsNoAnswer from) (IsSo n j nodes turns lane)
    (λ c d is accepts. accepts_so n j nodes turns from lane c d f t is accepts) (λ c d is none. none_so n j nodes turns lane c d is none.0) a b so steps)
    _ whole.replied whole.accepted second whole.accepts in
    let served = whole.accepted.policy.served in
    let all = nodes_in whole.accepted.post in
    let start = first_sender whole.accepted.policy all in
    let some : j < all = subst (λ (m : ℕ). j < m) (sym third.all) f in
    let by = comes_by all start j (first_below all served (omega arith)) some in
    of_circle (λ from. from ≡ j → HasLooked n j turns lane) all all start by.place (first_below all served (omega arith)) by.below
    (all_looked n j nodes turns lane _ whole.accepted whole.taken f t third whole.takes) by.there
