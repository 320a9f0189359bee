-- A whole turn of a node that has the machine for itself, as the events that it makes: it accepts answers; it takes requests, and looks
-- at each lane of them; and it asks.
use Rattle.std.proofs.Common.{◌≡◌, ◌≢◌, ◌<◌, ◌≤◌, ◌||◌, ℕ, zero, suc, Bool, true, arith, List, [], ◌∷◌, ◌++◌}
use Rattle.std.proofs.Common.{length, Some, None, refl, sym, ap, subst, ◌∙◌, ◌⊎◌, inl, inr}
use Rattle.std.proofs.lemmas.Bool.{cases_eq}
use Rattle.std.specs.{Prelude.{IfSome}, List.{AllByRecursion, range_with_len}}
use Rattle.sci_words.specs.declared.event.{AskKind.{AskKind}, Event.{Event}}
use Rattle.sci_core.specs.declared.lane.LaneKind.TheVariants.{Requests, Answers}
use Rattle.sci_core.specs.{Core.{Core, lane_at, lane_of, lane_place, node_at, stepping}, Node.{NodeOf}, Reached.{IsReached}, Size.{Size}}
use Rattle.sci_policy.specs.declared.{progress.Progress.{Progress}, want.Want.{TheVariants.{Ask}}}
use Rattle.sci_policy.specs.{Policy.{PolicyOf, first_sender, next_policy, next_wanted, turned}, Turn.{IsTurnEvent, is_accept, is_ask, is_reply, is_service}}
use Rattle.sci_policy.proofs.Circles.{comes_by}
use Rattle.sci_turn.specs.{Posts.{PostOf, nodes_in, post_at}, Moves.{Decides, IsOwn, Stage, stage, taken_next}}
use Rattle.sci_turn.specs.Whole.{Accepts, AcceptsFrom, Asks, AsksNoMore, EndsAt, FindsNoAnswer, FindsNoRequest, InTurn, IsWholeTurn, Makes, MakesNone, Replies}
use Rattle.sci_turn.specs.Whole.{Takes, TakesFrom, UpTo, no_progress}
use Rattle.sci_turn.proofs.{AlonePosts.{IsAlone, made_alone, still_alone}, Wholes.{first_below, of_circle}}
use Rattle.sci_fair.specs.Between.{AreShort, IsBetweenTurns}
use Rattle.sci_fair.proofs.AnswersGo.{HasAccepted, HasAsked, HasServed, HasTaken, accept_step, all_below, ask_step, asked_first, between_last, emptied_all}
use Rattle.sci_fair.proofs.AnswersGo.{held_never, of_range, refuse_step, replies_quiet, reply_step, serve_step, taken_first}
use Rattle.sci_fair.proofs.Looks.{Spared, in_turn_so, step_spares, up_to_so}
use Rattle.sci_words.specs.declared.event.Event.TheVariants as event

-- ---- events of a node's turn, one after another

abbrev pub Does : ℕ → PolicyOf → Core → List Event → PolicyOf → Core → Type 0
Does n p x [] q y = (p ≡ q) × (x ≡ y)
Does n p x (e ∷ events) q y =
    (policy : PolicyOf) × (next : Core) × IsOwn n p x e policy × (stepping x e ≡ Some next) × Does n policy next events q y

pub does_then : (n : ℕ) (p : PolicyOf) (x : Core) (first : List Event) (q : PolicyOf) (y : Core) (second : List Event) (r : PolicyOf) (z : Core)
    → Does n p x first q y → Does n q y second r z → Does n p x (first ++ second) r z
does_then n p x [] q y second r z one two =
    subst (λ (b : PolicyOf). Does n b x second r z) (sym one.0) (subst (λ (c : Core). Does n q c second r z) (sym one.1) two)
does_then n p x (e ∷ first) q y second r z one two =
    (one.0, one.1, one.2, one.3, does_then n one.0 one.1 first q y second r z one.4 two)

-- all of these events are of a kind
abbrev pub AreAll : (Event → Bool) → List Event → Type 0
AreAll kind events = AllByRecursion (λ e. kind e ≡ true) events

all_then : (kind : Event → Bool) (xs ys : List Event) → AreAll kind xs → AreAll kind ys → AreAll kind (xs ++ ys)
all_then kind [] ys one two = two
all_then kind (x ∷ xs) ys one two = (one.0, all_then kind xs ys one.1 two)

-- from one moment of the turn to a stage
pub record Goes (n : ℕ) (kind : Event → Bool) (P : Core → Type 0) (p : PolicyOf) (x : Core) (s : Stage) : Type 0 where
  pub events : List Event
  pub does : Does n p x events s.policy s.post.core
  pub kinds : AreAll kind events
  pub is : IsAlone n s.post
  pub so : P s.post.core

goes_none : (n : ℕ) (kind : Event → Bool) (P : Core → Type 0) (p : PolicyOf) (x : Core) (a b : Stage) → Goes n kind P p x a → MakesNone a b
    → Goes n kind P p x b
goes_none n kind P p x a b goes none =
    let still = still_alone n a.post b.post goes.is none.still in
    record {
      events = goes.events;
      does = subst (λ (q : PolicyOf). Does n p x goes.events q b.post.core) (sym none.policy)
          (subst (λ (c : Core). Does n p x goes.events a.policy c) (sym still.same) goes.does);
      kinds = goes.kinds;
      is = still.is;
      so = subst P (sym still.same) goes.so;
    }

-- what is made at a stage
pub record MadeOwn (n : ℕ) (a : Stage) (e : Event) (b : Stage) : Type 0 where
  pub is : IsAlone n b.post
  pub own : IsOwn n a.policy a.post.core e b.policy
  pub steps : stepping a.post.core e ≡ Some b.post.core

pub made_own : (n : ℕ) (a b : Stage) (e : ℕ → Event) → ((m : ℕ) → IsTurnEvent m (e m)) → IsAlone n a.post → Makes (e a.post.me) a b → MadeOwn n a (e n) b
made_own n a b e kind is makes =
    let alone = made_alone n a.post b.post (e a.post.me) is makes.made in
    record {
      is = alone.is;
      own = record {
        kind = kind n;
        decides = subst (λ (m : ℕ). Decides a.policy a.post.core m (e m) b.policy) is.me
            (subst (λ (c : Core). Decides a.policy c a.post.me (e a.post.me) b.policy) alone.mid_is makes.decides);
      };
      steps = subst (λ (m : ℕ). stepping a.post.core (e m) ≡ Some b.post.core) is.me alone.steps;
    }

goes_made : (n : ℕ) (kind : Event → Bool) (P Q : Core → Type 0) (p : PolicyOf) (x : Core) (a b : Stage) (e : Event) → Goes n kind P p x a → MadeOwn n a e b
    → kind e ≡ true → Q b.post.core → Goes n kind Q p x b
goes_made n kind P Q p x a b e goes made is so = record {
  events = goes.events ++ e ∷ [];
  does = does_then n p x goes.events a.policy a.post.core (e ∷ []) b.policy b.post.core goes.does (b.policy, b.post.core, made.own, made.steps, (refl, refl));
  kinds = all_then kind goes.events (e ∷ []) goes.kinds (is, tt);
  is = made.is;
  so = so;
}

goes_first : (n : ℕ) (kind : Event → Bool) (P : Core → Type 0) (s : Stage) → IsAlone n s.post → P s.post.core → Goes n kind P s.policy s.post.core s
goes_first n kind P s is so = record { events = []; does = (refl, refl); kinds = tt; is = is; so = so }

-- ---- the three parts

abbrev pub is_taking : Event → Bool
is_taking e = is_service e || is_reply e

goes_accepts : (n from : ℕ) (old : Core) (p : PolicyOf) (x : Core) (a b : Stage) → n < old.size.nodes → Goes n is_accept (HasAccepted n old) p x a
    → Accepts from a b → Goes n is_accept (HasAccepted n old) p x b
goes_accepts n from old p x a b some goes makes =
    let made = made_own n a b (λ m. event.Accept from m) (λ m. record { own = refl; kind = refl }) goes.is makes in
    goes_made n is_accept (HasAccepted n old) (HasAccepted n old) p x a b (event.Accept from n) goes made refl
    (accept_step n from old a.post.core b.post.core some goes.so made.steps)

goes_asks : (n : ℕ) (old : Core) (p : PolicyOf) (x : Core) (a b : Stage) → n < old.size.nodes → Goes n is_ask (HasAsked n old) p x a → Asks a b
    → Goes n is_ask (HasAsked n old) p x b
goes_asks n old p x a b some goes asks =
    let made = made_own n a b (λ m. event.Ask m asks.0 asks.1) (λ m. record { own = refl; kind = refl }) goes.is asks.2 in
    goes_made n is_ask (HasAsked n old) (HasAsked n old) p x a b (event.Ask n asks.0 asks.1) goes made refl
    (ask_step n asks.0 asks.1 old a.post.core b.post.core some goes.so made.steps)

module _ (n : ℕ) (old : Core) (some : n < old.size.nodes) (p : PolicyOf) (x : Core) where
  -- a request is taken and answered, and what holds beside of the machine is kept
  goes_replies : (j : ℕ) (Q : Core → Type 0) (a b : Stage) → Goes n is_taking (λ c. HasServed n j old c × Q c) p x a
      → ((c d : Core) (e : Event) → IsReached c → c.size ≡ old.size → e ≡ event.Reply n → stepping c e ≡ Some d → Q c → Q d) → Replies a b
      → Goes n is_taking (λ c. HasTaken n old c × Q c) p x b
  goes_replies j Q a b goes keeps (inl makes) =
      let made = made_own n a b (λ m. event.Reply m) (λ m. record { own = refl; kind = refl }) goes.is makes in
      goes_made n is_taking (λ c. HasServed n j old c × Q c) (λ c. HasTaken n old c × Q c) p x a b (event.Reply n) goes made refl (
        reply_step n j old a.post.core b.post.core some goes.so.0.sender goes.so.0 made.steps,
        keeps a.post.core b.post.core (event.Reply n) goes.so.0.so.since.reached goes.so.0.so.since.size refl made.steps goes.so.1,
      )
  goes_replies j Q a b goes keeps (inr none) =
      let then_ = goes_none n is_taking (λ c. HasServed n j old c × Q c) p x a b goes none.0 in
      absurd (held_never n j old b.post.core then_.so.0
      (subst (λ (m : ℕ). IfSome (node_at b.post.core m).waiting (λ answer. 4 ≤ length (lane_of b.post.core Answers m answer.target))) then_.is.me none.1))

  goes_takes : (j : ℕ) (Q : Core → Type 0) (a b : Stage) → Goes n is_taking (λ c. HasTaken n old c × Q c) p x a
      → ((c d : Core) (e : Event) → IsReached c → c.size ≡ old.size → (e ≡ event.Reply n) ⊎ ((e ≡ event.Serve j n) ⊎ (e ≡ event.Refuse j n))
      → stepping c e ≡ Some d → Q c → Q d) → Takes j a b → Goes n is_taking (λ c. HasTaken n old c × Q c) p x b
  goes_takes j Q a b goes keeps takes =
      let taken = takes.taken in
      let since = goes.so.0.so.since in
      let served : Goes n is_taking (λ c. HasServed n j old c × Q c) p x taken = elim takes.takes [
        | inl makes ↦
            let made = made_own n a taken (λ m. event.Serve j m) (λ m. record { own = refl; kind = refl }) goes.is makes in
            goes_made n is_taking (λ c. HasTaken n old c × Q c) (λ c. HasServed n j old c × Q c) p x a taken (event.Serve j n) goes made refl (
              serve_step n j old a.post.core taken.post.core some goes.so.0 made.steps,
              keeps a.post.core taken.post.core (event.Serve j n) since.reached since.size (inr (inl refl)) made.steps goes.so.1,
            )
        | inr makes ↦
            let made = made_own n a taken (λ m. event.Refuse j m) (λ m. record { own = refl; kind = refl }) goes.is makes in
            goes_made n is_taking (λ c. HasTaken n old c × Q c) (λ c. HasServed n j old c × Q c) p x a taken (event.Refuse j n) goes made refl (
              refuse_step n j old a.post.core taken.post.core some goes.so.0 made.steps,
              keeps a.post.core taken.post.core (event.Refuse j n) since.reached since.size (inr (inr refl)) made.steps goes.so.1,
            )
      ] in
      goes_replies j Q taken b served (λ c d e reached size is. keeps c d e reached size (inl is)) takes.replies

  goes_up : (j : ℕ) (Q : Core → Type 0) (k : ℕ) (a b : Stage) → Goes n is_taking (λ c. HasTaken n old c × Q c) p x a
      → ((c d : Core) (e : Event) → IsReached c → c.size ≡ old.size → (e ≡ event.Reply n) ⊎ ((e ≡ event.Serve j n) ⊎ (e ≡ event.Refuse j n))
      → stepping c e ≡ Some d → Q c → Q d) → UpTo k (Takes j) (FindsNoRequest j) a b → Goes n is_taking (λ c. HasTaken n old c × Q c) p x b
  goes_up j Q k a b goes keeps ups =
      up_to_so k (Takes j) (FindsNoRequest j) (Goes n is_taking (λ c. HasTaken n old c × Q c) p x)
      (λ c d is takes. goes_takes j Q c d is keeps takes)
      (λ c d is none. goes_none n is_taking (λ e. HasTaken n old e × Q e) p x c d is none.0) a b goes ups

-- ---- a look at the lane of requests from node j

pub record Look (n j : ℕ) (old : Core) (p1 : PolicyOf) (c1 : Core) (p2 : PolicyOf) (c2 : Core) : Type 0 where
  pub p : PolicyOf
  pub c : Core
  pub first : List Event
  pub before : Does n p1 c1 first p c
  pub first_takes : AreAll is_taking first
  pub second : List Event
  pub after : Does n p c second p2 c2
  pub second_takes : AreAll is_taking second
  pub so : HasTaken n old c
  pub lane : lane_of c Requests j n ≡ lane_of c1 Requests j n
  pub did : (taken_next p c j n ≡ None) ⊎ ((e : Event) × (rest : List Event) × (second ≡ e ∷ rest) × (taken_next p c j n ≡ Some e))

-- beside the lane, nothing is asked of what holds
abbrev Nothing : Core → Type 0
Nothing c = Unit {0}

-- from a stage on, the turn goes on through these nodes
goes_on_from : (n : ℕ) (old : Core) (froms : List ℕ) (p : PolicyOf) (x : Core) (a b : Stage) → n < old.size.nodes
    → Goes n is_taking (λ c. HasTaken n old c × Nothing c) p x a → InTurn TakesFrom froms a b → Goes n is_taking (λ c. HasTaken n old c × Nothing c) p x b
goes_on_from n old froms p x a b some goes steps =
    in_turn_so TakesFrom (Goes n is_taking (λ c. HasTaken n old c × Nothing c) p x)
    (λ i c d is ups. goes_up n old some p x i Nothing 4 c d is (λ e f g reached size kind steps_ q. tt) ups) froms a b goes steps

module _ (n j : ℕ) (old : Core) (some : n < old.size.nodes) (f : j < old.size.nodes) (p1 : PolicyOf) (c1 : Core) where
  -- the node takes a request of node j
  look_taken : (froms : List ℕ) (a taken next mid b : Stage) (e : Event)
      → Goes n is_taking (λ c. HasTaken n old c × (lane_of c Requests j n ≡ lane_of c1 Requests j n)) p1 c1 a → MadeOwn n a e taken → is_taking e ≡ true
      → taken_next a.policy a.post.core j n ≡ Some e → HasServed n j old taken.post.core → Replies taken next
      → UpTo 3 (Takes j) (FindsNoRequest j) next mid → InTurn TakesFrom froms mid b → Look n j old p1 c1 b.policy b.post.core
  look_taken froms a taken next mid b e goes made kind decides step replies ups steps =
      let served = goes_first n is_taking (λ c. HasServed n j old c × Nothing c) taken made.is (step, tt) in
      let replied = goes_replies n old some taken.policy taken.post.core j Nothing taken next served (λ c d e reached size is steps_ q. tt) replies in
      let up = goes_up n old some taken.policy taken.post.core j Nothing 3 next mid replied (λ c d e reached size kind steps_ q. tt) ups in
      let last = goes_on_from n old froms taken.policy taken.post.core mid b some up steps in
      record {
        p = a.policy;
        c = a.post.core;
        first = goes.events;
        before = goes.does;
        first_takes = goes.kinds;
        second = e ∷ last.events;
        after = (taken.policy, taken.post.core, made.own, made.steps, last.does);
        second_takes = (kind, last.kinds);
        so = goes.so.0;
        lane = goes.so.1;
        did = inr (e, last.events, refl, decides);
      }

  -- the turn has come to node j
  look_at : (froms : List ℕ) (a mid b : Stage) → Goes n is_taking (λ c. HasTaken n old c × (lane_of c Requests j n ≡ lane_of c1 Requests j n)) p1 c1 a
      → TakesFrom j a mid → InTurn TakesFrom froms mid b → Look n j old p1 c1 b.policy b.post.core
  look_at froms a mid b goes (inl ends) steps =
      let still = still_alone n a.post mid.post goes.is ends.0.still in
      let begun = goes_first n is_taking (λ c. HasTaken n old c × Nothing c) a goes.is (goes.so.0, tt) in
      let then_ = goes_none n is_taking (λ c. HasTaken n old c × Nothing c) a.policy a.post.core a mid begun ends.0 in
      let last = goes_on_from n old froms a.policy a.post.core mid b some then_ steps in
      record {
        p = a.policy;
        c = a.post.core;
        first = goes.events;
        before = goes.does;
        first_takes = goes.kinds;
        second = last.events;
        after = last.does;
        second_takes = last.kinds;
        so = goes.so.0;
        lane = goes.so.1;
        did = inl (subst (λ (q : PolicyOf). taken_next q a.post.core j n ≡ None) ends.0.policy
            (subst (λ (c : Core). taken_next mid.policy c j n ≡ None) still.same
            (subst (λ (m : ℕ). taken_next mid.policy mid.post.core j m ≡ None) still.is.me ends.1)));
      }
  look_at froms a mid b goes (inr rest) steps =
      let taken = rest.1.taken in
      elim rest.1.takes [
        | inl makes ↦
            let made = made_own n a taken (λ m. event.Serve j m) (λ m. record { own = refl; kind = refl }) goes.is makes in
            look_taken froms a taken rest.0 mid b (event.Serve j n) goes made refl made.own.decides.0
            (serve_step n j old a.post.core taken.post.core some goes.so.0 made.steps) rest.1.replies rest.2 steps
        | inr makes ↦
            let made = made_own n a taken (λ m. event.Refuse j m) (λ m. record { own = refl; kind = refl }) goes.is makes in
            look_taken froms a taken rest.0 mid b (event.Refuse j n) goes made refl made.own.decides.0
            (refuse_step n j old a.post.core taken.post.core some goes.so.0 made.steps) rest.1.replies rest.2 steps
      ]

  -- other nodes' requests are taken before, and the lane stays
  other_kept : (from : ℕ) (c d : Core) (e : Event) → from ≢ j → IsReached c → c.size ≡ old.size
      → (e ≡ event.Reply n) ⊎ ((e ≡ event.Serve from n) ⊎ (e ≡ event.Refuse from n)) → stepping c e ≡ Some d
      → lane_of c Requests j n ≡ lane_of c1 Requests j n → lane_of d Requests j n ≡ lane_of c1 Requests j n
  other_kept from c d e other reached size kind steps lane =
      let g : j < c.size.nodes = subst (λ (z : Size). j < z.nodes) (sym size) f in
      let t : n < c.size.nodes = subst (λ (z : Size). n < z.nodes) (sym size) some in
      let spared : Spared c d (lane_place c.size.nodes Requests j n) = elim kind [
        | inl is ↦ step_spares c d n j (event.Reply n) g t refl tt (ap (stepping c) (sym is) ∙ steps)
        | inr taking ↦ elim taking [
          | inl is ↦ step_spares c d n j (event.Serve from n) g t refl other (ap (stepping c) (sym is) ∙ steps)
          | inr is ↦ step_spares c d n j (event.Refuse from n) g t refl other (ap (stepping c) (sym is) ∙ steps)
        ]
      ] in
      ap (λ (z : Size). lane_at d (lane_place z.nodes Requests j n)) spared.size ∙ (spared.lane ∙ lane)

  all_same : (A : Type 0) (froms : List ℕ) → A → AllByRecursion (λ from. from ≡ j → A) froms
  all_same A [] a = tt
  all_same A (from ∷ froms) a = ((λ is. a), all_same A froms a)

  look_in : (froms : List ℕ) (a b : Stage) → Goes n is_taking (λ c. HasTaken n old c × (lane_of c Requests j n ≡ lane_of c1 Requests j n)) p1 c1 a
      → InTurn TakesFrom froms a b → AllByRecursion (λ from. from ≡ j → Look n j old p1 c1 b.policy b.post.core) froms
  look_in [] a b goes steps = tt
  look_in (from ∷ froms) a b goes steps = elim (cases_eq from j) [
    | inl same ↦
        let look = look_at froms a steps.0 b goes (subst (λ (i : ℕ). TakesFrom i a steps.0) same steps.1) steps.2 in
        ((λ is. look), all_same (Look n j old p1 c1 b.policy b.post.core) froms look)
    | inr other ↦
        let then_ = goes_up n old some p1 c1 from (λ c. lane_of c Requests j n ≡ lane_of c1 Requests j n) 4 a steps.0 goes
        (λ c d e reached size kind one lane. other_kept from c d e other reached size kind one lane) steps.1 in
        ((λ is. absurd (other is)), look_in froms steps.0 b then_ steps.2)
  ]

-- ---- the turn

-- what the node asks first
pub data AsksFirst (n : ℕ) (p : PolicyOf) (c : Core) (events : List Event) (after : PolicyOf) (new : Core) : Type 0 where
  Makes_ask : (line : ℕ) (k : AskKind) (rest : List Event) → next_wanted p (node_at c n) ≡ Some (Ask line k) → events ≡ event.Ask n line k ∷ rest
      → AsksFirst n p c events after new
  Ends_there : c ≡ new → events ≡ [] → after ≡ next_policy p (node_at c n) → IfSome (next_wanted p (node_at c n)) (EndsAt (post_at n new))
      → AsksFirst n p c events after new

pub record Trace (n : ℕ) (before : PolicyOf) (old : Core) (after : PolicyOf) (new : Core) : Type 0 where
  pub p1 : PolicyOf
  pub c1 : Core
  pub e1 : List Event
  pub accepts : Does n (turned before) old e1 p1 c1
  pub are_accepts : AreAll is_accept e1
  pub accepted : HasAccepted n old c1
  pub empty : (b : ℕ) → b < old.size.nodes → lane_of c1 Answers b n ≡ []
  pub p2 : PolicyOf
  pub c2 : Core
  pub e2 : List Event
  pub takes : Does n p1 c1 e2 p2 c2
  pub are_takes : AreAll is_taking e2
  pub taken : HasTaken n old c2
  pub looks : (j : ℕ) → j < old.size.nodes → Look n j old p1 c1 p2 c2
  pub p3 : PolicyOf
  pub e3 : List Event
  pub asks : Does n p2 c2 e3 p3 new
  pub are_asks : AreAll is_ask e3
  pub asked : HasAsked n old new
  pub first : AsksFirst n p2 c2 e3 after new
  pub last : (after ≡ p3) ⊎ (after ≡ next_policy p3 (node_at new n))

-- the asks of a turn
record AskedOn (n : ℕ) (old : Core) (p : PolicyOf) (x : Core) (b : Stage) : Type 0 where
  p3 : PolicyOf
  events : List Event
  does : Does n p x events p3 b.post.core
  kinds : AreAll is_ask events
  so : HasAsked n old b.post.core
  last : (b.policy ≡ p3) ⊎ (b.policy ≡ next_policy p3 (node_at b.post.core n))

asked_same : (n : ℕ) (old : Core) (p : PolicyOf) (x : Core) (b : Stage) → Goes n is_ask (HasAsked n old) p x b → AskedOn n old p x b
asked_same n old p x b goes =
    record { p3 = b.policy; events = goes.events; does = goes.does; kinds = goes.kinds; so = goes.so; last = inl refl }

asked_last : (n : ℕ) (old : Core) (p : PolicyOf) (x : Core) (a b : Stage) → Goes n is_ask (HasAsked n old) p x a → AsksNoMore a b → AskedOn n old p x b
asked_last n old p x a b goes ends =
    let still = still_alone n a.post b.post goes.is ends.still in
    record {
      p3 = a.policy;
      events = goes.events;
      does = subst (λ (c : Core). Does n p x goes.events a.policy c) (sym still.same) goes.does;
      kinds = goes.kinds;
      so = subst (HasAsked n old) (sym still.same) goes.so;
      last = inr (subst (λ (m : ℕ). b.policy ≡ next_policy a.policy (node_at b.post.core m)) still.is.me ends.policy);
    }

asked_up : (k n : ℕ) (old : Core) (p : PolicyOf) (x : Core) (a b : Stage) → n < old.size.nodes → Goes n is_ask (HasAsked n old) p x a
    → UpTo k Asks AsksNoMore a b
    → AskedOn n old p x b
asked_up zero n old p x a b some goes same = subst (AskedOn n old p x) same (asked_same n old p x a goes)
asked_up (suc k) n old p x a b some goes (inl ends) = asked_last n old p x a b goes ends
asked_up (suc k) n old p x a b some goes (inr rest) =
    asked_up k n old p x rest.0 b some (goes_asks n old p x a rest.0 some goes rest.1) rest.2

-- the asks, and the first of them
record AskedFrom (n : ℕ) (old : Core) (a b : Stage) : Type 0 where
  on : AskedOn n old a.policy a.post.core b
  first : AsksFirst n a.policy a.post.core on.events b.policy b.post.core

asked_from : (n : ℕ) (old : Core) (a b : Stage) → n < old.size.nodes → IsAlone n a.post → b.post ≡ post_at n b.post.core → HasAsked n old a.post.core
    → UpTo 4 Asks AsksNoMore a b → AskedFrom n old a b
unfolding asked_last goes_first
asked_from n old a b some is there so (inl ends) =
    let begun = goes_first n is_ask (HasAsked n old) a is so in
    let still = still_alone n a.post b.post is ends.still in
    let node : node_at b.post.core b.post.me ≡ node_at a.post.core n =
    ap (λ (c : Core). node_at c b.post.me) still.same ∙ ap (λ (m : ℕ). node_at a.post.core m) still.is.me in
    record {
      on = asked_last n old a.policy a.post.core a b begun ends;
      first = Ends_there (sym still.same) refl (ends.policy ∙ ap (next_policy a.policy) node)
          (subst (λ (post : PostOf). IfSome (next_wanted a.policy (node_at a.post.core n)) (EndsAt post)) there
          (subst (λ (part : NodeOf). IfSome (next_wanted a.policy part) (EndsAt b.post)) node ends.wants));
    }
asked_from n old a b some is there so (inr rest) =
    let next = rest.0 in
    let asks = rest.1 in
    let made = made_own n a next (λ m. event.Ask m asks.0 asks.1) (λ m. record { own = refl; kind = refl }) is asks.2 in
    let begun = goes_first n is_ask (HasAsked n old) next made.is (ask_step n asks.0 asks.1 old a.post.core next.post.core some so made.steps) in
    let later = asked_up 3 n old next.policy next.post.core next b some begun rest.2 in
    record {
      on = record {
        p3 = later.p3;
        events = event.Ask n asks.0 asks.1 ∷ later.events;
        does = (next.policy, next.post.core, made.own, made.steps, later.does);
        kinds = (refl, later.kinds);
        so = later.so;
        last = later.last;
      };
      first = Makes_ask asks.0 asks.1 later.events made.own.decides.0 refl;
    }

pub trace : (n : ℕ) (before after : PolicyOf) (old new : Core) (progress : Progress) → IsReached old → n < old.size.nodes → IsBetweenTurns old
    → IsWholeTurn before (post_at n old) after (post_at n new) progress → Trace n before old after new
trace n before after old new progress reached some between whole =
    let begun = stage (turned before) (post_at n old) no_progress in
    let so : HasAccepted n old old = record {
      since = record { reached = reached; size = refl; others = λ m other. refl };
      free = between.free n;
      requests = λ a b f t. refl;
      answers = λ a b f t other. refl;
      shorter = λ a f. omega arith;
    } in
    let first = goes_first n is_accept (HasAccepted n old) begun (record { me = refl; alone = refl }) so in
    let quiet = replies_quiet n old begun whole.replied some first.is so whole.replies in
    let second = goes_none n is_accept (HasAccepted n old) (turned before) old begun whole.replied first quiet in
    let third = in_turn_so AcceptsFrom (Goes n is_accept (HasAccepted n old) (turned before) old) (λ i c d is ups.
    up_to_so 4 (Accepts i) (FindsNoAnswer i) (Goes n is_accept (HasAccepted n old) (turned before) old)
    (λ e f goes makes. goes_accepts n i old (turned before) old e f some goes makes)
    (λ e f goes none. goes_none n is_accept (HasAccepted n old) (turned before) old e f goes none.0) c d is ups)
    _ whole.replied whole.accepted second whole.accepts in
    let nodes : nodes_in whole.replied.post ≡ old.size.nodes = ap (λ (z : Size). z.nodes) second.so.since.size in
    let all = emptied_all n (range_with_len 0 (nodes_in whole.replied.post)) old whole.replied whole.accepted some between.short
    (all_below old.size.nodes (nodes_in whole.replied.post) 0 (omega (arith, nodes))) (second.is, second.so) whole.accepts in
    let empty : (b : ℕ) → b < old.size.nodes → lane_of whole.accepted.post.core Answers b n ≡ [] =
    λ b t. of_range (λ (j : ℕ). lane_of whole.accepted.post.core Answers j n ≡ []) (nodes_in whole.replied.post) 0 b (omega arith) (omega
    (arith, t, nodes)) all in
    let taking = taken_first n old whole.accepted.post.core some between third.so empty in
    let a = whole.accepted in
    let taken = goes_on_from n old _ a.policy a.post.core a whole.taken some
    (goes_first n is_taking (λ c. HasTaken n old c × Nothing c) a third.is (taking, tt)) whole.takes in
    let asked = asked_from n old whole.taken (stage after (post_at n new) progress) some taken.is refl (asked_first n old whole.taken.post.core some taken.so.0)
    whole.asks in
    record {
      p1 = a.policy;
      c1 = a.post.core;
      e1 = third.events;
      accepts = third.does;
      are_accepts = third.kinds;
      accepted = third.so;
      empty = empty;
      p2 = whole.taken.policy;
      c2 = whole.taken.post.core;
      e2 = taken.events;
      takes = taken.does;
      are_takes = taken.kinds;
      taken = taken.so.0;
      looks = λ j f. (
          let served = a.policy.served in
          let count = nodes_in a.post in
          let start = first_sender a.policy count in
          let below : j < count = subst (λ (z : Size). j < z.nodes) (sym third.so.since.size) f in
          let by = comes_by count start j (first_below count served (omega (arith, below))) below in
          of_circle (λ from. from ≡ j → Look n j old a.policy a.post.core whole.taken.policy whole.taken.post.core) count count start by.place
          (first_below count served (omega (arith, below))) by.below
          (look_in n j old some f a.policy a.post.core _ a whole.taken
          (goes_first n is_taking (λ c. HasTaken n old c × (lane_of c Requests j n ≡ lane_of a.post.core Requests j n)) a third.is
          (taking, refl)) whole.takes) by.there
          );
      p3 = asked.on.p3;
      e3 = asked.on.events;
      asks = asked.on.does;
      are_asks = asked.on.kinds;
      asked = asked.on.so;
      first = asked.first;
      last = asked.on.last;
    }

-- so no answer waits when it has ended
pub turn_ends : (n : ℕ) (before after : PolicyOf) (old new : Core) (progress : Progress) → IsReached old → n < old.size.nodes → IsBetweenTurns old
    → IsWholeTurn before (post_at n old) after (post_at n new) progress → AreShort new → IsBetweenTurns new
turn_ends n before after old new progress reached some between whole short =
    between_last n old new some between short (trace n before after old new progress reached some between whole).asked
