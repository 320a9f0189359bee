-- Between whole turns no answer waits. A turn accepts all answers first. A node's requests to another and the answers to them are no
-- more than a lane takes, so each answer that a turn makes finds room; and a node asks only when all answers have been accepted.
use Rattle.std.proofs.Common.{◌≡◌, ◌≢◌, ◌≤◌, ◌<◌, ◌+◌, ℕ, zero, suc, false, true, arith, List, [], ◌∷◌, length, All}
use Rattle.std.proofs.Common.{Ok, Option, Some, None, refl, sym, ap, subst, ◌∙◌, inl, inr}
use Rattle.std.proofs.lemmas.{Bool.{cases_eq}, List.{length-append, Elements.{All-head}}}
use Rattle.std.specs.{Prelude.{IfSome}, List.{AllByRecursion, range_with_len}}
use Rattle.sci_words.specs.declared.event.{AskKind.{AskKind}, Event.{Event}}
use Rattle.sci_cache.specs.Cache.{Letter}
use Rattle.sci_core.specs.declared.lane.LaneKind.{TheVariants.{Requests, Answers}}
use Rattle.sci_core.specs.Core.{Core, lane_of, lane_place, node_at, node_of, side, stepping}
use Rattle.sci_core.specs.Node.{NodeOf, node_accepting, node_asking, node_refusing, node_replying, node_serving}
use Rattle.sci_core.specs.{Reached.{IsReached}, Size.{Size}, WellFormed.{IsInLane}}
use Rattle.sci_core.proofs.Basics.Options.{of_some}
use Rattle.sci_core.proofs.Step.NodeSides.{AcceptedAs, At_home, In_cache, RefusedAs, ServedAs, accept_as, refuse_as, reply_as, serve_as}
use Rattle.sci_core.proofs.Step.Places.{place_from}
use Rattle.sci_core.proofs.WellFormed.WellFormedSteps.{reached_stepping, reached_well, size_either}
use Rattle.sci_policy.proofs.{Targets.{asked_target, waiting_target}}
use Rattle.sci_turn.specs.{Posts.{IsMade}, Moves.{Stage}}
use Rattle.sci_turn.specs.Whole.{Accepts, AcceptsFrom, FindsNoAnswer, InTurn, MakesNone, Replies}
use Rattle.sci_turn.specs.Whole.{UpTo}
use Rattle.sci_turn.proofs.{AlonePosts.{IsAlone, made_alone, still_alone}, Working.{other_stays, stepped}}
use Rattle.sci_fair.specs.Between.{AreShort, IsBetweenTurns}
use Rattle.sci_fair.proofs.{Looks.{in_turn_so, up_to_so}, OneStep.{SetsOne, TakesOne, sends_one, takes_one}}
use Rattle.sci_fair.proofs.{ReadCarries.{AsksAs, ask_as}, ReadSteps.{replied_sent}}
use Rattle.sci_words.specs.declared.event.Event.TheVariants as event

-- ---- the machine at a stage of a turn of a node that has it for itself

abbrev pub On : ℕ → (Core → Type 0) → Stage → Type 0
On n P s = IsAlone n s.post × P s.post.core

pub on_none : (n : ℕ) (P : Core → Type 0) (a b : Stage) → On n P a → MakesNone a b → On n P b
on_none n P a b on none =
    let still = still_alone n a.post b.post on.0 none.still in
    (still.is, subst P (sym still.same) on.1)

pub on_made : (n : ℕ) (P Q : Core → Type 0) (a b : Stage) (e : ℕ → Event) → On n P a → IsMade a.post (e a.post.me) b.post
    → (stepping a.post.core (e n) ≡ Some b.post.core → Q b.post.core) → On n Q b
on_made n P Q a b e on made then_ =
    let alone = made_alone n a.post b.post (e a.post.me) on.0 made in
    (alone.is, then_ (subst (λ (m : ℕ). stepping a.post.core (e m) ≡ Some b.post.core) on.0.me alone.steps))

-- what a turn of node n leaves
pub record Since (n : ℕ) (old core : Core) : Type 0 where
  pub reached : IsReached core
  pub size : core.size ≡ old.size
  pub others : (m : ℕ) → m ≢ n → node_at core m ≡ node_at old m

pub since_step : (n : ℕ) (old core new : Core) (e : Event) → Since n old core → node_of e ≡ n → stepping core e ≡ Some new → Since n old new
since_step n old core new e since own steps = record {
  reached = reached_stepping core new e since.reached steps;
  size = size_either {T = ℕ} {E = ℕ} (Ok 0) core new e since.reached steps (λ refused. (let clash : false ≡ true = refused in cc)) ∙ since.size;
  others = λ m other. other_stays core new e m (λ is. other (sym is ∙ own)) steps ∙ since.others m other;
}

-- a bound for the nodes of one is one for those of the other
pub here : (n : ℕ) (old core : Core) (a : ℕ) → Since n old core → a < old.size.nodes → a < core.size.nodes
here n old core a since below = subst (λ (z : Size). a < z.nodes) (sym since.size) below

-- ---- answers are accepted

pub record HasAccepted (n : ℕ) (old core : Core) : Type 0 where
  pub since : Since n old core
  pub free : (node_at core n).waiting ≡ None
  pub requests : (a b : ℕ) → a < old.size.nodes → b < old.size.nodes → lane_of core Requests a b ≡ lane_of old Requests a b
  pub answers : (a b : ℕ) → a < old.size.nodes → b < old.size.nodes → b ≢ n → lane_of core Answers a b ≡ lane_of old Answers a b
  pub shorter : (a : ℕ) → a < old.size.nodes → length (lane_of core Answers a n) ≤ length (lane_of old Answers a n)

accepts_one : (n from : ℕ) (core new : Core) → IsReached core → n < core.size.nodes → stepping core (event.Accept from n) ≡ Some new
    → TakesOne core new n from Answers (node_accepting (node_at core n))
accepts_one n from core new reached some steps =
    takes_one core new n from Answers (node_accepting (node_at core n)) reached some
    (stepped core new n (event.Accept from n) (side (node_at core n) (event.Accept from n)) some refl refl steps)

shorter_by : (letter : Letter) (rest lane now : List Letter) → lane ≡ letter ∷ rest → now ≡ rest → length now < length lane
shorter_by letter rest lane now was is = grind arith

pub accept_step : (n from : ℕ) (old core new : Core) → n < old.size.nodes → HasAccepted n old core → stepping core (event.Accept from n) ≡ Some new
    → HasAccepted n old new
accept_step n from old core new some so steps =
    let now = here n old core n so.since some in
    let one = accepts_one n from core new so.since.reached now steps in
    let does = of_some (AcceptedAs (node_at core n) one.front.letter) (node_accepting (node_at core n) one.front.letter) one.front.next one.front.takes
    (accept_as (node_at core n) one.front.letter) in
    record {
      since = since_step n old core new (event.Accept from n) so.since refl steps;
      free = ap (λ (part : NodeOf). part.waiting) one.node ∙ (ap (λ (part : NodeOf). part.waiting) (sym does.then_) ∙ so.free);
      requests = λ a b f t. one.sets.rest Requests a b (here n old core a so.since f) (here n old core b so.since t) (λ k. cc) ∙ so.requests a b f t;
      answers = λ a b f t other.
          one.sets.rest Answers a b (here n old core a so.since f) (here n old core b so.since t) (λ k c d. other d) ∙ so.answers a b f t other;
      shorter = λ a f. elim (cases_eq a from) [
        | inl same ↦
            let less = shorter_by one.front.letter one.front.rest (lane_of core Answers from n) (lane_of new Answers from n) one.front.front one.sets.now in
            let was = so.shorter a f in
            subst (λ (k : ℕ). length (lane_of new Answers k n) ≤ length (lane_of old Answers k n)) (sym same)
            (let before : length (lane_of core Answers from n) ≤ length (lane_of old Answers from n) =
            subst (λ (k : ℕ). length (lane_of core Answers k n) ≤ length (lane_of old Answers k n)) same was in
            omega (arith, less, before))
        | inr other ↦
            subst (λ (l : List Letter). length l ≤ length (lane_of old Answers a n))
            (sym (one.sets.rest Answers a n (here n old core a so.since f) now (λ k c d. other c))) (so.shorter a f)
      ];
    }

pub accepts_on : (n from : ℕ) (old : Core) (a b : Stage) → n < old.size.nodes → On n (HasAccepted n old) a → Accepts from a b → On n (HasAccepted n old) b
accepts_on n from old a b some on makes =
    on_made n (HasAccepted n old) (HasAccepted n old) a b (λ m. event.Accept from m) on makes.made
    (λ steps. accept_step n from old a.post.core b.post.core some on.1 steps)

-- up to four answers from a node are all, if no more have come
none_of_none : (lane : List Letter) → length lane ≤ 0 → lane ≡ []
none_of_none [] few = refl
none_of_none (letter ∷ lane) few = absurd (omega (arith, few))

found_none : (n from : ℕ) (old : Core) (a b : Stage) → On n (HasAccepted n old) a → FindsNoAnswer from a b → lane_of b.post.core Answers from n ≡ []
found_none n from old a b on none = grind (arith, on_none)

emptied_one : (k n from : ℕ) (old : Core) (a b : Stage) → n < old.size.nodes → from < old.size.nodes → On n (HasAccepted n old) a
    → length (lane_of a.post.core Answers from n) ≤ k → UpTo k (Accepts from) (FindsNoAnswer from) a b → lane_of b.post.core Answers from n ≡ []
emptied_one zero n from old a b some f on few same =
    subst (λ (s : Stage). lane_of s.post.core Answers from n ≡ []) same (none_of_none (lane_of a.post.core Answers from n) few)
emptied_one (suc k) n from old a b some f on few (inl ends) = found_none n from old a b on ends
emptied_one (suc k) n from old a b some f on few (inr rest) =
    let mid = rest.0 in
    let alone = made_alone n a.post mid.post (event.Accept from a.post.me) on.0 rest.1.made in
    let steps = subst (λ (m : ℕ). stepping a.post.core (event.Accept from m) ≡ Some mid.post.core) on.0.me alone.steps in
    let one = accepts_one n from a.post.core mid.post.core on.1.since.reached (here n old a.post.core n on.1.since some) steps in
    let less = shorter_by one.front.letter one.front.rest (lane_of a.post.core Answers from n) (lane_of mid.post.core Answers from n) one.front.front
    one.sets.now in
    emptied_one k n from old mid b some f (accepts_on n from old a mid some on rest.1) (omega (arith, few, less)) rest.2

-- and an empty lane stays empty
record HasEmptied (n j : ℕ) (old core : Core) : Type 0 where
  so : HasAccepted n old core
  none : lane_of core Answers j n ≡ []

empty_step : (n from j : ℕ) (old core new : Core) → n < old.size.nodes → j < old.size.nodes → HasEmptied n j old core
    → stepping core (event.Accept from n) ≡ Some new → HasEmptied n j old new
empty_step n from j old core new some f is steps =
    let now = here n old core n is.so.since some in
    let one = accepts_one n from core new is.so.since.reached now steps in
    record {
      so = accept_step n from old core new some is.so steps;
      none = elim (cases_eq j from) [
        | inl same ↦
            let clash : [] ≡ one.front.letter ∷ one.front.rest =
            sym is.none ∙ (ap (λ (k : ℕ). lane_of core Answers k n) same ∙ one.front.front) in cc
        | inr other ↦ one.sets.rest Answers j n (here n old core j is.so.since f) now (λ k c d. other c) ∙ is.none
      ];
    }

pub emptied_all : (n : ℕ) (froms : List ℕ) (old : Core) (a b : Stage) → n < old.size.nodes → AreShort old
    → AllByRecursion (λ from. from < old.size.nodes) froms → On n (HasAccepted n old) a → InTurn AcceptsFrom froms a b
    → AllByRecursion (λ from. lane_of b.post.core Answers from n ≡ []) froms
emptied_all n [] old a b some short below on steps = tt
emptied_all n (from ∷ froms) old a b some short below on steps =
    let mid = steps.0 in
    let then_ : On n (HasAccepted n old) mid = up_to_so 4 (Accepts from) (FindsNoAnswer from) (On n (HasAccepted n old))
    (λ c d is accepts. accepts_on n from old c d some is accepts) (λ c d is none. on_none n (HasAccepted n old) c d is none.0) a mid on steps.1 in
    let less = on.1.shorter from below.0 in
    let few = short (lane_place old.size.nodes Answers from n) in
    let none = emptied_one 4 n from old a mid some below.0 on (omega (arith, less, few)) steps.1 in
    let stays : On n (HasEmptied n from old) b = in_turn_so AcceptsFrom (On n (HasEmptied n from old)) (λ i c d is ups.
    up_to_so 4 (Accepts i) (FindsNoAnswer i) (On n (HasEmptied n from old))
    (λ e f on_e makes. on_made n (HasEmptied n from old) (HasEmptied n from old) e f (λ m. event.Accept i m) on_e makes.made
    (λ one. empty_step n i from old e.post.core f.post.core some below.0 on_e.1 one))
    (λ e f on_e finds. on_none n (HasEmptied n from old) e f on_e finds.0) c d is ups) froms mid b (then_.0, record { so = then_.1; none = none }) steps.2 in
    (stays.1.none, emptied_all n froms old mid b some short below.1 then_ steps.2)

-- ---- requests are taken

-- the packets of one node's requests to node n, and of the answers to them
abbrev load : Core → ℕ → ℕ → ℕ
load core n j = length (lane_of core Requests j n) + length (lane_of core Answers n j)

-- beside what waits at the node
pub record Serves (n : ℕ) (old core : Core) : Type 0 where
  pub since : Since n old core
  pub answered : (b : ℕ) → b < old.size.nodes → b ≢ n → lane_of core Answers b n ≡ []
  pub requests : (a b : ℕ) → a < old.size.nodes → b < old.size.nodes → b ≢ n → lane_of core Requests a b ≡ lane_of old Requests a b
  pub answers : (a b : ℕ) → a < old.size.nodes → b < old.size.nodes → a ≢ n → b ≢ n → lane_of core Answers a b ≡ lane_of old Answers a b

pub record HasTaken (n : ℕ) (old core : Core) : Type 0 where
  pub so : Serves n old core
  pub free : (node_at core n).waiting ≡ None
  pub room : (j : ℕ) → j < old.size.nodes → load core n j ≤ 4

-- with the answer to a request from node j
pub record HasServed (n j : ℕ) (old core : Core) : Type 0 where
  pub so : Serves n old core
  pub sender : j < old.size.nodes
  pub answer : Letter
  pub waits : (node_at core n).waiting ≡ Some answer
  pub to : answer.target ≡ j
  pub room : (i : ℕ) → i < old.size.nodes → load core n i ≤ 4
  pub less : load core n j < 4

serves_step : (n from : ℕ) (old core new : Core) (e : Event) (lane : List Letter) → n < old.size.nodes → from < old.size.nodes → Serves n old core
    → node_of e ≡ n
    → stepping core e ≡ Some new → SetsOne core new Requests from n lane → Serves n old new
serves_step n from old core new e lane some f so own steps sets = record {
  since = since_step n old core new e so.since own steps;
  answered = λ b t other. sets.rest Answers b n (here n old core b so.since t) (here n old core n so.since some) (λ k. cc) ∙ so.answered b t other;
  requests = λ a b g t other.
      sets.rest Requests a b (here n old core a so.since g) (here n old core b so.since t) (λ k c d. other d) ∙ so.requests a b g t other;
  answers = λ a b g t other another.
      sets.rest Answers a b (here n old core a so.since g) (here n old core b so.since t) (λ k. cc) ∙ so.answers a b g t other another;
}

-- what a request's sender was
pub front_source : (core : Core) (from n : ℕ) (letter : Letter) (rest : List Letter) → IsReached core → from < core.size.nodes → n < core.size.nodes
    → lane_of core Requests from n ≡ letter ∷ rest → letter.source ≡ from
front_source core from n letter rest reached f t front =
    let place = lane_place core.size.nodes Requests from n in
    let first = All-head (IsInLane core.size.nodes core.size.lines place) letter rest
    (subst (All (IsInLane core.size.nodes core.size.lines place)) front ((reached_well core reached).each_lane place)) in
    first.from ∙ place_from core.size.nodes Requests from n f t

-- who served a request has an answer to it
record Answers_it (request : Letter) (next : NodeOf) : Type 0 where
  answer : Letter
  waits : next.waiting ≡ Some answer
  to : answer.target ≡ request.source

served_answers : (node next : NodeOf) (request : Letter) → ServedAs node request next → Answers_it request next
served_answers node next request (At_home served home is made) =
    subst (Answers_it request) made (record { answer = _; waits = refl; to = refl })
served_answers node next request (In_cache served is made) =
    subst (Answers_it request) made (record { answer = _; waits = refl; to = refl })

refused_answers : (node next : NodeOf) (request : Letter) → RefusedAs node request next → Answers_it request next
refused_answers node next request does = subst (Answers_it request) does.then_ (record { answer = _; waits = refl; to = refl })

took_one : (n from : ℕ) (old core new : Core) (e : Event) (taking : Letter → Option NodeOf) → n < old.size.nodes → HasTaken n old core → node_of e ≡ n
    → stepping core e ≡ Some new → (one : TakesOne core new n from Requests taking) → Answers_it one.front.letter one.front.next → HasServed n from old new
took_one n from old core new e taking some so own steps one answers =
    let since = so.so.since in
    let now = here n old core n since some in
    let f : from < old.size.nodes = subst (λ (z : Size). from < z.nodes) since.size one.front.sender in
    let less = shorter_by one.front.letter one.front.rest (lane_of core Requests from n) (lane_of new Requests from n) one.front.front one.sets.now in
    let same = ap length (one.sets.rest Answers n from now one.front.sender (λ k. cc)) in
    let was = so.room from f in
    record {
      so = serves_step n from old core new e one.front.rest some f so.so own steps one.sets;
      sender = f;
      answer = answers.answer;
      waits = ap (λ (part : NodeOf). part.waiting) one.node ∙ answers.waits;
      to = answers.to ∙ front_source core from n one.front.letter one.front.rest since.reached one.front.sender now one.front.front;
      room = λ i g. elim (cases_eq i from) [
        | inl is ↦ subst (λ (k : ℕ). load new n k ≤ 4) (sym is) (omega (arith, less, same, was))
        | inr other ↦
            let requests = ap length (one.sets.rest Requests i n (here n old core i since g) now (λ k c d. other c)) in
            let sent = ap length (one.sets.rest Answers n i now (here n old core i since g) (λ k. cc)) in
            let before = so.room i g in omega (arith, requests, sent, before)
      ];
      less = omega (arith, less, same, was);
    }

pub serve_step : (n from : ℕ) (old core new : Core) → n < old.size.nodes → HasTaken n old core → stepping core (event.Serve from n) ≡ Some new
    → HasServed n from old new
serve_step n from old core new some so steps =
    let node = node_at core n in
    let now = here n old core n so.so.since some in
    let one = takes_one core new n from Requests (node_serving node) so.so.since.reached now
    (stepped core new n (event.Serve from n) (side node (event.Serve from n)) now refl refl steps) in
    took_one n from old core new (event.Serve from n) (node_serving node) some so refl steps one
    (served_answers node one.front.next one.front.letter
    (of_some (ServedAs node one.front.letter) (node_serving node one.front.letter) one.front.next one.front.takes (serve_as node one.front.letter)))

pub refuse_step : (n from : ℕ) (old core new : Core) → n < old.size.nodes → HasTaken n old core → stepping core (event.Refuse from n) ≡ Some new
    → HasServed n from old new
refuse_step n from old core new some so steps =
    let node = node_at core n in
    let now = here n old core n so.so.since some in
    let one = takes_one core new n from Requests (node_refusing node) so.so.since.reached now
    (stepped core new n (event.Refuse from n) (side node (event.Refuse from n)) now refl refl steps) in
    took_one n from old core new (event.Refuse from n) (node_refusing node) some so refl steps one
    (refused_answers node one.front.next one.front.letter
    (of_some (RefusedAs node one.front.letter) (node_refusing node one.front.letter) one.front.next one.front.takes (refuse_as node one.front.letter)))

-- the answer goes out, since its lane has room
pub reply_step : (n j : ℕ) (old core new : Core) → n < old.size.nodes → j < old.size.nodes → HasServed n j old core → stepping core (event.Reply n) ≡ Some new
    → HasTaken n old new
reply_step n j old core new some f is steps =
    let node = node_at core n in
    let since = is.so.since in
    let now = here n old core n since some in
    let one = sends_one core new n Answers (node_replying node) since.reached now
    (λ sent there. waiting_target core n sent.1 since.reached now (replied_sent node node.waiting sent refl there))
    (stepped core new n (event.Reply n) (side node (event.Reply n)) now refl refl steps) in
    let sent = one.out.sent in
    let same : sent.1 ≡ is.answer =
    (let both : Some sent.1 ≡ Some is.answer = sym (replied_sent node node.waiting sent refl one.out.there) ∙ is.waits in cc) in
    let to : sent.1.target ≡ j = ap (λ (l : Letter). l.target) same ∙ is.to in
    let does = of_some (λ (s : NodeOf × Letter). (record node { waiting = None }) ≡ s.0) (node_replying node) sent one.out.there (reply_as node) in
    let longer : length (lane_of new Answers n j) ≡ length (lane_of core Answers n j) + 1 =
    subst (λ (k : ℕ). length (lane_of new Answers n k) ≡ length (lane_of core Answers n k) + 1) to
    (ap length one.sets.now ∙ length-append (lane_of core Answers n sent.1.target) (sent.1 ∷ [])) in
    record {
      so = record {
        since = since_step n old core new (event.Reply n) since refl steps;
        answered = λ b t other.
            one.sets.rest Answers b n (here n old core b since t) now (λ k c d. other c) ∙ is.so.answered b t other;
        requests = λ a b g t other.
            one.sets.rest Requests a b (here n old core a since g) (here n old core b since t) (λ k. cc) ∙ is.so.requests a b g t other;
        answers = λ a b g t other another.
            one.sets.rest Answers a b (here n old core a since g) (here n old core b since t) (λ k c d. other c) ∙ is.so.answers a b g t other another;
      };
      free = ap (λ (part : NodeOf). part.waiting) (one.node ∙ sym does);
      room = λ i g. (
          let requests = ap length (one.sets.rest Requests i n (here n old core i since g) now (λ k. cc)) in
          elim (cases_eq i j) [
            | inl equal ↦ subst (λ (k : ℕ). load new n k ≤ 4) (sym equal)
                (let here_ = subst (λ (k : ℕ). length (lane_of new Requests k n) ≡ length (lane_of core Requests k n)) equal requests in
                let less = is.less in omega (arith, here_, longer, less))
            | inr other ↦
                let sent_ = ap length (one.sets.rest Answers n i now (here n old core i since g) (λ k c d. other (d ∙ to))) in
                let before = is.room i g in omega (arith, requests, sent_, before)
          ]
          );
    }

pub held_never : (n j : ℕ) (old core : Core) → HasServed n j old core
    → IfSome (node_at core n).waiting (λ answer. 4 ≤ length (lane_of core Answers n answer.target)) → ⊥
held_never n j old core is held = grind (arith, of_some)

-- ---- the node asks

pub record HasAsked (n : ℕ) (old core : Core) : Type 0 where
  pub since : Since n old core
  pub free : (node_at core n).waiting ≡ None
  pub answered : (b : ℕ) → b < old.size.nodes → b ≢ n → lane_of core Answers b n ≡ []
  pub apart : (a b : ℕ) → a < old.size.nodes → b < old.size.nodes → a ≢ n → b ≢ n
      → (lane_of core Requests a b ≡ lane_of old Requests a b) × (lane_of core Answers a b ≡ lane_of old Answers a b)
  pub room : (j : ℕ) → j < old.size.nodes → j ≢ n → load core n j ≤ 4

pub ask_step : (n line : ℕ) (k : AskKind) (old core new : Core) → n < old.size.nodes → HasAsked n old core → stepping core (event.Ask n line k) ≡ Some new
    → HasAsked n old new
ask_step n line k old core new some so steps =
    let node = node_at core n in
    let since = so.since in
    let now = here n old core n since some in
    let one = sends_one core new n Requests (node_asking node line k) since.reached now
    (λ sent there. asked_target core n line k sent since.reached now there)
    (stepped core new n (event.Ask n line k) (side node (event.Ask n line k)) now refl refl steps) in
    let told = of_some (AsksAs node line k) (node_asking node line k) one.out.sent one.out.there (ask_as node line k) in
    record {
      since = since_step n old core new (event.Ask n line k) since refl steps;
      free = ap (λ (part : NodeOf). part.waiting) (one.node ∙ sym told.next) ∙ so.free;
      answered = λ b t other. one.sets.rest Answers b n (here n old core b since t) now (λ c. cc) ∙ so.answered b t other;
      apart = λ a b f t other another. (
          let was = so.apart a b f t other another in (
            one.sets.rest Requests a b (here n old core a since f) (here n old core b since t) (λ c d e. other d) ∙ was.0,
            one.sets.rest Answers a b (here n old core a since f) (here n old core b since t) (λ c. cc) ∙ was.1,
          )
          );
      room = λ j f other. (
          let requests = ap length (one.sets.rest Requests j n (here n old core j since f) now (λ c d e. other d)) in
          let sent = ap length (one.sets.rest Answers n j now (here n old core j since f) (λ c. cc)) in
          let before = so.room j f other in omega (arith, requests, sent, before)
          );
    }

-- ---- the turn

-- no answer waits to go out
pub replies_quiet : (n : ℕ) (old : Core) (a b : Stage) → n < old.size.nodes → IsAlone n a.post → HasAccepted n old a.post.core → Replies a b → MakesNone a b
replies_quiet n old a b some is so (inr none) = none.0
replies_quiet n old a b some is so (inl makes) =
    let alone = made_alone n a.post b.post (event.Reply a.post.me) is makes.made in
    let steps = subst (λ (m : ℕ). stepping a.post.core (event.Reply m) ≡ Some b.post.core) is.me alone.steps in
    let node = node_at a.post.core n in
    let now = here n old a.post.core n so.since some in
    let one = sends_one a.post.core b.post.core n Answers (node_replying node) so.since.reached now
    (λ sent there. waiting_target a.post.core n sent.1 so.since.reached now (replied_sent node node.waiting sent refl there))
    (stepped a.post.core b.post.core n (event.Reply n) (side node (event.Reply n)) now refl refl steps) in
    absurd (let clash : None ≡ Some one.out.sent.1 = sym so.free ∙ replied_sent node node.waiting one.out.sent refl one.out.there in cc)

pub all_below : (nodes count first : ℕ) → first + count ≤ nodes → AllByRecursion (λ from. from < nodes) (range_with_len first count)
all_below nodes zero first most = tt
all_below nodes (suc count) first most = (omega (arith, most), all_below nodes count (first + 1) (omega (arith, most)))

pub of_range : (P : ℕ → Type 0) (count first from : ℕ) → first ≤ from → from < first + count → AllByRecursion P (range_with_len first count) → P from
of_range P zero first from some few all = absurd (omega (arith, some, few))
of_range P (suc count) first from some few all = elim (cases_eq first from) [
  | inl same ↦ subst P same all.0
  | inr other ↦ of_range P count (first + 1) from (omega (arith, some, other)) (omega (arith, few)) all.1
]

pub taken_first : (n : ℕ) (old core : Core) → n < old.size.nodes → IsBetweenTurns old → HasAccepted n old core
    → ((b : ℕ) → b < old.size.nodes → lane_of core Answers b n ≡ []) → HasTaken n old core
taken_first n old core some between so none = grind (arith, cases_eq)

pub asked_first : (n : ℕ) (old core : Core) → n < old.size.nodes → HasTaken n old core → HasAsked n old core
asked_first n old core some is = grind arith

pub between_last : (n : ℕ) (old new : Core) → n < old.size.nodes → IsBetweenTurns old → AreShort new → HasAsked n old new → IsBetweenTurns new
between_last n old new some between short is = grind (arith, cases_eq)
