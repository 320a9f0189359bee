-- A turn that reports nothing has found nothing to do; and then nothing is pending, or an answer of another is awaited.
use Rattle.std.proofs.Common.{◌≡◌, ◌≤◌, ◌<◌, ℕ, true, arith, List, [], ◌∷◌, length, Option, Some, None, refl, sym, subst, ◌∙◌, inl, inr}
use Rattle.std.proofs.lemmas.Bool.{cases_lt}
use Rattle.std.specs.Prelude.{IfSome, IsSome, slice_get}
use Rattle.sci_words.specs.declared.event.{AskKind.{AskKind}, Event.{Event}}
use Rattle.sci_cache.specs.{State.{waits}, Cache.{Letter}}
use Rattle.sci_core.specs.declared.lane.LaneKind.TheVariants.{Answers, Requests}
use Rattle.sci_core.specs.{Core.{Core, lane_of, lane_place, node_at}, Node.{NodeOf, node_asking}}
use Rattle.sci_core.specs.{Reached.{IsReached}, Size.{Size}, WellFormed.{IsInLane}}
use Rattle.sci_core.proofs.{Step.{Applied.{front_holds}, Places.{place_from}}, Settling.Drains.{some_node}}
use Rattle.sci_core.proofs.{Tidy.Enabled.{request_enabled}, Basics.Options.{of_some, found}}
use Rattle.sci_core.proofs.WellFormed.WellFormedSteps.{reached_well}
use Rattle.sci_policy.specs.declared.{want.Want.{Want, TheVariants.{Perform, Ask}}}
use Rattle.sci_policy.specs.Lines.{state_on}
use Rattle.sci_policy.specs.Policy.{IsEnabledWant, PolicyOf, decided, next_wanted, ticked, turned}
use Rattle.sci_policy.specs.Rest.{AwaitsOthers, Awaits, MayIdle, MayRest, NothingPending, NothingPends}
use Rattle.sci_policy.specs.Turn.{decided_event}
use Rattle.sci_policy.proofs.{Alone.{alone_rests, first_only}, Deciding.{keep_of, keeps_no_own}, AlwaysWants.{may_rest}}
use Rattle.sci_policy.proofs.{Targets.{asked_target, waiting_target}, Wants.{wanted_enabled}}
use Rattle.sci_turn.specs.Posts.{IsFull, IsPost, OthersLead, PostOf, node_in, nodes_in}
use Rattle.sci_turn.specs.Moves.{taken_next, taking_event}
use Rattle.sci_turn.specs.Idle.{IsHeldUp, IsIdleTurn, WasSo}

-- ---- a machine of one node

-- no other node makes an event
alone_leads : (n : ℕ) (old : Core) (others : List Event) (new : Core) → n ≡ 0 → old.size.nodes ≡ 1 → OthersLead n old others new → old ≡ new
alone_leads n old [] new first one lead = lead
alone_leads n old (e ∷ others) new first one lead = grind (arith, some_node, first_only)

pub record AloneIdle (policy : PolicyOf) (core : Core) : Type 0 where
  pub reply : IfSome (node_at core 0).waiting (λ answer. 4 ≤ length (lane_of core Answers 0 answer.target))
  pub answers : lane_of core Answers 0 0 ≡ []
  pub requests : taken_next policy core 0 0 ≡ None

some_front : (lane : List Letter) → 1 ≤ length lane → (letter : Letter) × (rest : List Letter) × (lane ≡ letter ∷ rest)
some_front [] some = absurd (omega arith)
some_front (letter ∷ rest) some = (letter, rest, refl)

pub no_front : (lane : List Letter) → slice_get lane 0 ≡ None → lane ≡ []
no_front [] e = refl
no_front (letter ∷ rest) e = cc

free_by : (core : Core) (waiting : Option Letter) → IfSome waiting (λ answer. 4 ≤ length (lane_of core Answers 0 answer.target))
    → ((answer : Letter) → waiting ≡ Some answer → lane_of core Answers 0 answer.target ≡ []) → waiting ≡ None
free_by core None full empty = refl
free_by core (Some answer) full empty = grind arith

own_taken : (policy : PolicyOf) (node : NodeOf) (request : Letter) (n : ℕ) → request.source ≡ node.cache.me
    → decided_event (decided policy node request) n n ≡ None → ⊥
own_taken policy node request n own none = keeps_no_own policy node request own (keep_of (decided policy node request) n n none)

taken_if : (policy : PolicyOf) (node : NodeOf) (n : ℕ) (front : Option Letter) → node.waiting ≡ None → IfSome front (λ request. request.source ≡ node.cache.me)
    → taking_event policy node n n front ≡ None → front ≡ None
taken_if policy node n None free own none = refl
taken_if policy node n (Some request) free own none = grind (arith, own_taken)

front_own : (P : Letter → Type 0) (lane : List Letter) (front : Option Letter) → slice_get lane 0 ≡ front
    → ((letter : Letter) → slice_get lane 0 ≡ Some letter → P letter) → IfSome front P
front_own P lane None is all = tt
front_own P lane (Some letter) is all = all letter is

-- no line awaits an answer if a node that is alone has nothing to do
alone_idle : (policy : PolicyOf) (core : Core) → IsReached core → core.size.nodes ≡ 1 → AloneIdle policy core → (line : ℕ)
    → waits (state_on (node_at core 0) line) ≡ true → ⊥
alone_idle policy core reached one nothing line awaits =
    let well = reached_well core reached in
    let some : 0 < core.size.nodes = omega arith in
    let node = node_at core 0 in
    let at : (to : ℕ) → to ≡ 0 → lane_of core Answers 0 to ≡ [] = λ to is. subst (λ (t : ℕ). lane_of core Answers 0 t ≡ []) (sym is) nothing.answers in
    let free : node.waiting ≡ None =
    free_by core node.waiting nothing.reply
    (λ answer waiting. at answer.target (first_only answer.target core.size.nodes (waiting_target core 0 answer reached some waiting) one)) in
    let place = lane_place core.size.nodes Requests 0 0 in
    let own : (letter : Letter) → slice_get (lane_of core Requests 0 0) 0 ≡ Some letter → letter.source ≡ node.cache.me = λ letter front.
    (front_holds (IsInLane core.size.nodes core.size.lines place) (lane_of core Requests 0 0) letter front (well.each_lane place)).from
    ∙ (place_from core.size.nodes Requests 0 0 some some ∙ sym (well.each_part 0 some).me) in
    let front = slice_get (lane_of core Requests 0 0) 0 in
    let requests : lane_of core Requests 0 0 ≡ [] =
    no_front (lane_of core Requests 0 0)
    (taken_if policy node 0 front free (front_own (λ request. request.source ≡ node.cache.me) (lane_of core Requests 0 0) front refl own)
    nothing.requests) in
    alone_rests core reached one free requests nothing.answers line awaits

-- what was so at a moment is so still, of a node that is alone
alone_so : (P : Core → ℕ → Type 0) (old new : PostOf) → new.me ≡ 0 → new.core.size.nodes ≡ 1 → WasSo (λ post. P post.core post.me) old new → P new.core 0
alone_so P old new first one was = grind (arith, alone_leads)

alone_nothing : (before after : PolicyOf) (old new : PostOf) → new.me ≡ 0 → new.core.size.nodes ≡ 1 → IsIdleTurn before old after new
    → AloneIdle (turned before) new.core
alone_nothing before after old new first one idle =
    let zero : old.me ≡ 0 = sym idle.still.same.me ∙ first in
    let some : 0 < nodes_in old = subst (λ (s : Size). 0 < s.nodes) idle.still.same.size (omega arith) in
    record {
      reply = alone_so (λ core n. IfSome (node_at core n).waiting (λ answer. 4 ≤ length (lane_of core Answers n answer.target))) old new first one idle.reply;
      answers = alone_so (λ core n. lane_of core Answers 0 n ≡ []) old new first one (idle.answers 0 some);
      requests = alone_so (λ core n. taken_next (turned before) core 0 n ≡ None) old new first one (idle.requests 0 some);
    }

-- ---- any machine

-- a line that awaits an answer awaits one of another node
awaits_others : (before after : PolicyOf) (old new : PostOf) → IsPost new → IsIdleTurn before old after new → (line : ℕ)
    → waits (state_on (node_in new) line) ≡ true → MayIdle (node_in new)
awaits_others before after old new here idle line awaits =
    let core = new.core in
    let some : new.me < core.size.nodes = here.some in
    elim (cases_lt 1 core.size.nodes) [
      | inl others ↦ AwaitsOthers (subst (λ (k : ℕ). 1 < k) (sym ((reached_well core here.reached).each_part new.me some).all) others) line awaits
      | inr alone ↦
          let one : core.size.nodes ≡ 1 = omega arith in
          let first : new.me ≡ 0 = omega arith in
          absurd (alone_idle (turned before) core here.reached one (alone_nothing before after old new first one idle) line
          (subst (λ (m : ℕ). waits (state_on (node_at core m) line) ≡ true) first awaits))
    ]

idle_by : (before after : PolicyOf) (old new : PostOf) → IsPost new → IsIdleTurn before old after new → MayRest (node_in new) → MayIdle (node_in new)
idle_by before after old new here idle (NothingPending none) = NothingPends none
idle_by before after old new here idle (Awaits line awaits) = awaits_others before after old new here idle line awaits

-- a request is under way whose lane is full: its line awaits the answer
held_idle : (before after : PolicyOf) (old new : PostOf) (line : ℕ) (kind : AskKind) → IsPost new → IsIdleTurn before old after new
    → IsHeldUp new (Ask line kind) → IsSome (node_asking (node_in new) line kind) → MayIdle (node_in new)
held_idle before after old new line kind here idle held asks =
    let core = new.core in
    let n = new.me in
    let sent = found (node_asking (node_in new) line kind) asks in
    let to = sent.0.1.target in
    let full : 4 ≤ length (lane_of core Requests n to) =
    of_some (λ (s : NodeOf × Letter). IsFull new Requests s.1.target) (node_asking (node_in new) line kind) sent.0 sent.1 held in
    let front = some_front (lane_of core Requests n to) (omega arith) in
    let waited = (request_enabled core n to here.reached here.some (asked_target core n line kind sent.0 here.reached here.some sent.1)).waited front.0 front.1
    front.2 in
    awaits_others before after old new here idle front.0.line waited.1

idle_wanting : (before after : PolicyOf) (old new : PostOf) (want : Option Want) → IsPost new → IsIdleTurn before old after new
    → next_wanted (turned before) (node_in new) ≡ want → IfSome want (IsHeldUp new) → IfSome want (IsEnabledWant (node_in new)) → MayIdle (node_in new)
idle_wanting before after old new None here idle is held enabled =
    idle_by before after old new here idle
    (may_rest (ticked (turned before) (node_in new)) (node_in new) new.me
    (record { core = new.core; reached = here.reached; some = here.some; here = refl }) is)
idle_wanting before after old new (Some (Perform line)) here idle is held enabled = elim held [ ]
idle_wanting before after old new (Some (Ask line kind)) here idle is held enabled = held_idle before after old new line kind here idle held enabled

pub may_idle : (before after : PolicyOf) (old new : PostOf) → IsPost new → IsIdleTurn before old after new → MayIdle (node_in new)
may_idle before after old new here idle =
    idle_wanting before after old new (next_wanted (turned before) (node_in new)) here idle refl idle.wants
    (wanted_enabled (ticked (turned before) (node_in new)) (node_in new))
