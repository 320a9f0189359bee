-- No event of a turn raises the level of any line of its node, but for the exception. It changes the node by one row of a table.
use Rattle.std.proofs.Common.{◌≡◌, ◌<◌, ℕ, ◌∷◌, All, Bool, true, false, ◌&&◌, ◌||◌, if◌then◌else◌, List, Option, Some, None, refl, sym, ap, subst, rules, arith}
use Rattle.std.proofs.Common.{◌∙◌, not}
use Rattle.std.proofs.lemmas.List.Elements.{All-head}
use Rattle.std.specs.List.{AllByRecursion}
use Rattle.std.specs.Prelude.{IfSome, is_some, slice_get}
use Rattle.sci_words.specs.{declared.event.{AskKind.{AskKind}, Event.{Event}}, Operation.{is_maker}}
use Rattle.sci_packets.specs.declared.body.Body.{Body}
use Rattle.sci_cache.specs.{State.{CacheState, Asking, is_out}, Asking.{Asked, asking}, Accepting.{accepting}}
use Rattle.sci_cache.specs.{Line.{LineState, ask_or_fault, line_asked, line_in, untouched}, Cache.{Letter, cache_asked, has_slot, line_of, with_line}}
use Rattle.sci_core.specs.declared.{lane.LaneKind.TheVariants.{Answers, Requests}, pending.Pending.{Pending}}
use Rattle.sci_core.specs.Core.{Core, lane_of, lane_place, node_at, side, stepping, with_node}
use Rattle.sci_core.specs.Node.{NodeOf, asked_by, lines_of, node_accepting, node_asking, node_refusing, node_replying, node_serving, pending_on}
use Rattle.sci_core.specs.{Reached.{IsReached}, Sharing.{asker_of}, WellFormed.{IsInLane}}
use Rattle.sci_core.proofs.{Step.Places.{place_answers, place_to}, Tidy.TidySteps.{answer_asker}, WellFormed.WellFormedSteps.{reached_well}}
use Rattle.sci_core.proofs.Basics.{Lists.{at_place_set}, Options.{if_below, of_some}}
use Rattle.sci_core.proofs.Step.NodeSides.{AcceptedAs, At_home, In_cache, RefusedAs, ServedAs, accept_as, refuse_as, reply_as, serve_as}
use Rattle.sci_policy.specs.declared.decision.Decision.{Decision}
use Rattle.sci_policy.specs.{Lines.{is_head, is_maker_of, state_on}, Turn.{decided_event}}
use Rattle.sci_policy.specs.Policy.{PolicyOf, decided, has, is_cread, next_policy}
use Rattle.sci_turn.specs.Moves.{IsOwn, taking_event}
use Rattle.sci_turn.proofs.Working.{own_node, stepped}
use Rattle.sci_fair.specs.Rank.{IsHeldFor, answers_well, fits_read, never_rises, used_after, work_in, work_on}
use Rattle.sci_fair.specs.Reads.{FitsRead, ReadsFit}
use Rattle.sci_fair.proofs.{RankTables.{accepting_keeps, asking_keeps, same_state, serving_keeps}, Suits.{AskSuits, wanted_suits}, Taking.{sent_out, took}}
use Rattle.sci_fair.proofs.Used.{UsedAsk, asked_used, fewer_after}
use Rattle.sci_policy.specs.declared.decision.Decision.TheVariants as decision
use Rattle.sci_words.specs.declared.event.Event.TheVariants as event

-- ---- one node

-- The work is the same, and no level rises. Of the lines that were used this is said before and after.
pub record LevelKept (before after : List Bool) (old new : NodeOf) : Type 0 where
  pub work : (line : ℕ) → pending_on new line ≡ pending_on old line
  pub level : (line : ℕ) → never_rises (has before line) (has after line) (work_on old line) (state_on old line) (state_on new line) ≡ true

-- one line gets another state
line_kept : (used : List Bool) (node : NodeOf) (line : ℕ) (new : LineState)
    → never_rises (has used line) (has used line) (work_on node line) (state_on node line) new.state ≡ true → (k : ℕ)
    → never_rises (has used k) (has used k) (work_on node k) (state_on node k) (line_of (with_line node.cache line new) k).state ≡ true
line_kept used node line new lower =
    at_place_set (λ (k : ℕ) (l : LineState). never_rises (has used k) (has used k) (work_on node k) (state_on node k) l.state ≡ true) node.cache.lines line new
    untouched
    (λ k. same_state (has used k) (work_on node k) (state_on node k)) lower

-- ---- no Cread is served for the head of a pending maker, unless the line was used

held_bits : (cread drains head : Bool) → (cread && (drains || (head && true))) ≡ false → (cread && head) ≡ false
held_bits cread drains head is = search rules

served_if : (keep refuse : Bool) → (if keep then decision.Keep else if refuse then decision.Refuse else decision.Serve) ≡ decision.Serve → refuse ≡ false
served_if keep refuse is = search rules

held_last : (last : Bool) → not (last && false) ≡ true
held_last last = search rules

held_work : (used last b cread drains : Bool) (s : CacheState) (request : Body) → is_cread request ≡ cread
    → (cread && (drains || (is_head s && (b && not (last && used))))) ≡ false → IsHeldFor used (Some b) s request
held_work true last b cread drains s request is none = tt
held_work false last true cread drains s request is none = grind (arith, held_bits, held_last)
held_work false last false cread drains s request is none = tt

held_by : (used last : Bool) (o : Option Pending) (cread drains : Bool) (s : CacheState) (request : Body) → is_cread request ≡ cread
    → (cread && (drains || (is_head s && (is_maker_of o && not (last && used))))) ≡ false → IsHeldFor used (work_in o) s request
held_by true last o cread drains s request is none = tt
held_by false last None cread drains s request is none = tt
held_by false last (Some p) cread drains s request is none = held_work false last (is_maker p.op) cread drains s request is none

pub serve_held : (policy : PolicyOf) (node : NodeOf) (request : Letter) → decided policy node request ≡ decision.Serve
    → IsHeldFor (has policy.used request.line) (work_on node request.line) (state_on node request.line) request.body
serve_held policy node request serves = grind (arith, held_by, served_if)

-- ---- each side

served_kept : (used : List Bool) (node next : NodeOf) (request : Letter)
    → IsHeldFor (has used request.line) (work_on node request.line) (state_on node request.line) request.body → ServedAs node request next
    → LevelKept used used node next
served_kept used node next request held (At_home served home is made) =
    subst (LevelKept used used node) made
    (record { work = λ line. refl; level = λ line. same_state (has used line) (work_on node line) (state_on node line) })
served_kept used node next request held (In_cache served is made) =
    let u = has used request.line in
    let lower = of_some (λ (r : CacheState × Body). never_rises u u (work_on node request.line) (state_on node request.line) r.0 ≡ true) _ served is
    (serving_keeps u (work_on node request.line) (state_on node request.line) request.source request.body held) in
    subst (LevelKept used used node) made
    (record { work = λ line. refl; level = line_kept used node request.line (line_in (line_of node.cache request.line) served.0) lower })

accepted_kept : (used : List Bool) (node next : NodeOf) (answer : Letter)
    → answers_well (work_on node answer.line) (state_on node answer.line) answer.body ≡ true → AcceptedAs node answer next → LevelKept used used node next
accepted_kept used node next answer fits does =
    let u = has used answer.line in
    let lower = of_some (λ (s : CacheState). never_rises u u (work_on node answer.line) (state_on node answer.line) s ≡ true)
    (accepting (state_on node answer.line) answer.body) does.state does.accepts
    (accepting_keeps u (work_on node answer.line) (state_on node answer.line) answer.body fits) in
    subst (LevelKept used used node) does.then_
    (record { work = λ line. refl; level = line_kept used node answer.line (line_in (line_of node.cache answer.line) does.state) lower })

well_if : (work : Option Bool) (s : CacheState) (answer : Body) → (s ≡ Asking → fits_read work answer ≡ true) → answers_well work s answer ≡ true
well_if work Asking answer fits = fits refl
well_if work _ answer fits = refl

-- the front of a lane of answers fits what its taker reads for
front_fits : (core : Core) (from n : ℕ) (letter : Letter) (rest : List Letter) → IsReached core → ReadsFit core → from < core.size.nodes → n < core.size.nodes
    → lane_of core Answers from n ≡ letter ∷ rest
    → answers_well (work_on (node_at core n) letter.line) (state_on (node_at core n) letter.line) letter.body ≡ true
front_fits core from n letter rest reached fit f t front =
    let place = lane_place core.size.nodes Answers from n in
    let first = All-head (IsInLane core.size.nodes core.size.lines place) letter rest
    (subst (All (IsInLane core.size.nodes core.size.lines place)) front ((reached_well core reached).each_lane place)) in
    let asker : asker_of letter ≡ n =
    answer_asker letter (first.answer (place_answers core.size.nodes from n)).answers ∙ (first.to ∙ place_to core.size.nodes Answers from n t) in
    let fits : FitsRead core letter = (subst (AllByRecursion (FitsRead core)) front (fit.lanes place)).0 in
    well_if (work_on (node_at core n) letter.line) (state_on (node_at core n) letter.line) letter.body (λ asking.
    subst (λ (m : ℕ). fits_read (work_on (node_at core m) letter.line) letter.body ≡ true) asker
    (fits (subst (λ (m : ℕ). state_on (node_at core m) letter.line ≡ Asking) (sym asker) asking)))

-- ---- what is asked

-- a line that isn't used any more stands no higher
less_used : (before after : Bool) (work : Option Bool) (s : CacheState) → (after ≡ true → before ≡ true) → never_rises before after work s s ≡ true
less_used before false work s fewer = search rules
less_used true true work s fewer = same_state true work s
less_used false true work s fewer = let clash : false ≡ true = fewer refl in cc

-- the line that is asked about gets another state, and the others stay
asked_lines : (before after : List Bool) (node : NodeOf) (line : ℕ) (kind : AskKind) (new : LineState) → UsedAsk line kind before after
    → never_rises (has before line) (used_after kind (has before line)) (work_on node line) (state_on node line) new.state ≡ true → (k : ℕ)
    → never_rises (has before k) (has after k) (work_on node k) (state_on node k) (line_of (with_line node.cache line new) k).state ≡ true
asked_lines before after node line kind new used lower =
    at_place_set (λ (k : ℕ) (l : LineState). never_rises (has before k) (has after k) (work_on node k) (state_on node k) l.state ≡ true)
    node.cache.lines line new untouched
    (λ k. less_used (has before k) (has after k) (work_on node k) (state_on node k) (fewer_after line kind before after used k))
    (subst (λ (u : Bool). never_rises (has before line) u (work_on node line) (state_on node line) new.state ≡ true) (sym used.own) lower)

made_kept : (before after : List Bool) (node : NodeOf) (line : ℕ) (k : AskKind) (lacks : Bool) (made : Option Asked) → UsedAsk line k before after
    → IfSome made (λ (a : Asked). never_rises (has before line) (used_after k (has before line)) (work_on node line) (state_on node line) a.next ≡ true)
    → IfSome (asked_by node (cache_asked node.cache line (ask_or_fault made lacks))) (λ (sent : NodeOf × Letter). LevelKept before after node sent.0)
made_kept before after node line k lacks None used lower = tt
made_kept before after node line k true (Some asked) used lower = tt
made_kept before after node line k false (Some asked) used lower =
    record { work = λ l. refl; level = asked_lines before after node line k (line_asked (line_of node.cache line) asked) used lower }

asked_kept : (before after : List Bool) (node : NodeOf) (line : ℕ) (k : AskKind) → AskSuits node line k → UsedAsk line k before after
    → IfSome (node_asking node line k) (λ (sent : NodeOf × Letter). LevelKept before after node sent.0)
asked_kept before after node line k suits used =
    let state = state_on node line in
    let made = asking state k in
    let lower = asking_keeps (has before line) (work_on node line) state k suits.asks suits.idle in
    if_below line (lines_of node) (λ (sent : NodeOf × Letter). LevelKept before after node sent.0)
    (asked_by node (cache_asked node.cache line (ask_or_fault made (is_out state && not (has_slot node.cache)))))
    (λ below. made_kept before after node line k (is_out state && not (has_slot node.cache)) made used lower)

-- ---- each event

-- the request that a policy serves
decided_serve : (d : Decision) (from n : ℕ) → decided_event d from n ≡ Some (event.Serve from n) → d ≡ decision.Serve
decided_serve d from n is = search rules

serves_it : (policy : PolicyOf) (node : NodeOf) (from n : ℕ) (letter : Letter) (waits : Bool)
    → (if waits then None else decided_event (decided policy node letter) from n) ≡ Some (event.Serve from n) → decided policy node letter ≡ decision.Serve
serves_it policy node from n letter true is = cc
serves_it policy node from n letter false is = decided_serve (decided policy node letter) from n is

-- the node has become another one
own_kept : (core new : Core) (n : ℕ) (next : NodeOf) (before after : List Bool) → IsReached core → n < core.size.nodes
    → node_at new n ≡ node_at (with_node core n next) n → LevelKept before after (node_at core n) next
    → LevelKept before after (node_at core n) (node_at new n)
own_kept core new n next before after reached some parts kept =
    subst (LevelKept before after (node_at core n)) (sym (parts ∙ own_node core n next reached some)) kept

pub event_kept : (core new : Core) (n : ℕ) (before after : PolicyOf) (e : Event) → IsReached core → ReadsFit core → n < core.size.nodes
    → IsOwn n before core e after → stepping core e ≡ Some new → LevelKept before.used after.used (node_at core n) (node_at new n)
event_kept core new n before after (event.Serve from i) reached fit some own steps =
    let front = took core new n from Requests (node_serving (node_at core n))
    (stepped core new n (event.Serve from i) (side (node_at core n) (event.Serve from i)) some own.kind.own refl steps) in
    let decides : taking_event before (node_at core n) from n (Some front.letter) ≡ Some (event.Serve from n) =
    subst (λ (lane : List Letter). taking_event before (node_at core n) from n (slice_get lane 0) ≡ Some (event.Serve from n)) front.front own.decides.0 in
    let serves = serves_it before (node_at core n) from n front.letter (is_some (node_at core n).waiting) decides in
    subst (λ (used : List Bool). LevelKept before.used used (node_at core n) (node_at new n)) (sym (ap (λ (p : PolicyOf). p.used) own.decides.1))
    (own_kept core new n front.next before.used before.used reached some (ap (λ (c : Core). node_at c n) (sym front.made))
    (served_kept before.used (node_at core n) front.next front.letter (serve_held before (node_at core n) front.letter serves)
    (of_some (ServedAs (node_at core n) front.letter) (node_serving (node_at core n) front.letter) front.next front.takes
    (serve_as (node_at core n) front.letter))))
event_kept core new n before after (event.Refuse from i) reached fit some own steps =
    let front = took core new n from Requests (node_refusing (node_at core n))
    (stepped core new n (event.Refuse from i) (side (node_at core n) (event.Refuse from i)) some own.kind.own refl steps) in
    let does = of_some (RefusedAs (node_at core n) front.letter) (node_refusing (node_at core n) front.letter) front.next front.takes
    (refuse_as (node_at core n) front.letter) in
    subst (λ (used : List Bool). LevelKept before.used used (node_at core n) (node_at new n)) (sym (ap (λ (p : PolicyOf). p.used) own.decides.1))
    (own_kept core new n front.next before.used before.used reached some (ap (λ (c : Core). node_at c n) (sym front.made))
    (subst (LevelKept before.used before.used (node_at core n)) does.then_
    (record { work = λ line. refl; level = λ line. same_state (has before.used line) (work_on (node_at core n) line) (state_on (node_at core n) line) })))
event_kept core new n before after (event.Accept from i) reached fit some own steps =
    let front = took core new n from Answers (node_accepting (node_at core n))
    (stepped core new n (event.Accept from i) (side (node_at core n) (event.Accept from i)) some own.kind.own refl steps) in
    subst (λ (used : List Bool). LevelKept before.used used (node_at core n) (node_at new n)) (sym (ap (λ (p : PolicyOf). p.used) own.decides))
    (own_kept core new n front.next before.used before.used reached some (ap (λ (c : Core). node_at c n) (sym front.made))
    (accepted_kept before.used (node_at core n) front.next front.letter
    (front_fits core from n front.letter front.rest reached fit front.sender some front.front)
    (of_some (AcceptedAs (node_at core n) front.letter) (node_accepting (node_at core n) front.letter) front.next front.takes
    (accept_as (node_at core n) front.letter))))
event_kept core new n before after (event.Reply i) reached fit some own steps =
    let out = sent_out core new n Answers (node_replying (node_at core n))
    (stepped core new n (event.Reply i) (side (node_at core n) (event.Reply i)) some own.kind.own refl steps) in
    let does = of_some (λ (sent : NodeOf × Letter). (record (node_at core n) { waiting = None }) ≡ sent.0) (node_replying (node_at core n)) out.sent out.there
    (reply_as (node_at core n)) in
    subst (λ (used : List Bool). LevelKept before.used used (node_at core n) (node_at new n)) (sym (ap (λ (p : PolicyOf). p.used) own.decides))
    (own_kept core new n out.sent.0 before.used before.used reached some (ap (λ (c : Core). node_at c n) (sym out.made))
    (subst (LevelKept before.used before.used (node_at core n)) does
    (record { work = λ line. refl; level = λ line. same_state (has before.used line) (work_on (node_at core n) line) (state_on (node_at core n) line) })))
event_kept core new n before after (event.Ask i line k) reached fit some own steps =
    let out = sent_out core new n Requests (node_asking (node_at core n) line k)
    (stepped core new n (event.Ask i line k) (side (node_at core n) (event.Ask i line k)) some own.kind.own refl steps) in
    let suits = wanted_suits before n (node_at core n) line k (record { core = core; reached = reached; some = some; here = refl }) own.decides.0 in
    let used = asked_used before (node_at core n) line k own.decides.0 in
    subst (λ (p : PolicyOf). LevelKept before.used p.used (node_at core n) (node_at new n)) (sym own.decides.1)
    (own_kept core new n out.sent.0 before.used (next_policy before (node_at core n)).used reached some (ap (λ (c : Core). node_at c n) (sym out.made))
    (of_some (λ (sent : NodeOf × Letter). LevelKept before.used (next_policy before (node_at core n)).used (node_at core n) sent.0)
    (node_asking (node_at core n) line k) out.sent out.there
    (asked_kept before.used (next_policy before (node_at core n)).used (node_at core n) line k suits used)))
event_kept core new n before after (event.Issue i op) reached fit some own steps = let no = own.kind.kind in cc
event_kept core new n before after (event.Perform i line) reached fit some own steps = let no = own.kind.kind in cc
