-- Steady turns that lie ahead of a machine, and what can't be while many do: an operation that can be performed, a Purge under way.
use Rattle.std.proofs.Common.{◌≡◌, ◌<◌, ◌≤◌, ◌+◌, ◌⊎◌, ◌%◌, ◌&&◌, ◌||◌, ℕ, zero, suc, Bool, true, false, arith, List, [], ◌∷◌, ◌++◌, get_or-set_same}
use Rattle.std.proofs.Common.{Some, None, refl, sym, ap, subst, ◌∙◌, inl, inr, rules}
use Rattle.std.proofs.lemmas.{Bool.{cases_Bool, cases_eq, cases_lt}, List.{append_assoc}}
use Rattle.std.specs.Prelude.{IfSome, is_some}
use Rattle.sci_history.specs.Seen.{IsAmong}
use Rattle.sci_words.specs.declared.event.{AskKind.{AskKind}, Event.{Event}}
use Rattle.sci_packets.specs.{declared.body.Body.{Body, TheVariants.{Purge}}, Table.{is_request}}
use Rattle.sci_cache.specs.{State.{CacheState, Purging, waits}, Asking.{Asked, asking}, Kinds.{has_sharers, joins}, Serving.{serving}}
use Rattle.sci_cache.specs.{Line.{LineState, line_asked, untouched}, Cache.{Letter, line_of}}
use Rattle.sci_core.specs.declared.lane.LaneKind.TheVariants.{Requests, Answers}
use Rattle.sci_core.specs.Core.{Core, lane_of, lane_place, node_at}
use Rattle.sci_core.specs.{Node.{NodeOf, node_asking, node_performing}, Reached.{IsReached}, Sharing.{is_about, packets_of}, Size.{Size}, Tidy.{IsSentIn}}
use Rattle.sci_core.proofs.{Basics.Options.{of_some}, Step.Places.{place_requests}, Tidy.{TidyRuns.{reached_tidy}, TidySteps.{about_line}}}
use Rattle.sci_policy.proofs.Alone.{beyond_out}
use Rattle.sci_policy.specs.{Lines.{can_drain, state_on}, Policy.{PolicyOf}, Turn.{is_ask}}
use Rattle.sci_fair.specs.{Rank.{can_perform, work_on}, Steady.{AreSteadyTurns, HasWindows, IsSteadyTurn, Working, WorksByTurns}}
use Rattle.sci_fair.proofs.Awaiting.{answered_core, taking_no_accept, taking_no_ask, waiting_step}
use Rattle.sci_fair.proofs.Descents.{Comes, Falls, descend, turns_join, windows_after, windows_fewer}
use Rattle.sci_fair.proofs.{FirstWants.{performs_can}, Kept.{kept_along, leads, performable}, LaneTurns.{asks_keep}}
use Rattle.sci_fair.proofs.{ReadCarries.{AsksAs, ask_as}, Requests.{good_along, size_along}, Retries.{never_purge}}
use Rattle.sci_fair.proofs.StateSteps.{By_accept, By_ask, By_serve, StateStep, Stays as Remains, ask_one, state_step}
use Rattle.sci_fair.proofs.{Steadied.{IsSame, IsSteady, Steadily}, SteadyTurns.{Held, steady_turn}, Trace.{AreAll, is_taking}}
use Rattle.sci_fair.proofs.{Whereabouts.{Answered_from, Asked_at, in_lane, lane_packets, where_is}, WholeTurns.{sole}}
use Rattle.sci_words.specs.declared.event.Event.TheVariants as event

-- ---- turns ahead

-- a machine between turns, with steady turns ahead in which there are this many windows
pub record Ahead (count : ℕ) (w last : Working) : Type 0 where
  pub good : WorksByTurns w.core
  pub order : List ℕ
  pub turns : AreSteadyTurns order w last
  pub windows : HasWindows w.core.size.nodes count order

pub fewer : (few many : ℕ) (w last : Working) → few ≤ many → Ahead many w last → Ahead few w last
fewer few many w last le ahead = grind (arith, windows_fewer)

-- before some of them, as many are ahead
pub earlier : (count : ℕ) (order : List ℕ) (w mid last : Working) → WorksByTurns w.core → AreSteadyTurns order w mid → Ahead count mid last → Ahead count w last
earlier count order w mid last good turns ahead = grind (arith, turns_join, windows_after, size_along)

-- behind a turn that comes
pub after_it : (Done : ℕ → Working → Working → Type 0) (count : ℕ) (order : List ℕ) (first last : Working) → WorksByTurns first.core
    → (c : Comes Done first.core.size.nodes count order first last) → Ahead count c.new last
after_it Done count order first last good c =
    let good_old = good_along c.before first c.old good c.leads in
    let held = steady_turn c.node c.old c.new good_old c.turn in
    record {
      good = held.good;
      order = c.after;
      turns = c.turns;
      windows = subst (λ (z : Size). HasWindows z.nodes count c.after) (sym (held.size ∙ size_along c.before first c.old good c.leads)) c.windows;
    }

-- turns behind them leave the windows
pub windows_on : (nodes count : ℕ) (order rest : List ℕ) → HasWindows nodes count order → HasWindows nodes count (order ++ rest)
windows_on nodes zero order rest windows = tt
windows_on nodes (suc count) order rest windows = (
  windows.0,
  windows.1 ++ rest,
  ap (λ (l : List ℕ). l ++ rest) windows.2 ∙ append_assoc windows.0 windows.1 rest,
  windows.3,
  windows_on nodes count windows.1 rest windows.4,
)

-- a machine that 135 windows of steady turns have led here, and with this many ahead
pub record Amid (count : ℕ) (w last : Working) : Type 0 where
  pub first : Working
  pub good : WorksByTurns first.core
  pub behind : List ℕ
  pub came : AreSteadyTurns behind first w
  pub windows : HasWindows first.core.size.nodes 135 behind
  pub ahead : Ahead count w last

-- so is it later
pub on_from : (many count : ℕ) (order : List ℕ) (w mid last : Working) → Amid many w last → AreSteadyTurns order w mid → Ahead count mid last
    → Amid count mid last
on_from many count order w mid last amid turns ahead = record {
  first = amid.first;
  good = amid.good;
  behind = amid.behind ++ order;
  came = turns_join IsSteadyTurn amid.behind order amid.first w mid amid.came turns;
  windows = windows_on amid.first.core.size.nodes 135 amid.behind order amid.windows;
  ahead = ahead;
}

-- ---- the next turn of a node

own_comes : (size : Size) (n : ℕ) (k h i : ℕ) (old new : Working) → h ≡ n → IsSteadyTurn i old new → (i ≡ n) ⊎ Falls (λ less m w. m ≡ n) k h i new
own_comes size n k h i old new same turn = grind (arith, cases_eq)

-- in each window each node takes a turn
pub turn_comes : (n count : ℕ) (w last : Working) → n < w.core.size.nodes → (ahead : Ahead (suc count) w last)
    → Comes (λ i old new. i ≡ n) w.core.size.nodes count ahead.order w last
turn_comes n count w last some ahead =
    let nodes = w.core.size.nodes in
    descend IsSteadyTurn nodes (λ i old new. i ≡ n) (λ less m v. m ≡ n) (own_comes w.core.size n) (λ k h v same. subst (λ (m : ℕ). m < nodes) (sym same) some)
    count last 0 0 n ahead.order w (omega arith) refl ahead.turns (windows_fewer nodes (suc (0 + count)) (suc count) ahead.order (omega arith) ahead.windows)

-- so nothing can be performed
pub cannot_perform : (n line : ℕ) (w last : Working) → n < w.core.size.nodes → Ahead 1 w last
    → can_perform (work_on (node_at w.core n) line) (state_on (node_at w.core n) line) ≡ false
cannot_perform n line w last some ahead = elim (cases_Bool (can_perform (work_on (node_at w.core n) line) (state_on (node_at w.core n) line))) [
  | inr cannot ↦ cannot
  | inl can ↦
      let c = turn_comes n 0 w last some ahead in
      let then_ = kept_along performable n line c.before w c.old ahead.good c.leads can in
      let never = subst (λ (m : ℕ). can_perform (work_on (node_at c.old.core m) line) (state_on (node_at c.old.core m) line) ≡ false) c.done
      (c.turn.cannot line) in
      let clash : true ≡ false = sym then_ ∙ never in cc
]

pub performs_none : (n line : ℕ) (w last : Working) → n < w.core.size.nodes → Ahead 1 w last → is_some (node_performing (node_at w.core n) line) ≡ true → ⊥
performs_none n line w last some ahead performs =
    let can = performs_can n (node_at w.core n) line (record { core = w.core; reached = ahead.good.reached; some = some; here = refl }) performs in
    let clash : true ≡ false = sym can ∙ cannot_perform n line w last some ahead in cc

-- ---- a line that leads its list or joins one, and awaits an answer

abbrev pub firm : CacheState → Bool
firm s = waits s && (leads s || joins s)

firm_waits : (s : CacheState) → firm s ≡ true → waits s ≡ true
firm_waits s is = search rules

-- its request is in a lane
pub record InLane (n line : ℕ) (s : CacheState) (core : Core) : Type 0 where
  pub to : ℕ
  pub receiver : to < core.size.nodes
  pub letter : Letter
  pub asks : is_request letter.body ≡ true
  pub about : is_about n line letter ≡ true
  pub among : IsAmong letter (lane_of core Requests n to)
  pub sent : IsSentIn (line % core.size.nodes) s letter

firm_served : (s : CacheState) (m : ℕ) (r : Body) → firm s ≡ true → IfSome (serving s m r) (λ (served : CacheState × Body). served.0 ≡ s)
firm_served s m r is = search rules

other_served : (s : CacheState) (m : ℕ) (r : Body) → firm s ≡ false
    → IfSome (serving s m r) (λ (served : CacheState × Body). firm served.0 ≡ false)
other_served s m r is = search rules

-- a step by which requests are taken leaves such a state, and leads to none
firm_step : (e : Event) (line : ℕ) (s t : CacheState) → StateStep e line s t → is_taking e ≡ true → firm t ≡ true → t ≡ s
firm_step e line s t (Remains same) kind is = same
firm_step e line s t (By_accept accept a accepts) kind is = absurd (taking_no_accept e kind accept)
firm_step e line s t (By_ask ask k asked asks next) kind is = absurd (taking_no_ask e kind ask)
firm_step e line s t (By_serve service m r b serves) kind is = grind (arith, cases_Bool, of_some, firm_served, other_served)

firm_taken : (n line : ℕ) (p : PolicyOf) (x : Core) (events : List Event) (q : PolicyOf) (y : Core) → AreAll is_taking events → Steadily n p x events q y
    → firm (state_on (node_at y n) line) ≡ true → state_on (node_at y n) line ≡ state_on (node_at x n) line
firm_taken n line p x [] q y kinds steady is = ap (λ (c : Core). state_on (node_at c n) line) (sym steady.1)
firm_taken n line p x (e ∷ events) q y kinds steady is =
    let mid = steady.1 in
    let rest = firm_taken n line steady.0 mid events q y kinds.1 steady.3 is in
    rest ∙ firm_step e line (state_on (node_at x n) line) (state_on (node_at mid n) line) (state_step n p x steady.0 mid line e steady.2) kinds.0
    (subst (λ (s : CacheState). firm s ≡ true) rest is)

-- asks leave a state that waits
pub waiting_asks : (n line : ℕ) (p : PolicyOf) (x : Core) (events : List Event) (q : PolicyOf) (y : Core) → AreAll is_ask events → Steadily n p x events q y
    → waits (state_on (node_at x n) line) ≡ true → state_on (node_at y n) line ≡ state_on (node_at x n) line
waiting_asks n line p x [] q y kinds steady waiting = ap (λ (c : Core). state_on (node_at c n) line) (sym steady.1)
waiting_asks n line p x (e ∷ events) q y kinds steady waiting =
    let mid = steady.1 in
    let same = waiting_step e line (state_on (node_at x n) line) (state_on (node_at mid n) line) (state_step n p x steady.0 mid line e steady.2) kinds.0
    waiting in
    waiting_asks n line steady.0 mid events q y kinds.1 steady.3 (subst (λ (s : CacheState). waits s ≡ true) (sym same) waiting) ∙ same

-- the request of a line that waits, when the node's turn has accepted answers: no answer is on its way
firm_lane : (core : Core) (n line : ℕ) → IsReached core → n < core.size.nodes → line < core.size.lines → ((m : ℕ) → (node_at core m).waiting ≡ None)
    → ((from : ℕ) (letter : Letter) → from < core.size.nodes → is_request letter.body ≡ false → is_about n line letter ≡ true
    → IsAmong letter (lane_of core Answers from n) → ⊥) → waits (state_on (node_at core n) line) ≡ true → InLane n line (state_on (node_at core n) line) core
firm_lane core n line reached some inside free never waiting = elim (where_is core n line reached free some inside waiting) [
  | Answered_from from letter f answers about among ↦ absurd (never from letter f answers about among)
  | Asked_at to letter t asks about among ↦
      let packet = lane_packets core Requests n to n line letter reached some t about among in
      let alone = sole (line % core.size.nodes) (line_of (node_at core n).cache line) (packets_of core n line) letter
      (reached_tidy core reached n line some inside)
      packet in
      record { to = to; receiver = t; letter = letter; asks = asks; about = about; among = among; sent = alone.awaited.sent asks }
]

pub lines_inside : (core : Core) (n line : ℕ) → IsReached core → n < core.size.nodes → waits (state_on (node_at core n) line) ≡ true → line < core.size.lines
lines_inside core n line reached some waiting = grind (arith, cases_lt, beyond_out)

-- if it waits when the node asks, it waited when the turn began, and its request was in a lane then
pub firm_before : (n line : ℕ) (old new : Working) → WorksByTurns old.core → (held : Held n old new) → n < old.core.size.nodes
    → firm (state_on (node_at held.trace.c2 n) line) ≡ true → InLane n line (state_on (node_at held.trace.c2 n) line) old.core
firm_before n line old new good held some is =
    let t = held.trace in
    let c1 = t.c1 in
    let since = t.accepted.since in
    let same = firm_taken n line t.p1 c1 t.e2 t.p2 t.c2 t.are_takes held.takes is in
    let n1 : n < c1.size.nodes = subst (λ (z : Size). n < z.nodes) (sym since.size) some in
    let waiting = firm_waits (state_on (node_at c1 n) line) (subst (λ (s : CacheState). firm s ≡ true) same is) in
    let inside = lines_inside c1 n line since.reached n1 waiting in
    let at = firm_lane c1 n line since.reached n1 inside (answered_core n old new good held) (λ from letter f answers about among. (
    let none : IsAmong letter [] = subst (IsAmong letter) (t.empty from (subst (λ (z : Size). from < z.nodes) since.size f)) among in
    elim none [ ]
    )) waiting in
    let to_old : at.to < old.core.size.nodes = subst (λ (z : Size). at.to < z.nodes) since.size at.receiver in
    record {
      to = at.to;
      receiver = to_old;
      letter = at.letter;
      asks = at.asks;
      about = at.about;
      among = subst (IsAmong at.letter) (t.accepted.requests n at.to some to_old) at.among;
      sent = subst (λ (z : Size). IsSentIn (line % z.nodes) (state_on (node_at t.c2 n) line) at.letter) since.size
          (subst (λ (s : CacheState). IsSentIn (line % c1.size.nodes) s at.letter) (sym same) at.sent);
    }

-- what waits when the turn has ended, and not when the node began to ask, was asked
pub asked_now : (n line : ℕ) (old new : Working) → WorksByTurns old.core → (held : Held n old new) → n < old.core.size.nodes
    → waits (state_on (node_at held.trace.c2 n) line) ≡ false → waits (state_on (node_at new.core n) line) ≡ true
    → InLane n line (state_on (node_at new.core n) line) new.core
asked_now n line old new good held some idle waiting =
    let t = held.trace in
    let c2 = t.c2 in
    let core = new.core in
    let since = t.taken.so.since in
    let n_new : n < core.size.nodes = subst (λ (z : Size). n < z.nodes) (sym held.size) some in
    let inside = lines_inside core n line held.good.reached n_new waiting in
    firm_lane core n line held.good.reached n_new inside held.good.between.free (λ from letter f answers about among. (
    let f_old : from < old.core.size.nodes = subst (λ (z : Size). from < z.nodes) held.size f in
    let f2 : from < c2.size.nodes = subst (λ (z : Size). from < z.nodes) (sym since.size) f_old in
    let n2 : n < c2.size.nodes = subst (λ (z : Size). n < z.nodes) (sym since.size) some in
    let l2 : line < c2.size.lines = subst (λ (z : Size). line < z.lines) (held.size ∙ sym since.size) inside in
    let keeps = asks_keep IsSame n t.p2 c2 t.e3 t.p3 core from n t.are_asks held.asks f2 n2 in
    let there : IsAmong letter (lane_of c2 Answers from n) = subst (IsAmong letter) keeps.1 among in
    let packet = lane_packets c2 Answers from n n line letter since.reached f2 n2 about there in
    let alone = sole (line % c2.size.nodes) (line_of (node_at c2 n).cache line) (packets_of c2 n line) letter (reached_tidy c2 since.reached n line n2 l2)
    packet in
    let clash : true ≡ false = sym alone.awaited.waiting ∙ idle in absurd cc
    )) waiting

-- if it waits when the turn has ended, its request was in a lane when it began, or is now
pub firm_asked : (n line : ℕ) (old new : Working) → WorksByTurns old.core → (held : Held n old new) → n < old.core.size.nodes
    → firm (state_on (node_at new.core n) line) ≡ true
    → InLane n line (state_on (node_at new.core n) line) old.core ⊎ InLane n line (state_on (node_at new.core n) line) new.core
firm_asked n line old new good held some is = elim (cases_Bool (waits (state_on (node_at held.trace.c2 n) line))) [
  | inr idle ↦ inr (asked_now n line old new good held some idle (firm_waits (state_on (node_at new.core n) line) is))
  | inl waiting ↦
      let t = held.trace in
      let same = waiting_asks n line t.p2 t.c2 t.e3 t.p3 new.core t.are_asks held.asks waiting in
      let before = firm_before n line old new good held some (subst (λ (s : CacheState). firm s ≡ true) same is) in
      inl (subst (λ (s : CacheState). InLane n line s old.core) (sym same) before)
]

-- ---- Purges

purging_sends : (home : ℕ) (s : CacheState) (letter : Letter) → can_drain s ≡ true → has_sharers s ≡ false → IsSentIn home s letter → letter.body ≡ Purge
purging_sends home (Purging q c) letter drains none sent = sent.0
purging_sends home s letter drains none sent = absurd (grind arith)

-- none of its Purges is in a lane
pub purges_none : (n line : ℕ) (s : CacheState) (w last : Working) → n < w.core.size.nodes → Ahead 280 w last → can_drain s ≡ true → has_sharers s ≡ false
    → InLane n line s w.core → ⊥
purges_none n line s w last some ahead drains none at =
    let here : at.letter.line ≡ line = about_line n line at.letter at.about in
    let is = in_lane w.core (lane_place w.core.size.nodes Requests n at.to) at.letter ahead.good.reached at.among in
    let inside = (is.request (place_requests w.core.size.nodes n at.to some at.receiver)).letter_ok.about in
    never_purge n at.to at.letter ahead.order w last ahead.good some at.receiver inside at.asks
    (subst (λ (l : ℕ). is_about n l at.letter ≡ true) (sym here) at.about) (purging_sends (line % w.core.size.nodes) s at.letter drains none at.sent) at.among
    ahead.turns ahead.windows

-- ---- what is asked first

-- the line that an event asks about is in the state to which the ask leads
pub asked_state : (n : ℕ) (p : PolicyOf) (x : Core) (q : PolicyOf) (y : Core) (i line : ℕ) (k : AskKind) → IsSteady n p x (event.Ask i line k) q y
    → (asked : Asked) × (asking (state_on (node_at x n) line) k ≡ Some asked) × (state_on (node_at y n) line ≡ asked.next)
asked_state n p x q y i line k steady =
    let node = node_at x n in
    let one = ask_one n p x q y i line k steady in
    let told = of_some (AsksAs node line k) (node_asking node line k) one.out.sent one.out.there (ask_as node line k) in
    let there : state_on one.out.sent.0 line ≡ told.asked.next =
    ap (λ (part : NodeOf). state_on part line) (sym told.next)
    ∙ ap (λ (l : LineState). l.state) (get_or-set_same node.cache.lines line (line_asked (line_of node.cache line) told.asked) untouched told.below) in
    (told.asked, told.asks, ap (λ (part : NodeOf). state_on part line) one.node ∙ there)

pub asked_waits : (s : CacheState) (k : AskKind) → IfSome (asking s k) (λ (asked : Asked). waits asked.next ≡ true)
asked_waits s k = search rules

-- so is it when the turn has ended in which it is asked first
pub asked_at_last : (n : ℕ) (old new : Working) → (held : Held n old new) → (line : ℕ) (k : AskKind) (events rest : List Event) (p : PolicyOf) (x : Core)
    → events ≡ event.Ask n line k ∷ rest → AreAll is_ask events → Steadily n p x events held.trace.p3 new.core
    → (asked : Asked) × (asking (state_on (node_at x n) line) k ≡ Some asked) × (state_on (node_at new.core n) line ≡ asked.next)
asked_at_last n old new held line k [] rest p x is kinds steady = cc
asked_at_last n old new held line k (e ∷ events) rest p x is kinds steady =
    let same : e ≡ event.Ask n line k = cc in
    let mid = steady.1 in
    let st = subst (λ (o : Event). IsSteady n p x o steady.0 mid) same steady.2 in
    let first = asked_state n p x steady.0 mid n line k st in
    let waiting : waits (state_on (node_at mid n) line) ≡ true =
    ap waits first.2 ∙ of_some (λ (a : Asked). waits a.next ≡ true) (asking (state_on (node_at x n) line) k) first.0 first.1
    (asked_waits (state_on (node_at x n) line) k) in
    let last = waiting_asks n line steady.0 mid events held.trace.p3 new.core kinds.1 steady.3 waiting in
    (first.0, first.1, last ∙ first.2)
