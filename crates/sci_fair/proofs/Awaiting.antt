-- A line that awaits its home's word, in steady turns: it awaits it until the answer is accepted. Then it is a head that would serve a
-- Cread, and no steady event serves one.
use Rattle.std.proofs.Common.{◌≡◌, ◌<◌, ◌==◌, ℕ, Bool, true, false, List, [], ◌∷◌, arith}
use Rattle.std.proofs.Common.{Option, Some, None, sym, ap, subst, ◌∙◌, ◌⊎◌, inl, inr, rules, get_or-set_same}
use Rattle.std.proofs.lemmas.Bool.{cases_Bool, cases_eq, eq-eqb}
use Rattle.std.specs.Prelude.{IfSome}
use Rattle.sci_words.specs.declared.event.{AskKind.{AskKind}, Event.{Event}}
use Rattle.sci_packets.specs.{declared.body.Body.{Body, TheVariants.{Cread}}, Table.{is_request}}
use Rattle.sci_home.specs.{Serving.{is_for_home}}
use Rattle.sci_cache.specs.{State.{CacheState, FreshHead, Head, Out, waits}, Accepting.{accepting}, Asking.{asking}, Serving.{serving}}
use Rattle.sci_cache.specs.{Line.{LineState, line_in, untouched}, Cache.{Letter, line_of}}
use Rattle.sci_core.specs.declared.lane.LaneKind.TheVariants.{Requests, Answers}
use Rattle.sci_history.specs.Seen.{IsAmong}
use Rattle.sci_core.specs.{Core.{Core, lane_of, node_at}, Node.{NodeOf, lines_of, node_serving}, Sharing.{is_about}, Size.{Size}}
use Rattle.sci_core.proofs.WellFormed.WellFormedSteps.{reached_well}
use Rattle.sci_core.proofs.{Basics.Options.{of_some}, Step.NodeSides.{At_home, In_cache, ServedAs, serve_as}}
use Rattle.sci_policy.specs.{Lines.{state_on}, Policy.{PolicyOf, awaits_home, turned}, Turn.{is_accept, is_ask, is_service}}
use Rattle.sci_fair.specs.{Rank.{rank, work_in, work_on}, Steady.{Working}}
use Rattle.sci_fair.specs.Steady.{WorksByTurns}
use Rattle.sci_fair.proofs.ReadCarries.{asks_free}
use Rattle.sci_fair.proofs.{StateSteps.{By_accept, By_ask, By_serve, StateStep, Stays, serve_one, state_step}, Steadied.{Change, GoesBy, IsSteady, Steadily}}
use Rattle.sci_fair.proofs.{SteadyTurns.{Held, HeldBy}, Trace.{AreAll, is_taking}}
use Rattle.sci_fair.proofs.Whereabouts.{Answered_from, Asked_at, Where, lane_packets, same_packet, where_is}
use Rattle.sci_words.specs.declared.event.Event.TheVariants as event

-- ---- the tables

-- the head of a list, which has no next entry and for which no maker waits, or a fresh list's: it serves a Cread
abbrev pub is_open_head : Option Bool → CacheState → Bool
is_open_head work (FreshHead f c) = true
is_open_head None (Head None c) = true
is_open_head (Some false) (Head None c) = true
is_open_head work state = false

awaiting_serves : (s : CacheState) (m : ℕ) (r : Body) → awaits_home s ≡ true → IfSome (serving s m r) (λ (served : CacheState × Body). served.0 ≡ s)
awaiting_serves s m r awaits = search rules

awaiting_asks : (s : CacheState) (k : AskKind) → awaits_home s ≡ true → asking s k ≡ None
awaiting_asks s k awaits = search rules

awaiting_accepts : (work : Option Bool) (s : CacheState) (a : Body) → awaits_home s ≡ true
    → IfSome (accepting s a) (λ t. (rank work t == rank work s) ≡ true → is_open_head work t ≡ true)
awaiting_accepts work s a awaits = search rules

open_serves : (work : Option Bool) (s : CacheState) (m : ℕ) (r : Body) → is_open_head work s ≡ true
    → IfSome (serving s m r) (λ (served : CacheState × Body). (rank work served.0 == rank work s) ≡ true → is_open_head work served.0 ≡ true)
open_serves work s m r opened = search rules

open_accepts : (work : Option Bool) (s : CacheState) (a : Body) → is_open_head work s ≡ true → accepting s a ≡ None
open_accepts work s a opened = search rules

open_cread : (work : Option Bool) (s : CacheState) (m : ℕ) → is_open_head work s ≡ true
    → IfSome (serving s m Cread) (λ (served : CacheState × Body). (rank work served.0 == rank work s) ≡ false)
open_cread work s m opened = search rules

pub awaiting_waits : (s : CacheState) → awaits_home s ≡ true → waits s ≡ true
awaiting_waits s awaits = search rules

-- what an answer of its home makes of such a line
abbrev pub is_settled : CacheState → Bool
is_settled Out = true
is_settled (Head f c) = true
is_settled (FreshHead f c) = true
is_settled _ = false

awaiting_settles : (s : CacheState) (a : Body) → awaits_home s ≡ true → IfSome (accepting s a) (λ t. is_settled t ≡ true)
awaiting_settles s a awaits = search rules

pub settled_accepts : (s : CacheState) (a : Body) → is_settled s ≡ true → accepting s a ≡ None
settled_accepts s a settled = search rules

pub settled_waits : (s : CacheState) → is_settled s ≡ true → waits s ≡ false
settled_waits s settled = search rules

-- ---- one event

accept_no_service : (e : Event) → is_accept e ≡ true → is_service e ≡ true → ⊥
accept_no_service e one two = search rules

pub accept_no_ask : (e : Event) → is_accept e ≡ true → is_ask e ≡ true → ⊥
accept_no_ask e one two = search rules

pub taking_no_accept : (e : Event) → is_taking e ≡ true → is_accept e ≡ true → ⊥
taking_no_accept e one two = search rules

pub taking_no_ask : (e : Event) → is_taking e ≡ true → is_ask e ≡ true → ⊥
taking_no_ask e one two = search rules

pub ask_no_accept : (e : Event) → is_ask e ≡ true → is_accept e ≡ true → ⊥
ask_no_accept e one two = search rules

service_no_ask : (e : Event) → is_service e ≡ true → is_ask e ≡ true → ⊥
service_no_ask e one two = search rules

-- an ask leaves a state that waits
pub waiting_step : (e : Event) (line : ℕ) (s t : CacheState) → StateStep e line s t → is_ask e ≡ true → waits s ≡ true → t ≡ s
waiting_step e line s t (Stays same) kind waiting = same
waiting_step e line s t (By_accept is a accepts) kind waiting = absurd (ask_no_accept e kind is)
waiting_step e line s t (By_serve is m r b serves) kind waiting = absurd (service_no_ask e is kind)
waiting_step e line s t (By_ask is k asked asks next) kind waiting = grind (arith, of_some, asks_free)

-- the line awaits its home's word
abbrev pub Awaits : ℕ → ℕ → Core → Type 0
Awaits n line x = awaits_home (state_on (node_at x n) line) ≡ true

-- the line would serve a Cread
abbrev pub IsOpenAt : ℕ → ℕ → Core → Type 0
IsOpenAt n line x = is_open_head (work_on (node_at x n) line) (state_on (node_at x n) line) ≡ true

module _ (n : ℕ) (p : PolicyOf) (x : Core) (e : Event) (q : PolicyOf) (y : Core) (line : ℕ) (st : IsSteady n p x e q y) where
  pub same_work : work_on (node_at y n) line ≡ work_on (node_at x n) line
  same_work = ap work_in (st.same n line).0

  -- the rank is the same
  pub same_rank : (rank (work_on (node_at x n) line) (state_on (node_at y n) line) == rank (work_on (node_at x n) line) (state_on (node_at x n) line)) ≡ true
  same_rank = eq-eqb (rank (work_on (node_at x n) line) (state_on (node_at y n) line)) (rank (work_on (node_at x n) line) (state_on (node_at x n) line))
      (ap (λ (w : Option Bool). rank w (state_on (node_at y n) line)) (sym same_work) ∙ (st.same n line).1)

  open_by : is_open_head (work_on (node_at x n) line) (state_on (node_at y n) line) ≡ true → IsOpenAt n line y
  open_by opened = subst (λ (w : Option Bool). is_open_head w (state_on (node_at y n) line) ≡ true) (sym same_work) opened

step_accepts : (e : Event) (line : ℕ) (work : Option Bool) (s t : CacheState) → StateStep e line s t → is_accept e ≡ true
    → (rank work t == rank work s) ≡ true → (awaits_home s ≡ true) ⊎ (is_open_head work s ≡ true) → (awaits_home t ≡ true) ⊎ (is_open_head work t ≡ true)
step_accepts e line work s t (Stays same) kind keeps either =
    subst (λ (r : CacheState). (awaits_home r ≡ true) ⊎ (is_open_head work r ≡ true)) (sym same) either
step_accepts e line work s t (By_accept is a accepts) kind keeps (inl awaits) = grind (arith, of_some, awaiting_accepts)
step_accepts e line work s t (By_accept is a accepts) kind keeps (inr opened) =
    absurd (let clash : None ≡ Some t = sym (open_accepts work s a opened) ∙ accepts in cc)
step_accepts e line work s t (By_serve is m r b serves) kind keeps either = absurd (accept_no_service e kind is)
step_accepts e line work s t (By_ask is k asked asks next) kind keeps either = absurd (accept_no_ask e kind is)

step_opens : (e : Event) (line : ℕ) (work : Option Bool) (s t : CacheState) → StateStep e line s t → is_taking e ≡ true
    → (rank work t == rank work s) ≡ true → is_open_head work s ≡ true → is_open_head work t ≡ true
step_opens e line work s t (Stays same) kind keeps opened = subst (λ (r : CacheState). is_open_head work r ≡ true) (sym same) opened
step_opens e line work s t (By_serve is m r b serves) kind keeps opened = grind (arith, of_some, open_serves)
step_opens e line work s t (By_accept is a accepts) kind keeps opened = absurd (taking_no_accept e kind is)
step_opens e line work s t (By_ask is k asked asks next) kind keeps opened = absurd (taking_no_ask e kind is)

step_awaits : (e : Event) (line : ℕ) (s t : CacheState) → StateStep e line s t → (is_accept e ≡ true → ⊥) → awaits_home s ≡ true → awaits_home t ≡ true
step_awaits e line s t (Stays same) never awaits = subst (λ (r : CacheState). awaits_home r ≡ true) (sym same) awaits
step_awaits e line s t (By_serve is m r b serves) never awaits = grind (arith, of_some, awaiting_serves)
step_awaits e line s t (By_accept is a accepts) never awaits = absurd (never is)
step_awaits e line s t (By_ask is k asked asks next) never awaits =
    absurd (let clash : None ≡ Some asked = sym (awaiting_asks s k awaits) ∙ asks in cc)

abbrev pub IsSettledAt : ℕ → ℕ → Core → Type 0
IsSettledAt n line x = is_settled (state_on (node_at x n) line) ≡ true

step_settles : (e : Event) (line : ℕ) (s t : CacheState) → StateStep e line s t → is_accept e ≡ true → (awaits_home s ≡ true) ⊎ (is_settled s ≡ true)
    → (awaits_home t ≡ true) ⊎ (is_settled t ≡ true)
step_settles e line s t (Stays same) kind either = subst (λ (r : CacheState). (awaits_home r ≡ true) ⊎ (is_settled r ≡ true)) (sym same) either
step_settles e line s t (By_accept is a accepts) kind (inl awaits) =
    inr (of_some (λ (r : CacheState). is_settled r ≡ true) (accepting s a) t accepts (awaiting_settles s a awaits))
step_settles e line s t (By_accept is a accepts) kind (inr settled) = absurd (let clash : None ≡ Some t = sym (settled_accepts s a settled) ∙ accepts in cc)
step_settles e line s t (By_serve is m r b serves) kind either = absurd (accept_no_service e kind is)
step_settles e line s t (By_ask is k asked asks next) kind either = absurd (accept_no_ask e kind is)

-- ---- many events

module _ (n line : ℕ) where
  pub accept_all : (p : PolicyOf) (x : Core) (events : List Event) (q : PolicyOf) (y : Core) → AreAll is_accept events → Steadily n p x events q y
      → Awaits n line x ⊎ IsOpenAt n line x → Awaits n line y ⊎ IsOpenAt n line y
  accept_all p x [] q y kinds steady either = subst (λ (c : Core). Awaits n line c ⊎ IsOpenAt n line c) steady.1 either
  accept_all p x (e ∷ events) q y kinds steady either =
      let st = steady.2 in
      let mid = steady.1 in
      let now = step_accepts e line (work_on (node_at x n) line) (state_on (node_at x n) line) (state_on (node_at mid n) line)
      (state_step n p x steady.0 mid line e st) kinds.0 (same_rank n p x e steady.0 mid line st) either in
      accept_all steady.0 mid events q y kinds.1 steady.3 (elim now [
        | inl awaits ↦ inl awaits
        | inr opened ↦ inr (open_by n p x e steady.0 mid line st opened)
      ])

  pub open_all : (p : PolicyOf) (x : Core) (events : List Event) (q : PolicyOf) (y : Core) → AreAll is_taking events → Steadily n p x events q y
      → IsOpenAt n line x → IsOpenAt n line y
  open_all p x [] q y kinds steady opened = subst (IsOpenAt n line) steady.1 opened
  open_all p x (e ∷ events) q y kinds steady opened =
      let st = steady.2 in
      let mid = steady.1 in
      open_all steady.0 mid events q y kinds.1 steady.3 (open_by n p x e steady.0 mid line st
      (step_opens e line (work_on (node_at x n) line) (state_on (node_at x n) line) (state_on (node_at mid n) line)
      (state_step n p x steady.0 mid line e st) kinds.0 (same_rank n p x e steady.0 mid line st) opened))

  pub await_all : (K : Change) (kind : Event → Bool) → ((e : Event) → kind e ≡ true → is_accept e ≡ true → ⊥) → (p : PolicyOf) (x : Core)
      → (events : List Event) (q : PolicyOf) (y : Core) → AreAll kind events → GoesBy K n p x events q y → Awaits n line x → Awaits n line y
  await_all K kind never p x [] q y kinds goes awaits = subst (Awaits n line) goes.1 awaits
  await_all K kind never p x (e ∷ events) q y kinds goes awaits =
      let mid = goes.1 in
      await_all K kind never goes.0 mid events q y kinds.1 goes.3
      (step_awaits e line (state_on (node_at x n) line) (state_on (node_at mid n) line) (state_step n p x goes.0 mid line e goes.2)
      (never e kinds.0) awaits)

  -- while answers are accepted, the line awaits its home's word, or has it
  pub settle_all : (K : Change) (p : PolicyOf) (x : Core) (events : List Event) (q : PolicyOf) (y : Core) → AreAll is_accept events
      → GoesBy K n p x events q y → Awaits n line x ⊎ IsSettledAt n line x → Awaits n line y ⊎ IsSettledAt n line y
  settle_all K p x [] q y kinds goes either = subst (λ (c : Core). Awaits n line c ⊎ IsSettledAt n line c) goes.1 either
  settle_all K p x (e ∷ events) q y kinds goes either =
      let mid = goes.1 in
      settle_all K goes.0 mid events q y kinds.1 goes.3
      (step_settles e line (state_on (node_at x n) line) (state_on (node_at mid n) line) (state_step n p x goes.0 mid line e goes.2) kinds.0 either)

-- ---- a turn of the node that awaits

pub answered_core : {K : Change} (n : ℕ) (old new : Working) → WorksByTurns old.core → (held : HeldBy K n old new) → (m : ℕ)
    → (node_at held.trace.c1 m).waiting ≡ None
answered_core n old new good held m = grind (arith, cases_eq)

never_where : {K : Change} (n from line : ℕ) (old new : Working) (answer : Letter) → WorksByTurns old.core → (held : HeldBy K n old new)
    → n < old.core.size.nodes
    → line < old.core.size.lines → from < old.core.size.nodes → is_request answer.body ≡ false → is_about n line answer ≡ true
    → IsAmong answer (lane_of old.core Answers from n) → Where held.trace.c1 n line → ⊥
never_where n from line old new answer good held some inside f answers about among (Asked_at to letter g asks asked there) =
    let since = held.trace.accepted.since in
    let t : to < old.core.size.nodes = subst (λ (z : Size). to < z.nodes) since.size g in
    let was : IsAmong letter (lane_of old.core Requests n to) = subst (IsAmong letter) (held.trace.accepted.requests n to some t) there in
    let same = same_packet old.core n line letter answer good.reached some inside
    (lane_packets old.core Requests n to n line letter good.reached some t asked was)
    (lane_packets old.core Answers from n n line answer good.reached f some about among) in
    let clash : true ≡ false = sym asks ∙ (ap (λ (l : Letter). is_request l.body) same ∙ answers) in cc
never_where n from line old new answer good held some inside f answers about among (Answered_from i letter g is asked there) = grind arith

-- an answer that has come is accepted: where one is under way to a line, the line doesn't wait when the turn has accepted
pub accepted_idle : {K : Change} (n from line : ℕ) (old new : Working) (answer : Letter) → WorksByTurns old.core → (held : HeldBy K n old new)
    → n < old.core.size.nodes
    → line < old.core.size.lines → from < old.core.size.nodes → is_request answer.body ≡ false → is_about n line answer ≡ true
    → IsAmong answer (lane_of old.core Answers from n) → waits (state_on (node_at held.trace.c1 n) line) ≡ false
accepted_idle n from line old new answer good held some inside f answers about among = elim (cases_Bool (waits (state_on (node_at held.trace.c1 n) line))) [
  | inl waiting ↦
      let c1 = held.trace.c1 in
      let since = held.trace.accepted.since in
      let here : n < c1.size.nodes = subst (λ (z : Size). n < z.nodes) (sym since.size) some in
      let there : line < c1.size.lines = subst (λ (z : Size). line < z.lines) (sym since.size) inside in
      absurd (never_where n from line old new answer good held some inside f answers about among
      (where_is c1 n line since.reached (answered_core n old new good held) here there waiting))
  | inr idle ↦ idle
]

-- a line that awaits its home, and whose answer has come, is an open head when the turn has accepted
pub awaited_opens : (n from line : ℕ) (old new : Working) (answer : Letter) → WorksByTurns old.core → (held : Held n old new) → n < old.core.size.nodes
    → line < old.core.size.lines → from < old.core.size.nodes → is_request answer.body ≡ false → is_about n line answer ≡ true
    → IsAmong answer (lane_of old.core Answers from n) → Awaits n line old.core → IsOpenAt n line held.trace.c1
awaited_opens n from line old new answer good held some inside f answers about among awaits =
    elim (accept_all n line (turned (old.policies n)) old.core held.trace.e1 held.trace.p1 held.trace.c1 held.trace.are_accepts held.accepts (inl awaits)) [
      | inl still ↦
          let idle = accepted_idle n from line old new answer good held some inside f answers about among in
          let clash : true ≡ false = sym (awaiting_waits (state_on (node_at held.trace.c1 n) line) still) ∙ idle in cc
      | inr opened ↦ opened
    ]

-- served so, a line gets another rank
abbrev pub IsElsewhere : ℕ → ℕ → Core → CacheState × Body → Type 0
IsElsewhere n line x served =
    (rank (work_on (node_at x n) line) served.0 == rank (work_on (node_at x n) line) (state_on (node_at x n) line)) ≡ false

-- a request by which a line would get another rank isn't served
served_in_rank : (n : ℕ) (p : PolicyOf) (x : Core) (e : Event) (q : PolicyOf) (y : Core) (request : Letter) → IsSteady n p x e q y
    → request.line < x.size.lines → is_for_home request.body ≡ false
    → IfSome (serving (state_on (node_at x n) request.line) request.source request.body) (IsElsewhere n request.line x) → (next : NodeOf) → node_at y n ≡ next
    → ServedAs (node_at x n) request next → ⊥
served_in_rank n p x e q y request st inside plain other next now (At_home served home is made) =
    let clash : false ≡ true = sym plain ∙ home in cc
served_in_rank n p x e q y request st inside plain other next now (In_cache served is made) =
    let node = node_at x n in
    let line = request.line in
    let work = work_on node line in
    let s = state_on node line in
    let below : line < lines_of node = subst (λ (k : ℕ). line < k) (sym ((reached_well x st.reached).each_part n st.some).each) inside in
    let there : state_on next line ≡ served.0 =
    ap (λ (part : NodeOf). state_on part line) (sym made)
    ∙ ap (λ (l : LineState). l.state) (get_or-set_same node.cache.lines line (line_in (line_of node.cache line) served.0) untouched below) in
    let t : state_on (node_at y n) line ≡ served.0 = ap (λ (part : NodeOf). state_on part line) now ∙ there in
    let keeps = same_rank n p x e q y line st in
    let clash : true ≡ false = sym keeps ∙ (ap (λ (r : CacheState). rank work r == rank work s) t
    ∙ of_some (IsElsewhere n line x) (serving s request.source request.body) served is other) in cc

pub never_serves : (n : ℕ) (p : PolicyOf) (x : Core) (from i : ℕ) (q : PolicyOf) (y : Core) (request : Letter) (rest : List Letter)
    → IsSteady n p x (event.Serve from i) q y → lane_of x Requests from n ≡ request ∷ rest → request.line < x.size.lines → is_for_home request.body ≡ false
    → IfSome (serving (state_on (node_at x n) request.line) request.source request.body) (IsElsewhere n request.line x) → ⊥
never_serves n p x from i q y request rest st front inside plain other =
    let node = node_at x n in
    let one = serve_one n p x q y from i st in
    let same : one.front.letter ≡ request = (let both : one.front.letter ∷ one.front.rest ≡ request ∷ rest = sym one.front.front ∙ front in cc) in
    let takes : node_serving node request ≡ Some one.front.next = subst (λ (l : Letter). node_serving node l ≡ Some one.front.next) same one.front.takes in
    served_in_rank n p x (event.Serve from i) q y request st inside plain other one.front.next one.node
    (of_some (ServedAs node request) (node_serving node request) one.front.next takes (serve_as node request))

-- no steady event serves a Cread on an open head
pub serves_no_cread : (n : ℕ) (p : PolicyOf) (x : Core) (from i : ℕ) (q : PolicyOf) (y : Core) (request : Letter) (rest : List Letter)
    → IsSteady n p x (event.Serve from i) q y → lane_of x Requests from n ≡ request ∷ rest → request.body ≡ Cread → request.line < x.size.lines
    → IsOpenAt n request.line x → ⊥
serves_no_cread n p x from i q y request rest st front cread inside opened =
    never_serves n p x from i q y request rest st front inside (ap is_for_home cread)
    (subst (λ (b : Body). IfSome (serving (state_on (node_at x n) request.line) request.source b) (IsElsewhere n request.line x)) (sym cread)
    (open_cread (work_on (node_at x n) request.line) (state_on (node_at x n) request.line) request.source opened))
