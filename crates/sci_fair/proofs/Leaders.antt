-- What becomes of a line in a turn of its node that keeps a Cread for it: a line that leads a list of its own goes on to lead it, or is
-- left for good. So it awaits its home once more at most.
use Rattle.std.proofs.Common.{◌≡◌, ◌≢◌, ◌<◌, ◌&&◌, ◌||◌, ℕ, Bool, true, false, List, [], ◌∷◌, Option, Some, None, refl, sym, ap, subst, ◌∙◌, inl}
use Rattle.std.proofs.Common.{arith}
use Rattle.std.proofs.Common.{inr, rules}
use Rattle.std.proofs.lemmas.Bool.{cases_Bool}
use Rattle.std.specs.Prelude.{IfSome}
use Rattle.sci_history.specs.Seen.{IsAmong}
use Rattle.sci_words.specs.declared.{event.{AskKind.{AskKind}, Event.{Event}}}
use Rattle.sci_packets.specs.declared.body.Body.{Body, TheVariants.{Cread}}
use Rattle.sci_cache.specs.State.{CacheState, Head, Out, Purging, Returning, waits}
use Rattle.sci_cache.specs.{Accepting.{accepting}, Asking.{Asked, asking}, Serving.{serving}}
use Rattle.sci_cache.specs.{Cache.{CacheOf, Letter, line_of, with_line}, Line.{LineState, line_asked, line_in, untouched}}
use Rattle.sci_core.specs.declared.lane.LaneKind.TheVariants.{Requests}
use Rattle.sci_core.specs.{Core.{Core, lane_of, node_at}, Node.{NodeOf, node_asking, node_refusing, node_serving}, Size.{Size}}
use Rattle.sci_core.proofs.{Basics.{Lists.{at_place_set}, Options.{of_some}}}
use Rattle.sci_core.proofs.Step.NodeSides.{At_home, In_cache, RefusedAs, ServedAs, refuse_as, serve_as}
use Rattle.sci_policy.specs.{Lines.{can_drain, is_head, state_on}, Policy.{PolicyOf, awaits_home, is_busy_now, is_cread, kept_by}}
use Rattle.sci_policy.specs.{Turn.{is_accept, is_ask, is_service}}
use Rattle.sci_fair.specs.Rank.{can_perform, work_in, work_on}
use Rattle.sci_fair.proofs.Awaiting.{is_open_head, is_settled}
use Rattle.sci_fair.proofs.{Creads.{one_asks}, Going.{IsLeftBy}, LaneTurns.{lost_all, take_one}, RankSteps.{event_kept}, ReadCarries.{AsksAs, ask_as}}
use Rattle.sci_fair.proofs.Standing.{never_longer}
use Rattle.sci_fair.proofs.{StateSteps.{By_accept, By_ask, By_serve, StateStep, Stays, ask_one, refuse_one, serve_one, size_kept, state_step}}
use Rattle.sci_fair.proofs.{Steadied.{Change, GoesBy, IsGoing}, Suits.{wanted_suits}, Trace.{AreAll, is_taking}}
use Rattle.sci_words.specs.declared.event.Event.TheVariants as event

-- ---- the tables

-- a line that leads a list which its home doesn't share
abbrev pub owns : CacheState → Bool
owns (Head f c) = true
owns (Purging q c) = true
owns (Returning c) = true
owns _ = false

-- the same, or it has been given back
abbrev pub owned : CacheState → Bool
owned Out = true
owned s = owns s

-- it leads nobody
abbrev pub is_lone : CacheState → Bool
is_lone (Head None c) = true
is_lone _ = false

-- it leads nobody, or has been given back
abbrev pub is_left : CacheState → Bool
is_left Out = true
is_left s = is_lone s

-- the same, or it is being given back
abbrev pub goes_home : CacheState → Bool
goes_home (Returning c) = true
goes_home s = is_left s

-- a line of which a Cread may be kept
abbrev pub may_keep : CacheState → Bool
may_keep s = awaits_home s || (is_busy_now s || (can_drain s || is_head s))

-- a test of states that a request changes only if it is a Cread; that an answer doesn't change; and that an ask doesn't
abbrev pub IsServedWell : (CacheState → Bool) → Type 0
IsServedWell test = (s : CacheState) (m : ℕ) (r : Body) → is_cread r ≡ false → test s ≡ true
    → IfSome (serving s m r) (λ (served : CacheState × Body). test served.0 ≡ true)

abbrev pub IsAcceptedWell : (CacheState → Bool) → Type 0
IsAcceptedWell test = (s : CacheState) (a : Body) → test s ≡ true → IfSome (accepting s a) (λ t. test t ≡ true)

abbrev pub IsAskedWell : (CacheState → Bool) → Type 0
IsAskedWell test = (s : CacheState) (k : AskKind) → test s ≡ true → IfSome (asking s k) (λ (a : Asked). test a.next ≡ true)

pub owns_served : IsServedWell owns
owns_served s m r plain is = search rules

pub owned_served : IsServedWell owned
owned_served s m r plain is = search rules

pub lone_served : IsServedWell is_lone
lone_served s m r plain is = search rules

pub left_served : IsServedWell is_left
left_served s m r plain is = search rules

pub settled_served : IsServedWell is_settled
settled_served s m r plain is = search rules

pub owned_accepts : IsAcceptedWell owned
owned_accepts s a is = search rules

pub home_accepts : IsAcceptedWell goes_home
home_accepts s a is = search rules

pub lone_accepts : IsAcceptedWell is_lone
lone_accepts s a is = search rules

pub owns_asks : IsAskedWell owns
owns_asks s k is = search rules

pub owns_works : IsLeftBy owns
owns_works s op done performs is = search rules

pub lone_works : IsLeftBy is_lone
lone_works s op done performs is = search rules

pub awaits_works : IsLeftBy awaits_home
awaits_works s op done performs is = search rules

pub owns_owned : (s : CacheState) → owns s ≡ true → owned s ≡ true
owns_owned s is = search rules

pub returning_goes : (s : CacheState) → awaits_home s ≡ true → owns s ≡ true → goes_home s ≡ true
returning_goes s awaits is = search rules

pub kept_owned : (s : CacheState) → owned s ≡ true → may_keep s ≡ true → owns s ≡ true
kept_owned s is may = search rules

pub kept_settled : (s : CacheState) → is_settled s ≡ true → may_keep s ≡ true → owns s ≡ true
kept_settled s is may = search rules

pub home_left : (s : CacheState) → goes_home s ≡ true → waits s ≡ false → is_left s ≡ true
home_left s is idle = search rules

pub kept_lone : (s : CacheState) → is_left s ≡ true → may_keep s ≡ true → is_lone s ≡ true
kept_lone s is may = search rules

-- where something is pending on such a line, it can be performed
pub lone_performs : (work : Option Bool) (s : CacheState) → is_lone s ≡ true → can_perform work s ≡ false → is_open_head work s ≡ true
lone_performs work s is idle = search rules

pub lone_makes : (work : Option Bool) (s : CacheState) → is_lone s ≡ true → is_open_head work s ≡ false → can_perform work s ≡ true
lone_makes work s is closed = search rules

-- what is kept, may be
keep_needs : (c o a t b x y h g : Bool) → ((c && o) && (a || (t && (b || (c && ((x && y) || (h && g))))))) ≡ true → (a || (b || (y || h))) ≡ true
keep_needs c o a t b x y h g kept = search rules

pub kept_may : (policy : PolicyOf) (node : NodeOf) (request : Letter) → kept_by policy node request ≡ true → may_keep (state_on node request.line) ≡ true
kept_may policy node request kept = grind (arith, keep_needs)

cread_is : (b : Body) → is_cread b ≡ true → b ≡ Cread
cread_is b is = search rules

-- ---- one event

accept_ask : (e : Event) → is_accept e ≡ true → is_ask e ≡ true → ⊥
accept_ask e one two = search rules

accept_serve : (e : Event) → is_accept e ≡ true → is_service e ≡ true → ⊥
accept_serve e one two = search rules

ask_serve : (e : Event) → is_ask e ≡ true → is_service e ≡ true → ⊥
ask_serve e one two = search rules

module _ (test : CacheState → Bool) where
  -- a line that passes the test still does
  abbrev pub Passes : ℕ → ℕ → Core → Type 0
  Passes n line x = test (state_on (node_at x n) line) ≡ true

  step_accepts : IsAcceptedWell test → (e : Event) (line : ℕ) (s t : CacheState) → StateStep e line s t → is_accept e ≡ true → test s ≡ true → test t ≡ true
  step_accepts well e line s t (Stays same) kind is = subst (λ (r : CacheState). test r ≡ true) (sym same) is
  step_accepts well e line s t (By_accept k a accepts) kind is = of_some (λ (r : CacheState). test r ≡ true) (accepting s a) t accepts (well s a is)
  step_accepts well e line s t (By_serve k m r b serves) kind is = absurd (accept_serve e kind k)
  step_accepts well e line s t (By_ask k ask asked asks next) kind is = absurd (accept_ask e kind k)

  step_asks : IsAskedWell test → (e : Event) (line : ℕ) (s t : CacheState) → StateStep e line s t → is_ask e ≡ true → test s ≡ true → test t ≡ true
  step_asks well e line s t (Stays same) kind is = subst (λ (r : CacheState). test r ≡ true) (sym same) is
  step_asks well e line s t (By_accept k a accepts) kind is = absurd (accept_ask e k kind)
  step_asks well e line s t (By_serve k m r b serves) kind is = absurd (ask_serve e kind k)
  step_asks well e line s t (By_ask k ask asked asks next) kind is =
      subst (λ (r : CacheState). test r ≡ true) next (of_some (λ (a : Asked). test a.next ≡ true) (asking s ask) asked asks (well s ask is))

  -- an answer that is sent leaves the line
  step_replies : (line i : ℕ) (s t : CacheState) → StateStep (event.Reply i) line s t → test s ≡ true → test t ≡ true
  step_replies line i s t (Stays same) is = subst (λ (r : CacheState). test r ≡ true) (sym same) is
  step_replies line i s t (By_accept k a accepts) is = cc
  step_replies line i s t (By_serve k m r b serves) is = cc
  step_replies line i s t (By_ask k ask asked asks next) is = cc

module _ (test : CacheState → Bool) (well : IsServedWell test) (n j : ℕ) (front : Letter) (cread : front.body ≡ Cread) where
  -- what is served in a cache
  cached : (p : PolicyOf) (x : Core) (q : PolicyOf) (y : Core) (request : Letter) (served : CacheState × Body)
      → (request.line ≡ front.line → is_cread request.body ≡ false) → serving (state_on (node_at x n) request.line) request.source request.body ≡ Some served
      → Passes test n front.line x → (part : NodeOf) → node_at y n ≡ part
      → with_line (node_at x n).cache request.line (line_in (line_of (node_at x n).cache request.line) served.0) ≡ part.cache → Passes test n front.line y
  cached p x q y request served plain serves is part now made =
      let node = node_at x n in
      let set = at_place_set (λ (k : ℕ) (l : LineState). k ≡ front.line → test (state_on node k) ≡ true → test l.state ≡ true) node.cache.lines request.line
      (line_in (line_of node.cache request.line) served.0) untouched (λ k same was. was) (λ same was.
      of_some (λ (s : CacheState × Body). test s.0 ≡ true) (serving (state_on node request.line) request.source request.body) served serves
      (well (state_on node request.line) request.source request.body (plain same) was)) front.line in
      subst (λ (p : NodeOf). test (state_on p front.line) ≡ true) (sym now)
      (subst (λ (c : CacheOf). test (line_of c front.line).state ≡ true) made (set refl is))

  serves : (p : PolicyOf) (x : Core) (q : PolicyOf) (y : Core) (request : Letter) (next : NodeOf) → (request.line ≡ front.line → is_cread request.body ≡ false)
      → ServedAs (node_at x n) request next → node_at y n ≡ next → Passes test n front.line x → Passes test n front.line y
  serves p x q y request next plain (At_home served home serves_ made) now is = grind arith
  serves p x q y request next plain (In_cache served does made) now is =
      cached p x q y request served plain does is next now (ap (λ (part : NodeOf). part.cache) made)

  -- an event by which requests are taken, and which leaves the Cread in its lane
  take_kept : {K : Change} (p : PolicyOf) (x : Core) (q : PolicyOf) (y : Core) (e : Event) (rest : List Letter) → IsGoing K n p x e q y → is_taking e ≡ true
      → j < x.size.nodes → lane_of x Requests j n ≡ front ∷ rest → lane_of y Requests j n ≡ front ∷ rest → Passes test n front.line x
      → Passes test n front.line y
  take_kept p x q y (event.Serve from i) rest st kind f lane still is =
      let node = node_at x n in
      let one = serve_one n p x q y from i st in
      let request = one.front.letter in
      let plain : request.line ≡ front.line → is_cread request.body ≡ false = λ same. elim (cases_Bool (is_cread request.body)) [
        | inr none ↦ none
        | inl again ↦
            let here : j ≡ from = one_asks x j from n front request st.reached f one.front.sender st.some (subst (IsAmong front) (sym lane) (inl refl))
            (subst (IsAmong request) (sym one.front.front) (inl refl)) cread (cread_is request.body again) same in
            let first : lane_of x Requests j n ≡ request ∷ one.front.rest =
            subst (λ (k : ℕ). lane_of x Requests k n ≡ request ∷ one.front.rest) (sym here) one.front.front in
            let left : one.front.rest ≡ rest = (let both : request ∷ one.front.rest ≡ front ∷ rest = sym first ∙ lane in cc) in
            let now : lane_of y Requests j n ≡ one.front.rest = subst (λ (k : ℕ). lane_of y Requests k n ≡ one.front.rest) (sym here) one.sets.now in
            absurd (never_longer front rest [] (lane_of y Requests j n) (sym left ∙ sym now) still)
      ] in
      serves p x q y request one.front.next plain
      (of_some (ServedAs node request) (node_serving node request) one.front.next one.front.takes (serve_as node request)) one.node is
  take_kept p x q y (event.Refuse from i) rest st kind f lane still is =
      let node = node_at x n in
      let one = refuse_one n p x q y from i st in
      let does = of_some (RefusedAs node one.front.letter) (node_refusing node one.front.letter) one.front.next one.front.takes
      (refuse_as node one.front.letter) in
      subst (λ (part : NodeOf). test (state_on part front.line) ≡ true) (sym one.node)
      (subst (λ (part : NodeOf). test (state_on part front.line) ≡ true) does.then_ is)
  take_kept p x q y (event.Reply i) rest st kind f lane still is =
      step_replies test front.line i (state_on (node_at x n) front.line) (state_on (node_at y n) front.line)
      (state_step n p x q y front.line (event.Reply i) st) is
  take_kept p x q y (event.Accept from i) rest st kind f lane still is = cc
  take_kept p x q y (event.Ask i line k) rest st kind f lane still is = cc
  take_kept p x q y (event.Issue i op) rest st kind f lane still is = cc
  take_kept p x q y (event.Perform i line) rest st kind f lane still is = cc

-- ---- many events

module _ (K : Change) (test : CacheState → Bool) (n : ℕ) where
  pub accepts_pass : IsAcceptedWell test → (line : ℕ) (p : PolicyOf) (x : Core) (events : List Event) (q : PolicyOf) (y : Core) → AreAll is_accept events
      → GoesBy K n p x events q y → Passes test n line x → Passes test n line y
  accepts_pass well line p x [] q y kinds goes is = subst (Passes test n line) goes.1 is
  accepts_pass well line p x (e ∷ events) q y kinds goes is =
      let mid = goes.1 in
      accepts_pass well line goes.0 mid events q y kinds.1 goes.3
      (step_accepts test well e line (state_on (node_at x n) line) (state_on (node_at mid n) line) (state_step n p x goes.0 mid line e goes.2) kinds.0 is)

  pub asks_pass : IsAskedWell test → (line : ℕ) (p : PolicyOf) (x : Core) (events : List Event) (q : PolicyOf) (y : Core) → AreAll is_ask events
      → GoesBy K n p x events q y → Passes test n line x → Passes test n line y
  asks_pass well line p x [] q y kinds goes is = subst (Passes test n line) goes.1 is
  asks_pass well line p x (e ∷ events) q y kinds goes is =
      let mid = goes.1 in
      asks_pass well line goes.0 mid events q y kinds.1 goes.3
      (step_asks test well e line (state_on (node_at x n) line) (state_on (node_at mid n) line) (state_step n p x goes.0 mid line e goes.2) kinds.0 is)

  -- while requests are taken, and a Cread for the line stays in front of its lane
  pub takes_pass : IsServedWell test → (j : ℕ) (front : Letter) (rest : List Letter) → front.body ≡ Cread → (p : PolicyOf) (x : Core) (events : List Event)
      → (q : PolicyOf) (y : Core) → AreAll is_taking events → GoesBy K n p x events q y → j < x.size.nodes → lane_of x Requests j n ≡ front ∷ rest
      → lane_of y Requests j n ≡ front ∷ rest → Passes test n front.line x → Passes test n front.line y
  takes_pass well j front rest cread p x [] q y kinds goes f lane still is = subst (Passes test n front.line) goes.1 is
  takes_pass well j front rest cread p x (e ∷ events) q y kinds goes f lane still is =
      let mid = goes.1 in
      let size = size_kept n p x goes.0 mid e goes.2 in
      let f1 : j < mid.size.nodes = subst (λ (z : Size). j < z.nodes) (sym size) f in
      elim (take_one n j p x goes.0 mid e front rest goes.2 kinds.0 f lane) [
        | inl same ↦
            takes_pass well j front rest cread goes.0 mid events q y kinds.1 goes.3 f1 same still
            (take_kept test well n j front cread p x goes.0 mid e rest goes.2 kinds.0 f lane same is)
        | inr took ↦
            let lost = lost_all K n goes.0 mid events q y j kinds.1 goes.3 f1 in
            absurd (never_longer front rest lost.0 (lane_of y Requests j n) (sym took.1 ∙ lost.1) still)
      ]

-- what is pending stays as it is
pub works_stay : (K : Change) (n line : ℕ) (p : PolicyOf) (x : Core) (events : List Event) (q : PolicyOf) (y : Core) → GoesBy K n p x events q y
    → work_on (node_at y n) line ≡ work_on (node_at x n) line
works_stay K n line p x [] q y goes = ap (λ (c : Core). work_on (node_at c n) line) (sym goes.1)
works_stay K n line p x (e ∷ events) q y goes =
    let mid = goes.1 in
    let st = goes.2 in
    works_stay K n line goes.0 mid events q y goes.3
    ∙ ap work_in ((event_kept x mid n p goes.0 e st.reached st.fit st.some st.own st.steps).work line)

-- ---- asks of a line on which something can be performed

-- an ask about another line leaves a line
ask_apart : (K : Change) (n : ℕ) (p : PolicyOf) (x : Core) (i at : ℕ) (k : AskKind) (q : PolicyOf) (y : Core) (line : ℕ)
    → IsGoing K n p x (event.Ask i at k) q y → line ≢ at → state_on (node_at y n) line ≡ state_on (node_at x n) line
ask_apart K n p x i at k q y line st other =
    let node = node_at x n in
    let one = ask_one n p x q y i at k st in
    let told = of_some (AsksAs node at k) (node_asking node at k) one.out.sent one.out.there (ask_as node at k) in
    let set = at_place_set (λ (l : ℕ) (s : LineState). l ≢ at → s.state ≡ state_on node l) node.cache.lines at (line_asked (line_of node.cache at) told.asked)
    untouched (λ l apart. refl) (λ apart. absurd (apart refl)) line in
    ap (λ (part : NodeOf). state_on part line) one.node
    ∙ (ap (λ (part : NodeOf). state_on part line) (sym told.next) ∙ set other)

-- so a line that leads nobody, and on which something can be performed, is left by each ask
pub asks_none : (K : Change) (n line : ℕ) (p : PolicyOf) (x : Core) (events : List Event) (q : PolicyOf) (y : Core) → AreAll is_ask events
    → GoesBy K n p x events q y → is_lone (state_on (node_at x n) line) ≡ true
    → can_perform (work_on (node_at x n) line) (state_on (node_at x n) line) ≡ true → is_lone (state_on (node_at y n) line) ≡ true
asks_none K n line p x [] q y kinds goes is can = subst (λ (c : Core). is_lone (state_on (node_at c n) line) ≡ true) goes.1 is
asks_none K n line p x (event.Ask i at k ∷ events) q y kinds goes is can =
    let node = node_at x n in
    let mid = goes.1 in
    let st = goes.2 in
    let apart : line ≢ at = λ same. (
    let suit = wanted_suits p n node at k (record { core = x; reached = st.reached; some = st.some; here = refl }) st.own.decides.0 in
    let clash : true ≡ false = sym can ∙ (ap (λ (l : ℕ). can_perform (work_on node l) (state_on node l)) same ∙ suit.idle) in
    cc
    ) in
    let state : state_on (node_at mid n) line ≡ state_on node line = ask_apart K n p x i at k goes.0 mid line st apart in
    let work : work_on (node_at mid n) line ≡ work_on node line = ap work_in ((event_kept x mid n p goes.0 (event.Ask i at k) st.reached st.fit st.some st.own
    st.steps).work line) in
    asks_none K n line goes.0 mid events q y kinds.1 goes.3 (ap is_lone state ∙ is)
    (ap (λ (w : Option Bool). can_perform w (state_on (node_at mid n) line)) work ∙ (ap (can_perform (work_on node line)) state ∙ can))
asks_none K n line p x (event.Serve from i ∷ events) q y kinds goes is can = let no = kinds.0 in cc
asks_none K n line p x (event.Refuse from i ∷ events) q y kinds goes is can = let no = kinds.0 in cc
asks_none K n line p x (event.Accept from i ∷ events) q y kinds goes is can = let no = kinds.0 in cc
asks_none K n line p x (event.Reply i ∷ events) q y kinds goes is can = let no = kinds.0 in cc
asks_none K n line p x (event.Issue i op ∷ events) q y kinds goes is can = let no = kinds.0 in cc
asks_none K n line p x (event.Perform i at ∷ events) q y kinds goes is can = let no = kinds.0 in cc
