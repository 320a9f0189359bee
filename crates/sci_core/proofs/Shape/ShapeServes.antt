-- A request that is served, or refused, leaves each line its shape and its last contents.
use Rattle.std.proofs.Common.{◌≡◌, ◌≢◌, ℕ, ◌%◌, ◌<◌, true, false, List, [], ◌∷◌, length, Option, Some, None, refl, sym, ap, subst, ◌∙◌, arith, inl, inr}
use Rattle.std.proofs.{Math.Nat.{div-add-mod}, lemmas.Bool.{cases_Bool, cases_eq}}
use Rattle.std.proofs.lemmas.List.{get_or-set_same, get_or-set_other}
use Rattle.std.specs.Prelude.{IfSome, slice_set}
use Rattle.sci_words.specs.declared.stamped.Stamped.{Stamped}
use Rattle.sci_packets.specs.{declared.body.Body.{Body, TheVariants.{Busy}}, Table.{is_request}}
use Rattle.sci_home.specs.{declared.state.HomeState.{HomeState}, Serving.{home_serving as serving_of_home}}
use Rattle.sci_cache.specs.{State.{CacheState, waits}, Serving.{serving}, Line.{LineState, untouched, line_in}}
use Rattle.sci_cache.specs.Cache.{Letter, line_of, with_line}
use Rattle.sci_core.specs.Node.{NodeOf, is_setback, lines_of, home_of, home_place, answering, with_answer, no_node}
use Rattle.sci_core.specs.Core.{Core, node_at, with_node, lane_at, with_lane}
use Rattle.sci_core.specs.{Sharing.{packets_of, answer_in, home_at, answer_to as told}, Tidy.{IsSentIn, IsTidy}}
use Rattle.sci_core.specs.WellFormed.{IsPart}
use Rattle.sci_core.proofs.{Basics.Lists.{at_place_set}, Step.Nodes.{home_below}}
use Rattle.sci_core.proofs.Tidy.PacketMoves.{packets_same, packets_served, filter_left, filter_one, lane_has}
use Rattle.sci_core.proofs.Tidy.RowWaits.{idle_has_none, some_has_one}
use Rattle.sci_core.proofs.Tidy.TidySteps.{about_from, about_line, about_asker, request_asker, about_answer}
use Rattle.sci_core.proofs.Shape.{Views.{Shift, View}, Standings.{busy_alike}, Led.{AlikeIn, alike_moved, alike_same}}
use Rattle.sci_core.proofs.Shape.Shapes.{Asks, Shaped, home_shaped}
use Rattle.sci_core.proofs.Shape.CacheShapes.{ServesAs, cache_serves, cache_shaped}
use Rattle.sci_core.proofs.Shape.ShapeSteps.{view_of, ShapedAt, SameLine, same_shaped, request_tells, answer_tells, homes_same}

-- node n has taken a request from a lane, and its answer waits there
pub record Answered (core : Core) (n place : ℕ) (next : NodeOf) (request : Letter) (rest : List Letter) (body : Body) : Type 0 where
  pub some : n < core.size.nodes
  pub below : n < length core.parts
  pub within : place < length core.lanes
  pub front : lane_at core place ≡ request ∷ rest
  pub asks : is_request request.body ≡ true
  pub answers : is_request body ≡ false
  pub free : (node_at core n).waiting ≡ None
  pub waiting : next.waiting ≡ Some (answering request body)
  pub asker : request.source < core.size.nodes
  pub known : request.line < core.size.lines
  pub to : request.target ≡ n

-- what is under way to node a about line k, before and after
pub record Told (core new : Core) (a k : ℕ) (body : Body) (request : Letter) : Type 0 where
  pub unanswered : told core a k ≡ None
  pub answered : told new a k ≡ Some body
  pub waiting : waits ((view_of core k).state a) ≡ true
  pub sent : IsSentIn (k % core.size.nodes) ((view_of core k).state a) request

pub told_here : (core : Core) (n place : ℕ) (next : NodeOf) (request : Letter) (rest : List Letter) (body : Body) → Answered core n place next request rest body
    → IsTidy core
    → Told core (with_lane (with_node core n next) place rest) request.source request.line body request
told_here core n place next request rest body is tidy =
    let a = request.source in
    let k = request.line in
    let about = about_from a k request refl (request_asker request is.asks) in
    let answer = answering request body in
    let one = some_has_one (k % core.size.nodes) (line_of (node_at core a).cache k) (packets_of core a k)
    (lane_has core place request rest a k is.within is.front about) (tidy a k is.asker is.known) in
    let moved = packets_served core n next place request answer one.letter rest a k is.below is.within is.front is.free is.waiting about
    (about_answer a k request body is.asks is.answers ∙ about) one.one in
    let there : packets_of core a k ≡ request ∷ [] = one.one ∙ ap (λ (l : Letter). l ∷ []) (sym moved.same) in
    let sent = subst (λ (l : Letter). is_request l.body ≡ true → IsSentIn (k % core.size.nodes) ((view_of core k).state a) l) (sym moved.same)
    one.awaited.sent in
    record {
      unanswered = ap answer_in there ∙ request_tells request is.asks;
      answered = ap answer_in moved.then_ ∙ answer_tells answer is.answers;
      waiting = one.awaited.waiting;
      sent = sent is.asks;
    }

-- what is under way to another node, or about another line, stays
pub told_other : (core : Core) (n place : ℕ) (next : NodeOf) (request : Letter) (rest : List Letter) (body : Body)
    → Answered core n place next request rest body → (m k : ℕ) → ((m ≡ request.source) × (k ≡ request.line) → ⊥)
    → told (with_lane (with_node core n next) place rest) m k ≡ told core m k
told_other core n place next request rest body is m k not =
    grind (arith, cases_Bool, about_asker, request_asker, about_line, about_answer, filter_one, packets_same, filter_left)

-- ---- if no state changes

state_same : (core : Core) (n : ℕ) (next : NodeOf) → ((k : ℕ) → (line_of next.cache k).state ≡ (line_of (node_at core n).cache k).state) → (m k : ℕ)
    → (line_of (node_at (with_node core n next) m).cache k).state ≡ (line_of (node_at core m).cache k).state
state_same core n next states m k =
    at_place_set (λ (j : ℕ) (part : NodeOf). (line_of part.cache k).state ≡ (line_of (node_at core j).cache k).state) core.parts n next no_node (λ j. refl)
    (states k) m

-- another line stands as it stood
pub other_line : (core : Core) (n place : ℕ) (next : NodeOf) (request : Letter) (rest : List Letter) (body : Body)
    → Answered core n place next request rest body → ((k : ℕ) → k ≢ request.line → (line_of next.cache k).state ≡ (line_of (node_at core n).cache k).state)
    → ((k : ℕ) → k ≢ request.line → home_at (with_node core n next) k ≡ home_at core k) → (k : ℕ) → k ≢ request.line
    → SameLine core (with_lane (with_node core n next) place rest) k
other_line core n place next request rest body is states homes k other =
    let new = with_lane (with_node core n next) place rest in
    record {
      home = homes k other;
      alike = λ m. alike_same (view_of core k) (view_of new k) m
          (at_place_set (λ (j : ℕ) (part : NodeOf). (line_of part.cache k).state ≡ (line_of (node_at core j).cache k).state) core.parts n next no_node
          (λ j. refl) (states k other) m)
          (told_other core n place next request rest body is m k (λ h. other h.1));
    }

-- the asker's line, if no state changes
asks_now : (core : Core) (n place : ℕ) (next : NodeOf) (request : Letter) (rest : List Letter) (body : Body) → Answered core n place next request rest body
    → IsTidy core → ((k : ℕ) → (line_of next.cache k).state ≡ (line_of (node_at core n).cache k).state)
    → Asks (view_of core request.line) (view_of (with_lane (with_node core n next) place rest) request.line) request.source
    ((view_of core request.line).state request.source) body
asks_now core n place next request rest body is tidy states =
    let new = with_lane (with_node core n next) place rest in
    let line = request.line in
    let told_a = told_here core n place next request rest body is tidy in
    record {
      was = refl;
      state = state_same core n next states request.source line;
      unanswered = told_a.unanswered;
      answered = told_a.answered;
      others = λ m apart. alike_same (view_of core line) (view_of new line) m (state_same core n next states m line)
          (told_other core n place next request rest body is m line (λ h. apart h.0));
    }

-- ---- a refusal

pub refused_same : (core : Core) (n place : ℕ) (request : Letter) (rest : List Letter) → is_setback request.body ≡ false
    → Answered core n place (with_answer (node_at core n) request Busy) request rest Busy → IsTidy core
    → (k : ℕ) → SameLine core (with_lane (with_node core n (with_answer (node_at core n) request Busy)) place rest) k
refused_same core n place request rest not_setback is tidy k =
    let next = with_answer (node_at core n) request Busy in
    let new = with_lane (with_node core n next) place rest in
    let line = request.line in
    let homes = homes_same core n next (record { homes = refl; nodes = refl }) in
    elim (cases_eq k line) [
      | inl here ↦
          let told_a = told_here core n place next request rest Busy is tidy in
          let asks = asks_now core n place next request rest Busy is tidy (λ j. refl) in
          let busy = busy_alike (line % core.size.nodes) ((view_of core line).state request.source) request told_a.sent not_setback in
          let alike : (m : ℕ) → AlikeIn (view_of core line) (view_of new line) m = λ m. elim (cases_eq m request.source) [
            | inl asker ↦ subst (AlikeIn (view_of core line) (view_of new line)) (sym asker)
                (alike_moved (view_of core line) (view_of new line) request.source None ((view_of core line).state request.source) (Some Busy) asks.unanswered
                asks.state asks.answered busy)
            | inr other ↦ asks.others m other
          ] in
          subst (SameLine core new) (sym here) (record { home = homes line; alike = alike })
      | inr other ↦ other_line core n place next request rest Busy is (λ j apart. refl) (λ j apart. homes j) k other
    ]

-- ---- the home of one line

home_changed : (core : Core) (n line : ℕ) (next : NodeOf) (home : HomeState) → n < length core.parts → (node_at core n).cache.nodes ≡ core.size.nodes
    → line % core.size.nodes ≡ n → next.cache.nodes ≡ core.size.nodes → next.homes ≡ slice_set (node_at core n).homes (home_place (node_at core n) line) home
    → (k : ℕ) → k ≢ line → home_at (with_node core n next) k ≡ home_at core k
home_changed core n line next home below all at same homes k other = grind (arith, cases_eq, get_or-set_same, div-add-mod, get_or-set_other)

home_now : (core : Core) (n line : ℕ) (next : NodeOf) (home : HomeState) → n < length core.parts → line % core.size.nodes ≡ n
    → next.cache.nodes ≡ (node_at core n).cache.nodes → next.homes ≡ slice_set (node_at core n).homes (home_place (node_at core n) line) home
    → home_place (node_at core n) line < length (node_at core n).homes → home_at (with_node core n next) line ≡ home
home_now core n line next home below at same homes within = grind (arith, get_or-set_same)

-- the node after its home has served
abbrev pub with_home : NodeOf → Letter → HomeState → Body → NodeOf
with_home part request home body = with_answer (record part { homes = slice_set part.homes (home_place part request.line) home }) request body

-- what a home's serving does to every line: the asker's, and any other, which stands as it stood
pub record HomeTurn (core new : Core) (request : Letter) (home : HomeState) (served : HomeState × Body) : Type 0 where
  pub was : home_at core request.line ≡ home
  pub now : home_at new request.line ≡ served.0
  pub sent : IsSentIn (request.line % core.size.nodes) ((view_of core request.line).state request.source) request
  pub asks : Asks (view_of core request.line) (view_of new request.line) request.source ((view_of core request.line).state request.source) served.1
  pub others : (k : ℕ) → k ≢ request.line → SameLine core new k

pub home_turns : (core : Core) (n place : ℕ) (request : Letter) (rest : List Letter) (served : HomeState × Body) → IsPart core.size n (node_at core n)
    → request.line % core.size.nodes ≡ n → Answered core n place (with_home (node_at core n) request served.0 served.1) request rest served.1 → IsTidy core
    → HomeTurn core (with_lane (with_node core n (with_home (node_at core n) request served.0 served.1)) place rest) request
    (home_of (node_at core n) request.line) served
home_turns core n place request rest served part at is tidy =
    let old = node_at core n in
    let next = with_home old request served.0 served.1 in
    let line = request.line in
    let told_a = told_here core n place next request rest served.1 is tidy in
    let within : home_place old line < length old.homes = home_below old line (subst (λ (i : ℕ). line < i) (sym part.each) is.known) part.fits in
    let homes = home_changed core n line next served.0 is.below part.all at part.all refl in
    record {
      was = ap (λ (j : ℕ). home_of (node_at core j) line) at;
      now = home_now core n line next served.0 is.below at refl refl within;
      sent = told_a.sent;
      asks = asks_now core n place next request rest served.1 is tidy (λ j. refl);
      others = other_line core n place next request rest served.1 is (λ j apart. refl) homes;
    }

-- What a home's serving keeps of every line: what is kept of the asker's line, and of one that stands as it stood.
pub home_keeps : (P : View → HomeState → Type 0)
    → ((old new : Core) (k : ℕ) → SameLine old new k → P (view_of old k) (home_at old k) → P (view_of new k) (home_at new k))
    → ((h a : ℕ) (home : HomeState) (old new : View) (asker : CacheState) (letter : Letter) → IsSentIn h asker letter
    → IfSome (serving_of_home home a letter.body) (λ (served : HomeState × Body). Asks old new a asker served.1 → P old home → P new served.0))
    → (core : Core) (n place : ℕ) (request : Letter) (rest : List Letter) (served : HomeState × Body) → IsPart core.size n (node_at core n)
    → request.line % core.size.nodes ≡ n → Answered core n place (with_home (node_at core n) request served.0 served.1) request rest served.1
    → serving_of_home (home_of (node_at core n) request.line) request.source request.body ≡ Some served → IsTidy core → (k : ℕ)
    → P (view_of core k) (home_at core k)
    → P (view_of (with_lane (with_node core n (with_home (node_at core n) request served.0 served.1)) place rest) k)
    (home_at (with_lane (with_node core n (with_home (node_at core n) request served.0 served.1)) place rest) k)
home_keeps P stood row core n place request rest served part at is serves tidy k has =
    let new = with_lane (with_node core n (with_home (node_at core n) request served.0 served.1)) place rest in
    let line = request.line in
    let a = request.source in
    let turn = home_turns core n place request rest served part at is tidy in
    elim (cases_eq k line) [
      | inl here ↦
          let home = home_of (node_at core n) line in
          let asker = (view_of core line).state a in
          let this = row (line % core.size.nodes) a home (view_of core line) (view_of new line) asker request turn.sent in
          let keeps = subst (λ (o : Option (HomeState × Body)).
          IfSome o (λ (x : HomeState × Body). Asks (view_of core line) (view_of new line) a asker x.1 → P (view_of core line) home
          → P (view_of new line) x.0)) serves this in
          let has_here : P (view_of core line) home =
          subst (P (view_of core line)) turn.was (subst (λ (j : ℕ). P (view_of core j) (home_at core j)) here has) in
          subst (λ (j : ℕ). P (view_of new j) (home_at new j)) (sym here) (subst (P (view_of new line)) (sym turn.now) (keeps turn.asks has_here))
      | inr other ↦ stood core new k (turn.others k other) has
    ]

pub home_kept : (core : Core) (n place : ℕ) (request : Letter) (rest : List Letter) (served : HomeState × Body) → IsPart core.size n (node_at core n)
    → request.line % core.size.nodes ≡ n → Answered core n place (with_home (node_at core n) request served.0 served.1) request rest served.1
    → serving_of_home (home_of (node_at core n) request.line) request.source request.body ≡ Some served → IsTidy core → (k : ℕ) (c : Stamped)
    → ShapedAt core k c → ShapedAt (with_lane (with_node core n (with_home (node_at core n) request served.0 served.1)) place rest) k c
home_kept core n place request rest served part at is serves tidy k c shaped =
    home_keeps (λ view home. Shaped view home c) (λ old new j same has. same_shaped old new j c same has)
    (λ h a home old new asker letter sent. home_shaped h a home c old new asker letter sent)
    core n place request rest served part at is serves tidy k shaped

-- ---- a cache serves

abbrev pub with_served : NodeOf → Letter → CacheState → Body → NodeOf
with_served part request state body =
    with_answer (record part { cache = with_line part.cache request.line (line_in (line_of part.cache request.line) state) }) request body

-- the line of the asker and of the server, before and after
pub served_shift : (core : Core) (n place : ℕ) (request : Letter) (rest : List Letter) (served : CacheState × Body) → IsPart core.size n (node_at core n)
    → Answered core n place (with_served (node_at core n) request served.0 served.1) request rest served.1 → IsTidy core
    → Shift (view_of core request.line)
    (view_of (with_lane (with_node core n (with_served (node_at core n) request served.0 served.1)) place rest) request.line) request.source n served.0
    served.1
served_shift core n place request rest served part is tidy =
    let old = node_at core n in
    let next = with_served old request served.0 served.1 in
    let line = request.line in
    let line_below : line < lines_of old = subst (λ (i : ℕ). line < i) (sym part.each) is.known in
    let told_a = told_here core n place next request rest served.1 is tidy in
    let at : node_at (with_node core n next) n ≡ next = get_or-set_same core.parts n next no_node is.below in
    let state : (line_of next.cache line).state ≡ served.0 =
    ap (λ (l : LineState). l.state) (get_or-set_same old.cache.lines line (line_in (line_of old.cache line) served.0) untouched line_below) in
    record {
      unanswered = told_a.unanswered;
      answered = told_a.answered;
      other_answers = λ m apart. told_other core n place next request rest served.1 is m line (λ h. apart h.0);
      here = ap (λ (p : NodeOf). (line_of p.cache line).state) at ∙ state;
      others = λ m apart. ap (λ (p : NodeOf). (line_of p.cache line).state) (get_or-set_other core.parts n m next no_node apart);
      idle = λ idle. ap answer_in (idle_has_none (line % core.size.nodes) (line_of (node_at core n).cache line) (packets_of core n line) idle
          (tidy n line is.some is.known));
    }

pub cache_kept : (core : Core) (n place : ℕ) (request : Letter) (rest : List Letter) (served : CacheState × Body) → IsPart core.size n (node_at core n)
    → Answered core n place (with_served (node_at core n) request served.0 served.1) request rest served.1
    → serving (line_of (node_at core n).cache request.line).state request.source request.body ≡ Some served → IsTidy core → (k : ℕ) (c : Stamped)
    → ShapedAt core k c → ShapedAt (with_lane (with_node core n (with_served (node_at core n) request served.0 served.1)) place rest) k c
cache_kept core n place request rest served part is serves tidy k c shaped =
    let old = node_at core n in
    let next = with_served old request served.0 served.1 in
    let new = with_lane (with_node core n next) place rest in
    let line = request.line in
    let a = request.source in
    let homes = homes_same core n next (record { homes = refl; nodes = refl }) in
    elim (cases_eq k line) [
      | inl here ↦
          let told_a = told_here core n place next request rest served.1 is tidy in
          let asker = (view_of core line).state a in
          let row = cache_serves (line % core.size.nodes) a n ((view_of core line).state n) asker request told_a.sent is.to in
          let serves_as = subst (λ (o : Option (CacheState × Body)). IfSome o (ServesAs a n asker ((view_of core line).state n))) serves row in
          let shift = served_shift core n place request rest served part is tidy in
          let then_ = cache_shaped (view_of core line) (view_of new line) a n served (home_at core line) c shift serves_as
          (subst (λ (j : ℕ). ShapedAt core j c) here shaped) in
          subst (λ (j : ℕ). ShapedAt new j c) (sym here) (subst (λ (h : HomeState). Shaped (view_of new line) h c) (sym (homes line)) then_)
      | inr other ↦
          let others : (j : ℕ) → j ≢ line → (line_of next.cache j).state ≡ (line_of old.cache j).state =
          λ j apart. ap (λ (l : LineState). l.state)
          (get_or-set_other old.cache.lines line j (line_in (line_of old.cache line) served.0) untouched apart) in
          same_shaped core new k c (other_line core n place next request rest served.1 is others (λ j apart. homes j) k other) shaped
    ]
