-- From a state where nothing is under way, a request that is asked can be served, answered and accepted.
use Rattle.std.proofs.Common.{◌≡◌, ◌≢◌, ℕ, ◌%◌, ◌<◌, List, [], ◌∷◌, ◌++◌, length, set, slice_index_or, Option, Some, None, refl, sym, ap, subst, ◌∙◌}
use Rattle.std.proofs.{Common.{arith, inl, inr}, lemmas.List.{get_or-set_same, get_or-set_other}}
use Rattle.std.specs.Prelude.{IsSome, is_some, option_map}
use Rattle.sci_words.specs.declared.event.AskKind.{AskKind}
use Rattle.sci_packets.specs.declared.body.Body.{Body}
use Rattle.sci_home.specs.{declared.state.HomeState.{HomeState}, Serving.{home_serving}}
use Rattle.sci_cache.specs.{State.{CacheState}, Accepting.{accepting}, Serving.{serving}, Line.{line_asked, line_in}}
use Rattle.sci_cache.specs.Cache.{CacheOf, Letter, line_of, target_of, with_line}
use Rattle.sci_core.specs.declared.lane.LaneKind.TheVariants.{Requests, Answers}
use Rattle.sci_core.specs.{Core.{Core, lane_at, lane_of, lane_place, node_at, sent_by, stepping}, Draining.{IsDrained}}
use Rattle.sci_core.specs.Node.{NodeOf, answering, home_of, lines_of, no_node, node_accepting, node_asking, node_serving}
use Rattle.sci_core.specs.{Reached.{IsReached}, Rounds.{At_home, In_cache, IsRepliedTo, IsRound, IsServed, server_of}}
use Rattle.sci_core.specs.{Shape.{state_at}, Sharing.{home_at}, Sides.{taken_to}, Size.{Size}}
use Rattle.sci_core.specs.WellFormed.{IsWellFormed}
use Rattle.sci_core.proofs.Step.Applied.{waits_replying}
use Rattle.sci_core.proofs.Step.NodeSides.{At_home as Home_served, In_cache as Cache_served, ServedAs, ask_alike, serve_as, AcceptedAs, accept_as}
use Rattle.sci_core.proofs.Step.{Places.{place_answers, place_requests}, Sides.{steps_by_sides}, Steps.{lane_below}}
use Rattle.sci_core.proofs.Tidy.{Enabled.{accept_enabled, serve_enabled}, TidyRuns.{node_below}}
use Rattle.sci_core.proofs.Basics.{Lists.{at_place_set}, Options.{found, of_some}}
use Rattle.sci_core.proofs.WellFormed.{Parts.{SendsWell, part_asking}, WellFormedSteps.{reached_stepping, reached_well}}
use Rattle.sci_core.proofs.{Shape.ShapeSteps.{homes_same}, Settling.Shifts.{AskedAs, Shifts, asked_as, shifts, stays}}
use Rattle.sci_words.specs.declared.event.Event.TheVariants as event

-- ---- the request is asked

pub record Asks (core new : Core) (n line : ℕ) (kind : AskKind) : Type 0 where
  pub sent : NodeOf × Letter
  pub is : node_asking (node_at core n) line kind ≡ Some sent
  pub as_ : AskedAs (node_at core n) line kind sent
  pub well : SendsWell core.size n sent
  pub then_ : new ≡ sent_by core n Requests sent.0 sent.1

pub asks_one : (core : Core) (n line : ℕ) (kind : AskKind) → IsReached core → n < core.size.nodes → IsSome (node_asking (node_at core n) line kind)
    → (new : Core) × Asks core new n line kind × (stepping core (event.Ask n line kind) ≡ Some new)
asks_one core n line kind reached lt some =
    let well = reached_well core reached in
    let part = node_at core n in
    let sent = found (node_asking part line kind) some in
    let new = sent_by core n Requests sent.0.0 sent.0.1 in
    let asks : Asks core new n line kind = record {
      sent = sent.0;
      is = sent.1;
      as_ = of_some (AskedAs part line kind) (node_asking part line kind) sent.0 sent.1 (asked_as part line kind);
      well = of_some (SendsWell core.size n) (node_asking part line kind) sent.0 sent.1
          (part_asking core.size n part line kind well.sizes.some_node lt (well.each_part n lt));
      then_ = refl;
    } in
    (new, asks, (steps_by_sides core n lt).ask line kind ∙ ap (option_map (λ (s : NodeOf × Letter). sent_by core n Requests s.0 s.1)) sent.1)

-- ---- it is served

-- the server's state becomes another, and its answer waits
pub record Serves (core mid new : Core) (n line : ℕ) (request : Letter) (asked : Body) : Type 0 where
  pub next : NodeOf
  pub then_ : new ≡ taken_to mid request.target Requests n [] next
  pub served : CacheState
  pub answer : Body
  pub waiting : next.waiting ≡ Some (answering request answer)
  pub is : IsServed core n line asked (state_at mid line request.target) served answer
  pub shift : Shifts mid new request.target line served

home_same : (core mid : Core) (n line : ℕ) (kind : AskKind) → Asks core mid n line kind → home_at mid line ≡ home_at core line
home_same core mid n line kind a = grind (arith, of_some, ask_alike, homes_same)

served_so : (core mid : Core) (n line : ℕ) (kind : AskKind) (a : Asks core mid n line kind) (next : NodeOf) → IsWellFormed mid
    → a.sent.1.target < mid.size.nodes → mid.size ≡ core.size → line < lines_of (node_at mid a.sent.1.target)
    → ServedAs (node_at mid a.sent.1.target) a.sent.1 next
    → Serves core mid (taken_to mid a.sent.1.target Requests n [] next) n line a.sent.1 a.as_.asked.request
served_so core mid n line kind a next well lt size inside (Home_served served asks serves e) =
    let request = a.sent.1 in
    let t = request.target in
    let part = node_at mid t in
    let body : request.body ≡ a.as_.asked.request = ap (λ (l : Letter). l.body) a.as_.letter in
    let about : request.line ≡ line = ap (λ (l : Letter). l.line) a.as_.letter in
    let at : request.line % core.size.nodes ≡ t = a.well.request.home asks in
    let here : home_of part request.line ≡ home_at core line =
    ap (λ (k : ℕ). home_of (node_at mid t) k) about
    ∙ (ap (λ (j : ℕ). home_of (node_at mid j) line) (sym at ∙ (ap (λ (k : ℕ). k % core.size.nodes) about ∙ ap (λ (s : Size). line % s.nodes) (sym size)))
    ∙ home_same core mid n line kind a) in
    let same : home_serving (home_at core line) n a.as_.asked.request ≡ Some served =
    ap (λ (h : HomeState). home_serving h n a.as_.asked.request) (sym here)
    ∙ (ap (λ (k : ℕ). home_serving (home_of part request.line) k a.as_.asked.request) (sym a.well.from)
    ∙ (ap (home_serving (home_of part request.line) request.source) (sym body) ∙ serves)) in
    record {
      next = next;
      then_ = refl;
      served = state_at mid line t;
      answer = served.1;
      waiting = ap (λ (p : NodeOf). p.waiting) (sym e);
      is = At_home served.0 same refl;
      shift = stays mid (taken_to mid t Requests n [] next) t t line next (node_below mid t well lt) (ap (λ (p : NodeOf). p.cache) (sym e))
          (ap (λ (p : NodeOf). p.pending) (sym e)) refl refl;
    }
served_so core mid n line kind a next well lt size inside (Cache_served served serves e) =
    let request = a.sent.1 in
    let t = request.target in
    let part = node_at mid t in
    let body : request.body ≡ a.as_.asked.request = ap (λ (l : Letter). l.body) a.as_.letter in
    let about : request.line ≡ line = ap (λ (l : Letter). l.line) a.as_.letter in
    let same : serving (state_at mid line t) n a.as_.asked.request ≡ Some served =
    ap (λ (k : ℕ). serving (line_of part.cache k).state n a.as_.asked.request) (sym about)
    ∙ (ap (λ (k : ℕ). serving (line_of part.cache request.line).state k a.as_.asked.request) (sym a.well.from)
    ∙ (ap (serving (line_of part.cache request.line).state request.source) (sym body) ∙ serves)) in
    let cache : next.cache ≡ with_line part.cache line (line_in (line_of part.cache line) served.0) =
    ap (λ (p : NodeOf). p.cache) (sym e) ∙ ap (λ (k : ℕ). with_line part.cache k (line_in (line_of part.cache k) served.0)) about in
    record {
      next = next;
      then_ = refl;
      served = served.0;
      answer = served.1;
      waiting = ap (λ (p : NodeOf). p.waiting) (sym e);
      is = In_cache same;
      shift = shifts mid (taken_to mid t Requests n [] next) t line next (line_in (line_of part.cache line) served.0) (node_below mid t well lt) inside cache
          (ap (λ (p : NodeOf). p.pending) (sym e)) refl refl;
    }

-- what is asked while nothing is under way is alone in its lane, and no answer waits
request_alone : (core mid : Core) (n line : ℕ) (kind : AskKind) (a : Asks core mid n line kind) → IsWellFormed core → n < core.size.nodes → IsDrained core
    → lane_of mid Requests n a.sent.1.target ≡ a.sent.1 ∷ []
request_alone core mid n line kind a well lt drained = grind (arith, lane_below, get_or-set_same)

none_waits : (core mid : Core) (n line : ℕ) (kind : AskKind) (a : Asks core mid n line kind) → IsDrained core → (m : ℕ) → (node_at mid m).waiting ≡ None
none_waits core mid n line kind a drained m =
    let next : a.sent.0.waiting ≡ None = ap (λ (p : NodeOf). p.waiting) a.as_.next ∙ drained.waiting n in
    subst (λ (x : Core). (node_at x m).waiting ≡ None) (sym a.then_)
    (at_place_set (λ (j : ℕ) (part : NodeOf). part.waiting ≡ None) core.parts n a.sent.0 no_node drained.waiting next m)

pub serves_one : (core mid : Core) (n line : ℕ) (kind : AskKind) (a : Asks core mid n line kind) → IsReached core → IsReached mid → n < core.size.nodes
    → IsDrained core → mid.size ≡ core.size
    → (new : Core) × Serves core mid new n line a.sent.1 a.as_.asked.request × (stepping mid (event.Serve n a.sent.1.target) ≡ Some new)
serves_one core mid n line kind a reached next lt drained size =
    let well = reached_well core reached in
    let then_ = reached_well mid next in
    let request = a.sent.1 in
    let t = request.target in
    let some : t < mid.size.nodes = subst (λ (s : Size). t < s.nodes) (sym size) a.well.request.letter_ok.target in
    let from : n < mid.size.nodes = subst (λ (s : Size). n < s.nodes) (sym size) lt in
    let lane = request_alone core mid n line kind a well lt drained in
    let served = found (node_serving (node_at mid t) request)
    (serve_enabled (node_at mid t) request a.well.request.asks (none_waits core mid n line kind a drained t)) in
    let as_ = of_some (ServedAs (node_at mid t) request) (node_serving (node_at mid t) request) served.0 served.1 (serve_as (node_at mid t) request) in
    let lines : line < lines_of (node_at mid t) =
    let here = (then_.each_part t some).each in let there = (well.each_part n lt).each in let below = a.as_.below in
    let same : mid.size.lines ≡ core.size.lines = ap (λ (s : Size). s.lines) size in omega arith in (
      taken_to mid t Requests n [] served.0,
      served_so core mid n line kind a served.0 then_ some size lines as_,
      ((steps_by_sides mid t some).serve n from).front request [] lane ∙ ap (option_map (taken_to mid t Requests n [])) served.1,
    )

-- ---- it is answered

pub record Replies (core new : Core) (n t : ℕ) (answer : Letter) : Type 0 where
  pub lane : lane_of new Answers t n ≡ answer ∷ []
  pub shift : (q line : ℕ) → Shifts core new q line (state_at core line q)

pub replies_one : (core mid last : Core) (n line : ℕ) (kind : AskKind) (a : Asks core mid n line kind)
    (s : Serves core mid last n line a.sent.1 a.as_.asked.request) → IsReached core → IsReached mid → IsReached last → n < core.size.nodes → IsDrained core
    → mid.size ≡ core.size → last.size ≡ core.size
    → (new : Core) × Replies last new n a.sent.1.target (answering a.sent.1 s.answer) × (stepping last (event.Reply a.sent.1.target) ≡ Some new)
replies_one core mid last n line kind a s reached next after lt drained size same =
    let well = reached_well core reached in
    let request = a.sent.1 in
    let t = request.target in
    let answer = answering request s.answer in
    let below : t < core.size.nodes = a.well.request.letter_ok.target in
    let some : t < last.size.nodes = subst (λ (x : Size). t < x.nodes) (sym same) below in
    let mid_below : t < mid.size.nodes = subst (λ (x : Size). t < x.nodes) (sym size) below in
    let at : node_at last t ≡ s.next =
    ap (λ (x : Core). node_at x t) s.then_ ∙ get_or-set_same mid.parts t s.next no_node (node_below mid t (reached_well mid next) mid_below) in
    let waits = ap (λ (p : NodeOf). p.waiting) at ∙ s.waiting in
    let sent = record (node_at last t) { waiting = None } in
    let new = sent_by last t Answers sent answer in
    let nodes : last.size.nodes ≡ core.size.nodes = ap (λ (x : Size). x.nodes) same in
    let mid_nodes : mid.size.nodes ≡ core.size.nodes = ap (λ (x : Size). x.nodes) size in
    let place = lane_place core.size.nodes Answers t n in
    let other : (from to : ℕ) → from < core.size.nodes → to < core.size.nodes → place ≢ lane_place core.size.nodes Requests from to = λ from to f u e.
    (let low = place_requests core.size.nodes from to f u in let high = place_answers core.size.nodes t n in absurd (omega arith)) in
    let in_mid : lane_at mid place ≡ [] =
    ap (λ (x : Core). lane_at x place) a.then_
    ∙ (get_or-set_other core.lanes (lane_place core.size.nodes Requests n t) place _ [] (other n t lt below) ∙ drained.lanes place) in
    let apart : place ≢ lane_place mid.size.nodes Requests n t = subst (λ (k : ℕ). place ≢ lane_place k Requests n t) (sym mid_nodes) (other n t lt below) in
    let in_last : lane_at last place ≡ [] =
    ap (λ (x : Core). lane_at x place) s.then_ ∙ (get_or-set_other mid.lanes (lane_place mid.size.nodes Requests n t) place [] [] apart ∙ in_mid) in
    let target : answer.target ≡ n = a.well.from in
    let here : lane_place last.size.nodes Answers t answer.target ≡ place =
    ap (λ (k : ℕ). lane_place k Answers t answer.target) nodes ∙ ap (lane_place core.size.nodes Answers t) target in
    let long = (reached_well last after).sizes.lanes_long in
    let within : place < length last.lanes =
    subst (λ (k : ℕ). lane_place k Answers t n < length last.lanes) nodes
    (lane_below last Answers t n (reached_well last after) some (subst (λ (x : Size). n < x.nodes) (sym same) lt)) in
    let put : lane_at new place ≡ answer ∷ [] =
    ap (λ (k : ℕ). slice_index_or (set last.lanes k (lane_at last k ++ answer ∷ [])) place []) here
    ∙ (get_or-set_same last.lanes place (lane_at last place ++ answer ∷ []) [] within ∙ ap (λ (lane : List Letter). lane ++ answer ∷ []) in_last) in
    let lane : lane_of new Answers t n ≡ answer ∷ [] = ap (λ (k : ℕ). lane_at new (lane_place k Answers t n)) nodes ∙ put in (
      new,
      record { lane = lane; shift = λ q k. stays last new t q k sent (node_below last t (reached_well last after) some) refl refl refl refl },
      (steps_by_sides last t some).reply
          ∙ ap (option_map (λ (x : NodeOf × Letter). sent_by last t Answers x.0 x.1)) (waits_replying (node_at last t) answer waits),
    )

-- ---- and the answer is accepted

pub record Accepts (core new : Core) (n line : ℕ) (body : Body) : Type 0 where
  pub state : CacheState
  pub accepts : accepting (state_at core line n) body ≡ Some state
  pub shift : Shifts core new n line state

pub accepts_one : (core : Core) (n t line : ℕ) (answer : Letter) → IsReached core → n < core.size.nodes → t < core.size.nodes → answer.line ≡ line
    → line < core.size.lines → lane_of core Answers t n ≡ answer ∷ []
    → (new : Core) × Accepts core new n line answer.body × (stepping core (event.Accept t n) ≡ Some new)
accepts_one core n t line answer reached lt some about inside lane =
    let well = reached_well core reached in
    let part = node_at core n in
    let taken = found (node_accepting part answer) (accept_enabled core t n reached some lt answer [] lane) in
    let as_ = of_some (AcceptedAs part answer) (node_accepting part answer) taken.0 taken.1 (accept_as part answer) in
    let new = taken_to core n Answers t [] taken.0 in
    let below : line < lines_of part = subst (λ (k : ℕ). line < k) (sym (well.each_part n lt).each) inside in
    let cache : taken.0.cache ≡ with_line part.cache line (line_in (line_of part.cache line) as_.state) =
    ap (λ (p : NodeOf). p.cache) (sym as_.then_) ∙ ap (λ (k : ℕ). with_line part.cache k (line_in (line_of part.cache k) as_.state)) about in
    let accepts : Accepts core new n line answer.body = record {
      state = as_.state;
      accepts = ap (λ (k : ℕ). accepting (line_of part.cache k).state answer.body) (sym about) ∙ as_.accepts;
      shift = shifts core new n line taken.0 (line_in (line_of part.cache line) as_.state) (node_below core n well lt) below cache
          (ap (λ (p : NodeOf). p.pending) (sym as_.then_)) refl refl;
    } in
    (new, accepts, ((steps_by_sides core n lt).accept t some).front answer [] lane ∙ ap (option_map (taken_to core n Answers t [])) taken.1)

-- ---- the round

-- the four events lead on, one after another
pub record Rounds (core : Core) (n line : ℕ) (kind : AskKind) (target : ℕ) : Type 0 where
  pub first : Core
  pub ask : stepping core (event.Ask n line kind) ≡ Some first
  pub second : Core
  pub serve : stepping first (event.Serve n target) ≡ Some second
  pub third : Core
  pub reply : stepping second (event.Reply target) ≡ Some third
  pub last : Core
  pub accept : stepping third (event.Accept target n) ≡ Some last
  pub round : IsRound core last n line kind

-- what became of each state, one shift after another
round_of : (core first second third last : Core) (n line : ℕ) (kind : AskKind) (a : Asks core first n line kind)
    (s : Serves core first second n line a.sent.1 a.as_.asked.request) → Shifts core first n line a.as_.asked.next
    → Shifts second third n line (state_at second line n) → Accepts third last n line s.answer
    → a.sent.1.target ≡ server_of core line a.as_.asked.to → IsRepliedTo core last n line a.as_.asked
round_of core first second third last n line kind a s one three four to =
    let t = a.sent.1.target in
    let taker = state_at third line n in
    record {
      server = t;
      to = to;
      old = state_at first line t;
      itself = λ e. ap (state_at first line) e ∙ one.here;
      another = λ other. one.others t line (λ h. other h.0);
      served = s.served;
      answer = s.answer;
      serves = s.is;
      taker = taker;
      taker_itself = λ e. three.here ∙ (ap (state_at second line) (sym e) ∙ s.shift.here);
      taker_another = λ other. three.here ∙ (s.shift.others n line (λ h. other (sym h.0)) ∙ one.here);
      final = four.state;
      accepts = four.accepts;
      asker = four.shift.here;
      then_ = λ other. four.shift.others t line (λ h. other h.0) ∙ (three.others t line (λ h. other h.0) ∙ s.shift.here);
      others = λ m k not. four.shift.others m k (λ h. not h.1 (inl h.0))
          ∙ (three.others m k (λ h. not h.1 (inl h.0)) ∙ (s.shift.others m k (λ h. not h.1 (inr h.0)) ∙ one.others m k (λ h. not h.1 (inl h.0))));
      pending = λ m. four.shift.pending m ∙ (three.pending m ∙ (s.shift.pending m ∙ one.pending m));
      size = four.shift.size ∙ (three.size ∙ (s.shift.size ∙ one.size));
    }

target_so : (core : Core) (line nodes : ℕ) (cache : CacheOf) (to : Option ℕ) → cache.nodes ≡ core.size.nodes → target_of cache line to ≡ server_of core line to
target_so core line nodes cache None all = ap (λ (k : ℕ). line % k) all
target_so core line nodes cache (Some p) all = refl

-- the answer is accepted, after the three other events
fourth : (core first second third : Core) (n line : ℕ) (kind : AskKind) (a : Asks core first n line kind)
    (s : Serves core first second n line a.sent.1 a.as_.asked.request) → Replies second third n a.sent.1.target (answering a.sent.1 s.answer)
    → Shifts core first n line a.as_.asked.next → IsWellFormed core → IsReached third → n < core.size.nodes → line < core.size.lines
    → stepping core (event.Ask n line kind) ≡ Some first → stepping first (event.Serve n a.sent.1.target) ≡ Some second
    → stepping second (event.Reply a.sent.1.target) ≡ Some third → Rounds core n line kind a.sent.1.target
fourth core first second third n line kind a s r shift well reached lt inside ask serve reply =
    let shift_3 = r.shift n line in
    let size = shift_3.size ∙ (s.shift.size ∙ shift.size) in
    let about : a.sent.1.line ≡ line = ap (λ (l : Letter). l.line) a.as_.letter in
    let last = accepts_one third n a.sent.1.target line (answering a.sent.1 s.answer) reached (subst (λ (x : Size). n < x.nodes) (sym size) lt)
    (subst (λ (x : Size). a.sent.1.target < x.nodes) (sym size) a.well.request.letter_ok.target) about
    (subst (λ (x : Size). line < x.lines) (sym size) inside) r.lane in
    let to : a.sent.1.target ≡ server_of core line a.as_.asked.to =
    ap (λ (l : Letter). l.target) a.as_.letter ∙ target_so core line core.size.nodes (node_at core n).cache a.as_.asked.to (well.each_part n lt).all in
    record {
      first = first;
      ask = ask;
      second = second;
      serve = serve;
      third = third;
      reply = reply;
      last = last.0;
      accept = last.2;
      round = record { asked = a.as_.asked; asks = a.as_.asks; answered = round_of core first second third last.0 n line kind a s shift shift_3 last.1 to };
    }

-- the answer goes out, after the two other events
third : (core first second : Core) (n line : ℕ) (kind : AskKind) (a : Asks core first n line kind)
    (s : Serves core first second n line a.sent.1 a.as_.asked.request) → Shifts core first n line a.as_.asked.next → IsReached core → IsReached first
    → IsReached second → IsDrained core → n < core.size.nodes → line < core.size.lines
    → stepping core (event.Ask n line kind) ≡ Some first → stepping first (event.Serve n a.sent.1.target) ≡ Some second
    → Rounds core n line kind a.sent.1.target
third core first second n line kind a s shift reached reached_1 reached_2 drained lt inside ask serve =
    let next = replies_one core first second n line kind a s reached reached_1 reached_2 lt drained shift.size (s.shift.size ∙ shift.size) in
    fourth core first second next.0 n line kind a s next.1 shift (reached_well core reached)
    (reached_stepping second next.0 (event.Reply a.sent.1.target) reached_2 next.2) lt inside ask serve next.2

-- the request is served, after it was asked
second : (core first : Core) (n line : ℕ) (kind : AskKind) (a : Asks core first n line kind) → Shifts core first n line a.as_.asked.next → IsReached core
    → IsReached first → IsDrained core → n < core.size.nodes → line < core.size.lines → stepping core (event.Ask n line kind) ≡ Some first
    → Rounds core n line kind a.sent.1.target
second core first n line kind a shift reached reached_1 drained lt inside ask =
    let next = serves_one core first n line kind a reached reached_1 lt drained shift.size in
    third core first next.0 n line kind a next.1 shift reached reached_1 (reached_stepping first next.0 (event.Serve n a.sent.1.target) reached_1 next.2)
    drained lt inside ask next.2

-- what the asker's line becomes as it asks
first_shift : (core first : Core) (n line : ℕ) (kind : AskKind) (a : Asks core first n line kind) → IsWellFormed core → n < core.size.nodes
    → Shifts core first n line a.as_.asked.next
first_shift core first n line kind a well lt =
    shifts core first n line a.sent.0 (line_asked (line_of (node_at core n).cache line) a.as_.asked) (node_below core n well lt) a.as_.below
    (ap (λ (p : NodeOf). p.cache) a.as_.next) (ap (λ (p : NodeOf). p.pending) a.as_.next) (ap (λ (x : Core). x.parts) a.then_)
    (ap (λ (x : Core). x.size) a.then_)

-- the target is that of the request
target_is : (core first : Core) (n line : ℕ) (kind : AskKind) (target : ℕ) (next : NodeOf) (letter : Letter) (a : Asks core first n line kind)
    → node_asking (node_at core n) line kind ≡ Some (next, letter) → letter.target ≡ target → a.sent.1.target ≡ target
target_is core first n line kind target next letter a is at = grind arith

pub rounds : (core : Core) (n line : ℕ) (kind : AskKind) (target : ℕ) (next : NodeOf) (letter : Letter) → IsReached core → IsDrained core → n < core.size.nodes
    → line < core.size.lines → node_asking (node_at core n) line kind ≡ Some (next, letter) → letter.target ≡ target → Rounds core n line kind target
rounds core n line kind target next letter reached drained lt inside is at =
    let one = asks_one core n line kind reached lt (ap is_some is) in
    let shift = first_shift core one.0 n line kind one.1 (reached_well core reached) lt in
    let same = target_is core one.0 n line kind target next letter one.1 is at in
    subst (Rounds core n line kind) same
    (second core one.0 n line kind one.1 shift reached (reached_stepping core one.0 (event.Ask n line kind) reached one.2) drained lt inside one.2)
