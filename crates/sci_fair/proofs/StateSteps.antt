-- What a steady event of a node does to the state of one of its lines, and to the lanes of requests.
use Rattle.std.proofs.Common.{◌≡◌, ◌<◌, ℕ, true, false, List, [], ◌∷◌, arith}
use Rattle.std.proofs.Common.{Ok, Option, Some, None, refl, sym, ap, subst, ◌∙◌, inl, inr}
use Rattle.std.proofs.lemmas.{Bool.{cases_eq}}
use Rattle.sci_words.specs.declared.event.{AskKind.{AskKind}, Event.{Event}}
use Rattle.sci_packets.specs.declared.body.Body.{Body}
use Rattle.sci_cache.specs.{State.{CacheState}, Accepting.{accepting}, Asking.{Asked, asking}, Serving.{serving}}
use Rattle.sci_cache.specs.{Line.{LineState, line_asked, line_in, untouched}, Cache.{Letter, line_of, with_line}}
use Rattle.sci_core.specs.declared.lane.LaneKind.{TheVariants.{Requests, Answers}}
use Rattle.sci_core.specs.Core.{Core, lane_of, node_at, side}
use Rattle.sci_core.specs.Node.{NodeOf, node_accepting, node_asking, node_refusing, node_replying, node_serving}
use Rattle.sci_core.proofs.Basics.{Lists.{at_place_set}, Options.{of_some}}
use Rattle.sci_core.proofs.Step.NodeSides.{AcceptedAs, At_home, In_cache, RefusedAs, ServedAs, accept_as, refuse_as, reply_as, serve_as}
use Rattle.sci_core.proofs.WellFormed.WellFormedSteps.{size_either}
use Rattle.sci_policy.specs.{Lines.{state_on}, Policy.{PolicyOf}, Turn.{is_accept, is_ask, is_service}}
use Rattle.sci_policy.proofs.Targets.{asked_target, waiting_target}
use Rattle.sci_turn.proofs.Working.{stepped}
use Rattle.sci_fair.proofs.{OneStep.{SendsOne, TakesOne, sends_one, takes_one}, ReadCarries.{AsksAs, ask_as}, ReadSteps.{replied_sent}}
use Rattle.sci_fair.proofs.{Steadied.{Change, IsGoing}, Trace.{is_taking}, WholeTurns.{HasLost}}
use Rattle.sci_words.specs.declared.event.Event.TheVariants as event

-- ---- the event's packet

module _ {K : Change} (n : ℕ) (p : PolicyOf) (x : Core) (q : PolicyOf) (y : Core) where
  pub serve_one : (from i : ℕ) → IsGoing K n p x (event.Serve from i) q y → TakesOne x y n from Requests (node_serving (node_at x n))
  serve_one from i st =
      takes_one x y n from Requests (node_serving (node_at x n)) st.reached st.some
      (stepped x y n (event.Serve from i) (side (node_at x n) (event.Serve from i)) st.some st.own.kind.own refl st.steps)

  pub refuse_one : (from i : ℕ) → IsGoing K n p x (event.Refuse from i) q y → TakesOne x y n from Requests (node_refusing (node_at x n))
  refuse_one from i st =
      takes_one x y n from Requests (node_refusing (node_at x n)) st.reached st.some
      (stepped x y n (event.Refuse from i) (side (node_at x n) (event.Refuse from i)) st.some st.own.kind.own refl st.steps)

  pub accept_one : (from i : ℕ) → IsGoing K n p x (event.Accept from i) q y → TakesOne x y n from Answers (node_accepting (node_at x n))
  accept_one from i st =
      takes_one x y n from Answers (node_accepting (node_at x n)) st.reached st.some
      (stepped x y n (event.Accept from i) (side (node_at x n) (event.Accept from i)) st.some st.own.kind.own refl st.steps)

  pub reply_one : (i : ℕ) → IsGoing K n p x (event.Reply i) q y → SendsOne x y n Answers (node_replying (node_at x n))
  reply_one i st = grind (arith, sends_one, waiting_target, replied_sent, stepped)

  pub ask_one : (i line : ℕ) (k : AskKind) → IsGoing K n p x (event.Ask i line k) q y → SendsOne x y n Requests (node_asking (node_at x n) line k)
  ask_one i line k st =
      sends_one x y n Requests (node_asking (node_at x n) line k) st.reached st.some
      (λ sent there. asked_target x n line k sent st.reached st.some there)
      (stepped x y n (event.Ask i line k) (side (node_at x n) (event.Ask i line k)) st.some st.own.kind.own refl st.steps)

-- ---- the state of a line

-- how the event brings the line from one state to another
pub data StateStep (e : Event) (line : ℕ) (s t : CacheState) : Type 0 where
  Stays : t ≡ s → StateStep e line s t
  By_accept : is_accept e ≡ true → (answer : Body) → accepting s answer ≡ Some t → StateStep e line s t
  By_serve : is_service e ≡ true → (m : ℕ) (request served : Body) → serving s m request ≡ Some (t, served) → StateStep e line s t
  By_ask : is_ask e ≡ true → (k : AskKind) (asked : Asked) → asking s k ≡ Some asked → asked.next ≡ t → StateStep e line s t

-- one line of the node has another part
line_step : (e : Event) (node next : NodeOf) (at : ℕ) (part : LineState) → (record node { cache = with_line node.cache at part }).cache ≡ next.cache
    → StateStep e at (state_on node at) part.state → (line : ℕ) → StateStep e line (state_on node line) (state_on next line)
line_step e node next at part is step line =
    subst (λ (c : _). StateStep e line (state_on node line) (line_of c line).state) is
    (at_place_set (λ (k : ℕ) (l : LineState). StateStep e k (state_on node k) l.state) node.cache.lines at part untouched (λ k. Stays refl) step line)

serve_states : (e : Event) (node next : NodeOf) (request : Letter) → is_service e ≡ true → ServedAs node request next → (line : ℕ)
    → StateStep e line (state_on node line) (state_on next line)
serve_states e node next request kind (At_home served home is made) line = Stays (ap (λ (part : NodeOf). state_on part line) (sym made))
serve_states e node next request kind (In_cache served is made) line =
    line_step e node next request.line (line_in (line_of node.cache request.line) served.0) (ap (λ (part : NodeOf). part.cache) made)
    (By_serve kind request.source request.body served.1 is) line

module _ {K : Change} (n : ℕ) (p : PolicyOf) (x : Core) (q : PolicyOf) (y : Core) (line : ℕ) where
  pub state_step : (e : Event) → IsGoing K n p x e q y → StateStep e line (state_on (node_at x n) line) (state_on (node_at y n) line)
  state_step (event.Serve from i) st =
      let node = node_at x n in
      let one = serve_one n p x q y from i st in
      let does = of_some (ServedAs node one.front.letter) (node_serving node one.front.letter) one.front.next one.front.takes
      (serve_as node one.front.letter) in
      subst (λ (part : NodeOf). StateStep (event.Serve from i) line (state_on node line) (state_on part line)) (sym one.node)
      (serve_states (event.Serve from i) node one.front.next one.front.letter refl does line)
  state_step (event.Refuse from i) st =
      let node = node_at x n in
      let one = refuse_one n p x q y from i st in
      let does = of_some (RefusedAs node one.front.letter) (node_refusing node one.front.letter) one.front.next one.front.takes
      (refuse_as node one.front.letter) in
      Stays (ap (λ (part : NodeOf). state_on part line) (one.node ∙ sym does.then_))
  state_step (event.Accept from i) st =
      let node = node_at x n in
      let one = accept_one n p x q y from i st in
      let does = of_some (AcceptedAs node one.front.letter) (node_accepting node one.front.letter) one.front.next one.front.takes
      (accept_as node one.front.letter) in
      subst (λ (part : NodeOf). StateStep (event.Accept from i) line (state_on node line) (state_on part line)) (sym one.node)
      (line_step (event.Accept from i) node one.front.next one.front.letter.line (line_in (line_of node.cache one.front.letter.line) does.state)
      (ap (λ (part : NodeOf). part.cache) does.then_) (By_accept refl one.front.letter.body does.accepts) line)
  state_step (event.Reply i) st =
      let node = node_at x n in
      let one = reply_one n p x q y i st in
      let does = of_some (λ (s : NodeOf × Letter). (record node { waiting = None }) ≡ s.0) (node_replying node) one.out.sent one.out.there (reply_as node) in
      Stays (ap (λ (part : NodeOf). state_on part line) (one.node ∙ sym does))
  state_step (event.Ask i at k) st =
      let node = node_at x n in
      let one = ask_one n p x q y i at k st in
      let told = of_some (AsksAs node at k) (node_asking node at k) one.out.sent one.out.there (ask_as node at k) in
      subst (λ (part : NodeOf). StateStep (event.Ask i at k) line (state_on node line) (state_on part line)) (sym one.node)
      (line_step (event.Ask i at k) node one.out.sent.0 at (line_asked (line_of node.cache at) told.asked)
      (ap (λ (part : NodeOf). part.cache) told.next) (By_ask refl k told.asked told.asks refl) line)
  state_step (event.Issue i op) st = let no = st.own.kind.kind in cc
  state_step (event.Perform i at) st = let no = st.own.kind.kind in cc

-- ---- lanes of requests

-- what is taken of a lane of requests to the node
abbrev pub IsTaken : Core → Core → ℕ → ℕ → Type 0
IsTaken x y j n = HasLost (lane_of x Requests j n) (lane_of y Requests j n)

module _ (n : ℕ) (p : PolicyOf) (x : Core) (q : PolicyOf) (y : Core) (j : ℕ) where
  took_lost : (from : ℕ) (taking : Letter → Option NodeOf) → j < x.size.nodes → n < x.size.nodes → TakesOne x y n from Requests taking → IsTaken x y j n
  took_lost from taking f t one = elim (cases_eq j from) [
    | inl same ↦ subst (λ (k : ℕ). IsTaken x y k n) (sym same)
        (one.front.letter ∷ [], one.front.front ∙ ap (λ (l : List Letter). one.front.letter ∷ l) (sym one.sets.now))
    | inr other ↦ ([], sym (one.sets.rest Requests j n f t (λ k c d. other c)))
  ]

module _ {K : Change} (n : ℕ) (p : PolicyOf) (x : Core) (q : PolicyOf) (y : Core) (j : ℕ) where
  pub take_lost : (e : Event) → IsGoing K n p x e q y → is_taking e ≡ true → j < x.size.nodes → IsTaken x y j n
  take_lost (event.Serve from i) st kind f = took_lost n p x q y j from (node_serving (node_at x n)) f st.some (serve_one n p x q y from i st)
  take_lost (event.Refuse from i) st kind f = took_lost n p x q y j from (node_refusing (node_at x n)) f st.some (refuse_one n p x q y from i st)
  take_lost (event.Reply i) st kind f = ([], sym ((reply_one n p x q y i st).sets.rest Requests j n f st.some (λ k. cc)))
  take_lost (event.Accept from i) st kind f = cc
  take_lost (event.Ask i at k) st kind f = cc
  take_lost (event.Issue i op) st kind f = cc
  take_lost (event.Perform i at) st kind f = cc

-- ---- sizes

pub size_kept : {K : Change} (n : ℕ) (p : PolicyOf) (x : Core) (q : PolicyOf) (y : Core) (e : Event) → IsGoing K n p x e q y → y.size ≡ x.size
size_kept n p x q y e st = size_either {T = ℕ} {E = ℕ} (Ok 0) x y e st.reached st.steps (λ refused. (let clash : false ≡ true = refused in cc))
