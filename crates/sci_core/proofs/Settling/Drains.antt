-- Every event that moves a packet on lowers the weight by one, and while it is above 0 one is enabled.
use Rattle.std.proofs.Common.{◌≡◌, ℕ, suc, ◌+◌, ◌-◌, ◌*◌, ◌/◌, ◌%◌, ◌<◌, ◌≤◌, ◌&&◌, Bool, true, false, if◌then◌else◌, List, [], ◌∷◌, ◌++◌, length, get_or, take}
use Rattle.std.proofs.Common.{drop, Option, Some, None, refl, sym, ap, subst, ◌∙◌, zero, arith, inl, inr}
use Rattle.std.proofs.lemmas.{Bool.{cases_lt}, List.{set_past, take-append-drop, Sums.{sum_by-append, sum_by-cons, sum_by-set, sum_by_push}}}
use Rattle.std.proofs.Math.Nat.{div-add-mod, div-lt_iff_lt-mul, mod-lt, mul_comm}
use Rattle.std.specs.{Prelude.{◌⊎◌, IfSome, IsSome, is_some, option_map, slice_get, unwrap_or}, List.{AllByRecursion, sum_by}}
use Rattle.sci_words.specs.declared.event.{AskKind.{AskKind}, Event.{Event}}
use Rattle.sci_history.specs.declared.entry.Entry.{Entry}
use Rattle.sci_packets.specs.Table.{IsRequest, is_request}
use Rattle.sci_cache.specs.Cache.{Letter}
use Rattle.sci_core.specs.declared.lane.LaneKind.{LaneKind, TheVariants.{Requests, Answers}}
use Rattle.sci_core.specs.Core.{Core, IsEnabled, Takes, lane_at, lane_of, lane_place, node_at, node_of, run_from, sent_by, side, step, stepping, with_lane}
use Rattle.sci_core.specs.Core.{with_node}
use Rattle.sci_core.specs.Draining.{AskNothing, CanDrain, Drained, Drains, IsDrained, answer_weight, is_asking, lane_weight, letter_weight, moves_made}
use Rattle.sci_core.specs.Draining.{moves_on, one_if, weight}
use Rattle.sci_core.specs.Node.{NodeOf, no_node, node_accepting, node_asking, node_issuing, node_performing, node_refusing, node_replying, node_serving}
use Rattle.sci_core.specs.Network.{Happens, Move, Overtakes, asks_in, brings_in, brought, brought_on, moved, moved_from, overtaken}
use Rattle.sci_core.specs.{Reached.{IsReachable}, Sides.{TakesFront, taken_to}, WellFormed.{IsWellFormed}}
use Rattle.sci_core.proofs.Step.{Applied.{front_comes, waits_replying}, Sides.{steps_by_sides, takes}}
use Rattle.sci_core.proofs.Step.{Stepping.{stepping_from_nobody, stepping_nobody}, Steps.{lane_below}}
use Rattle.sci_core.proofs.Tidy.{Enabled.{any_accept_enabled, serve_enabled}, TidyRuns.{node_below}}
use Rattle.sci_core.proofs.Tidy.WaitingNodes.{Accepts, Answers as AnswersTo, AsksOnce, Stays, ask_once, accept_accepts, issue_stays, perform_stays}
use Rattle.sci_core.proofs.Tidy.WaitingNodes.{refuse_answers, reply_replies, serve_answers}
use Rattle.sci_core.proofs.{Basics.Options.{of_some, map_some}, WellFormed.Parts.{SendsWell, part_asking}}
use Rattle.sci_core.proofs.WellFormed.WellFormedSteps.{any_well, reachable_next, reachable_moved}
use Rattle.sci_words.specs.declared.event.Event.TheVariants as event

-- ---- weights after a change

-- a node and a lane change
weighs_both : (core : Core) (n place : ℕ) (next : NodeOf) (lane : List Letter) → n < length core.parts → place < length core.lanes
    → weight (with_lane (with_node core n next) place lane) + (answer_weight (node_at core n).waiting + lane_weight (lane_at core place)) ≡ weight
    core + (answer_weight next.waiting + lane_weight lane)
weighs_both core n place next lane below within = grind (arith, sum_by-set)

request_weighs : (letter : Letter) → IsRequest letter.body → letter_weight letter ≡ 3
request_weighs letter asks = ap (λ (b : Bool). if b then 3 else 1) asks

answer_weighs : (letter : Letter) → is_request letter.body ≡ false → letter_weight letter ≡ 1
answer_weighs letter answers = ap (λ (b : Bool). if b then 3 else 1) answers

-- ---- one event

pub made_by : {A : Type 0} (f : A → Core) (o : Option A) (new : Core) → option_map f o ≡ Some new → (x : A) × (o ≡ Some x) × (new ≡ f x)
made_by f None new e = cc
made_by f (Some x) new e = (x, refl, cc)

-- the front of a lane was taken, and this is the node next
pub record Took (core new : Core) (kind : LaneKind) (n from : ℕ) (taking : NodeOf → Letter → Option NodeOf) : Type 0 where
  pub letter : Letter
  pub rest : List Letter
  pub next : NodeOf
  pub front : lane_of core kind from n ≡ letter ∷ rest
  pub takes : taking (node_at core n) letter ≡ Some next
  pub then_ : new ≡ taken_to core n kind from rest next

pub took_along : (core new : Core) (kind : LaneKind) (n from : ℕ) (taking : NodeOf → Letter → Option NodeOf) (e : Event) (lane : List Letter)
    → TakesFront core n kind taking from e → lane_of core kind from n ≡ lane → stepping core e ≡ Some new → Took core new kind n from taking
took_along core new kind n from taking e [] by is steps = let none = by.empty is in let clash : None ≡ Some new = sym none ∙ steps in cc
took_along core new kind n from taking e (letter ∷ rest) by is steps =
    let made = made_by (taken_to core n kind from rest) (taking (node_at core n) letter) new (sym (by.front letter rest is) ∙ steps) in
    record { letter = letter; rest = rest; next = made.0; front = is; takes = made.1; then_ = made.2 }

-- the node of an event that is enabled is there, and so is the sender of what it takes
pub some_node : (core new : Core) (e : Event) → stepping core e ≡ Some new → node_of e < core.size.nodes
some_node core new e steps = grind (arith, cases_lt, stepping_nobody)

pub some_sender : (core new : Core) (e : Event) (kind : LaneKind) (from : ℕ) (taking : Letter → Option NodeOf) → node_of e < core.size.nodes
    → side (node_at core (node_of e)) e ≡ Takes kind from taking → stepping core e ≡ Some new → from < core.size.nodes
some_sender core new e kind from taking lt is steps = grind (arith, cases_lt, stepping_from_nobody)

-- what a step took, and who there is for it
pub record TookFrom (core new : Core) (kind : LaneKind) (n from : ℕ) (taking : NodeOf → Letter → Option NodeOf) : Type 0 where
  pub some : n < core.size.nodes
  pub sender : from < core.size.nodes
  pub took : Took core new kind n from taking

pub took_from : (core new : Core) (kind : LaneKind) (from : ℕ) (taking : NodeOf → Letter → Option NodeOf) (e : Event)
    → side (node_at core (node_of e)) e ≡ Takes kind from (taking (node_at core (node_of e))) → stepping core e ≡ Some new
    → TookFrom core new kind (node_of e) from taking
took_from core new kind from taking e is steps =
    let n = node_of e in
    let lt = some_node core new e steps in
    let f = some_sender core new e kind from (taking (node_at core n)) lt is steps in
    let took = took_along core new kind n from taking e (lane_of core kind from n) (takes core e kind taking from lt f is) refl steps in
    record { some = lt; sender = f; took = took }

-- a request is taken, and its answer waits
weighs_served : (core new : Core) (n from : ℕ) (taking : NodeOf → Letter → Option NodeOf) → IsWellFormed core → TookFrom core new Requests n from taking
    → ((letter : Letter) → IfSome (taking (node_at core n) letter) (AnswersTo core.size.nodes letter (node_at core n))) → weight core ≡ weight new + 1
weighs_served core new n from taking well t answers =
    let took = t.took in
    let lt = t.some in
    let comes = front_comes core from n Requests took.letter well t.sender lt (ap (λ (lane : List Letter). slice_get lane 0) took.front) in
    let does = of_some (AnswersTo core.size.nodes took.letter (node_at core n)) (taking (node_at core n) took.letter) took.next took.takes
    (answers took.letter) in
    let place = lane_place core.size.nodes Requests from n in
    let both = weighs_both core n place took.next took.rest (node_below core n well lt) (lane_below core Requests from n well t.sender lt) in
    let old : answer_weight (node_at core n).waiting ≡ 0 = ap answer_weight does.free in
    let now : answer_weight took.next.waiting ≡ 2 = ap answer_weight does.waiting in
    let lane : lane_weight (lane_at core place) ≡ letter_weight took.letter + lane_weight took.rest =
    ap lane_weight took.front ∙ sum_by-cons letter_weight took.letter took.rest in
    let heavy = request_weighs took.letter comes.0.asks in
    let then_ : weight new ≡ weight (taken_to core n Requests from took.rest took.next) = ap weight took.then_ in
    omega arith

weighs_accepted : (core new : Core) (n from : ℕ) → IsWellFormed core → TookFrom core new Answers n from node_accepting → weight core ≡ weight new + 1
weighs_accepted core new n from well t =
    let took = t.took in
    let lt = t.some in
    let comes = front_comes core from n Answers took.letter well t.sender lt (ap (λ (lane : List Letter). slice_get lane 0) took.front) in
    let does = of_some (Accepts took.letter.line (node_at core n)) (node_accepting (node_at core n) took.letter) took.next took.takes
    (accept_accepts (node_at core n) took.letter) in
    let place = lane_place core.size.nodes Answers from n in
    let both = weighs_both core n place took.next took.rest (node_below core n well lt) (lane_below core Answers from n well t.sender lt) in
    let same : answer_weight took.next.waiting ≡ answer_weight (node_at core n).waiting = ap answer_weight does.waiting in
    let lane : lane_weight (lane_at core place) ≡ letter_weight took.letter + lane_weight took.rest =
    ap lane_weight took.front ∙ sum_by-cons letter_weight took.letter took.rest in
    let light = answer_weighs took.letter comes.0.answers in
    let then_ : weight new ≡ weight (taken_to core n Answers from took.rest took.next) = ap weight took.then_ in
    omega arith

weighs_replied : (core new : Core) (n : ℕ) (sent : NodeOf × Letter) → IsWellFormed core → n < core.size.nodes → node_replying (node_at core n) ≡ Some sent
    → new ≡ sent_by core n Answers sent.0 sent.1 → weight core ≡ weight new + 1
weighs_replied core new n sent well lt replies then_ = grind (arith, of_some, reply_replies, weighs_both, node_below, lane_below, sum_by_push, answer_weighs)

-- an Ask adds a request
pub weighs_asked : (core new : Core) (n line : ℕ) (kind : AskKind) → IsWellFormed core → stepping core (event.Ask n line kind) ≡ Some new
    → weight new ≡ weight core + 3
weighs_asked core new n line kind well steps =
    let lt = some_node core new (event.Ask n line kind) steps in
    let part = node_at core n in
    let made = made_by (λ (s : NodeOf × Letter). sent_by core n Requests s.0 s.1) (node_asking part line kind) new
    (sym ((steps_by_sides core n lt).ask line kind) ∙ steps) in
    let sent = made.0 in
    let sends = of_some (SendsWell core.size n) (node_asking part line kind) sent made.1
    (part_asking core.size n part line kind well.sizes.some_node lt (well.each_part n lt)) in
    let once = of_some (AsksOnce core.size.nodes line part) (node_asking part line kind) sent made.1
    (ask_once core.size.nodes part line kind (well.each_part n lt).all ((well.each_part n lt).asks line)) in
    let place = lane_place core.size.nodes Requests n sent.1.target in
    let lane = lane_at core place in
    let both = weighs_both core n place sent.0 (lane ++ sent.1 ∷ []) (node_below core n well lt)
    (lane_below core Requests n sent.1.target well lt sends.request.letter_ok.target) in
    let same : answer_weight sent.0.waiting ≡ answer_weight part.waiting = ap answer_weight once.waiting in
    let more = sum_by_push letter_weight lane sent.1 in
    let heavy_ = request_weighs sent.1 sends.request.asks in
    let is : weight new ≡ weight (sent_by core n Requests sent.0 sent.1) = ap weight made.2 in
    omega arith

weighs_stayed : (core new : Core) (n : ℕ) (next : NodeOf) → IsWellFormed core → n < core.size.nodes → next.waiting ≡ (node_at core n).waiting
    → new ≡ with_node core n next → weight core ≡ weight new + 0
weighs_stayed core new n next well lt waiting then_ = grind (arith, sum_by-set, node_below)

-- every event but an Ask: the weight falls by one if it moves a packet on, and stays if it doesn't
pub weighs : (core new : Core) (e : Event) → IsWellFormed core → stepping core e ≡ Some new → is_asking e ≡ false
    → weight core ≡ weight new + one_if (moves_on e)
weighs core new (event.Issue n op) well steps asks =
    let lt = some_node core new (event.Issue n op) steps in
    let made = made_by (with_node core n) (node_issuing (node_at core n) op) new (sym ((steps_by_sides core n lt).issue op) ∙ steps) in
    weighs_stayed core new n made.0 well lt
    (of_some (Stays core.size.nodes (node_at core n)) (node_issuing (node_at core n) op) made.0 made.1
    (issue_stays core.size.nodes (node_at core n) op)).waiting made.2
weighs core new (event.Perform n line) well steps asks =
    let lt = some_node core new (event.Perform n line) steps in
    let made = made_by (λ (done : NodeOf × Entry). with_node core n done.0) (node_performing (node_at core n) line) new
    (sym ((steps_by_sides core n lt).perform line) ∙ steps) in
    weighs_stayed core new n made.0.0 well lt
    (of_some (λ (x : NodeOf × Entry). Stays core.size.nodes (node_at core n) x.0) (node_performing (node_at core n) line) made.0 made.1
    (perform_stays core.size.nodes (node_at core n) line)).waiting made.2
weighs core new (event.Ask n line kind) well steps asks = cc
weighs core new (event.Serve from n) well steps asks =
    weighs_served core new n from node_serving well (took_from core new Requests from node_serving (event.Serve from n) refl steps)
    (serve_answers core.size.nodes (node_at core n))
weighs core new (event.Refuse from n) well steps asks =
    weighs_served core new n from node_refusing well (took_from core new Requests from node_refusing (event.Refuse from n) refl steps)
    (refuse_answers core.size.nodes (node_at core n))
weighs core new (event.Reply n) well steps asks = grind (arith, some_node, made_by, steps_by_sides, weighs_replied)
weighs core new (event.Accept from n) well steps asks =
    weighs_accepted core new n from well (took_from core new Answers from node_accepting (event.Accept from n) refl steps)

-- ---- runs

if_made : (b : Bool) → one_if (b && true) ≡ one_if b
if_made true = refl
if_made false = refl

not_made : (b : Bool) → one_if (b && false) ≡ 0
not_made true = refl
not_made false = refl

step_weighs : (core : Core) (e : Event) (next : Option Core) → IsReachable core → is_asking e ≡ false → stepping core e ≡ next
    → weight core ≡ weight (unwrap_or next core) + one_if (moves_on e && is_some next)
step_weighs core e None reached asks is = let none = not_made (moves_on e) in omega arith
step_weighs core e (Some new) reached asks is = grind (arith, weighs, any_well, if_made)

step_reachable : (core : Core) (e : Event) → IsReachable core → IsReachable (step core e)
step_reachable core e reached = reachable_next core e (stepping core e) reached refl

-- what is made of a list of events lowers the weight, each by one
pub run_weighs : (core : Core) (events : List Event) → IsReachable core → AskNothing events
    → weight core ≡ weight (run_from core events) + moves_made core events
run_weighs core [] reached asks = omega arith
run_weighs core (e ∷ events) reached asks =
    let first = step_weighs core e (stepping core e) reached asks.0 refl in
    let rest = run_weighs (step core e) events (step_reachable core e reached) asks.1 in
    omega arith

-- over a network that keeps no order
weighs_brought : (k : ℕ) (lane : List Letter) → lane_weight (brought k lane) ≡ lane_weight lane
weighs_brought k lane =
    let whole = ap lane_weight (take-append-drop k lane) in
    let later = ap lane_weight (take-append-drop 1 (drop k lane)) in
    let a = sum_by-append letter_weight (take k lane) (drop k lane) in
    let b = sum_by-append letter_weight (take 1 (drop k lane)) (drop 1 (drop k lane)) in
    let c = sum_by-append letter_weight (take 1 (drop k lane)) (take k lane ++ drop 1 (drop k lane)) in
    let d = sum_by-append letter_weight (take k lane) (drop 1 (drop k lane)) in
    omega arith

overtaken_weighs : (core : Core) (place k : ℕ) → weight (overtaken core place k) ≡ weight core
overtaken_weighs core place k =
    let same = weighs_brought k (lane_at core place) in
    let waiting = sum_by (λ (part : NodeOf). answer_weight part.waiting) core.parts in
    elim (cases_lt place (length core.lanes)) [
      | inl within ↦
          let then_ = sum_by-set lane_weight core.lanes place (brought k (lane_at core place)) [] within in
          omega arith
      | inr past ↦ ap (λ (lanes : List (List Letter)). waiting + sum_by lane_weight lanes) (set_past core.lanes place (brought k (lane_at core place)) past)
    ]

move_weighs : (core : Core) (move : Move) → IsReachable core → asks_in move ≡ false → weight core ≡ weight (moved core move) + brings_in core move
move_weighs core (Happens e) reached asks = step_weighs core e (stepping core e) reached asks refl
move_weighs core (Overtakes place k) reached asks = let same = overtaken_weighs core place k in omega arith

pub moves_weigh : (core : Core) (moves : List Move) → IsReachable core → AllByRecursion (λ move. asks_in move ≡ false) moves
    → weight core ≡ weight (moved_from core moves) + brought_on core moves
moves_weigh core [] reached asks = omega arith
moves_weigh core (move ∷ moves) reached asks =
    let first = move_weighs core move reached asks.0 in
    let rest = moves_weigh (moved core move) moves (reachable_moved core move reached) asks.1 in
    omega arith

-- ---- what is left under way

-- a part of a sum that isn't 0
some_part : {X : Type 0} (f : X → ℕ) (xs : List X) (d : X) → 0 < sum_by f xs → (i : ℕ) × (i < length xs) × (0 < f (get_or xs i d))
some_part f [] d some = absurd (omega arith)
some_part f (x ∷ xs) d some =
    elim (cases_lt 0 (f x)) [
      | inl here ↦ (0, omega arith, here)
      | inr none ↦
          let sum = sum_by-cons f x xs in
          let rest = some_part f xs d (omega arith) in
          (suc rest.0, let below = rest.1 in omega arith, rest.2)
    ]

none_of_sum : {X : Type 0} (f : X → ℕ) (xs : List X) (i : ℕ) (d : X) → sum_by f xs ≡ 0 → f d ≡ 0 → f (get_or xs i d) ≡ 0
none_of_sum f [] i d none e = e
none_of_sum f (x ∷ xs) zero d none e = let sum = sum_by-cons f x xs in omega arith
none_of_sum f (x ∷ xs) (suc i) d none e = let sum = sum_by-cons f x xs in none_of_sum f xs i d (omega arith) e

none_waits : (waiting : Option Letter) → answer_weight waiting ≡ 0 → waiting ≡ None
none_waits None e = refl
none_waits (Some answer) e = cc

some_waits : (waiting : Option Letter) → 0 < answer_weight waiting → (answer : Letter) × (waiting ≡ Some answer)
some_waits None some = absurd (omega arith)
some_waits (Some answer) some = (answer, refl)

heavy : (b : Bool) → 1 ≤ (if b then 3 else 1)
heavy true = omega arith
heavy false = omega arith

letter_heavy : (letter : Letter) → 1 ≤ letter_weight letter
letter_heavy letter = heavy (is_request letter.body)

light_lane : (lane : List Letter) → lane_weight lane ≡ 0 → lane ≡ []
light_lane [] e = refl
light_lane (letter ∷ rest) e =
    let sum = sum_by-cons letter_weight letter rest in
    let some = letter_heavy letter in
    absurd (omega arith)

some_lane : (lane : List Letter) → 0 < lane_weight lane → (letter : Letter) × (rest : List Letter) × (lane ≡ letter ∷ rest)
some_lane [] some = absurd (omega arith)
some_lane (letter ∷ rest) some = (letter, rest, refl)

pub drained : (core : Core) → weight core ≡ 0 → IsDrained core
drained core none = grind (arith, none_waits, none_of_sum, light_lane)

-- a place of a lane is that of its kind, its sender and its receiver
pub record IsPlace (nodes place : ℕ) (kind : LaneKind) : Type 0 where
  pub from : ℕ
  pub to : ℕ
  pub sender : from < nodes
  pub receiver : to < nodes
  pub here : lane_place nodes kind from to ≡ place

parted : (nodes place base : ℕ) (kind : LaneKind) → 0 < nodes → place < nodes * nodes
    → ((from to : ℕ) → lane_place nodes kind from to ≡ base + (from * nodes + to)) → IsPlace nodes (base + place) kind
parted nodes place base kind some below is =
    let whole = div-add-mod place nodes in
    let turned : nodes * (place / nodes) ≡ place / nodes * nodes = mul_comm nodes (place / nodes) in
    record {
      from = place / nodes;
      to = place % nodes;
      sender = (div-lt_iff_lt-mul some).1 below;
      receiver = mod-lt place some;
      here = is (place / nodes) (place % nodes) ∙ ap (λ (k : ℕ). base + k) (let sum : place / nodes * nodes + place % nodes ≡ place = omega arith in sum);
    }

two_squares : (nodes : ℕ) → 2 * nodes * nodes ≡ nodes * nodes + nodes * nodes
two_squares nodes = grind arith

after_requests : (nodes from to : ℕ) → lane_place nodes Answers from to ≡ nodes * nodes + (from * nodes + to)
after_requests nodes from to = grind arith

pub place_of : (nodes place : ℕ) → 0 < nodes → place < 2 * nodes * nodes → IsPlace nodes place Requests ⊎ IsPlace nodes place Answers
place_of nodes place some below =
    elim (cases_lt place (nodes * nodes)) [
      | inl first ↦ inl (let same : 0 + place ≡ place = omega arith in
          subst (λ (p : ℕ). IsPlace nodes p Requests) same (parted nodes place 0 Requests some first (λ from to. omega arith)))
      | inr second ↦
          let twice : 2 * nodes * nodes ≡ nodes * nodes + nodes * nodes = two_squares nodes in
          let back : nodes * nodes + (place - nodes * nodes) ≡ place = omega arith in
          inr (subst (λ (p : ℕ). IsPlace nodes p Answers) back
          (parted nodes (place - nodes * nodes) (nodes * nodes) Answers some (omega arith) (λ from to. after_requests nodes from to)))
    ]

-- ---- while something is under way, some of it can be brought on

none_waiting : (core : Core) → sum_by (λ (part : NodeOf). answer_weight part.waiting) core.parts ≡ 0 → (n : ℕ) → (node_at core n).waiting ≡ None
none_waiting core none n = none_waits (node_at core n).waiting (none_of_sum (λ (part : NodeOf). answer_weight part.waiting) core.parts n no_node none refl)

pub reply_on : (core : Core) (n : ℕ) (answer : Letter) → n < core.size.nodes → (node_at core n).waiting ≡ Some answer → IsEnabled core (event.Reply n)
reply_on core n answer lt waits = grind (arith, steps_by_sides, waits_replying)

taken_on : (core : Core) (n from : ℕ) (kind : LaneKind) (taking : NodeOf → Letter → Option NodeOf) (e : Event) (letter : Letter) (rest : List Letter)
    → TakesFront core n kind taking from e → lane_of core kind from n ≡ letter ∷ rest → IsSome (taking (node_at core n) letter) → IsEnabled core e
taken_on core n from kind taking e letter rest takes is some =
    subst IsSome (sym (takes.front letter rest is)) (map_some (taken_to core n kind from rest) (taking (node_at core n) letter) some)

-- a request is served if no answer waits, and an answer is accepted
pub serve_on : (core : Core) (from n : ℕ) (letter : Letter) (rest : List Letter) → IsReachable core → from < core.size.nodes → n < core.size.nodes
    → (node_at core n).waiting ≡ None → lane_of core Requests from n ≡ letter ∷ rest → IsEnabled core (event.Serve from n)
serve_on core from n letter rest reached f lt free is =
    let comes = front_comes core from n Requests letter (any_well core reached) f lt (ap (λ (lane : List Letter). slice_get lane 0) is) in
    taken_on core n from Requests node_serving (event.Serve from n) letter rest ((steps_by_sides core n lt).serve from f) is
    (serve_enabled (node_at core n) letter comes.0.asks free)

pub accept_on : (core : Core) (from n : ℕ) (letter : Letter) (rest : List Letter) → IsReachable core → from < core.size.nodes → n < core.size.nodes
    → lane_of core Answers from n ≡ letter ∷ rest → IsEnabled core (event.Accept from n)
accept_on core from n letter rest reached f lt is =
    taken_on core n from Answers node_accepting (event.Accept from n) letter rest ((steps_by_sides core n lt).accept from f) is
    (any_accept_enabled core from n reached f lt letter rest is)

lane_drains : (core : Core) (place : ℕ) → IsReachable core → ((n : ℕ) → (node_at core n).waiting ≡ None) → 0 < lane_weight (lane_at core place)
    → IsPlace core.size.nodes place Requests ⊎ IsPlace core.size.nodes place Answers → CanDrain core
lane_drains core place reached free some (inl at) =
    let front = some_lane (lane_at core place) some in
    let is : lane_of core Requests at.from at.to ≡ front.0 ∷ front.1 = ap (lane_at core) at.here ∙ front.2 in
    Drains (event.Serve at.from at.to) refl (serve_on core at.from at.to front.0 front.1 reached at.sender at.receiver (free at.to) is)
lane_drains core place reached free some (inr at) =
    let front = some_lane (lane_at core place) some in
    let is : lane_of core Answers at.from at.to ≡ front.0 ∷ front.1 = ap (lane_at core) at.here ∙ front.2 in
    Drains (event.Accept at.from at.to) refl (accept_on core at.from at.to front.0 front.1 reached at.sender at.receiver is)

-- some answer goes out, or some packet is taken, or nothing is under way
pub can_drain : (core : Core) → IsReachable core → CanDrain core
can_drain core reached =
    let well = any_well core reached in
    let waiting = sum_by (λ (part : NodeOf). answer_weight part.waiting) core.parts in
    elim (cases_lt 0 waiting) [
      | inl some ↦
          let part = some_part (λ (part : NodeOf). answer_weight part.waiting) core.parts no_node some in
          let answer = some_waits (node_at core part.0).waiting part.2 in
          let lt : part.0 < core.size.nodes = let long = well.sizes.parts_long in let below = part.1 in omega arith in
          Drains (event.Reply part.0) refl (reply_on core part.0 answer.0 lt answer.1)
      | inr none ↦
          let free = none_waiting core (omega arith) in
          elim (cases_lt 0 (sum_by lane_weight core.lanes)) [
            | inl some ↦
                let lane = some_part lane_weight core.lanes [] some in
                let below : lane.0 < 2 * core.size.nodes * core.size.nodes = subst (λ (k : ℕ). lane.0 < k) well.sizes.lanes_long lane.1 in
                lane_drains core lane.0 reached free lane.2 (place_of core.size.nodes lane.0 well.sizes.some_node below)
            | inr all ↦ Drained (drained core (omega arith))
          ]
    ]
