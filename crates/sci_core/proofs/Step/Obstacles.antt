-- Nothing stands in the way of an event exactly if it is enabled.
use Rattle.std.proofs.Common.{◌≡◌, ℕ, ◌<◌, Bool, true, false, List, [], ◌∷◌, Option, Some, None, refl, sym, ap, ◌∙◌, arith}
use Rattle.std.proofs.lemmas.Bool.{cases_Bool, lt-ltb, ltb-true, ltb-false}
use Rattle.std.specs.Prelude.{option_map, IfSome, IsSome, is_some, is_none, Result, Ok, Err, slice_get}
use Rattle.sci_words.specs.declared.{event.{AskKind.{AskKind}, Event.{Event}}, operation.Op.{Op}}
use Rattle.sci_packets.specs.declared.packet.Packet.{Packet}
use Rattle.sci_cache.specs.{declared.fault.AskFault.{AskFault}, Cache.{CacheOf, Letter, letter_of}}
use Rattle.sci_core.specs.declared.{obstacle.Obstacle.{Obstacle}, taking.Taking.{Taking}}
use Rattle.sci_core.specs.declared.taking.Taking.TheVariants.{Serve, Refuse, Accept}
use Rattle.sci_core.specs.Node.{NodeOf, node_issuing, node_performing, node_asking, node_serving, node_refusing, node_replying, node_accepting, is_setback}
use Rattle.sci_core.specs.{Node.{lines_of, asked_by}, Core.{Core, node_at, node_of, lane_of, stepping}}
use Rattle.sci_core.specs.Obstacles.{asked_obstacle, ask_obstacle, packet_obstacle, front_obstacle, take_obstacle}
use Rattle.sci_core.specs.{Reached.{IsReached}, Taking.{lane_kind, taking_event}}
use Rattle.sci_core.proofs.{Tidy.Enabled.{accept_enabled, request_enabled}, Step.Sides.{steps_by_sides}}
use Rattle.sci_core.proofs.Step.{Stepping.{if_true, if_false}, Takings.{taking_from_nobody}}
use Rattle.sci_words.specs.declared.event.Event.TheVariants as event

mapped : {A B : Type 0} (f : A → B) (o : Option A) → is_some (option_map f o) ≡ is_some o
mapped f None = refl
mapped f (Some x) = refl

-- ---- the events that take no packet are enabled if their side is

issue_here : (core : Core) (n : ℕ) (op : Op) → n < core.size.nodes → is_some (node_issuing (node_at core n) op) ≡ is_some (stepping core (event.Issue n op))
issue_here core n op lt = sym (ap is_some ((steps_by_sides core n lt).issue op) ∙ mapped _ (node_issuing (node_at core n) op))

perform_here : (core : Core) (n line : ℕ) → n < core.size.nodes
    → is_some (node_performing (node_at core n) line) ≡ is_some (stepping core (event.Perform n line))
perform_here core n line lt = sym (ap is_some ((steps_by_sides core n lt).perform line) ∙ mapped _ (node_performing (node_at core n) line))

ask_here : (core : Core) (n line : ℕ) (kind : AskKind) → n < core.size.nodes
    → is_some (node_asking (node_at core n) line kind) ≡ is_some (stepping core (event.Ask n line kind))
ask_here core n line kind lt = sym (ap is_some ((steps_by_sides core n lt).ask line kind) ∙ mapped _ (node_asking (node_at core n) line kind))

reply_here : (core : Core) (n : ℕ) → n < core.size.nodes → is_some (node_replying (node_at core n)) ≡ is_some (stepping core (event.Reply n))
reply_here core n lt = sym (ap is_some (steps_by_sides core n lt).reply ∙ mapped _ (node_replying (node_at core n)))

-- an event, by the side of the node that was looked at
by_side : (core : Core) (e of : Event) (n : ℕ) (node : NodeOf) (side : NodeOf → Bool) (free : Bool) → e ≡ of → node ≡ node_at core n
    → side (node_at core n) ≡ is_some (stepping core of) → free ≡ side node → free ≡ is_some (stepping core e)
by_side core e of n node side free is here step told = told ∙ ap side here ∙ step ∙ ap (λ (k : Event). is_some (stepping core k)) (sym is)

pub issue_free : (core : Core) (e : Event) (n : ℕ) (op : Op) (node : NodeOf) (free : Bool) → e ≡ event.Issue n op → node_of e < core.size.nodes
    → node ≡ node_at core n → free ≡ is_some (node_issuing node op) → free ≡ is_some (stepping core e)
issue_free core e n op node free is lt here told =
    by_side core e (event.Issue n op) n node (λ k. is_some (node_issuing k op)) free is here (issue_here core n op (omega (arith, ap node_of is))) told

pub perform_free : (core : Core) (e : Event) (n line : ℕ) (node : NodeOf) (free : Bool) → e ≡ event.Perform n line → node_of e < core.size.nodes
    → node ≡ node_at core n → free ≡ is_some (node_performing node line) → free ≡ is_some (stepping core e)
perform_free core e n line node free is lt here told = grind (arith, by_side, perform_here)

pub ask_free : (core : Core) (e : Event) (n line : ℕ) (kind : AskKind) (node : NodeOf) (free : Bool) → e ≡ event.Ask n line kind → node_of e < core.size.nodes
    → node ≡ node_at core n → free ≡ is_some (node_asking node line kind) → free ≡ is_some (stepping core e)
ask_free core e n line kind node free is lt here told = grind (arith, by_side, ask_here)

pub reply_free : (core : Core) (e : Event) (n : ℕ) (node : NodeOf) (free : Bool) → e ≡ event.Reply n → node_of e < core.size.nodes → node ≡ node_at core n
    → free ≡ is_some (node_replying node) → free ≡ is_some (stepping core e)
reply_free core e n node free is lt here told =
    by_side core e (event.Reply n) n node (λ k. is_some (node_replying k)) free is here (reply_here core n (omega (arith, ap node_of is))) told

-- ---- the events that take a packet

serve_free : (node : NodeOf) (letter : Letter) (waiting : Option Letter) → node.waiting ≡ waiting → (node.waiting ≡ None → IsSome (node_serving node letter))
    → is_none (packet_obstacle Serve node letter) ≡ is_some (node_serving node letter)
serve_free node letter None is some = ap (λ (w : Option Letter). is_none (packet_obstacle Serve (record node { waiting = w }) letter)) is ∙ sym (some is)
serve_free node letter (Some answer) is some = grind arith

refuse_free : (node : NodeOf) (letter : Letter) (waiting : Option Letter) (back : Bool) → node.waiting ≡ waiting → is_setback letter.body ≡ back
    → is_none (packet_obstacle Refuse node letter) ≡ is_some (node_refusing node letter)
refuse_free node letter None true is sets = grind (arith, is, sets)
refuse_free node letter None false is sets = grind (arith, is, sets)
refuse_free node letter (Some answer) back is sets = grind (arith, is, sets)

taken_free : (core : Core) (taking : Taking) (from n : ℕ) (lane : List Letter) → IsReached core → from < core.size.nodes → n < core.size.nodes
    → lane_of core (lane_kind taking) from n ≡ lane
    → is_none (front_obstacle taking (node_at core n) (slice_get lane 0)) ≡ is_some (stepping core (taking_event taking from n))
taken_free core Serve from n [] reached f lt is = sym (ap is_some (((steps_by_sides core n lt).serve from f).empty is))
taken_free core Refuse from n [] reached f lt is = sym (ap is_some (((steps_by_sides core n lt).refuse from f).empty is))
taken_free core Accept from n [] reached f lt is = sym (ap is_some (((steps_by_sides core n lt).accept from f).empty is))
taken_free core Serve from n (letter ∷ rest) reached f lt is =
    let node = node_at core n in
    serve_free node letter node.waiting refl (λ none. (request_enabled core from n reached f lt).served letter rest is none)
    ∙ sym (ap is_some (((steps_by_sides core n lt).serve from f).front letter rest is) ∙ mapped _ (node_serving node letter))
taken_free core Refuse from n (letter ∷ rest) reached f lt is =
    let node = node_at core n in
    refuse_free node letter node.waiting (is_setback letter.body) refl refl
    ∙ sym (ap is_some (((steps_by_sides core n lt).refuse from f).front letter rest is) ∙ mapped _ (node_refusing node letter))
taken_free core Accept from n (letter ∷ rest) reached f lt is =
    let node = node_at core n in
    sym (accept_enabled core from n reached f lt letter rest is)
    ∙ sym (ap is_some (((steps_by_sides core n lt).accept from f).front letter rest is) ∙ mapped _ (node_accepting node letter))

take_told : (core : Core) (taking : Taking) (from n : ℕ) → IsReached core → n < core.size.nodes
    → is_none (take_obstacle core taking from n) ≡ is_some (stepping core (taking_event taking from n))
take_told core taking from n reached lt = grind (arith, cases_Bool, if_true, taken_free, ltb-true, if_false, taking_from_nobody, ltb-false)

-- the node that takes it is there
taker_here : (taking : Taking) (from n : ℕ) → node_of (taking_event taking from n) ≡ n
taker_here Serve from n = refl
taker_here Refuse from n = refl
taker_here Accept from n = refl

pub take_free : (core : Core) (e : Event) (taking : Taking) (from n : ℕ) (o : Option Obstacle) → e ≡ taking_event taking from n → IsReached core
    → node_of e < core.size.nodes → o ≡ take_obstacle core taking from n → is_none o ≡ is_some (stepping core e)
take_free core e taking from n o is reached lt told = grind (arith, take_told, taker_here)

-- ---- why an Ask is refused

free_of : (node : NodeOf) (made : Result (CacheOf × Letter) AskFault) (sent : NodeOf × Letter) → asked_by node made ≡ Some sent → asked_obstacle made ≡ None
free_of node (Ok asked) sent e = refl
free_of node (Err why) sent e = cc

-- nothing is in the way of an ask that is made
ask_made : (node : NodeOf) (line : ℕ) (kind : AskKind) (sent : NodeOf × Letter) → line < lines_of node → node_asking node line kind ≡ Some sent
    → ask_obstacle node line kind ≡ None
ask_made node line kind sent below some = grind (arith, if_true, lt-ltb, free_of)

pub ask_found : (node : NodeOf) (line : ℕ) (kind : AskKind) (found : Option Packet) → line < lines_of node
    → IfSome found (λ packet. (next : NodeOf) × (node_asking node line kind ≡ Some (next, letter_of packet))) → is_some found ≡ true
    → ask_obstacle node line kind ≡ None
ask_found node line kind None below h some = cc
ask_found node line kind (Some packet) below h some = ask_made node line kind (h.0, letter_of packet) below h.1
