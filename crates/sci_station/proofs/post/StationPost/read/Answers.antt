use Rattle.std.proofs.{Common.{◌≡◌, ℕ, true, false, Some, sym, ap, subst, ◌∙◌, arith}, lemmas.Bool.{eq-eqb}}
use Rattle.std.specs.Prelude.{◌==◌, not}
use Rattle.sci_core.specs.declared.lane.LaneKind.{LaneKind, TheVariants.{Requests}}
use Rattle.sci_lanes.specs.{Shown.{me_of}}
use Rattle.sci_station.specs.{Ends.{SeesFirst}, Posts.{KeptOf, Remembers, StationPostOf, is_kept, packet_in}}
use Rattle.sci_station.proofs.{StillEnds.{seen_there}, Remembering.{few_nodes, remembers_answer, remembers_read, remembers_request}}
use Rattle.sci_station.proofs.post.StationPost.read.Goals.{After-node-node}
use Rattle.sci_station.proofs.post.StationPost.read.Goals as goal

pub next_to_take-cell-requires : goal.next_to_take-cell-requires
next_to_take-cell-requires c = grind arith

pub read_packet-read-requires : goal.read_packet-read-requires
read_packet-read-requires c = grind (arith, seen_there)

-- the packet was read, and nothing of it is kept yet
read_here : (c : After-node-node) → Remembers c.read_packet-read.new.end c.self.inside.unanswered c.self.inside.kept
read_here c =
    let s = c.self.inside in
    let cell = c.next_to_take-cell in
    let fresh = ap (λ (k : LaneKind). is_kept s.kept k cell.result.sender) cell.ensures.cell.0
    ∙ (ap (is_kept s.kept c.args.kind) cell.ensures.cell.1
    ∙ subst (λ (p : StationPostOf). is_kept p.kept c.args.kind c.args.from ≡ false) (sym c.self.view_is) c.requires.fresh)
    in
    remembers_read s.end c.read_packet-read.new.end s.unanswered s.kept (record { cell = cell.result; first = c.args.first }) c.self.invariant
    (seen_there s.end.part c.args.kind c.args.from c.args.first cell.result
    (subst (λ (p : StationPostOf). SeesFirst p.end.part c.args.kind c.args.from c.args.first) (sym c.self.view_is) c.requires.seen)
    cell.ensures.next cell.ensures.cell)
    c.node-node.ensures.shown c.read_packet-read.ensures.still c.read_packet-read.ensures.others fresh

pub invariant_of-self : goal.invariant_of-self
invariant_of-self c = read_here (goal.at.invariant_of-self c).After-node-node

pub invariant_of-self-in-Answers : goal.invariant_of-self-in-Answers
invariant_of-self-in-Answers c =
    let s = c.self.inside in
    let now = read_here (goal.at.invariant_of-self-in-Answers c).After-node-node in
    subst (λ (k : KeptOf). Remembers c.read_packet-read.new.end s.unanswered k) (sym c.answer_read.ensures)
    (remembers_answer c.read_packet-read.new.end s.unanswered s.kept (Some c.in-Ok.packet) now)

pub request_read-requires : goal.request_read-requires
request_read-requires c =
    let few = few_nodes c.self.inside.end.part c.self.invariant.shown in
    let there = c.next_to_take-cell.ensures.next.other in
    let from = c.next_to_take-cell.ensures.cell.1 in
    omega arith

pub invariant_of-self-in-Requests : goal.invariant_of-self-in-Requests
invariant_of-self-in-Requests c =
    let s = c.self.inside in
    let new = c.read_packet-read.new.end in
    let cell = c.next_to_take-cell in
    let now = read_here (goal.at.invariant_of-self-in-Requests c).After-node-node in
    subst (λ (k : KeptOf). Remembers new s.unanswered k) (sym c.request_read.ensures.kept)
    (remembers_request new s.unanswered s.kept c.args.from c.in-Ok.packet cell.result _ now c.in-Ok.ensures.read
    (cell.ensures.cell.0 ∙ c.in-Requests.is) cell.ensures.cell.1
    (λ keep e. keeps_other c.args.from c.me-me.result (me_of new.part) keep c.me-me.ensures e)
    (subst (λ (k : KeptOf). packet_in k Requests c.args.from ≡ Some c.in-Ok.packet) c.request_read.ensures.kept c.request_read.ensures.there))
  where
    keeps_other : (from me n : ℕ) → not (from == me) ≡ true → me ≡ n → from ≡ n → ⊥
    keeps_other from me n keep is e = let same : (from == me) ≡ true = eq-eqb from me (e ∙ sym is) in let clash : not true ≡ true = ap not (sym same) ∙ keep in
        cc

pub returns-in-Answers-clause-read : goal.returns-in-Answers-clause-read
returns-in-Answers-clause-read c = λ _. record {
  packet = c.in-Ok.packet;
  there = ap (λ (k : LaneKind). packet_in c.answer_read.new.self k c.args.from) c.in-Answers.is ∙ ap (λ (k : KeptOf). k.answer) c.answer_read.ensures;
  cell = c.next_to_take-cell.result;
  kind_is = c.next_to_take-cell.ensures.cell.0;
  sender_is = c.next_to_take-cell.ensures.cell.1;
  read = c.in-Ok.ensures.read;
}

pub returns-in-Requests-clause-read : goal.returns-in-Requests-clause-read
returns-in-Requests-clause-read c = λ _. record {
  packet = c.in-Ok.packet;
  there = ap (λ (k : LaneKind). packet_in c.request_read.new.self k c.args.from) c.in-Requests.is ∙ c.request_read.ensures.there;
  cell = c.next_to_take-cell.result;
  kind_is = c.next_to_take-cell.ensures.cell.0;
  sender_is = c.next_to_take-cell.ensures.cell.1;
  read = c.in-Ok.ensures.read;
}
