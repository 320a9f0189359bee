use Rattle.std.proofs.Common.{◌≡◌, ◌≢◌, ◌+◌, ℕ, false, List, set, sym, ap, subst, ◌∙◌, arith, inl, inr}
use Rattle.std.proofs.lemmas.Bool.{cases_eq, eq-eqb, ne_eqb}
use Rattle.std.specs.Prelude.{◌==◌, slice_index}
use Rattle.sci_cache.specs.Cache.{Letter}
use Rattle.sci_core.specs.{Node.{NodeOf}, declared.lane.LaneKind.{LaneKind}, Core.{lane_place, side}, Draining.{one_if}}
use Rattle.sci_lanes.specs.{declared.cell.CellId.{CellId}, Ends.{EndOf, IsNextToTake, lane_at_cell, nodes_in}}
use Rattle.sci_turn.specs.Posts.{IsFront, IsStill, IsTaken, MayTakeFront}
use Rattle.sci_turn.proofs.Stills.{still_itself}
use Rattle.sci_station.specs.{Ends.{LeavesOthers}, Posts.{IsRead, KeptOf, Remembers, StationPostOf, is_kept, post_of}}
use Rattle.sci_station.proofs.Posts.{made_post, may_free, node_there, taken_post}
use Rattle.sci_station.proofs.Remembering.{none_kept, remembers_no_more, remembers_taken, sender_there}
use Rattle.sci_station.proofs.{Owing.{takes_one}, StillEnds.{known_others, next_same}}
use Rattle.sci_station.proofs.post.StationPostPost.take.Goals.{After-free}
use Rattle.sci_station.proofs.post.StationPostPost.take.Goals as goal

pub returns-in_err-spend-clause-cut : goal.returns-in_err-spend-clause-cut
returns-in_err-spend-clause-cut c =
    λ _. subst (λ (p : StationPostOf). IsStill (post_of p.end) (post_of c.self.inside.end)) c.self.view_is (still_itself (post_of c.self.inside.end))

-- the cell from which the node takes next is the one that was read
cell_read : (end : EndOf) (kept : KeptOf) (kind : LaneKind) (from : ℕ) (cell : CellId) → (read : IsRead end kept kind from) → IsNextToTake end.part cell
    → cell.kind ≡ kind → cell.sender ≡ from → read.cell ≡ cell
cell_read end kept kind from cell read next k f = sym (next_same end.part cell read.cell next read.read.next (k ∙ sym read.kind_is) (f ∙ sym read.sender_is))

pub free-requires-clause-may : goal.free-requires-clause-may
free-requires-clause-may c = grind (arith, cell_read, may_free)

-- what the turn knows of the packet, as the end sees it
seen : (c : After-free) → IsRead c.self.inside.end c.self.inside.kept c.args.kind c.args.from
seen c = subst (λ (p : StationPostOf). IsRead p.end p.kept c.args.kind c.args.from) (sym c.self.view_is) c.requires.sees

may : (c : After-free) → MayTakeFront (post_of c.self.inside.end) c.args.kind c.args.from c.args.event.now
may c = subst (λ (p : StationPostOf). MayTakeFront (post_of p.end) c.args.kind c.args.from c.args.event.now) (sym c.self.view_is) c.requires.may

-- what is remembered after it was taken
took : (c : After-free) (counts : List ℕ) (kept : KeptOf) → Remembers c.self.inside.end c.self.inside.unanswered kept
    → is_kept kept c.args.kind c.args.from ≡ false
    → ((node : ℕ) → slice_index counts node + takes_one c.args.kind c.args.from node ≡ slice_index c.self.inside.unanswered node)
    → Remembers c.free.new.self counts kept
took c counts kept r none counted =
    let old = c.self.inside.end in
    let new = c.free.new.self in
    let e = c.args.event.now in
    let cell = c.next_to_take-cell.ensures in
    let f = c.free.ensures in
    let take = (may c).1 in
    remembers_taken old new c.self.inside.unanswered counts kept c.args.kind c.args.from take.taking e r f.shown f.same
    (made_post old new e r.shown f.shown f.same f.oldest.made) take.own (ap (λ (n : NodeOf). side n e) (sym (node_there old.part r.shown)) ∙ take.side_is)
    (sender_there old c.self.inside.kept c.args.kind c.args.from (seen c)) none
    (subst (λ (l : ℕ). LeavesOthers l old.part new.part) (λ i. lane_place (nodes_in old.part) (cell.cell.0 i) (cell.cell.1 i) (cell.next.mine i))
    (known_others old new (lane_at_cell old.part c.next_to_take-cell.result) _ (ap (λ (x : EndOf). x.part.inbound) f.part))) counted

pub invariant_of-self-in-Answers : goal.invariant_of-self-in-Answers
invariant_of-self-in-Answers c =
    let s = c.self.inside in
    took (goal.at.invariant_of-self-in-Answers c).After-free c.accepted.new.self s.kept c.self.invariant
    (ap (λ (k : LaneKind). is_kept s.kept k c.args.from) c.in-Answers.is)
    (λ node. subst (λ (k : LaneKind). slice_index c.accepted.new.self node + takes_one k c.args.from node ≡ slice_index s.unanswered node) (sym c.in-Answers.is)
    (one_less c.accepted.new.self s.unanswered c.args.from node c.accepted.ensures.here (c.accepted.ensures.others node)))
  where
    one_less : (counts unanswered : List ℕ) (from node : ℕ) → slice_index counts from + 1 ≡ slice_index unanswered from
        → (node ≢ from → slice_index counts node ≡ slice_index unanswered node) → slice_index counts node + one_if (from == node) ≡ slice_index unanswered node
    one_less counts unanswered from node here others =
        elim (cases_eq from node) [
          | inl same ↦ (let one = ap one_if (eq-eqb from node same) in
              let there : slice_index counts node + 1 ≡ slice_index unanswered node =
              subst (λ (j : ℕ). slice_index counts j + 1 ≡ slice_index unanswered j) same here in omega arith)
          | inr apart ↦ (let one = ap one_if (ne_eqb from node apart) in let there = others (λ e. apart (sym e)) in omega arith)
        ]

pub invariant_of-self-in-Requests : goal.invariant_of-self-in-Requests
invariant_of-self-in-Requests c =
    let s = c.self.inside in
    let after : KeptOf = record s.kept { marks = set s.kept.marks c.args.from false } in
    subst (λ (k : KeptOf). Remembers c.free.new.self s.unanswered k) (sym c.request_taken.ensures)
    (took (goal.at.invariant_of-self-in-Requests c).After-free s.unanswered after (remembers_no_more s.end s.unanswered s.kept c.args.from c.self.invariant)
    (subst (λ (k : LaneKind). is_kept after k c.args.from ≡ false) (sym c.in-Requests.is) (none_kept s.kept c.args.from))
    (λ node. subst (λ (k : LaneKind). slice_index s.unanswered node + takes_one k c.args.from node ≡ slice_index s.unanswered node) (sym c.in-Requests.is)
    (omega arith)))

-- the packet that was taken
took_front : (c : After-free) (letter : Letter) → IsFront (post_of c.args.self.now.end) c.args.kind c.args.from letter
    → IsTaken (post_of c.args.self.now.end) c.args.kind c.args.from letter c.args.event.now (post_of c.free.new.self)
took_front c letter front = grind (arith, seen, cell_read, taken_post, may)

pub returns-in-Answers-clause-taken : goal.returns-in-Answers-clause-taken
returns-in-Answers-clause-taken c = took_front (goal.at.returns-in-Answers-clause-taken c).After-free

pub returns-in-Requests-clause-taken : goal.returns-in-Requests-clause-taken
returns-in-Requests-clause-taken c = took_front (goal.at.returns-in-Requests-clause-taken c).After-free
