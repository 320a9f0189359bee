use Rattle.std.proofs.Common.{◌≡◌, ◌≢◌, ◌<◌, ◌+◌, ℕ, List, refl, sym, ap, subst, ◌∙◌, arith, inl, inr}
use Rattle.std.proofs.lemmas.Bool.{cases_eq, eq-eqb, ne_eqb}
use Rattle.std.specs.Prelude.{◌==◌, slice_index}
use Rattle.sci_words.specs.declared.event.Event.{Event}
use Rattle.sci_cache.specs.Cache.{Letter, letter_of}
use Rattle.sci_core.specs.declared.lane.LaneKind.{LaneKind, TheVariants.{Requests}}
use Rattle.sci_core.specs.{Core.{Sends, lane_place, node_of, side}, Draining.{one_if}, Node.{NodeOf}}
use Rattle.sci_lanes.specs.{Ends.{EndOf, nodes_in}, Shown.{me_of}}
use Rattle.sci_lanes.specs.Telling.{IsMade as WasMade, IsSameNode, IsShown}
use Rattle.sci_turn.specs.Posts.{IsMade, IsStill as IsStillPost, MaySend}
use Rattle.sci_station.specs.{Ends.{IsStill, LeavesOthers}, Posts.{KeptOf, Remembers, StationPostOf, post_of}}
use Rattle.sci_station.proofs.{Owing.{adds_one}, Posts.{made_post, node_there, post_nodes, still_post}}
use Rattle.sci_station.proofs.Remembering.{apart_sent, few_owed, owing_sent, remembers_sent, remembers_still}
use Rattle.sci_station.proofs.post.StationPostPost.send.Goals.{After-node-node, After-target_of-to}
use Rattle.sci_station.proofs.post.StationPostPost.send.Goals as goal

-- what the turn tells of the packet, as the end sees it
record May (end : EndOf) (kind : LaneKind) (letter : Letter) (e : Event) : Type 0 where
  target : letter.target < nodes_in end.part
  own : node_of e ≡ me_of end.part
  next : NodeOf
  side_is : side end.part.node e ≡ Sends kind next letter

may : (x : StationPostOf) (end : EndOf) (kind : LaneKind) (letter : Letter) (e : Event) → IsShown end.part → end ≡ x.end → MaySend (post_of x.end) kind letter e
    → May end kind letter e
may x end kind letter e s is send = subst (λ (d : EndOf). IsShown d.part → May d kind letter e) (sym is) (λ t. record {
  target = subst (λ (n : ℕ). letter.target < n) (sym (post_nodes x.end t)) send.target;
  own = send.own;
  next = send.next;
  side_is = ap (λ (n : NodeOf). side n e) (sym (node_there x.end.part t)) ∙ send.side_is;
}) s

pub target_of-to-requires : goal.target_of-to-requires
target_of-to-requires c = (may c.args.self.now c.self.inside.end c.args.kind (letter_of c.args.packet.now) c.args.event.now c.self.invariant.shown
    (ap (λ (p : StationPostOf). p.end) c.self.view_is) c.requires).target

may_here : (c : After-target_of-to) → May c.self.inside.end c.args.kind (letter_of c.args.packet.now) c.args.event.now
may_here c = may c.args.self.now c.self.inside.end c.args.kind (letter_of c.args.packet.now) c.args.event.now c.self.invariant.shown
    (ap (λ (p : StationPostOf). p.end) c.self.view_is) c.requires

pub send-sent-requires-clause-target : goal.send-sent-requires-clause-target
send-sent-requires-clause-target c = (may_here (goal.at.send-sent-requires-clause-target c).After-target_of-to).target

-- nothing was sent
unsent : (c : After-node-node) → IsStill c.self.inside.end c.send-sent.new.end → c.args.packet.now.target < nodes_in c.self.inside.end.part
    → Remembers c.send-sent.new.end c.self.inside.unanswered c.self.inside.kept
unsent c still lt =
    let s = c.self.inside in
    remembers_still s.end c.send-sent.new.end s.unanswered s.kept _ c.self.invariant c.node-node.ensures.shown still c.send-sent.ensures.others
    (apart_sent s.kept s.end.part c.args.kind c.args.packet.now.target c.self.invariant.shown lt)

still_here : (c : After-node-node) → IsStill c.self.inside.end c.send-sent.new.end
    → IsStillPost (post_of c.args.self.now.end) (post_of c.send-sent.new.end)
still_here c still =
    subst (λ (p : StationPostOf). IsStillPost (post_of p.end) (post_of c.send-sent.new.end)) c.self.view_is
    (still_post c.self.inside.end c.send-sent.new.end c.self.invariant.shown c.node-node.ensures.shown still.node still.seen)

pub invariant_of-self : goal.invariant_of-self
invariant_of-self c =
    let d = goal.at.invariant_of-self c in
    unsent d.After-node-node (c.in_err-sent.ensures.cut refl) (may_here d.After-target_of-to).target

pub returns-in_err-sent-clause-cut : goal.returns-in_err-sent-clause-cut
returns-in_err-sent-clause-cut c = λ _. still_here (goal.at.returns-in_err-sent-clause-cut c).After-node-node (c.in_err-sent.ensures.cut refl)

pub invariant_of-self-then-not-branch : goal.invariant_of-self-then-not-branch
invariant_of-self-then-not-branch c =
    let d = goal.at.invariant_of-self-then-not-branch c in
    unsent d.After-node-node (c.in_ok-sent.ensures.full c.if-not-branch.true) (may_here d.After-target_of-to).target

pub returns-then-not-branch-clause-still : goal.returns-then-not-branch-clause-still
returns-then-not-branch-clause-still c = λ _.
    still_here (goal.at.returns-then-not-branch-clause-still c).After-node-node (c.in_ok-sent.ensures.full c.if-not-branch.true)

-- what is remembered after a packet was sent
sent : (old new : EndOf) (unanswered counts : List ℕ) (kept : KeptOf) (kind : LaneKind) (letter : Letter) (e : Event) → Remembers old unanswered kept
    → IsShown new.part → IsSameNode old.part new.part → WasMade old.part e new.part.schedule → May old kind letter e
    → LeavesOthers (lane_place (nodes_in old.part) kind (me_of old.part) letter.target) old.part new.part
    → ((node : ℕ) → slice_index counts node ≡ slice_index unanswered node + adds_one kind letter.target node) → Remembers new counts kept
sent old new unanswered counts kept kind letter e r t same was m others counted =
    remembers_sent old new unanswered counts kept kind m.next letter e r t same (made_post old new e r.shown t same was) m.own m.side_is m.target others counted

pub invariant_of-self-in-Answers : goal.invariant_of-self-in-Answers
invariant_of-self-in-Answers c =
    let s = c.self.inside in
    sent s.end c.send-sent.new.end s.unanswered s.unanswered s.kept c.args.kind (letter_of c.args.packet.now) c.args.event.now c.self.invariant
    c.node-node.ensures.shown c.send-sent.ensures.same.node (c.in_ok-sent.ensures.made c.if-not-branch.false)
    (may_here (goal.at.invariant_of-self-in-Answers c).After-target_of-to) c.send-sent.ensures.others
    (λ node. subst (λ (k : LaneKind). slice_index s.unanswered node ≡ slice_index s.unanswered node + adds_one k c.args.packet.now.target node)
    (sym c.in-Answers.is) (omega arith))

-- fewer than 255 are owed where a request is sent
few_there : (old new : EndOf) (unanswered : List ℕ) (kept : KeptOf) (letter : Letter) (e : Event) (to : ℕ) → Remembers old unanswered kept → IsShown new.part
    → IsSameNode old.part new.part → WasMade old.part e new.part.schedule → May old Requests letter e → to ≡ letter.target → slice_index unanswered to < 255
few_there old new unanswered kept letter e to r t same was m is = grind (arith, owing_sent, made_post, few_owed)

pub asked-requires-clause-few : goal.asked-requires-clause-few
asked-requires-clause-few c =
    let s = c.self.inside in
    few_there s.end c.send-sent.new.end s.unanswered s.kept (letter_of c.args.packet.now) c.args.event.now c.target_of-to.result c.self.invariant
    c.node-node.ensures.shown c.send-sent.ensures.same.node (c.in_ok-sent.ensures.made c.if-not-branch.false)
    (subst (λ (k : LaneKind). May s.end k (letter_of c.args.packet.now) c.args.event.now) c.in-Requests.is
    (may_here (goal.at.asked-requires-clause-few c).After-target_of-to)) c.target_of-to.ensures

pub invariant_of-self-in-Requests : goal.invariant_of-self-in-Requests
invariant_of-self-in-Requests c =
    let s = c.self.inside in
    sent s.end c.send-sent.new.end s.unanswered c.asked.new.self s.kept c.args.kind (letter_of c.args.packet.now) c.args.event.now c.self.invariant
    c.node-node.ensures.shown c.send-sent.ensures.same.node (c.in_ok-sent.ensures.made c.if-not-branch.false)
    (may_here (goal.at.invariant_of-self-in-Requests c).After-target_of-to) c.send-sent.ensures.others
    (λ node. subst (λ (k : LaneKind). slice_index c.asked.new.self node ≡ slice_index s.unanswered node + adds_one k c.args.packet.now.target node)
    (sym c.in-Requests.is) (one_more c.asked.new.self s.unanswered c.target_of-to.result c.args.packet.now.target node c.target_of-to.ensures
    c.asked.ensures.here (c.asked.ensures.others node)))
  where
    one_more : (counts unanswered : List ℕ) (to target node : ℕ) → to ≡ target → slice_index counts to ≡ slice_index unanswered to + 1
        → (node ≢ to → slice_index counts node ≡ slice_index unanswered node) → slice_index counts node ≡ slice_index unanswered node + one_if (target == node)
    one_more counts unanswered to target node is here others =
        elim (cases_eq target node) [
          | inl same ↦ (let one = ap one_if (eq-eqb target node same) in
              let there : slice_index counts node ≡ slice_index unanswered node + 1 =
              subst (λ (j : ℕ). slice_index counts j ≡ slice_index unanswered j + 1) (is ∙ same) here in omega arith)
          | inr apart ↦ (let one = ap one_if (ne_eqb target node apart) in let there = others (λ e. apart (sym (e ∙ is))) in omega arith)
        ]

made_here : (c : After-node-node) → WasMade c.self.inside.end.part c.args.event.now c.send-sent.new.end.part.schedule
    → IsMade (post_of c.args.self.now.end) c.args.event.now (post_of c.send-sent.new.end)
made_here c made = grind (arith, made_post)

pub returns-in-Answers-clause-sent : goal.returns-in-Answers-clause-sent
returns-in-Answers-clause-sent c = λ _.
    made_here (goal.at.returns-in-Answers-clause-sent c).After-node-node (c.in_ok-sent.ensures.made c.if-not-branch.false)

pub returns-in-Requests-clause-sent : goal.returns-in-Requests-clause-sent
returns-in-Requests-clause-sent c = λ _.
    made_here (goal.at.returns-in-Requests-clause-sent c).After-node-node (c.in_ok-sent.ensures.made c.if-not-branch.false)
