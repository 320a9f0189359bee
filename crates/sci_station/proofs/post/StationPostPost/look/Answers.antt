use Rattle.std.proofs.Common.{◌≡◌, ◌<◌, ℕ, sym, ap, subst, ◌∙◌, arith}
use Rattle.sci_lanes.specs.{Ends.{EndOf, nodes_in}, Telling.{IsShown, state_of}}
use Rattle.sci_turn.specs.Posts.{IsStill as IsStillPost}
use Rattle.sci_station.specs.{Posts.{IsRead, Remembers, StationPostOf, post_of}}
use Rattle.sci_station.proofs.{StillEnds.{still_then as stills}, Posts.{post_nodes, still_post}}
use Rattle.sci_station.proofs.Remembering.{apart_looked, remembers_still}
use Rattle.sci_station.proofs.post.StationPostPost.look.Goals.{After-node-node, After-read}
use Rattle.sci_station.proofs.post.StationPostPost.look.Goals as goal

-- the sender is there
there : (x : StationPostOf) (end : EndOf) (from : ℕ) → IsShown end.part → end ≡ x.end → from < (state_of x.end.part).size.nodes → from < nodes_in end.part
there x end from s is lt = subst (λ (n : ℕ). from < n) (sym (post_nodes end s)) (subst (λ (e : EndOf). from < (state_of e.part).size.nodes) (sym is) lt)

pub returns-then-is_kept-clause-seen : goal.returns-then-is_kept-clause-seen
returns-then-is_kept-clause-seen c =
    λ _. subst (λ (p : StationPostOf). IsRead p.end p.kept c.args.kind c.args.from) c.self.view_is
    (c.self.invariant.keeps c.args.kind c.args.from (sym c.is_kept.ensures ∙ c.if-is_kept.true)).1

pub knows_empty-requires : goal.knows_empty-requires
knows_empty-requires c = grind (arith, post_nodes)

pub see-seen-requires : goal.see-seen-requires
see-seen-requires c = there c.args.self.now c.self.inside.end c.args.from c.self.invariant.shown (ap (λ (p : StationPostOf). p.end) c.self.view_is) c.requires

-- the lane was looked at
looked : (c : After-node-node) → Remembers c.see-seen.new.end c.self.inside.unanswered c.self.inside.kept
looked c =
    let s = c.self.inside in
    remembers_still s.end c.see-seen.new.end s.unanswered s.kept _ c.self.invariant c.node-node.ensures.shown c.see-seen.ensures.still
    c.see-seen.ensures.others
    (apart_looked s.kept s.end.part c.args.kind c.args.from c.self.invariant.shown
    (there c.args.self.now s.end c.args.from c.self.invariant.shown (ap (λ (p : StationPostOf). p.end) c.self.view_is) c.requires)
    (sym c.is_kept.ensures ∙ c.if-is_kept.false))

still : (c : After-node-node) → IsStillPost (post_of c.args.self.now.end) (post_of c.see-seen.new.end)
still c =
    let new = c.see-seen.new.end in
    subst (λ (p : StationPostOf). IsStillPost (post_of p.end) (post_of new)) c.self.view_is
    (still_post c.self.inside.end new c.self.invariant.shown c.node-node.ensures.shown c.see-seen.ensures.still.node c.see-seen.ensures.still.seen)

-- and a packet was read
still_read : (c : After-read) → IsStillPost (post_of c.args.self.now.end) (post_of c.read.new.self.end)
still_read c =
    let s = c.self.inside in
    let new = c.read.new.self.end in
    let both = stills s.end c.see-seen.new.end new c.see-seen.ensures.still c.read.ensures.still in
    subst (λ (p : StationPostOf). IsStillPost (post_of p.end) (post_of new)) c.self.view_is
    (still_post s.end new c.self.invariant.shown c.read.ensures.shown both.node both.seen)

pub invariant_of-self : goal.invariant_of-self
invariant_of-self c = looked (goal.at.invariant_of-self c).After-node-node

pub invariant_of-self-in-Some : goal.invariant_of-self-in-Some
invariant_of-self-in-Some c = looked (goal.at.invariant_of-self-in-Some c).After-node-node

pub invariant_of-self-in-None : goal.invariant_of-self-in-None
invariant_of-self-in-None c = looked (goal.at.invariant_of-self-in-None c).After-node-node

pub returns-in_err-first-clause-still : goal.returns-in_err-first-clause-still
returns-in_err-first-clause-still c = still (goal.at.returns-in_err-first-clause-still c).After-node-node

pub returns-in-None-clause-still : goal.returns-in-None-clause-still
returns-in-None-clause-still c = still (goal.at.returns-in-None-clause-still c).After-node-node

pub returns-in_err-read-in-Some-clause-still : goal.returns-in_err-read-in-Some-clause-still
returns-in_err-read-in-Some-clause-still c = still_read (goal.at.returns-in_err-read-in-Some-clause-still c).After-read

pub returns-in_ok-read-in-Some-clause-still : goal.returns-in_ok-read-in-Some-clause-still
returns-in_ok-read-in-Some-clause-still c = still_read (goal.at.returns-in_ok-read-in-Some-clause-still c).After-read
