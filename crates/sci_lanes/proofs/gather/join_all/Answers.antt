use Rattle.std.proofs.Common.{◌≡◌, ◌+◌, Some, [], ◌∷◌, ◌++◌, sym, ap, subst, ◌∙◌, arith, map}
use Rattle.std.specs.{Prelude.{slice_get}, List.{remove}}
use Rattle.sci_lanes.specs.{Ends.{EndOf, nodes_in}, Gathering.{HasTurns}}
use Rattle.sci_lanes.proofs.Joining.{AreJoining, mapped_at, mapped_less, one_joined}
use Rattle.sci_lanes.proofs.gather.join_all.Goals.{After-into_parts-part}
use Rattle.sci_lanes.proofs.gather.join_all.Goals as goal

-- the end that was found stands at its place
there : (g : _) (c : After-into_parts-part g) → slice_get (map g.E.HasEnd.end_of c.loop-n.ends.items) c.in-Some.place ≡ Some c.in-Some.ensures.some.0
there g c = sym (ap (λ xs. slice_get (map g.E.HasEnd.end_of xs) c.in-Some.place) c.deref.ensures.value) ∙ c.in-Some.ensures.some.1

-- and it is the one that is joined
joined : (g : _) (c : After-into_parts-part g) → c.into_end.result ≡ c.in-Some.ensures.some.0
joined g c = c.into_end.ensures
    ∙ mapped_at g.E.HasEnd.end_of c.loop-n.ends.items c.in-Some.place c.remove.result _ c.remove.ensures.value (there g c)

pub join-requires-clause-same : goal.join-requires-clause-same
join-requires-clause-same g c =
    let i = c.loop-n.invariant in
    let start = (goal.at.join-requires-clause-same g c).After-into_parts-part in
    i.0 ∙ (sym (i.4.own c.in-Some.place _ (there g start)).0
    ∙ (ap (λ (e : EndOf). e.table) (sym (joined g start)) ∙ ap (λ (e : EndOf). e.table) (sym c.into_parts-part.ensures.seat)))

pub loop-n-preserved : goal.loop-n-preserved
loop-n-preserved g c =
    let i = c.loop-n.invariant in
    let found = c.in-Some.ensures.some in
    let f = g.E.HasEnd.end_of in
    let start = (goal.at.loop-n-preserved g c).After-into_parts-part in
    let there = there g start in
    let end = joined g start in
    let part = ap (λ (e : EndOf). e.part) (c.into_parts-part.ensures.seat ∙ end) in
    let knows = c.join.ensures.knows in
    let parts : c.join.new.root.me.0.parts ≡ c.loop-n.seat.me.0.parts ++ found.0.part ∷ [] =
    ap (λ k. k.0.parts) knows ∙ ap (λ p. c.loop-n.seat.me.0.parts ++ p ∷ []) part in
    let node = c.into_parts-part.ensures.node ∙ ap (λ (e : EndOf). e.part.node) end in
    let turns = subst (λ (e : EndOf). HasTurns (nodes_in e.part) e.part c.into_parts-part.result.2.items) end c.into_parts-part.ensures.turns in
    let all = one_joined c.args.seat.now.table_id c.args.count c.loop-n.n (map f c.args.ends.items) (map f c.loop-n.ends.items) c.loop-n.seat.me.0.parts
    c.loop-n.nodes.items c.loop-n.inbox_turns.items c.in-Some.place found.0 c.into_parts-part.result.1 c.into_parts-part.result.2 i.4 there found.2 node
    turns in (
      c.join.ensures.same ∙ i.0,
      knows ∙ (λ k. (record { parts = (sym (ap (λ s. s.0.parts) knows)) k; words = [] }, [])),
      omega (arith, i.2, c.push_reserved.ensures.capacity),
      omega (arith, i.3, c.push_reserved-in-loop-n.ensures.capacity),
      subst (λ left. AreJoining c.args.seat.now.table_id c.args.count (c.loop-n.n + 1) (map f c.args.ends.items) left c.join.new.root.me.0.parts
          c.push_reserved.new.self.items c.push_reserved-in-loop-n.new.self.items)
          (sym (ap (map f) c.remove.ensures.items ∙ mapped_less f c.loop-n.ends.items c.in-Some.place))
          (subst (λ ps. AreJoining c.args.seat.now.table_id c.args.count (c.loop-n.n + 1) (map f c.args.ends.items)
          (remove (map f c.loop-n.ends.items) c.in-Some.place) ps c.push_reserved.new.self.items c.push_reserved-in-loop-n.new.self.items) (sym parts)
          (subst (λ ns. AreJoining c.args.seat.now.table_id c.args.count (c.loop-n.n + 1) (map f c.args.ends.items)
          (remove (map f c.loop-n.ends.items) c.in-Some.place) (c.loop-n.seat.me.0.parts ++ found.0.part ∷ []) ns c.push_reserved-in-loop-n.new.self.items)
          (sym c.push_reserved.ensures.items)
          (subst (λ bs. AreJoining c.args.seat.now.table_id c.args.count (c.loop-n.n + 1) (map f c.args.ends.items)
          (remove (map f c.loop-n.ends.items) c.in-Some.place) (c.loop-n.seat.me.0.parts ++ found.0.part ∷ [])
          (c.loop-n.nodes.items ++ c.into_parts-part.result.1 ∷ []) bs) (sym c.push_reserved-in-loop-n.ensures.items) all))),
    )
