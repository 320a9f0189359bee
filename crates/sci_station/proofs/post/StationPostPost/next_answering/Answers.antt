use Rattle.std.proofs.Common.{◌<◌, ℕ, Option, Some, None, subst, arith, inl, inr}
use Rattle.std.proofs.lemmas.Bool.{cases_lt}
use Rattle.std.specs.Prelude.{IfSome, slice_index}
use Rattle.sci_lanes.specs.{Ends.{nodes_in}, Telling.{state_of}}
use Rattle.sci_station.specs.Posts.{StationPostOf}
use Rattle.sci_station.proofs.{Posts.{post_nodes}, Remembering.{owes_some}}
use Rattle.sci_station.proofs.post.StationPostPost.next_answering.Goals as goal

pub returns-clause-here : goal.returns-clause-here
returns-clause-here c =
    let s = c.self.inside in
    subst (λ (p : StationPostOf). IfSome c.next_from.result (λ node. node < (state_of p.end.part).size.nodes)) c.self.view_is
    (here c.next_from.result c.next_from.ensures.owes)
  where
    here : (o : Option ℕ) → IfSome o (λ node. 0 < slice_index c.self.inside.unanswered node)
        → IfSome o (λ node. node < (state_of c.self.inside.end.part).size.nodes)
    here None owes = tt
    here (Some node) owes =
        elim (cases_lt node (nodes_in c.self.inside.end.part)) [
          | inl below ↦ subst (λ (n : ℕ). node < n) (post_nodes c.self.inside.end c.self.invariant.shown) below
          | inr past ↦ absurd (let none = c.self.invariant.no_more node past in omega arith)
        ]

pub returns-clause-passed : goal.returns-clause-passed
returns-clause-passed c = grind (arith, post_nodes, owes_some)
