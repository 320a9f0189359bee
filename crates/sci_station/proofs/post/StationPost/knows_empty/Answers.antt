use Rattle.std.proofs.Common.{◌≡◌, ◌<◌, ℕ, List, [], Bool, not, nat_lt, true, sym, subst, ◌∙◌, arith}
use Rattle.std.specs.Prelude.{slice_index}
use Rattle.sci_core.specs.{declared.lane.LaneKind.{LaneKind}, Core.{lane_of}}
use Rattle.sci_lanes.specs.{Ends.{EndOf, nodes_in}, Shown.{me_of}, Telling.{state_of}}
use Rattle.sci_station.specs.Posts.{KeptOf, Remembers, StationPostOf, owed}
use Rattle.sci_station.proofs.Remembering.{few_nodes, owes_some}
use Rattle.sci_station.proofs.post.StationPost.knows_empty.Goals as goal

none_owed : (end : EndOf) (unanswered : List ℕ) (kept : KeptOf) (from : ℕ) (owes : Bool) → Remembers end unanswered kept → from < nodes_in end.part
    → owes ≡ nat_lt 0 (slice_index unanswered from) → not owes ≡ true → owed (state_of end.part) (me_of end.part) from ≡ 0
none_owed end unanswered kept from owes remembers there is none = sym (remembers.owing from there) ∙ zero_of (slice_index unanswered from) owes is none
  where
    zero_of : (n : ℕ) (owes : Bool) → owes ≡ nat_lt 0 n → not owes ≡ true → n ≡ 0
    zero_of n owes is none = grind arith

pub owes-requires : goal.owes-requires
owes-requires c =
    let s = c.self.inside in
    let few = few_nodes s.end.part c.self.invariant.shown in
    let there = subst (λ (p : StationPostOf). c.args.from < nodes_in p.end.part) (sym c.self.view_is) c.requires in
    omega arith

pub returns-in-Answers : goal.returns-in-Answers
returns-in-Answers c = λ none.
    let s = c.self.inside in
    let there = subst (λ (p : StationPostOf). c.args.from < nodes_in p.end.part) (sym c.self.view_is) c.requires in
    let nothing = none_owed s.end s.unanswered s.kept c.args.from c.owes.result c.self.invariant there c.owes.ensures none in
    subst (λ (p : StationPostOf). lane_of (state_of p.end.part) c.args.kind c.args.from (me_of p.end.part) ≡ []) c.self.view_is
    (subst (λ (k : LaneKind). lane_of (state_of s.end.part) k c.args.from (me_of s.end.part) ≡ []) (sym c.in-Answers.is)
    (owes_some (state_of s.end.part) (me_of s.end.part) c.args.from nothing))
