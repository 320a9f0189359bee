-- The next operation of the first such node is issued, or the node may not issue it.
use Rattle.std.proofs.Common.{◌≡◌, length, sym, ap, subst, ◌∙◌, arith, inl, inr}
use Rattle.std.proofs.lemmas.{Bool.{cases_lt}, List.{length-map}}
use Rattle.std.specs.{Prelude.{option_map}}
use Rattle.sci_orders.proofs.{Copies.{own_is}, Eager.{next_issues, next_stays}}
use Rattle.sci_orders.proofs.orders.Orders.first_issue.Goals.{After-len, else-next-len, then-next-len+in_ok-further+in_default}
use Rattle.sci_orders.specs.{Eager.{MayIssue}, Positions.{answers_of, lists_of, own_of, position_of}}
use Rattle.sci_orders.proofs.orders.Orders.first_issue.Goals as goal

-- as many operations of the node are issued as there are answers
issued : (c : After-len) → c.len-next.result ≡ length (answers_of (position_of c.args.standing.now) c.loop-n.n)
issued c = grind (arith, length-map, own_is)

-- and the node has as many operations
own : (c : After-len) → c.len.result ≡ length (own_of (lists_of c.args.self.now.operations.now) c.loop-n.n)
own c = grind (arith, own_is)

pub returns-in-Some-clause-some : goal.returns-in-Some-clause-some
returns-in-Some-clause-some c =
    let operations = lists_of c.args.self.now.operations.now in
    let window = c.args.self.now.window in
    let p = position_of c.args.standing.now in
    let at = (goal.at.returns-in-Some-clause-some c).After-len in
    let low = c.if-next-len.true in
    let many = own at in
    let found = next_issues operations window p (position_of c.in-Some.further) c.loop-n.n c.len-next.result (issued at) (omega arith)
    (sym c.in_ok-further.ensures ∙ ap (option_map position_of) c.in-Some.is) in
    record {
      node = c.loop-n.n;
      may = found.0;
      first = λ m may. elim (cases_lt m c.loop-n.n) [ inl before ↦ absurd (c.loop-n.invariant m before may) | inr past ↦ past ];
      is = found.1;
    }

pub loop-n-preserved : goal.loop-n-preserved
loop-n-preserved c =
    let operations = lists_of c.args.self.now.operations.now in
    let window = c.args.self.now.window in
    let p = position_of c.args.standing.now in
    let at = (goal.at.loop-n-preserved c).After-len in
    let many = own at in
    let next = issued at in
    λ m low may. elim (cases_lt m c.loop-n.n) [
      | inl before ↦ c.loop-n.invariant m before may
      | inr past ↦
          let here : m ≡ c.loop-n.n = omega arith in
          let mine = subst (MayIssue operations window p) here may in
          elim c.if-next-len.branch [
            | then-next-len+in_ok-further+in_default w ↦
                next_stays operations window p c.loop-n.n c.len-next.result next
                (sym w.in_ok-further.ensures ∙ ap (option_map position_of) w.in_default.is) mine
            | else-next-len w ↦ (let below = mine.below in let none = w.if-next-len.false in absurd (omega arith))
          ]
    ]
