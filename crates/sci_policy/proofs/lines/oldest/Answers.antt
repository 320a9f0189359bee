use Rattle.std.proofs.Common.{rules, ◌≡◌, ◌<◌, ◌≤◌, ◌&&◌, ℕ, Bool, Option, Some, true, false, refl, sym, ◌∙◌, arith}
use Rattle.sci_cache.specs.LineSet.{is_in}
use Rattle.sci_core.specs.Node.{NodeOf, lines_of, pending_on}
use Rattle.sci_policy.proofs.Oldest.{IsFoundBelow, IsNarrowed, line_found, none_up_to, not_in, not_meant, not_older, nothing_pending, older_found, said_of}
use Rattle.sci_policy.proofs.lines.oldest.Goals.{else-is_older-via-then-is_older+else-test, else-is_older-via-else-is_older}
use Rattle.sci_policy.proofs.lines.oldest.Goals as goal

-- what was found so far is what there is up to a line, if no line between is in the set
up_to : (node : NodeOf) (set : ℕ) (IsMeant : (ℕ → Bool) → Type 0) (k n : ℕ) (found : Option (ℕ × ℕ)) → k ≤ n
    → ((j : ℕ) → k ≤ j → j < n → is_in set j ≡ false)
    → IsFoundBelow node (IsNarrowed set IsMeant) k found → IsFoundBelow node (IsNarrowed set IsMeant) n found
up_to node set IsMeant k n found le none = none_up_to node _ k n found le (λ j from below. not_in node set IsMeant j (none j from below))

pub lines-preserved-in_default-pending : goal.lines-preserved-in_default-pending
lines-preserved-in_default-pending g c =
    let line = c.in-Some.line in
    let below = c.requires.here line c.in-Some.ensures.found in (
      omega arith,
      nothing_pending c.args.node.now _ line c.lines.found (sym c.pending.ensures ∙ c.in_default-pending.is)
          (up_to c.args.node.now c.args.lines _ c.lines.from line c.lines.found c.in-Some.ensures.order c.in-Some.ensures.between c.lines.invariant.1),
    )

pub lines-preserved-then-test : goal.lines-preserved-then-test
lines-preserved-then-test g c =
    let line = c.in-Some.line in
    let below = c.requires.here line c.in-Some.ensures.found in
    let at : pending_on c.args.node.now line ≡ Some c.in-Some-pending.pending = sym c.pending.ensures ∙ c.in-Some-pending.is in (
      omega arith,
      older_found c.args.node.now _ line c.lines.found c.in-Some-pending.pending at (sym c.is_older.ensures ∙ c.if-is_older.true)
          (said_of c.args.lines _ line true c.in-Some.ensures.found (λ tested is. sym (is line true below c.if-test.ensures)))
          (up_to c.args.node.now c.args.lines _ c.lines.from line c.lines.found c.in-Some.ensures.order c.in-Some.ensures.between c.lines.invariant.1),
    )

pub lines-preserved : goal.lines-preserved
lines-preserved g c =
    let node = c.args.node.now in
    let line = c.in-Some.line in
    let below = c.requires.here line c.in-Some.ensures.found in
    let there = up_to node c.args.lines _ c.lines.from line c.lines.found c.in-Some.ensures.order c.in-Some.ensures.between c.lines.invariant.1 in
    let at : pending_on node line ≡ Some c.in-Some-pending.pending = sym c.pending.ensures ∙ c.in-Some-pending.is in (
      omega arith,
      elim c.else-is_older.branch [
        | else-is_older-via-then-is_older+else-test v ↦ not_meant node _ line c.lines.found c.in-Some-pending.pending at
            (said_of c.args.lines _ line false c.in-Some.ensures.found (λ tested is. sym (is line false below v.if-test.ensures))) there
        | else-is_older-via-else-is_older v ↦ not_older node _ line c.lines.found c.in-Some-pending.pending at (sym c.is_older.ensures ∙ v.if-is_older.false)
            there
      ],
    )

pub returns : goal.returns
returns g c = λ tested is.
    let found = up_to c.args.node.now c.args.lines _ c.lines.from (lines_of c.args.node.now) c.lines.found c.lines.invariant.0
    (λ j from before. c.in_default.ensures.between j from tt) c.lines.invariant.1 in
    let mapped : c.map.result ≡ line_found c.lines.found = search rules in
    mapped ∙ found.1 (λ line. is_in c.args.lines line && tested line) (tested, (is, λ line. refl))
