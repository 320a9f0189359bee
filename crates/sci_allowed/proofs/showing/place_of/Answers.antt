-- Some standing has the outcome.
use Rattle.std.proofs.Common.{◌≡◌, true, false, refl, sym, ap, ◌∙◌, arith, inl, inr}
use Rattle.std.proofs.lemmas.Bool.{cases_lt}
use Rattle.sci_orders.{proofs.Ways.{item_at}, specs.{Positions.{position_of}, declared.standing.Standing.{Standing}}}
use Rattle.sci_allowed.{proofs.Sameness.{equal_outcome, same_outcome}, specs.{Allowed.{seen_at}}}
use Rattle.sci_allowed.proofs.showing.place_of.Goals as goal

pub outcome_of-requires-clause-nodes : goal.outcome_of-requires-clause-nodes
outcome_of-requires-clause-nodes c = grind arith

pub returns-then-eq : goal.returns-then-eq
returns-then-eq c =
    let place = c.loop-place.place in
    let item = c.index-standings-place.result in
    let same = same_outcome c.in_ok-outcome_of.field-0 c.args.outcome.now (sym c.eq.ensures ∙ c.if-eq.true) in (
      c.loop-place-test.true,
      λ d. sym same ∙ (c.in_ok-outcome_of.ensures ∙ ap (λ (s : Standing). seen_at c.args.litmus.now.script (position_of s))
          (sym (item_at c.args.standings.now place place item d c.loop-place-test.true refl c.index-standings-place.is))),
    )

pub loop-place-preserved : goal.loop-place-preserved
loop-place-preserved c = λ k d low is.
    let place = c.loop-place.place in
    let item = c.index-standings-place.result in
    elim (cases_lt k place) [
      | inl lt ↦ c.loop-place.invariant k d lt is
      | inr past ↦
          let here = item_at c.args.standings.now place k item d c.loop-place-test.true (omega arith) c.index-standings-place.is in
          let equal = equal_outcome c.in_ok-outcome_of.field-0 c.args.outcome.now
          (c.in_ok-outcome_of.ensures ∙ (ap (λ (s : Standing). seen_at c.args.litmus.now.script (position_of s)) (sym here) ∙ sym is)) in
          let clash : true ≡ false = sym equal ∙ (sym c.eq.ensures ∙ c.if-eq.false) in
          cc
    ]

pub unreachable-requires : goal.unreachable-requires
unreachable-requires c =
    let some = c.requires.some in
    let end = c.loop-place-test.false in
    let below = some.2 in
    c.loop-place.invariant some.0 some.1 (omega arith)
    (some.4 ∙ ap (λ (s : Standing). seen_at c.args.litmus.now.script (position_of s)) (sym some.3))
