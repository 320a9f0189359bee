use Rattle.std.proofs.Common.{◌≡◌, ◌∷◌, ◌+◌, [], arith, ap, sym, ◌∙◌}
use Rattle.std.proofs.lemmas.Map.Iter.{btree_map_turn, iter_end}
use Rattle.std.specs.BTreeMap.{get}
use Rattle.sci_allowed.specs.{Outcome.{outcome_cmp}, declared.outcome.Outcome.{Outcome}}
use Rattle.sci_outcomes.specs.declared.histogram.Tally.{Tally}
use Rattle.sci_outcomes.specs.Rows.{joined}
use Rattle.sci_outcomes.proofs.{Histograms.{outcome_total}, SightingCounts.{map_same}}
use Rattle.sci_outcomes.proofs.Joined.{counted_behind, entries_at, first_fits, one_more, runs_append, runs_fit, runs_in, runs_more, with_entries}
use Rattle.sci_outcomes.proofs.histogram.Histogram.absorb.Goals as goal

pub joined-tally-requires-clause-first : goal.joined-tally-requires-clause-first
joined-tally-requires-clause-first c =
    let later = c.args.later in
    let gives = c.into_iter-outcome-iterator.ensures.into_iter_gives in
    let e : Outcome × Tally = (c.in-Some.outcome, c.in-Some.later_tally) in
    let all = entries_at later.tallies.entries c.loop-outcome.yielded _ _ _ e _ gives.0 c.loop-outcome.yielded_by c.in-Some.is c.next.ensures.steps in
    let there = (btree_map_turn (λ (p : Outcome × Tally). p) c.loop-outcome.yielded _ _ _ _ e c.loop-outcome.yielded_by c.in-Some.is c.next.ensures.steps
    outcome_total later.tallies gives.0 gives.5).1 in
    let first = first_fits c.args.self.now later c.loop-outcome.self.tallies c.loop-outcome.yielded _ e c.requires.0 c.requires.1 c.requires.2 c.requires.3
    all c.requires.4 there in
    let same = c.loop-outcome.invariant.same in
    omega (arith, first, same)

pub joined-tally-requires-clause-runs : goal.joined-tally-requires-clause-runs
joined-tally-requires-clause-runs c =
    let gives = c.into_iter-outcome-iterator.ensures.into_iter_gives in
    let e : Outcome × Tally = (c.in-Some.outcome, c.in-Some.later_tally) in
    let all = entries_at c.args.later.tallies.entries c.loop-outcome.yielded _ _ _ e _ gives.0 c.loop-outcome.yielded_by c.in-Some.is c.next.ensures.steps in
    runs_fit c.args.self.now c.args.later c.loop-outcome.self.tallies c.loop-outcome.yielded _ e c.requires.0 c.requires.1 c.requires.2 c.requires.3 all
    c.requires.4 c.get.result c.get.ensures.value c.loop-outcome.invariant.whole

pub loop-outcome-preserved : goal.loop-outcome-preserved
loop-outcome-preserved c =
    let e : Outcome × Tally = (c.in-Some.outcome, c.in-Some.later_tally) in
    let mid = c.loop-outcome.self.tallies in
    let n = c.args.self.now.runs in
    let ys = c.loop-outcome.yielded in
    let is = c.joined-tally.ensures ∙ ap (λ t. joined t c.loop-outcome.self.runs e.1) c.get.ensures.value
    ∙ ap (λ k. joined (get outcome_cmp mid e.0) k e.1) c.loop-outcome.invariant.same in
    let insert = c.in_ok-insert.ensures in
    record {
      each = one_more n c.args.self.now.tallies mid c.insert.new.self ys e c.joined-tally.result is c.loop-outcome.invariant.each insert.updates;
      whole =
          let more = runs_more n mid c.insert.new.self e c.joined-tally.result is c.insert.ensures.was_ordered insert.entries in
          let before = c.loop-outcome.invariant.whole in
          let both = runs_append ys (e ∷ []) in
          let one : runs_in (e ∷ []) ≡ e.1.runs = omega arith in
          omega (arith, more, before, both, one);
      same = c.loop-outcome.invariant.same;
    }

pub returns : goal.returns
returns c = λ seen more counted behind_it.
    let later = c.args.later in
    let gives = c.into_iter-outcome-iterator.ensures.into_iter_gives in
    let all = sym (map_same c.loop-outcome.yielded) ∙ (iter_end (λ (p : Outcome × Tally). p) later.tallies.entries c.loop-outcome.yielded
    c.into_iter-outcome-iterator.result c.loop-outcome.outcome-iterator c.next.new.self c.next.result gives.0 c.loop-outcome.yielded_by c.in-None.is
    c.next.ensures.steps).0 in
    let old = c.args.self.now.tallies in
    let each = λ (q : Outcome). c.loop-outcome.invariant.each q ∙ ap (with_entries c.args.self.now.runs q (get outcome_cmp old q)) all in
    let whole = c.loop-outcome.invariant.whole ∙ ap (λ es. runs_in old.entries + runs_in es) all in
    counted_behind c.args.self.now later c.loop-outcome.self.tallies _ seen more counted behind_it gives.5 each whole
    (ap (λ n. n + later.runs) c.loop-outcome.invariant.same)
