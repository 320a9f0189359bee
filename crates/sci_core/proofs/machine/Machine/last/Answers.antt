-- A reached state is well formed and tidy, and all lines are read off it.
use Rattle.std.proofs.Common.{◌≡◌, List, length, sym, subst, ◌∙◌, refl, arith}
use Rattle.std.proofs.lemmas.List.FromFn.{fill_by_all, length-map-range_with_len}
use Rattle.sci_words.specs.{declared.stamped.Stamped.{Stamped}, Stamped.{zero_stamped}}
use Rattle.sci_history.specs.{Lawful.{Lawful}, Sequential.{IsSequentiallyConsistent}}
use Rattle.sci_core.specs.{Core.{Core}, Outcome.{logs_of}, Reached.{IsReached}, Sharing.{last_at, last_of}}
use Rattle.sci_core.proofs.{WellFormed.WellFormedSteps.{reached_well}, Tidy.TidyRuns.{reached_tidy}}
use Rattle.sci_core.proofs.ReachedLaws.{reached_consistent, reached_lawful}
use Rattle.sci_core.proofs.machine.Machine.last.Goals as goal

pub last_at-requires-clause-well : goal.last_at-requires-clause-well
last_at-requires-clause-well c = reached_well c.self.inside.state c.self.invariant

pub last_at-requires-clause-tidy : goal.last_at-requires-clause-tidy
last_at-requires-clause-tidy c = reached_tidy c.self.inside.state c.self.invariant

pub returns : goal.returns
returns c =
    let core = c.self.inside.state in
    let last = c.loop-line.last in
    let all = fill_by_all (last_at core) last core.size.lines zero_stamped (c.loop-line.invariant.0 ∙ c.lines-lines.ensures.lines)
    (λ k below. c.loop-line.invariant.1 k (omega arith)) in
    let so = λ (P : Core → List Stamped → Type 0) (h : P core (last_of core)). subst (λ (k : Core). P k last) c.self.view_is (subst (P core) (sym all) h) in
    record {
      last = so (λ k ls. ls ≡ last_of k) refl;
      lines = so (λ k ls. length ls ≡ k.size.lines) (length-map-range_with_len (last_at core) 0 core.size.lines);
      lawful = so (λ k ls. Lawful (logs_of k) ls) (reached_lawful core c.self.invariant);
      consistent = so (λ k ls. IsSequentiallyConsistent (logs_of k) ls) (reached_consistent core c.self.invariant);
      reached = subst IsReached c.self.view_is c.self.invariant;
    }
