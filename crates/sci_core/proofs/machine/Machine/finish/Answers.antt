-- They are the logs and the last contents of a reached state.
use Rattle.std.proofs.Common.{List, sym, ap, subst, ◌∙◌}
use Rattle.sci_history.specs.{declared.entry.Entry.{Entry}, Audit.{AreWithin}, Lawful.{Lawful}}
use Rattle.sci_history.specs.Sequential.{IsSequentiallyConsistent}
use Rattle.sci_core.specs.{Core.{Core}, Outcome.{logs_of}}
use Rattle.sci_core.proofs.{WellFormed.WellFormedSteps.{reached_well}, ReachedLaws.{reached_within}}
use Rattle.sci_core.proofs.machine.Machine.finish.Goals as goal

pub into_logs-requires : goal.into_logs-requires
into_logs-requires c = reached_well c.self.inside.state c.self.invariant

pub returns : goal.returns
returns c =
    let last = c.last-last in
    let same = c.into_logs.ensures ∙ ap logs_of c.self.view_is in
    record {
      logs = same;
      last = last.ensures.last;
      within = subst (λ (core : Core). AreWithin core.size.lines c.into_logs.result) c.self.view_is
          (subst (AreWithin c.self.inside.state.size.lines) (sym c.into_logs.ensures) (reached_within c.self.inside.state c.self.invariant));
      lines = last.ensures.lines;
      lawful = subst (λ (logs : List (List Entry)). Lawful logs last.result) (sym same) last.ensures.lawful;
      consistent = subst (λ (logs : List (List Entry)). IsSequentiallyConsistent logs last.result) (sym same) last.ensures.consistent;
    }
