use Rattle.std.proofs.Common.{drop, None}
use Rattle.sci_judge.specs.{declared.witness.Claim.{Claim}, Witness.{IsPath}}
use Rattle.sci_judge.proofs.site.Site.led_by.Given as goal

-- what goes on from the claim so far is a path of all steps
abbrev pub invariant-loop-step : goal.invariant-loop-step
invariant-loop-step l =
    (end : Claim) → IsPath l.self.timed l.self.accesses.now l.self.last l.claim (drop l.step-index l.steps) end
    → IsPath l.self.timed l.self.accesses.now l.self.last None l.steps end
