-- What the judge of traces answers.
use Rattle.std.specs.Prelude.{◌≡◌, ℕ, List}
use Rattle.sci_c_traces.specs.declared.{access.SciAccess.{SciAccess}, judgement.SciJudgement.{SciJudgement}}
use Rattle.sci_c_traces.specs.declared.{judging.SciTraceWay.{SciTraceWay}, trace.SciLastWord.{SciLastWord}}
use Rattle.sci_c_traces.specs.Judgement.{IsTraceVerdict, is_yes}
use Rattle.sci_c.specs.Written.{first_over}

-- the struct is of a verdict that holds, and the operations that it names stand over the first numbers
pub record IsTraceJudged (accesses : List SciAccess) (last : List SciLastWord) (way : SciTraceWay) (c : SciJudgement) (old new : List ℕ) : Type 0 where
  pub ids : List ℕ
  pub verdict : IsTraceVerdict accesses last (is_yes way.timed) (is_yes way.ordered) c ids
  pub stand : new ≡ first_over ids old
