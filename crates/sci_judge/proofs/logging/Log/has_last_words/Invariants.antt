use Rattle.std.proofs.Common.{◌≡◌, ◌<◌, ℕ, Some, get_or}
use Rattle.std.specs.Prelude.{slice_get}
use Rattle.sci_history.specs.Memory.{stamped_at}
use Rattle.sci_judge.specs.Judgement.{addresses_of, last_at}
use Rattle.sci_judge.proofs.logging.Log.has_last_words.Given as goal

-- the lines so far have the last words
abbrev pub invariant-loop-line : goal.invariant-loop-line
invariant-loop-line l = (line address word : ℕ) → line < l.line → slice_get (addresses_of l.sites) line ≡ Some address → last_at address l.trace ≡ Some word
    → get_or (stamped_at l.self.last.value line).line 0 0 ≡ word
