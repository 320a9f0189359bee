use Rattle.std.proofs.Common.{◌+◌, ◌<◌, ℕ, get_or, length}
use Rattle.sci_judge.specs.declared.judging.SiteVersions.{SiteVersions}
use Rattle.sci_judge.proofs.logging.are_rising.Given as goal

-- each address so far is below the next
abbrev pub invariant-loop-place : goal.invariant-loop-place
invariant-loop-place l =
    (k : ℕ) (d : SiteVersions) → k + 1 < l.place → k + 1 < length l.sites → (get_or l.sites k d).address < (get_or l.sites (k + 1) d).address
