use Rattle.std.proofs.Common.{◌≡◌, ◌<◌, ℕ, get_or, length}
use Rattle.sci_judge.specs.declared.judging.SiteVersions.{SiteVersions}
use Rattle.sci_judge.proofs.logging.are_all_used.Given as goal

-- the versions of the lines so far are used
abbrev pub invariant-loop-line : goal.invariant-loop-line
invariant-loop-line l =
    (line : ℕ) (d : SiteVersions) → line < l.line → line < length l.sites → get_or l.used line 0 ≡ length (get_or l.sites line d).versions.items
