use Rattle.std.proofs.Common.{◌≡◌, ◌<◌, ℕ, get_or}
use Rattle.sci_judge.specs.declared.{finding.Freedom.TheVariants.{Forced}, judging.SiteVersions.{SiteVersions}}
use Rattle.sci_judge.proofs.consistency.are_forced.Given as goal

-- the versions so far are forced
abbrev pub invariant-loop-site : goal.invariant-loop-site
invariant-loop-site l = (i : ℕ) (d : SiteVersions) → i < l.site-index → (get_or l.sites i d).freedom ≡ Forced
