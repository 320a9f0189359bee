use Rattle.std.proofs.Common.{◌≡◌, false, take}
use Rattle.std.specs.List.{list_any}
use Rattle.sci_judge.specs.Judgement.{is_unknown}
use Rattle.sci_judge.proofs.judging.are_unknown.Given as goal

-- none so far
abbrev pub invariant-loop-site : goal.invariant-loop-site
invariant-loop-site l = list_any (λ there. is_unknown there.freedom) (take l.site-index l.sites) ≡ false
