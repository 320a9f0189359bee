use Rattle.std.proofs.Common.{◌≡◌, ◌++◌, take}
use Rattle.sci_judge.specs.Judgement.{addresses_of}
use Rattle.sci_axe.proofs.judging.push_addresses.Given as goal

-- the addresses of the sites so far
abbrev pub invariant-loop-site : goal.invariant-loop-site
invariant-loop-site l = l.lines.items ≡ l.fn.lines.items ++ addresses_of (take l.site-index l.sites)
