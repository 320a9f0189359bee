use Rattle.sci_fair.proofs.Followers.{purge_finds}
use Rattle.sci_fair.proofs.rank.purges_find_followers.Goals as goal

pub returns : goal.returns
returns c = purge_finds
