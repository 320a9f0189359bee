use Rattle.sci_fair.proofs.RankTables.{issue_lowers, level_rank, level_within, rank_within}
use Rattle.sci_fair.proofs.rank.ranks_are_bounded.Goals as goal

pub returns : goal.returns
returns c = record { most = rank_within; level = level_within; same = level_rank; issue = issue_lowers }
