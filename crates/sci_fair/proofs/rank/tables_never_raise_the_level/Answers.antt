use Rattle.sci_fair.proofs.RankTables.{accepting_keeps, asking_keeps, serving_keeps}
use Rattle.sci_fair.proofs.rank.tables_never_raise_the_level.Goals as goal

pub returns : goal.returns
returns c = record { accept = accepting_keeps; serve = serving_keeps; ask = asking_keeps }
