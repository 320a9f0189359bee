use Rattle.sci_fair.proofs.SteadyLaws.{no_purge_law, once_law}
use Rattle.sci_fair.proofs.steady.only_some_requests_are_repeated.Goals as goal

pub returns : goal.returns
returns c = record { once = once_law; purge = no_purge_law }
