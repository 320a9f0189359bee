use Rattle.std.proofs.Common.{arith}
use Rattle.std.proofs.lemmas.Result.{err_from_is_err_and}
use Rattle.sci_outcomes.proofs.Shares.{counted_both, refused}
use Rattle.sci_outcomes.proofs.trials.+shares.Goals as goal

pub returns-in_err-histogram : goal.returns-in_err-histogram
returns-in_err-histogram g t c = grind (arith, err_from_is_err_and, refused)

pub returns-in_err-second : goal.returns-in_err-second
returns-in_err-second g t c = grind (arith, err_from_is_err_and, refused)

pub absorb-requires : goal.absorb-requires
absorb-requires g t c = grind arith

pub returns : goal.returns
returns g t c = grind (arith, counted_both)
