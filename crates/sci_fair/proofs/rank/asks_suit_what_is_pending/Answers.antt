use Rattle.sci_fair.proofs.Suits.{wanted_suits}
use Rattle.sci_fair.proofs.rank.asks_suit_what_is_pending.Goals as goal

pub returns : goal.returns
returns c = λ policy n node line kind is wants. (let suits = wanted_suits policy n node line kind is wants in (suits.asks, suits.idle))
