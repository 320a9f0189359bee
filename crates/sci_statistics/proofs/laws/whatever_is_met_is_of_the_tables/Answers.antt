use Rattle.sci_statistics.proofs.TableCases.{accepts_listed, asks_listed, homes_listed, performs_listed, serves_listed}
use Rattle.sci_statistics.proofs.laws.whatever_is_met_is_of_the_tables.Goals as goal

pub returns : goal.returns
returns c = record { asks = asks_listed; serves = serves_listed; homes = homes_listed; accepts = accepts_listed; performs = performs_listed }
