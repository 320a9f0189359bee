use Rattle.std.proofs.{Common.{rules}, iter.runs.Made.{chains}}
use Rattle.sci_statistics.proofs.packet_figures.packets_sent.Goals as goal

pub returns : goal.returns
returns c = search (rules, chains)
