use Rattle.std.proofs.{Common.{rules}, iter.runs.Made.{chains}}
use Rattle.sci_statistics.proofs.coverage_lines.met_count.Goals as goal

pub returns : goal.returns
returns c = search (rules, chains)
