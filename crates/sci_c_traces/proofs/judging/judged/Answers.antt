use Rattle.std.proofs.Common.{rules}
use Rattle.sci_c_traces.proofs.judging.judged.Goals as goal

pub returns-clause-some : goal.returns-clause-some
returns-clause-some c = record { trace = c.in-Some.trace; says = search rules; verdict = c.in_ok-verdict.ensures }
