-- Each round that is next can be asked, and lowers the number of rounds that are left.
use Rattle.std.proofs.Common.{refl, arith}
use Rattle.sci_core.specs.Settling.{exchanges}
use Rattle.sci_core.proofs.Settling.Emptying.{next_lowers}
use Rattle.sci_core.proofs.Settling.EmptyRuns.{all_out_beyond, emptied_more, few_events, refused_after}
use Rattle.sci_core.proofs.ReachedLaws.{reached_coherent}
use Rattle.sci_core.proofs.machine.Machine.empty_lines.Goals as goal

pub round-requires-clause-asks : goal.round-requires-clause-asks
round-requires-clause-asks c =
    (next_lowers c.rounds.self c.in-Some.node c.in-Some.line c.in-Some.kind c.next_ask.ensures.reached c.rounds.invariant.drained c.in-Some.ensures.node
    c.in-Some.ensures.line c.in-Some.ensures.next).asks

pub returns-in_err-round-clause-refused : goal.returns-in_err-round-clause-refused
returns-in_err-round-clause-refused c =
    λ _. refused_after exchanges c.args.self.now c.rounds.self c.round.new.self c.rounds.count c.rounds.invariant.leads (c.in_err-round.ensures.refused refl)

pub overflow_add-count : goal.overflow_add-count
overflow_add-count c = grind (arith, next_lowers, few_events)

pub rounds-smaller : goal.rounds-smaller
rounds-smaller c = (next_lowers c.rounds.self c.in-Some.node c.in-Some.line c.in-Some.kind c.next_ask.ensures.reached c.rounds.invariant.drained
    c.in-Some.ensures.node c.in-Some.ensures.line c.in-Some.ensures.next).lowers c.round.new.self c.in_ok-round.ensures.round

pub rounds-preserved : goal.rounds-preserved
rounds-preserved c =
    emptied_more c.args.self.now c.rounds.self c.round.new.self c.in-Some.node c.in-Some.line c.in-Some.kind c.rounds.count c.rounds.invariant
    c.next_ask.ensures.reached c.in-Some.ensures.node c.in-Some.ensures.line c.in-Some.ensures.next c.in_ok-round.ensures.round c.in_ok-round.ensures.made
    c.in_ok-round.ensures.drained

pub returns-clause-empty : goal.returns-clause-empty
returns-clause-empty c = all_out_beyond c.rounds.self c.next_ask.ensures.reached (c.in_default.ensures.none refl)

pub returns-clause-coherent : goal.returns-clause-coherent
returns-clause-coherent c = reached_coherent c.rounds.self c.next_ask.ensures.reached
