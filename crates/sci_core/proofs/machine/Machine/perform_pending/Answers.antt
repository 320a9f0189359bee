-- The line can be read, the operation can be performed, and one round is left.
use Rattle.std.proofs.Common.{refl, arith}
use Rattle.sci_core.specs.Settling.{settles}
use Rattle.sci_core.proofs.Settling.EmptyRuns.{refused_after}
use Rattle.sci_core.proofs.Settling.PendingRuns.{Done, after_perform, can_perform, can_read, done_so, exchanges_settle_on, has_read, performs_one_read}
use Rattle.sci_core.proofs.{Settling.PendingRuns.{stands_after, worked_one}, machine.Machine.perform_pending.Goals.{In_ok-count}}
use Rattle.sci_core.proofs.machine.Machine.perform_pending.Goals as goal

pub round-requires-clause-asks : goal.round-requires-clause-asks
round-requires-clause-asks c =
    can_read c.args.self.now c.args.node c.args.line c.extent-extent.ensures.reached c.requires.empty c.requires.node c.requires.line

pub make-requires : goal.make-requires
make-requires c =
    can_perform c.args.self.now c.round.new.self c.args.node c.args.line c.round.ensures.coherent.reached
    (has_read c.args.self.now c.round.new.self c.args.node c.args.line c.extent-extent.ensures.reached c.requires.drained c.requires.empty c.requires.line
    c.in_ok-round.ensures.round) c.requires.node c.requires.line c.requires.pending

pub empty_lines-requires : goal.empty_lines-requires
empty_lines-requires c =
    (performs_one_read c.args.self.now c.round.new.self c.make.new.self c.args.node c.args.line c.round.ensures.coherent.reached c.in_ok-round.ensures.drained
    c.requires.node c.requires.line
    (has_read c.args.self.now c.round.new.self c.args.node c.args.line c.extent-extent.ensures.reached c.requires.drained c.requires.empty c.requires.line
    c.in_ok-round.ensures.round) c.in_ok-make.ensures.ok).drained

pub returns-in_err-round-clause-refused : goal.returns-in_err-round-clause-refused
returns-in_err-round-clause-refused c = λ _. exchanges_settle_on c.args.self.now c.round.new.self (c.in_err-round.ensures.refused refl)

pub returns-in_err-make-clause-refused : goal.returns-in_err-make-clause-refused
returns-in_err-make-clause-refused c =
    λ _. stands_after c.args.self.now c.round.new.self c.make.new.self 4 c.in_ok-round.ensures.made c.in_err-make.ensures.err

pub returns-in_err-count-clause-refused : goal.returns-in_err-count-clause-refused
returns-in_err-count-clause-refused c =
    λ _. refused_after settles c.args.self.now c.make.new.self c.empty_lines.new.self 5
    (after_perform c.args.self.now c.round.new.self c.make.new.self c.args.node c.args.line c.in_ok-round.ensures.made c.in_ok-make.ensures.ok)
    (exchanges_settle_on c.make.new.self c.empty_lines.new.self (c.in_err-count.ensures.refused refl))

done : (c : In_ok-count) → Done c.args.self.now c.empty_lines.new.self c.in_ok-count.count
done c =
    let read = has_read c.args.self.now c.round.new.self c.args.node c.args.line c.extent-extent.ensures.reached c.requires.drained c.requires.empty
    c.requires.line c.in_ok-round.ensures.round in
    done_so c.args.self.now c.round.new.self c.make.new.self c.empty_lines.new.self c.args.node c.args.line c.in_ok-count.count c.requires.empty
    c.requires.node c.requires.line read (performs_one_read c.args.self.now c.round.new.self c.make.new.self c.args.node c.args.line
    c.round.ensures.coherent.reached c.in_ok-round.ensures.drained c.requires.node c.requires.line read c.in_ok-make.ensures.ok) c.in_ok-count.ensures.few
    c.in_ok-count.ensures.kept

pub overflow_add-result : goal.overflow_add-result
overflow_add-result c = let few = (done (goal.at.overflow_add-result c).In_ok-count).few in omega arith

pub returns-clause-made : goal.returns-clause-made
returns-clause-made c = grind (arith, worked_one)

pub returns-clause-few : goal.returns-clause-few
returns-clause-few c = (done (goal.at.returns-clause-few c).In_ok-count).few

pub returns-clause-one : goal.returns-clause-one
returns-clause-one c = (done (goal.at.returns-clause-one c).In_ok-count).pending
