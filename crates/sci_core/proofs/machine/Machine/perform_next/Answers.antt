-- All lines are at home, the line is read, and the operation is performed.
use Rattle.std.proofs.Common.{◌+◌, ◌<◌, refl, subst, sym}
use Rattle.sci_core.specs.{Settling.{exchanges}, Size.{Size}}
use Rattle.sci_core.proofs.Settling.Leading.{leads_join}
use Rattle.sci_core.proofs.Settling.EmptyRuns.{refused_after}
use Rattle.sci_core.proofs.Settling.PendingRuns.{can_perform, has_read, home_for, moves_exchange, moves_exchange_on, none_made, performed_next, worked_first}
use Rattle.sci_core.proofs.machine.Machine.perform_next.Goals as goal

pub returns-in_err-drain-clause-refused : goal.returns-in_err-drain-clause-refused
returns-in_err-drain-clause-refused c = λ _. moves_exchange_on c.args.self.now c.drain.new.self (c.in_err-drain.ensures.refused refl)

pub returns-in_err-empty_lines-clause-refused : goal.returns-in_err-empty_lines-clause-refused
returns-in_err-empty_lines-clause-refused c =
    λ _. refused_after exchanges c.args.self.now c.drain.new.self c.empty_lines.new.self c.in_ok-drain.field-0
    (moves_exchange c.args.self.now c.drain.new.self c.in_ok-drain.field-0 c.in_ok-drain.ensures.made) (c.in_err-empty_lines.ensures.refused refl)

pub round-requires : goal.round-requires
round-requires c =
    let home = home_for c.args.self.now c.drain.new.self c.empty_lines.new.self c.args.node c.args.line c.in_ok-drain.field-0 c.extent-extent.ensures.reached
    c.empty_lines.ensures.coherent.reached c.in_ok-drain.ensures.made c.in_ok-empty_lines.ensures.kept c.in_ok-empty_lines.ensures.empty c.requires.node
    c.requires.line c.requires.pending in
    record { drained = c.in_ok-empty_lines.ensures.drained; node = home.below; line = home.inside; asks = home.asks }

pub returns-in_err-round-clause-refused : goal.returns-in_err-round-clause-refused
returns-in_err-round-clause-refused c =
    let count = c.in_ok-drain.field-0 + c.in_ok-empty_lines.field-0 in
    λ _. refused_after exchanges c.args.self.now c.empty_lines.new.self c.round.new.self count
    (leads_join exchanges c.args.self.now c.drain.new.self c.empty_lines.new.self c.in_ok-drain.field-0 c.in_ok-empty_lines.field-0
    (moves_exchange c.args.self.now c.drain.new.self c.in_ok-drain.field-0 c.in_ok-drain.ensures.made) c.in_ok-empty_lines.ensures.made)
    (c.in_err-round.ensures.refused refl)

pub perform-requires : goal.perform-requires
perform-requires c =
    let home = home_for c.args.self.now c.drain.new.self c.empty_lines.new.self c.args.node c.args.line c.in_ok-drain.field-0 c.extent-extent.ensures.reached
    c.empty_lines.ensures.coherent.reached c.in_ok-drain.ensures.made c.in_ok-empty_lines.ensures.kept c.in_ok-empty_lines.ensures.empty c.requires.node
    c.requires.line c.requires.pending in
    subst (λ (s : Size). c.args.node < s.nodes) (sym c.in_ok-round.ensures.round.answered.size) home.below

pub unreachable-requires : goal.unreachable-requires
unreachable-requires c =
    let home = home_for c.args.self.now c.drain.new.self c.empty_lines.new.self c.args.node c.args.line c.in_ok-drain.field-0 c.extent-extent.ensures.reached
    c.empty_lines.ensures.coherent.reached c.in_ok-drain.ensures.made c.in_ok-empty_lines.ensures.kept c.in_ok-empty_lines.ensures.empty c.requires.node
    c.requires.line c.requires.pending in
    let read = has_read c.empty_lines.new.self c.round.new.self c.args.node c.args.line c.empty_lines.ensures.coherent.reached
    c.in_ok-empty_lines.ensures.drained c.in_ok-empty_lines.ensures.empty home.inside c.in_ok-round.ensures.round in
    let enabled = can_perform c.empty_lines.new.self c.round.new.self c.args.node c.args.line c.round.ensures.coherent.reached read home.below home.inside
    home.pending in
    none_made _ (c.in_default.ensures.not refl) enabled

pub returns-clause-performed : goal.returns-clause-performed
returns-clause-performed c =
    let worked = worked_first c.args.self.now c.drain.new.self c.empty_lines.new.self c.in_ok-drain.field-0 c.in_ok-empty_lines.field-0
    c.extent-extent.ensures.reached c.drain.ensures.coherent.reached c.in_ok-drain.ensures.made c.in_ok-drain.ensures.weight c.in_ok-empty_lines.ensures.made
    c.in_ok-empty_lines.ensures.few c.in_ok-empty_lines.ensures.kept c.in_ok-empty_lines.ensures.drained c.in_ok-empty_lines.ensures.empty in
    performed_next c.args.self.now c.drain.new.self c.empty_lines.new.self c.round.new.self c.perform.new.self c.args.node c.args.line c.in_ok-drain.field-0
    c.in_ok-empty_lines.field-0 c.in-Some.entry c.extent-extent.ensures.reached c.in_ok-drain.ensures.made worked c.in_ok-empty_lines.ensures.made
    c.in_ok-empty_lines.ensures.kept c.in_ok-round.ensures.made c.in-Some.ensures.done c.in-Some.ensures.logged
