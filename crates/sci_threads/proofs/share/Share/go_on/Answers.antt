use Rattle.std.proofs.Common.{arith}
use Rattle.sci_threads.proofs.Going.{stays, was_refused, went_on}
use Rattle.sci_threads.proofs.share.Share.go_on.Goals as goal

pub returns-then-has_ended-clause-gone : goal.returns-then-has_ended-clause-gone
returns-then-has_ended-clause-gone g c = stays g.G.Gate.hears g.met.G.Gate.hears_nothing g.met.G.Gate.hears_on c.args.self.now

pub returns-in-Ok-clause-gone : goal.returns-in-Ok-clause-gone
returns-in-Ok-clause-gone g c =
    let went = c.in-Ok.ensures in
    let few = c.min-turns.ensures in
    let turns = went.turns in
    went_on g.G.Gate.hears c.args.self.now c.go_on.new.worker c.go_on.new.self c.go_on.new.gate c.in-Ok.ran.turns
    went.rounds.0 _ c.in-Ok.ran.finished went.rounds.1 went.stays went.script went.order
    (record { calls = went.calls.0; heard = went.calls.1; are = went.calls.2 }) went.calls.3.0 went.rounds.2 went.rounds.3 (omega arith)
    (λ ended. let is = c.if-has_ended.ensures.1 ended in absurd cc)

pub returns-in-Err-clause-gone : goal.returns-in-Err-clause-gone
returns-in-Err-clause-gone g c = grind (arith, was_refused)
