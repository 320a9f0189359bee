-- Each of the four events is enabled when it comes, and they make a round.
use Rattle.std.proofs.Common.{arith}
use Rattle.sci_cache.specs.Cache.{letter_of}
use Rattle.sci_core.specs.Settling.{exchanges}
use Rattle.sci_core.proofs.Settling.Leading.{leads_none}
use Rattle.sci_core.proofs.Settling.RoundSteps.{accept_enabled_next, after_four, after_one, after_three, after_two, ask_enabled, reply_enabled_next}
use Rattle.sci_core.proofs.Settling.RoundSteps.{round_drained, round_made, rounds_told, serve_enabled_next, small_told, stands}
use Rattle.sci_core.proofs.{Settling.Rounds.{Rounds}, machine.Machine.round.Goals.{After-get-target}}
use Rattle.sci_core.proofs.machine.Machine.round.Goals as goal

pub overflow_cast-target : goal.overflow_cast-target
overflow_cast-target c =
    let small = small_told c.args.self.now c.args.node c.args.line c.args.kind c.get-target.result c.node.result.now (letter_of c.in-Some.request)
    c.extent-extent.ensures.reached c.requires.node c.node.ensures.node c.in-Some.ensures.asked c.get-target.ensures.number in
    omega arith

told : (c : After-get-target) → Rounds c.args.self.now c.args.node c.args.line c.args.kind c.get-target.result
told c =
    rounds_told c.args.self.now c.args.node c.args.line c.args.kind c.get-target.result c.node.result.now (letter_of c.in-Some.request)
    c.extent-extent.ensures.reached c.requires.drained c.requires.node c.requires.line c.node.ensures.node c.in-Some.ensures.asked
    c.get-target.ensures.number

pub make-requires : goal.make-requires
make-requires c =
    ask_enabled c.args.self.now c.args.node c.args.line c.args.kind c.get-target.result
    (told (goal.at.make-requires c).After-get-target)

pub make-requires-2 : goal.make-requires-2
make-requires-2 c =
    serve_enabled_next c.args.self.now c.args.node c.args.line c.args.kind c.get-target.result c.make.new.self
    (told (goal.at.make-requires-2 c).After-get-target) c.in_ok-make.ensures.ok

pub make-requires-3 : goal.make-requires-3
make-requires-3 c =
    reply_enabled_next c.args.self.now c.args.node c.args.line c.args.kind c.get-target.result c.make.new.self c.make-2.new.self
    (told (goal.at.make-requires-3 c).After-get-target) c.in_ok-make.ensures.ok c.in_ok-make-2.ensures.ok

pub make-requires-4 : goal.make-requires-4
make-requires-4 c =
    accept_enabled_next c.args.self.now c.args.node c.args.line c.args.kind c.get-target.result c.make.new.self c.make-2.new.self c.make-3.new.self
    (told (goal.at.make-requires-4 c).After-get-target)
    (record { ask = c.in_ok-make.ensures.ok; serve = c.in_ok-make-2.ensures.ok; reply = c.in_ok-make-3.ensures.ok })

pub returns-in_err-make-clause-refused : goal.returns-in_err-make-clause-refused
returns-in_err-make-clause-refused c =
    λ _. stands c.args.self.now c.args.self.now c.make.new.self 0 (leads_none exchanges c.args.self.now) c.in_err-make.ensures.err

pub returns-in_err-make-2-clause-refused : goal.returns-in_err-make-2-clause-refused
returns-in_err-make-2-clause-refused c =
    λ _. stands c.args.self.now c.make.new.self c.make-2.new.self 1
    (after_one c.args.self.now c.args.node c.args.line c.args.kind c.make.new.self c.in_ok-make.ensures.ok) c.in_err-make-2.ensures.err

pub returns-in_err-make-3-clause-refused : goal.returns-in_err-make-3-clause-refused
returns-in_err-make-3-clause-refused c =
    λ _. stands c.args.self.now c.make-2.new.self c.make-3.new.self 2
    (after_two c.args.self.now c.args.node c.args.line c.args.kind c.get-target.result c.make.new.self c.make-2.new.self c.in_ok-make.ensures.ok
    c.in_ok-make-2.ensures.ok) c.in_err-make-3.ensures.err

pub returns-in_err-make-4-clause-refused : goal.returns-in_err-make-4-clause-refused
returns-in_err-make-4-clause-refused c =
    λ _. stands c.args.self.now c.make-3.new.self c.make-4.new.self 3
    (after_three c.args.self.now c.args.node c.args.line c.args.kind c.get-target.result c.make.new.self c.make-2.new.self c.make-3.new.self
    (record { ask = c.in_ok-make.ensures.ok; serve = c.in_ok-make-2.ensures.ok; reply = c.in_ok-make-3.ensures.ok })) c.in_err-make-4.ensures.err

pub returns-clause-round : goal.returns-clause-round
returns-clause-round c =
    round_made c.args.self.now c.args.node c.args.line c.args.kind c.get-target.result c.make.new.self c.make-2.new.self c.make-3.new.self c.make-4.new.self
    (told (goal.at.returns-clause-round c).After-get-target)
    (record { ask = c.in_ok-make.ensures.ok; serve = c.in_ok-make-2.ensures.ok; reply = c.in_ok-make-3.ensures.ok })
    c.in_ok-make-4.ensures.ok

pub returns-clause-made : goal.returns-clause-made
returns-clause-made c = grind (arith, after_four)

pub returns-clause-drained : goal.returns-clause-drained
returns-clause-drained c =
    round_drained c.args.self.now c.args.node c.args.line c.args.kind c.get-target.result c.make.new.self c.make-2.new.self c.make-3.new.self c.make-4.new.self
    c.extent-extent.ensures.reached c.requires.drained
    (record { ask = c.in_ok-make.ensures.ok; serve = c.in_ok-make-2.ensures.ok; reply = c.in_ok-make-3.ensures.ok }) c.in_ok-make-4.ensures.ok
