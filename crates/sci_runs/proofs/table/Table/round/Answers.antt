use Rattle.std.proofs.Common.{◌≡◌, None, rules, subst, sym, arith}
use Rattle.sci_runs.specs.{declared.player.Player.{Player}, Goings.{place}, Players.{TableOf}}
use Rattle.sci_runs.proofs.{Playing.{fills_round}, WorkingNodes.{player_at, round_fills, round_is, round_on}}
use Rattle.sci_runs.proofs.table.Table.round.Goals as goal

pub round-round-requires-clause-driven : goal.round-round-requires-clause-driven
round-round-requires-clause-driven c =
    (player_at (λ (player : Player). player.driver) (λ (player : Player). player.policy) c.self.inside.script.now c.self.inside.issuing
    c.self.inside.recorder c.self.inside.players.items
    c.args.self.now c.args.node c.from.result c.index_mut.result.now
    c.self.view_is c.self.invariant c.requires c.from.ensures c.index_mut.ensures.value).driven

pub invariant_of-self : goal.invariant_of-self
invariant_of-self c =
    round_on (λ (player : Player). player.driver) (λ (player : Player). player.policy) c.self.inside.script.now c.self.inside.issuing
    c.self.inside.recorder c.self.inside.players.items
    c.args.self.now c.args.node c.from.result c.index_mut.result.now
    c.self.view_is c.self.invariant c.requires c.from.ensures c.index_mut.ensures.value
    c.round-round.new.self c.round-round.new.recorder c.round-round.ensures.spares c.round-round.ensures.script
    c.round-round.ensures.driven c.round-round.ensures.order

pub invariant_of-self-2 : goal.invariant_of-self-2
invariant_of-self-2 c =
    round_on (λ (player : Player). player.driver) (λ (player : Player). player.policy) c.self.inside.script.now c.self.inside.issuing
    c.self.inside.recorder c.self.inside.players.items
    c.args.self.now c.args.node c.from.result c.index_mut.result.now
    c.self.view_is c.self.invariant c.requires c.from.ensures c.index_mut.ensures.value
    c.round-round.new.self c.round-round.new.recorder c.round-round.ensures.spares c.round-round.ensures.script
    c.round-round.ensures.driven c.round-round.ensures.order

pub invariant_of-self-in_err-_round : goal.invariant_of-self-in_err-_round
invariant_of-self-in_err-_round c = grind (arith, round_on)

pub returns-clause-round : goal.returns-clause-round
returns-clause-round c =
    round_is (λ (player : Player). player.driver) (λ (player : Player). player.policy) c.self.inside.script.now c.self.inside.issuing
    c.self.inside.recorder c.self.inside.players.items c.args.self.now c.args.node c.from.result c.index_mut.result.now c.self.view_is c.self.invariant
    c.requires c.from.ensures c.index_mut.ensures.value c.round-round.new.self c.round-round.new.recorder c.in_ok-_round._round
    c.in_ok-_round.ensures.goes.0 c.in_ok-_round.ensures.goes.1 c.round-round.ensures.driven (c.in_ok-_round.ensures.goes.2.does cc)

pub returns-in-Some-clause-full : goal.returns-in-Some-clause-full
returns-in-Some-clause-full c = λ is none.
    let goes = c.round-round.ensures.goes in
    round_fills (λ (player : Player). player.driver) (λ (player : Player). player.policy) c.self.inside.script.now c.self.inside.issuing
    c.self.inside.recorder c.self.inside.players.items c.args.self.now c.args.node c.from.result c.index_mut.result.now c.self.view_is c.self.invariant
    c.requires c.from.ensures c.index_mut.ensures.value c.round-round.new.self c.round-round.new.recorder c.round-round.result goes.0 goes.1
    (fills_round c.round-round.result c.args.node goes.0 (place c.index_mut.result.now.policy c.self.inside.recorder)
    (place c.round-round.new.self.policy c.round-round.new.recorder) goes.2
    (subst (λ (t : TableOf). t.recorder.lost ≡ None) (sym c.self.view_is) none) (search rules) (search rules))
