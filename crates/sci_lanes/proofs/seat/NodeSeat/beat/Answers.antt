use Rattle.std.proofs.Common.{sym, subst}
use mathlib.Core.Option.{none}
use Rattle.atomic_table.specs.Table.{step}
use Rattle.sci_lanes.specs.{Plays.{Beats}, Telling.{IsMade}}
use Rattle.sci_lanes.proofs.Seats.{Asks, beat_asks, went_now}
use Rattle.sci_lanes.proofs.seat.NodeSeat.beat.Goals as goal

pub load-word-requires : goal.load-word-requires
load-word-requires g c =
    let s = c.self.inside.seat in
    subst (λ t. Asks t.shared.key t.shared.table_id s.table_id s.id s.me c.own_word-place.result (λ n. n)
    (Beats g.B.Becomes.event g.B.Becomes.next (step t.shared.table_id.slots c.own_word-place.result 0 0 none) s.me)) (sym c.deref.ensures)
    (beat_asks _ _ _ s.id s.me c.args.me c.args.nodes c.own_word-place.result g.B.Becomes.event g.B.Becomes.next c.self.invariant c.args.self.now c.self.view_is
    c.requires.me c.requires.nodes c.requires.beating c.own_word-place.ensures)

pub returns-clause-made : goal.returns-clause-made
returns-clause-made g c =
    went_now (λ p. IsMade p g.B.Becomes.event) _ c.args.self.now _ c.load-word.new.seat.me c.self.view_is c.load-word.ensures.2
