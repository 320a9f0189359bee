use Rattle.std.proofs.Common.{ℕ, sym, ap, subst, ◌∙◌, map, arith}
use Rattle.sci_core.specs.{Core.{core_of}, Size.{size_of}}
use Rattle.sci_lanes.specs.{Cells.{lane_count}, Ends.{LanesOf}, Gathering.{AreAll, AreLanes, HaveInboxTurns, IsStateOf}}
use Rattle.sci_lanes.proofs.{Gathered.{every_node, every_turn, state_of}, lanes.Lanes.read.Goals.{After-read_lanes}}
use Rattle.sci_lanes.proofs.lanes.Lanes.read.Goals as goal

pub join_all-requires-clause-own : goal.join_all-requires-clause-own
join_all-requires-clause-own g c = λ place end is.
    let own = c.requires.own place end is in
    (own.table ∙ sym (ap (λ (l : LanesOf). l.table) c.self.view_is), ap (λ z. z.nodes) own.sized ∙ sym (ap (λ (l : LanesOf). l.size.nodes) c.self.view_is))

pub read_words-requires-clause-every : goal.read_words-requires-clause-every
read_words-requires-clause-every g c = every_node _ _ _ _ c.join_all.ensures.joined

pub read_lanes-requires-clause-turns : goal.read_lanes-requires-clause-turns
read_lanes-requires-clause-turns g c =
    subst (λ bs. HaveInboxTurns c.self.inside.extent.nodes bs) (sym c.deref-3.ensures.value) (every_turn _ _ _ _ c.join_all.ensures.joined)

-- the state that was read
read_off : (g : _) (c : After-read_lanes g) → IsStateOf (size_of c.self.inside.extent c.self.inside.limit) (map g.E.HasEnd.end_of c.args.ends.items)
    (core_of c.self.inside.extent c.self.inside.limit c.join_all.new.nodes.items c.read_lanes.new.lanes.items)
read_off g c =
    let extent = c.self.inside.extent in
    let count = lane_count extent.nodes in
    let size = ap (λ (l : LanesOf). l.size) c.self.view_is in
    let ends = map g.E.HasEnd.end_of c.args.ends.items in
    let read = subst (λ bs. AreLanes extent.nodes c.deref-2.result.now bs count c.read_lanes.new.lanes.items) c.deref-3.ensures.value c.read_lanes.ensures in
    let read = subst (λ ws. AreLanes extent.nodes ws c.join_all.new.inbox_turns.items count c.read_lanes.new.lanes.items) c.deref-2.ensures.value read in
    let all = subst (λ (n : ℕ). AreAll n ends) (sym (ap (λ (l : LanesOf). l.size.nodes) c.self.view_is)) c.requires.all in
    state_of c.args.self extent c.self.inside.limit ends c.join_all.new.seat.me.0.parts c.join_all.new.nodes.items c.join_all.new.inbox_turns.items
    c.read_words.new.words.items c.read_lanes.new.lanes.items extent.has_node (sym size) c.requires.own all c.join_all.ensures.joined c.join_all.ensures.kept
    c.read_words.ensures.read c.read_words.ensures.long read

pub of_parts-requires : goal.of_parts-requires
of_parts-requires g c = (read_off g (goal.at.of_parts-requires g c).After-read_lanes).led.reached

pub returns : goal.returns
returns g c = grind (arith, read_off)
