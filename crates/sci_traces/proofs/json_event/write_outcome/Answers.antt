use Rattle.sci_traces.proofs.JsonOutcomes.{effect_written, refusal_written}
use Rattle.sci_traces.proofs.json_event.write_outcome.Goals as goal

pub returns-in-Some-clause-members : goal.returns-in-Some-clause-members
returns-in-Some-clause-members c =
    refusal_written c.args.machine.now c.args.event.now c.args.out.now c.write_truth.new.out c.write_text.new.out c.write_line.new.out
    c.write_standing.new.out
    c.obstacle_to-obstacle.result c.in-Some.obstacle _ _ _ _
    c.in-Some.is c.obstacle_to-obstacle.ensures.obstacle c.obstacle_to-obstacle.ensures.enabled c.is_none.ensures c.node_of-node.ensures
    c.line_changed-line.ensures
    c.in_ok-write_truth.ensures c.in_ok-write_text.ensures c.name.ensures.name c.in_ok-write_line.ensures
    c.in_ok-write_standing.ensures

pub returns-clause-members : goal.returns-clause-members
returns-clause-members c =
    effect_written c.args.machine.now c.make.new.self c.args.event.now c.args.out.now c.write_truth.new.out c.write_packets.new.out c.write_standing-2.new.out
    c.write_standing-3.new.out c.write_logged.new.out
    c.obstacle_to-obstacle.result _ _ _ _ c.in_ok-make.ensures.ok c.in_default.is c.is_none.ensures c.node_of-node.ensures c.line_changed-line.ensures
    c.entry_of.ensures
    c.in_ok-write_truth.ensures c.in_ok-write_packets.ensures c.in_ok-write_standing-2.ensures c.in_ok-write_standing-3.ensures c.in_ok-write_logged.ensures
