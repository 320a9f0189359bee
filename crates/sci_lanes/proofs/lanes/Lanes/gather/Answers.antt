use Rattle.sci_lanes.proofs.Gathered.{gathered, node_log}
use Rattle.sci_lanes.proofs.lanes.Lanes.gather.Goals as goal

pub returns-clause-gathered : goal.returns-clause-gathered
returns-clause-gathered g c = gathered _ _ _ _ _ c.in_ok-join.ensures.state c.finish.ensures.logs c.finish.ensures.last

pub returns-clause-logs : goal.returns-clause-logs
returns-clause-logs g c = node_log _ _ _ _ c.in_ok-join.ensures.state c.finish.ensures.logs
