use Rattle.sci_lanes.proofs.Gathered.{gathered, node_log}
use Rattle.sci_station.proofs.fabric.Fabric.finish.Goals as goal

pub returns-clause-gathered : goal.returns-clause-gathered
returns-clause-gathered c = gathered _ _ _ _ _ c.in_ok-join.ensures.state c.finish-logs.ensures.logs c.finish-logs.ensures.last

pub returns-clause-logs : goal.returns-clause-logs
returns-clause-logs c = node_log _ _ _ _ c.in_ok-join.ensures.state c.finish-logs.ensures.logs
