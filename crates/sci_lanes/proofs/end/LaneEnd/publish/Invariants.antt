use Rattle.sci_lanes.proofs.end.LaneEnd.publish.Given as goal

abbrev pub ghosts-publish : goal.ghosts-publish
ghosts-publish a = record { event = a.event.now; next = a.after.now }
