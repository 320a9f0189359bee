use Rattle.sci_lanes.proofs.end.LaneEnd.issue.Given as goal

abbrev pub ghosts-beat : goal.ghosts-beat
ghosts-beat a = record { event = a.event.now; next = a.after.now }
