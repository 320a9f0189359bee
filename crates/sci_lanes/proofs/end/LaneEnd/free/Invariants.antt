use Rattle.sci_lanes.proofs.end.LaneEnd.free.Given as goal

abbrev pub ghosts-free : goal.ghosts-free
ghosts-free a = record { event = a.event.now; next = a.after.now }
