use Rattle.std.proofs.Common.{◌≡◌, ◌+◌, List, length}
use Rattle.sci_outcomes.specs.{declared.outcome.Sighting.{Sighting}, Rows.{HasCounted}, Trials.{AreSightings}}
use Rattle.sci_outcomes.proofs.trials.counted_in_turn.Given as goal

-- what was seen of the runs so far
abbrev pub invariant-loop-number : goal.invariant-loop-number
invariant-loop-number g l =
    (seen : List Sighting) × (length seen + l.fn.share.start ≡ l.number)
    × AreSightings l.litmus.script.now l.litmus.turns l.litmus.issuing l.fn.share.start seen × HasCounted l.histogram seen
