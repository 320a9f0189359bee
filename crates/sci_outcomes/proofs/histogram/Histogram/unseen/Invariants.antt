use Rattle.std.proofs.Common.{◌≡◌, List}
use Rattle.sci_outcomes.specs.{declared.outcome.Sighting.{Sighting}, Rows.{HasCounted, unseen_of}}
use Rattle.sci_outcomes.proofs.histogram.Histogram.unseen.Given as goal

-- those of the rows so far that no run had
abbrev pub invariant-loop-row : goal.invariant-loop-row
invariant-loop-row l = (seen : List Sighting) → HasCounted l.self seen → l.unseen.items ≡ unseen_of seen l.yielded
