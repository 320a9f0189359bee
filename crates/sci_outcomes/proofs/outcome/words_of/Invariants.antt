use Rattle.std.proofs.Common.{◌≡◌, map, take}
use Rattle.sci_outcomes.specs.Outcomes.{held_at}
use Rattle.sci_outcomes.proofs.outcome.words_of.Given as goal

-- the places so far
abbrev pub invariant-loop-place : goal.invariant-loop-place
invariant-loop-place l = l.words.items ≡ map (held_at l.last) (take l.place-index l.places)
