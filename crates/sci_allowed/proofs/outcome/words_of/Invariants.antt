use Rattle.std.proofs.Common.{◌≡◌, map, take}
use Rattle.sci_orders.specs.Positions.{position_of}
use Rattle.sci_allowed.specs.Outcome.{held_in}
use Rattle.sci_allowed.proofs.outcome.words_of.Given as goal

-- the places so far
abbrev pub invariant-loop-place : goal.invariant-loop-place
invariant-loop-place l = l.words.items ≡ map (held_in (position_of l.standing)) (take l.place-index l.places)
