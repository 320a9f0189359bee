use Rattle.std.proofs.Common.{◌≡◌, ◌<◌, ℕ, get_or}
use Rattle.sci_orders.specs.{Positions.{position_of}, declared.standing.Standing.{Standing}}
use Rattle.sci_allowed.specs.{Allowed.{seen_at}, Outcome.{shown_of}}
use Rattle.sci_allowed.proofs.showing.place_of.Given as goal

-- none of the standings so far has the outcome
abbrev pub invariant-loop-place : goal.invariant-loop-place
invariant-loop-place l =
    (k : ℕ) (d : Standing) → k < l.place → shown_of l.outcome ≡ seen_at l.litmus.script (position_of (get_or l.standings k d)) → ⊥
