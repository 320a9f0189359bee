use Rattle.std.proofs.Common.{◌≡◌, ◌<◌, ℕ, None}
use Rattle.sci_random_schedules.specs.Walking.{IsFound, looked_for}
use Rattle.sci_random_schedules.proofs.walking.first_found.Given as goal

-- nothing that was looked for is enabled at any node, and the machine is the same
abbrev pub invariant-loop-place : goal.invariant-loop-place
invariant-loop-place l = record {
  same : l.machine ≡ l.fn.machine;
  none : (earlier : ℕ) → earlier < l.place → IsFound l.fn.machine (looked_for l.fn.machine.size.lines earlier) None;
}
