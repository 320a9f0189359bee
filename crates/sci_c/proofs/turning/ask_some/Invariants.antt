-- The node has asked so often.
use Rattle.std.proofs.Common.{◌≡◌, ◌≤◌, ◌+◌, ℕ, List, length}
use Rattle.sci_c.specs.Turning.{Asks, UpTo, stage}
use Rattle.sci_c.proofs.turning.ask_some.Given as goal

abbrev pub invariant-loop-asked : goal.invariant-loop-asked
invariant-loop-asked l = record {
  asked : (taken : List ℕ) → UpTo Asks l._asked (stage l.initial.controller taken l.initial.room l.initial.used) (stage l.controller taken l.room l.used);
  few : l.used ≤ l.initial.used + l._asked;
  size : length l.room ≡ length l.initial.room;
}
