use Rattle.std.proofs.Common.{◌≡◌, ◌<◌, ◌≤◌, ◌+◌, ℕ, true, get_or, take}
use Rattle.sci_reports.specs.Faulty.{is_one_of}
use Rattle.sci_reports.proofs.faulty.least_outside.Given as goal

-- the least number that isn't one of those so far
abbrev pub invariant-loop-number : goal.invariant-loop-number
invariant-loop-number l = record {
  positive : 0 < l.least;
  few : l.least ≤ l.number-index + 1;
  outside : (k : ℕ) → k < l.number-index → get_or l.numbers k 0 ≡ l.least → ⊥;
  below : (n : ℕ) → 0 < n → n < l.least → is_one_of (take l.number-index l.numbers) n ≡ true;
}
