use Rattle.std.proofs.Common.{◌≡◌, ◌<◌, false, ℕ}
use Rattle.std.specs.Prelude.{◌⊎◌, slice_index_or}
use Rattle.sci_threads.specs.Shares.{AllGoOn, AreWell, HasEnded}
use Rattle.sci_threads.proofs.shares.go_round.Given as goal

abbrev pub invariant-loop-n : goal.invariant-loop-n
invariant-loop-n g l =
    AreWell l.shares × AllGoOn g.G.Gate.hears l.fn.shares l.shares
    × ((k : ℕ) (d : _) → k < l.n → HasEnded (slice_index_or l.shares k d) ⊎ ((slice_index_or l.shares k d).left < (slice_index_or l.fn.shares k d).left))
    × (l.more ≡ false → (k : ℕ) (d : _) → k < l.n → HasEnded (slice_index_or l.shares k d))
