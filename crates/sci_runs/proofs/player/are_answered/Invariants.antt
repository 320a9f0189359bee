use Rattle.std.proofs.Common.{◌<◌, ℕ}
use Rattle.std.specs.Prelude.{slice_index_or}
use Rattle.sci_drive.specs.Driving.{IsAnswered}
use Rattle.sci_runs.proofs.player.are_answered.Given as goal

abbrev pub invariant-loop-player : goal.invariant-loop-player
invariant-loop-player l = (k : ℕ) (d : _) → k < l.player-index → IsAnswered (slice_index_or l.players k d).driver
