-- A machine works by turns from where it opens, or has nothing under way, and goes on so by whole turns, Issues and Performs.
use Rattle.std.proofs.Common.{◌≡◌, ℕ, [], Some, refl, arith}
use Rattle.sci_words.specs.declared.event.Event.{Event}
use Rattle.sci_core.specs.{Core.{Core, opening, stepping}, Draining.{IsDrained}, Reached.{IsReached}, Size.{IsMachineSize, Size}}
use Rattle.sci_core.proofs.WellFormed.WellFormedSteps.{reached_stepping}
use Rattle.sci_fair.specs.{Lanes.{IsWork}, Steady.{IsTurnAlone, Working, WorksByTurns}}
use Rattle.sci_fair.proofs.{Betweens.{drained_between, opening_between, work_between}, Opens.{drained_open, opening_open, work_open}}
use Rattle.sci_fair.proofs.{ReadSteps.{drained_reads, opening_reads, work_reads}, SteadyTurns.{alone_works}}

pub work_good : (old new : Core) (e : Event) → WorksByTurns old → IsWork e → stepping old e ≡ Some new → WorksByTurns new
work_good old new e good work steps = grind (arith, reached_stepping, work_reads, work_open, work_between)

pub turn_works : (n : ℕ) (old new : Working) → WorksByTurns old.core → IsTurnAlone n old new → WorksByTurns new.core
turn_works n old new good turn = (alone_works n old new good turn).0

pub drained_works : (core : Core) → IsReached core → IsDrained core → WorksByTurns core
drained_works core reached drained =
    record { reached = reached; fit = drained_reads core drained; opened = drained_open core drained; between = drained_between core drained }

pub opening_works : (size : Size) → IsMachineSize size → WorksByTurns (opening size)
opening_works size is = record {
  reached = record { size = is; moves = []; leads = refl };
  fit = opening_reads size;
  opened = opening_open size;
  between = opening_between size;
}
