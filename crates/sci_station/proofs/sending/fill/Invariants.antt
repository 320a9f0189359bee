use Rattle.std.proofs.Common.{◌≡◌, ◌<◌, take, true}
use Rattle.sci_lanes.specs.{Shown.{outbound_at}, Ends.{lane_at_cell}}
use Rattle.sci_station.specs.{Budgets.{HasNoMore}, Ends.{IsStill, LeavesOthers}}
use Rattle.sci_station.proofs.sending.fill.Given as goal

abbrev pub invariant-loop-index : goal.invariant-loop-index
invariant-loop-index l = record {
  still : IsStill l.fn.end l.end;
  vacant : (outbound_at l.end.part (lane_at_cell l.end.part l.cell)).vacant ≡ true;
  filled : 0 < l.index → (outbound_at l.end.part (lane_at_cell l.end.part l.cell)).filled ≡ take l.index l.words;
  others : LeavesOthers (lane_at_cell l.fn.end.part l.cell) l.fn.end.part l.end.part;
  budget : HasNoMore l.fn.budget.left l.budget.left;
}
