use Rattle.std.proofs.Common.{◌≡◌, ◌≤◌, length, take}
use Rattle.sci_lanes.specs.{Shown.{inbound_at}, Telling.{IsShown}, Ends.{lane_at_cell}}
use Rattle.sci_station.specs.{Budgets.{HasNoMore}, Ends.{IsStill, LeavesOthers}}
use Rattle.sci_station.proofs.receiving.read.Given as goal

abbrev pub invariant-loop-index : goal.invariant-loop-index
invariant-loop-index l = record {
  still : IsStill l.fn.end l.end;
  shown : IsShown l.end.part;
  long : length l.words ≡ 11;
  order : 1 ≤ l.index;
  found : (inbound_at l.end.part (lane_at_cell l.end.part l.cell)).found ≡ take l.index l.words;
  begins : take 1 l.words ≡ take 1 l.fn.words;
  others : LeavesOthers (lane_at_cell l.fn.end.part l.cell) l.fn.end.part l.end.part;
  budget : HasNoMore l.fn.budget.left l.budget.left;
}
