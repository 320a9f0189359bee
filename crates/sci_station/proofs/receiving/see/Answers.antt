use Rattle.std.proofs.Common.{ℕ, arith}
use Rattle.sci_core.specs.{declared.lane.LaneKind.{LaneKind}, Core.{lane_place}}
use Rattle.sci_lanes.specs.{Ends.{EndOf, LooksFor, nodes_in}}
use Rattle.sci_lanes.specs.Shown.{me_of}
use Rattle.sci_station.specs.Ends.{LeavesOthers}
use Rattle.sci_station.proofs.{Cells.{looked_found}, StillEnds.{known_others, look_still, still_takes}}
use Rattle.sci_station.proofs.receiving.see.Goals as goal

pub returns-then-first-eq0-clause-none : goal.returns-then-first-eq0-clause-none
returns-then-first-eq0-clause-none c = λ _. c.look_for-first.ensures.empty c.if-first-eq0.true

-- the lane that was looked at
others_there : (old new : EndOf) (kind : LaneKind) (from word : ℕ) → LooksFor kind from word old new
    → LeavesOthers (lane_place (nodes_in old.part) kind from (me_of old.part)) old.part new.part
others_there old new kind from word looks = grind (arith, known_others)

pub returns-then-first-eq0-clause-others : goal.returns-then-first-eq0-clause-others
returns-then-first-eq0-clause-others c =
    others_there c.args.end.now c.look_for-first.new.self c.args.kind c.args.from c.look_for-first.result c.look_for-first.ensures.looked

pub returns-clause-others : goal.returns-clause-others
returns-clause-others c = others_there c.args.end.now c.look_for-first.new.self c.args.kind c.args.from c.look_for-first.result c.look_for-first.ensures.looked

pub returns-then-first-eq0-clause-still : goal.returns-then-first-eq0-clause-still
returns-then-first-eq0-clause-still c = let looked = c.look_for-first.ensures.looked in
    look_still c.args.end.now c.look_for-first.new.self looked.cell c.look_for-first.result looked.seen looked.looked

pub returns-clause-seen : goal.returns-clause-seen
returns-clause-seen c =
    let looked = c.look_for-first.ensures.looked in
    let end = c.args.end.now in
    let new = c.look_for-first.new.self in
    let first = c.look_for-first.result in
    let still = look_still end new looked.cell first looked.seen looked.looked in
    record {
      cell = looked.cell;
      kind_is = looked.kind_is;
      sender_is = looked.sender_is;
      seen = record {
        shown = c.look_for-first.ensures.shown;
        next = still_takes end new looked.cell still looked.next;
        found = looked_found end new looked.cell first looked.seen c.look_for-first.ensures.shown looked.next looked.looked c.if-first-eq0.false;
      };
    }

pub returns-clause-still : goal.returns-clause-still
returns-clause-still c = let looked = c.look_for-first.ensures.looked in
    look_still c.args.end.now c.look_for-first.new.self looked.cell c.look_for-first.result looked.seen looked.looked
