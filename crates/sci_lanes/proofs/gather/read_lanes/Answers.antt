use Rattle.std.proofs.Common.{◌≡◌, ℕ, ◌+◌, ◌%◌, ◌/◌, ◌<◌, List, length, get_or, sym, ap, subst, ◌∙◌, arith}
use Rattle.std.proofs.lemmas.List.{length_push}
use Rattle.std.specs.{List.{AllByRecursion}, VecDeque.{deque_len, deque_capacity}}
use Rattle.sci_cache.specs.Cache.{Letter}
use Rattle.sci_lanes.specs.{Cells.{lane_count}, Shown.{Fits}, Gathering.{AreLanes, HasFour}}
use Rattle.sci_lanes.proofs.Reading.{turn_there, lanes_more}
use Rattle.sci_lanes.proofs.gather.read_lanes.Goals as goal

pub index-turn-requires : goal.index-turn-requires
index-turn-requires c = grind (arith, turn_there)

pub loop-room-preserved : goal.loop-room-preserved
loop-room-preserved c =
    let i = c.loop-room.invariant in
    let steps = c.in-Some.ensures.steps.0 in
    let next = ap length steps in
    let nodes = i.0 in
    let count = i.1 in
    let len : c.len-lane.result ≡ length c.loop-room.lanes.items = c.len-lane.ensures ∙ c.loop-room.lanes.ok.0 in
    let more = c.push_reserved.ensures.items in
    let longer : length c.push_reserved.new.self.items ≡ length c.loop-room.lanes.items + 1 =
    ap length more ∙ length_push c.loop-room.lanes.items c.read_lane.result in
    let less : length c.loop-room.lanes.items < lane_count c.args.nodes = omega arith in
    let v = c.index-inbox_turns-lane.result in
    let turn = c.index-turn.result.now in
    let v_is : v ≡ get_or c.args.inbox_turns.now (length c.loop-room.lanes.items % c.args.nodes) v =
    c.index-inbox_turns-lane.is ∙ (λ k. get_or c.args.inbox_turns.now (len k % nodes k) v) in
    let turn_is : turn ≡ get_or v.items (length c.loop-room.lanes.items / c.args.nodes) turn =
    c.index-turn.ensures ∙ (λ k. get_or v.items (len k / nodes k) turn) in (
      nodes,
      omega arith,
      (subst (AllByRecursion (λ q. HasFour q.items (deque_len q) (deque_capacity q))) steps i.2).1,
      omega (arith, i.3, c.push_reserved.ensures.capacity),
      subst (λ (ls : List (List Letter)). AreLanes c.args.nodes c.args.words.now c.args.inbox_turns.now (length ls) ls) (sym more)
          (lanes_more c.args.nodes c.args.words.now c.args.inbox_turns.now c.loop-room.lanes.items v turn c.read_lane.result c.requires.some less
          c.requires.turns v_is turn_is (λ shown o j f same.
          c.read_lane.ensures shown o j (subst (λ (l : ℕ). Fits c.args.words.now l shown o j) (sym len) f) same) i.4),
    )
