use Rattle.std.proofs.{Common.{◌+◌, ◌*◌, ◌%◌, ◌≤◌, List, length, map, ap, ◌∙◌, arith}, lemmas.List.{take_all}}
use Rattle.sci_packets.specs.declared.packet.Packet.{Packet}
use Rattle.sci_cache.specs.Cache.{letter_of}
use Rattle.sci_lanes.proofs.Reading.{one_more}
use Rattle.sci_lanes.proofs.gather.read_lane.Goals.{else-loop-passed-test, then-loop-passed-test+then-not-read_cell}
use Rattle.sci_lanes.proofs.gather.read_lane.Goals as goal

pub loop-passed-preserved : goal.loop-passed-preserved
loop-passed-preserved c =
    let i = c.loop-passed.invariant in
    let len = c.read_cell.ensures.len in
    let cap = c.read_cell.ensures.capacity in
    let cells = c.from-cells.ensures in
    let number = c.from.ensures in (
      omega arith,
      omega arith,
      (λ shown o j f t.
          let was = i.2 shown o j f t in
          (one_more c.args.words.now c.args.lane c.args.turn c.loop-passed.passed
          ((c.args.lane * c.from-cells.result + c.from.result % c.from-cells.result) * 11) shown o j f t c.loop-passed-test.true
          (λ k. (c.args.lane * cells k + number k % cells k) * 11) c.requires.inside c.loop-passed.packets.items c.read_cell.new.packets.items
          c.read_cell.result was.0 was.1 (λ z. let e = c.read_cell.ensures.empty z in (e.0, ap (λ q. q.items) e.1)) c.read_cell.ensures.full).0
          c.if-not-read_cell.false),
    )

pub returns : goal.returns
returns c = λ shown o j f t. c.of_packets.ensures ∙ ap (λ (ps : List Packet). map letter_of ps) (elim c.loop-passed-test.branch [
  | else-loop-passed-test w ↦ (
      let was = c.loop-passed.invariant.2 shown o j f t in
      let le = was.0 in
      let room = f.room in
      let end = w.loop-passed-test.false in
      let le' : length shown ≤ c.loop-passed.passed = omega arith in
      ap (λ q. q.items) w.packets-is ∙ (was.1 ∙ take_all c.loop-passed.passed shown le'))
  | then-loop-passed-test+then-not-read_cell w ↦ (
      let was = c.loop-passed.invariant.2 shown o j f t in
      let cells = c.from-cells.ensures in
      let number = w.from.ensures in
      ap (λ q. q.items) w.packets-is
      ∙ ((one_more c.args.words.now c.args.lane c.args.turn c.loop-passed.passed
      ((c.args.lane * c.from-cells.result + w.from.result % c.from-cells.result) * 11) shown o j f t w.loop-passed-test.true
      (λ k. (c.args.lane * cells k + number k % cells k) * 11) c.requires.inside c.loop-passed.packets.items w.read_cell.new.packets.items
      w.read_cell.result was.0 was.1 (λ z. let e = w.read_cell.ensures.empty z in (e.0, ap (λ q. q.items) e.1)) w.read_cell.ensures.full).1
      w.if-not-read_cell.true).1)
])
