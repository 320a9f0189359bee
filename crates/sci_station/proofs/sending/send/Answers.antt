use Rattle.std.proofs.Common.{◌≡◌, ◌⊎◌, inl, inr, ℕ, ◌+◌, ◌-◌, List, ◌∷◌, get_or, length, refl, sym, ap, ◌∙◌, arith}
use Rattle.sci_packets.specs.Spelling.{words_of}
use Rattle.sci_cache.specs.Cache.{letter_of}
use Rattle.sci_core.specs.{declared.lane.LaneKind.{LaneKind}, Core.{Sends, lane_place, side}, Node.{NodeOf}}
use Rattle.sci_lanes.specs.{Ends.{EndOf, lane_at_cell, nodes_in}, Shown.{me_of}}
use Rattle.sci_station.specs.Ends.{IsStill, LeavesOthers}
use Rattle.sci_station.proofs.{Cells.{looked_vacant}, StationEvents.{made_later}, Spelled.{whole_words}}
use Rattle.sci_station.proofs.StillEnds.{known_others, lane_still, look_still, others_then, still_sends, still_then}
use Rattle.sci_station.proofs.sending.send.Goals.{After-look, After-fill}
use Rattle.sci_station.proofs.sending.send.Goals as goal

-- the lane was looked at, and the next cell filled
looked : (c : After-look) → IsStill c.args.end.now c.look.new.self
looked c = look_still c.args.end.now c.look.new.self c.next_to_send-cell.result c.look.result c.look.ensures.seen c.look.ensures.part

filled : (c : After-fill) → IsStill c.args.end.now c.fill.new.end
filled c = still_then c.args.end.now c.look.new.self c.fill.new.end
    (look_still c.args.end.now c.look.new.self c.next_to_send-cell.result c.look.result c.look.ensures.seen c.look.ensures.part) c.fill.ensures.still

pub returns-then-look-ne0-clause-full : goal.returns-then-look-ne0-clause-full
returns-then-look-ne0-clause-full c = λ _. looked (goal.at.returns-then-look-ne0-clause-full c).After-look

pub fill-requires-clause-vacant : goal.fill-requires-clause-vacant
fill-requires-clause-vacant c =
    looked_vacant c.args.end.now c.look.new.self c.next_to_send-cell.result c.look.result c.look.ensures.seen c.look.ensures.shown
    c.next_to_send-cell.ensures.next c.look.ensures.part c.if-look-ne0.false

pub returns-in_err-fill-clause-cut : goal.returns-in_err-fill-clause-cut
returns-in_err-fill-clause-cut c = λ _. filled (goal.at.returns-in_err-fill-clause-cut c).After-fill

pub returns-in_err-spend-2-clause-cut : goal.returns-in_err-spend-2-clause-cut
returns-in_err-spend-2-clause-cut c = λ _. filled (goal.at.returns-in_err-spend-2-clause-cut c).After-fill

pub publish-requires : goal.publish-requires
publish-requires c =
    let cell = c.next_to_send-cell.result in
    let end = c.fill.new.end in
    let still = filled (goal.at.publish-requires c).After-fill in
    let packet = c.args.packet.now in
    let count = c.to_words-count.result in
    let words = c.to_words-count.new.to in
    let sizes = c.to_words-count.ensures.sizes in
    let long = c.to_words-count.ensures.length in
    record {
      next = still_sends c.args.end.now end cell still c.next_to_send-cell.ensures.next;
      vacant = c.fill.ensures.vacant;
      own = c.requires.own ∙ ap (λ (n : NodeOf). n.cache.me) (sym still.node);
      packet = packet;
      after = c.requires.sends.next;
      side_is = ap (λ (n : NodeOf). side n c.args.event.now) still.node
          ∙ (c.requires.sends.side_is ∙ ap (λ (k : LaneKind). Sends k c.requires.sends.next (letter_of packet)) (sym c.next_to_send-cell.ensures.cell.0));
      target = sym c.target_of.ensures ∙ sym c.next_to_send-cell.ensures.cell.1;
      spelled = record {
        packet = c.to_words-count.ensures.packet;
        spelled_so = ap (λ (xs : List ℕ). get_or words 0 0 ∷ xs) (c.in_ok-fill.ensures.filled refl)
            ∙ whole_words (words_of packet) _ words (count - 1) (counted count (length (words_of packet)) sizes long) c.to_words-count.ensures.words;
      };
    }
  where
    counted : (count n : ℕ) → (count ≡ 2) ⊎ (count ≡ 11) → count ≡ n → n ≡ count - 1 + 1
    counted count n (inl two) is = omega arith
    counted count n (inr eleven) is = omega arith

pub returns-then-look-ne0-clause-held : goal.returns-then-look-ne0-clause-held
returns-then-look-ne0-clause-held c = grind arith

-- the lane that is sent into
lane_there : (c : After-look) → lane_at_cell c.args.end.now.part c.next_to_send-cell.result
    ≡ lane_place (nodes_in c.args.end.now.part) c.args.kind (me_of c.args.end.now.part) c.args.packet.now.target
lane_there c = grind arith

looked_others : (c : After-look) → LeavesOthers
    (lane_place (nodes_in c.args.end.now.part) c.args.kind (me_of c.args.end.now.part) c.args.packet.now.target) c.args.end.now.part c.look.new.self.part
looked_others c = grind (arith, lane_there, known_others)

pub returns-then-look-ne0-clause-others : goal.returns-then-look-ne0-clause-others
returns-then-look-ne0-clause-others c = looked_others (goal.at.returns-then-look-ne0-clause-others c).After-look

-- a step after the look, on the lane of the cell
then_others : (c : After-look) (mid new : EndOf) → IsStill c.args.end.now mid
    → LeavesOthers (lane_place (nodes_in c.args.end.now.part) c.args.kind (me_of c.args.end.now.part) c.args.packet.now.target) c.args.end.now.part mid.part
    → LeavesOthers (lane_at_cell mid.part c.next_to_send-cell.result) mid.part new.part
    → LeavesOthers (lane_place (nodes_in c.args.end.now.part) c.args.kind (me_of c.args.end.now.part) c.args.packet.now.target) c.args.end.now.part new.part
then_others c mid new still before after = grind (arith, others_then, lane_still, lane_there)

pub returns-in_err-fill-clause-others : goal.returns-in_err-fill-clause-others
returns-in_err-fill-clause-others c =
    let d = (goal.at.returns-in_err-fill-clause-others c).After-look in
    then_others d c.look.new.self c.fill.new.end (looked d) (looked_others d) c.fill.ensures.others

pub returns-in_err-spend-2-clause-others : goal.returns-in_err-spend-2-clause-others
returns-in_err-spend-2-clause-others c =
    let d = (goal.at.returns-in_err-spend-2-clause-others c).After-look in
    then_others d c.look.new.self c.fill.new.end (looked d) (looked_others d) c.fill.ensures.others

pub returns-clause-others : goal.returns-clause-others
returns-clause-others c =
    let d = (goal.at.returns-clause-others c).After-look in
    let mid = c.fill.new.end in
    then_others d mid c.publish.new.self (filled (goal.at.returns-clause-others c).After-fill)
    (then_others d c.look.new.self mid (looked d) (looked_others d) c.fill.ensures.others)
    (known_others mid c.publish.new.self (lane_at_cell mid.part c.next_to_send-cell.result) _ (ap (λ (x : EndOf). x.part.inbound) c.publish.ensures.part))

pub returns-clause-made : goal.returns-clause-made
returns-clause-made c = λ _.
    made_later c.args.end.now c.fill.new.end c.args.event.now c.publish.new.self.part.schedule (filled (goal.at.returns-clause-made c).After-fill)
    c.publish.ensures.made
