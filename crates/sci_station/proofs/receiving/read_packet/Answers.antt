use Rattle.std.proofs.Common.{◌≤◌, ◌≡◌, ℕ, List, [], ◌∷◌, length, get_or, take, refl, sym, ap, ◌∙◌, arith, inl, inr, ◌⊎◌}
use Rattle.std.proofs.lemmas.List.{get_or-take, length-take-le}
use Rattle.sci_packets.specs.{Spelling.{CountsWords, SpellsInWords}, declared.packet.Packet.{Packet}}
use Rattle.sci_lanes.specs.{Ends.{IsNextToTake, lane_at_cell}, Shown.{inbound_at}, Telling.{IsFront, IsShown}}
use Rattle.sci_lanes.specs.declared.{cell.CellId.{CellId}, view.Part.{Part}}
use Rattle.sci_station.proofs.{Cells.{front_found}, Spelled.{front_spelled, never_refused, only_that}}
use Rattle.sci_station.proofs.{StillEnds.{still_takes}, receiving.read_packet.Goals.{After-from_words}}
use Rattle.sci_station.proofs.receiving.read_packet.Goals as goal

some_few : {count : ℕ} → (count ≡ 2) ⊎ (count ≡ 11) → (1 ≤ count) × (count ≤ 11)
some_few (inl two) = (omega arith, omega arith)
some_few (inr eleven) = (omega arith, omega arith)

-- the oldest packet of the lane, all words of which are found
found_packet : (part : Part) (cell : CellId) (first count : ℕ) (words : List ℕ) → IsShown part → IsNextToTake part cell
    → (inbound_at part (lane_at_cell part cell)).found ≡ take count words → length words ≡ 11 → take 1 words ≡ first ∷ []
    → CountsWords first count → (1 ≤ count) × (count ≤ 11) → (q : Packet) × SpellsInWords q (inbound_at part (lane_at_cell part cell)).found
found_packet part cell first count words shown next found long begins counts few =
    let some = few.0 in
    let within = few.1 in
    let count_is = ap (λ (xs : List ℕ). length xs) found ∙ length-take-le count words (omega arith) in
    let front : IsFront _ (inbound_at part (lane_at_cell part cell)).found = front_found part cell shown next (omega arith) in
    let head = ap (λ (xs : List ℕ). get_or xs 0 0) found
    ∙ (get_or-take count words 0 0 (omega arith) ∙ (sym (get_or-take 1 words 0 0 (omega arith)) ∙ ap (λ (xs : List ℕ). get_or xs 0 0) begins)) in
    (front.packet, front_spelled _ (inbound_at part (lane_at_cell part cell)).found first count front count_is some head counts)

pub read-requires-clause-some : goal.read-requires-clause-some
read-requires-clause-some c = (some_few c.word_count.ensures.sizes).0

pub read-requires-clause-few : goal.read-requires-clause-few
read-requires-clause-few c = (some_few c.word_count.ensures.sizes).1

few_words : (c : After-from_words) → c.word_count.result ≤ length c.read.new.words
few_words c = let within = (some_few c.word_count.ensures.sizes).1 in let long = c.read.array_long in omega arith

still_next : (c : After-from_words) → IsNextToTake c.read.new.end.part c.args.seen.cell
still_next c = still_takes c.args.end.now c.read.new.end c.args.seen.cell c.read.ensures.still c.requires.next

whole : (c : After-from_words)
    → (q : Packet) × SpellsInWords q (inbound_at c.read.new.end.part (lane_at_cell c.read.new.end.part c.args.seen.cell)).found
whole c =
    found_packet c.read.new.end.part c.args.seen.cell c.args.seen.first c.word_count.result c.read.new.words c.read.ensures.shown (still_next c)
    (c.in_ok-read.ensures.found refl) c.read.array_long c.read.ensures.begins c.word_count.ensures.packet (some_few c.word_count.ensures.sizes)

pub unreachable-requires : goal.unreachable-requires
unreachable-requires c =
    let d = (goal.at.unreachable-requires c).After-from_words in
    never_refused (whole d).0 c.word_count.result c.read.new.words _ c.in-Err.field-0 c.from_words.result (whole d).1 (c.in_ok-read.ensures.found refl)
    (few_words d) c.from_words.ensures.only c.in-Err.is

pub returns-clause-read : goal.returns-clause-read
returns-clause-read c =
    let d = (goal.at.returns-clause-read c).After-from_words in record {
      shown = c.read.ensures.shown;
      next = still_next d;
      spelled = only_that (whole d).0 c.in-Ok.packet c.word_count.result c.in-Ok.field-0-1 c.read.new.words _ c.from_words.result (whole d).1
          (c.in_ok-read.ensures.found refl) (few_words d) c.from_words.ensures.only c.in-Ok.is;
    }
