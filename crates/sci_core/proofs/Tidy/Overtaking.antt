-- A packet that overtakes others of its lane leaves a state tidy: of a node's asks about a line a lane has one packet at most, so
-- its order says nothing of them.
use Rattle.std.proofs.Common.{◌≡◌, ℕ, ◌%◌, ◌<◌, ◌≤◌, Bool, true, false, List, [], ◌∷◌, ◌++◌, length, filter, take, drop, refl, sym, ap, subst, ◌∙◌, arith}
use Rattle.std.proofs.{Common.{inl, inr}, lemmas.{Bool.{cases_Bool, cases_lt}, List.{take-append-drop, length-append, set_past}}}
use Rattle.std.proofs.lemmas.List.Elements.{filter-append, All-head, All-tail}
use Rattle.std.specs.List.{All, flat_map}
use Rattle.sci_packets.specs.Table.{is_request}
use Rattle.sci_cache.specs.{Cache.{Letter, line_of}, Line.{LineState}}
use Rattle.sci_history.proofs.Order.{filter_no}
use Rattle.sci_core.specs.{Core.{Core, lane_at, node_at}, Network.{brought, overtaken}}
use Rattle.sci_core.specs.{Sharing.{asker_of, is_about, packets_of}, Tidy.{HasItsPackets, IsTidy}}
use Rattle.sci_core.specs.WellFormed.{IsInLane, IsLetter, IsWellFormed}
use Rattle.sci_core.proofs.Basics.FlatMaps.{around, flat_same}
use Rattle.sci_core.proofs.Tidy.PacketMoves.{packets_are, waits_in}
use Rattle.sci_core.proofs.Tidy.TidySteps.{about_asker, answer_asker, request_asker}

-- ---- a lane of which at most one packet is looked for

-- of two lists that have at most one element together, either may come first
swapped : (xs ys zs : List Letter) → length (xs ++ (ys ++ zs)) ≤ 1 → ys ++ (xs ++ zs) ≡ xs ++ (ys ++ zs)
swapped [] ys zs few = refl
swapped (x ∷ xs) [] zs few = refl
swapped (x ∷ xs) (y ∷ ys) zs few = absurd (let both = length-append xs ((y ∷ ys) ++ zs) in omega arith)

filter_thrice : (q : Letter → Bool) (xs ys zs : List Letter) → filter q (xs ++ (ys ++ zs)) ≡ filter q xs ++ (filter q ys ++ filter q zs)
filter_thrice q xs ys zs = filter-append q xs (ys ++ zs) ∙ ap (λ (ls : List Letter). filter q xs ++ ls) (filter-append q ys zs)

-- the lane in three parts: those before the packet, it, and those after it
parts_of : (k : ℕ) (lane : List Letter) → take k lane ++ (take 1 (drop k lane) ++ drop 1 (drop k lane)) ≡ lane
parts_of k lane = ap (λ (ls : List Letter). take k lane ++ ls) (take-append-drop 1 (drop k lane)) ∙ take-append-drop k lane

brought_same : (q : Letter → Bool) (k : ℕ) (lane : List Letter) → length (filter q lane) ≤ 1 → filter q (brought k lane) ≡ filter q lane
brought_same q k lane few = grind (arith, parts_of, filter_thrice, swapped)

letter_of_lane : (nodes lines place : ℕ) (letter : Letter) → IsInLane nodes lines place letter → IsLetter nodes lines letter
letter_of_lane nodes lines place letter is = grind (arith, cases_lt)

asker_below : (nodes lines : ℕ) (letter : Letter) (asks : Bool) → is_request letter.body ≡ asks → IsLetter nodes lines letter → asker_of letter < nodes
asker_below nodes lines letter true e is = subst (λ (n : ℕ). n < nodes) (sym (request_asker letter e)) is.source
asker_below nodes lines letter false e is = subst (λ (n : ℕ). n < nodes) (sym (answer_asker letter e)) is.target

-- no packet is of a node that the machine doesn't have
stranger : (nodes lines m line : ℕ) (letter : Letter) → nodes ≤ m → IsLetter nodes lines letter → is_about m line letter ≡ false
stranger nodes lines m line letter past is = grind (arith, cases_Bool, asker_below, about_asker)

none_in : (nodes lines place m line : ℕ) (lane : List Letter) → nodes ≤ m → All (IsInLane nodes lines place) lane → filter (is_about m line) lane ≡ []
none_in nodes lines place m line [] past all = refl
none_in nodes lines place m line (letter ∷ rest) past all =
    let not = stranger nodes lines m line letter past (letter_of_lane nodes lines place letter (All-head (IsInLane nodes lines place) letter rest all)) in
    filter_no (is_about m line) letter rest not ∙ none_in nodes lines place m line rest past (All-tail (IsInLane nodes lines place) letter rest all)

has_few : (home : ℕ) (line : LineState) (packets : List Letter) → HasItsPackets home line packets → length packets ≤ 1
has_few home line [] has = omega arith
has_few home line (letter ∷ []) has = omega arith
has_few home line (letter ∷ another ∷ letters) has = elim has [ ]

-- a lane has at most one packet of a node's asks about a line
pub few_in_lane : (core : Core) (place m line : ℕ) → IsWellFormed core → IsTidy core → place < length core.lanes → line < core.size.lines
    → length (filter (is_about m line) (lane_at core place)) ≤ 1
few_in_lane core place m line well tidy within inside = elim (cases_lt m core.size.nodes) [
  | inl lt ↦
      let q = is_about m line in
      let a = around (filter q) core.lanes place [] within in
      let all = has_few (line % core.size.nodes) (line_of (node_at core m).cache line) (packets_of core m line) (tidy m line lt inside) in
      let parts = ap (λ (ls : List Letter). length ls) (packets_are core m line)
      ∙ length-append (flat_map (waits_in q) core.parts) (flat_map (filter q) core.lanes) in
      let lanes = ap (λ (ls : List Letter). length ls) a.now ∙ length-append a.before (filter q (lane_at core place) ++ a.after) in
      let lane = length-append (filter q (lane_at core place)) a.after in
      omega arith
  | inr past ↦
      let none = none_in core.size.nodes core.size.lines place m line (lane_at core place) past (well.each_lane place) in
      let long = ap (λ (ls : List Letter). length ls) none in
      omega arith
]

-- so the packets of each node's asks about each line are the same
pub overtaken_packets : (core : Core) (place k m line : ℕ) → IsWellFormed core → IsTidy core → line < core.size.lines
    → packets_of (overtaken core place k) m line ≡ packets_of core m line
overtaken_packets core place k m line well tidy inside = elim (cases_lt place (length core.lanes)) [
  | inl within ↦
      let q = is_about m line in
      let lane = brought k (lane_at core place) in
      let same = brought_same q k (lane_at core place) (few_in_lane core place m line well tidy within inside) in
      packets_are (overtaken core place k) m line
      ∙ (ap (λ (ls : List Letter). flat_map (waits_in q) core.parts ++ ls) (flat_same (filter q) core.lanes place [] lane within same)
      ∙ sym (packets_are core m line))
  | inr past ↦
      ap (λ (lanes : List (List Letter)). packets_of (record core { lanes = lanes }) m line) (set_past core.lanes place (brought k (lane_at core place)) past)
]

pub overtaken_tidy : (core : Core) (place k : ℕ) → IsWellFormed core → IsTidy core → IsTidy (overtaken core place k)
overtaken_tidy core place k well tidy n line lt inside = grind (arith, overtaken_packets)
