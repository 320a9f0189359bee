-- Reading the packets of a lane off the words of the table.
use Rattle.std.proofs.Common.{◌≡◌, ◌≢◌, ℕ, ◌+◌, ◌-◌, ◌*◌, ◌/◌, ◌%◌, ◌<◌, ◌≤◌, inl, inr, Bool, true, false, List, [], ◌∷◌, ◌++◌, length, map, take, drop}
use Rattle.std.proofs.{Common.{get_or, Some, sym, ap, subst, ◌∙◌, arith}, Math.Nat.{mod-lt}}
use Rattle.std.proofs.lemmas.Bool.{cases_lt}
use Rattle.std.proofs.lemmas.List.{ext_get_or, get_or-take, get_or-drop, length-take-le, length-drop, length_push, get_or_append_left, get_or_push}
use Rattle.std.proofs.lemmas.{List.{get_or_read, take_more, take_all}, Option.{slice_get_cases, get_or_from_slice_get}}
use Rattle.std.specs.Prelude.{Vec, slice_get}
use Rattle.sci_packets.specs.{declared.packet.Packet.{Packet}, Spelling.{SpellsInWords, words_of}}
use Rattle.sci_packets.proofs.WordLaws.{few_words, first_word-above}
use Rattle.sci_cache.specs.Cache.{Letter, letter_of}
use Rattle.sci_lanes.specs.declared.view.{Outbound.{Outbound}, Inbound.{Inbound}}
use Rattle.sci_lanes.specs.{Cells.{cell_place, lane_count, word_at}, Shown.{Fits}}
use Rattle.sci_lanes.specs.Gathering.{AreLanes, HaveInboxTurns, IsPacketAt}
use Rattle.sci_lanes.proofs.{LaneSteps.{words_some}, Inside.{inbox_within}}

-- the packet at a place is spelled by the words from there on
spelled_there : (words : List ℕ) (place : ℕ) (packet : Packet) → IsPacketAt words place packet
    → (length (words_of packet) ≤ length (drop place words)) × SpellsInWords packet (take (length (words_of packet)) (drop place words))
spelled_there words place packet at =
    let count = length (words_of packet) in
    let within = at.within in
    let rest = length-drop place words in
    let le : length (words_of packet) ≤ length (drop place words) = omega arith in (
      le,
      record {
        packet = at.good;
        spelled_so = ext_get_or 0 (take (length (words_of packet)) (drop place words)) (words_of packet)
            (length-take-le (length (words_of packet)) (drop place words) le) (λ k lt.
            let less : k < length (words_of packet) = subst (λ (n : ℕ). k < n) (length-take-le (length (words_of packet)) (drop place words) le) lt in
            get_or-take (length (words_of packet)) (drop place words) k 0 less ∙ (get_or-drop place words k 0 ∙ at.same k less));
      },
    )

-- the same where they are cut at the end
pub spelled_here : (words : List ℕ) (place : ℕ) (packet : Packet) → IsPacketAt words place packet
    → (length (words_of packet) ≤ length (take (length words - place) (drop place words)))
    × SpellsInWords packet (take (length (words_of packet)) (take (length words - place) (drop place words)))
spelled_here words place packet at = grind (arith, length-drop, take_all, spelled_there)

module _ (words : List ℕ) (lane turn k place : ℕ) (shown : List Packet) (o : Outbound) (i : Inbound) (f : Fits words lane shown o i)
    (turn_is : turn ≡ i.taken % 4) (less : k < 4) (place_is : place ≡ (lane * 4 + (turn % 4 + k) % 4) * 11) (inside : (lane + 1) * 44 ≤ length words) where
  here : place ≡ cell_place lane (i.taken + k)
  unfolding cell_place
  here = omega (arith, turn_is, place_is)

  at_word : (j : ℕ) → get_or words (place + j) 0 ≡ word_at words lane (i.taken + k) j
  at_word j = ap (λ (p : ℕ). get_or words (p + j) 0) here

  first : get_or words place 0 ≡ word_at words lane (i.taken + k) 0
  first = let zero_more : place ≡ place + 0 = omega arith in ap (λ (p : ℕ). get_or words p 0) zero_more ∙ at_word 0

  -- an empty cell stands after all packets
  pub none_there : length shown ≤ k → get_or words place 0 ≡ 0
  none_there le = first ∙ f.empty k le less

  -- the packet in a full cell
  pub there : (packet : Packet) → slice_get shown k ≡ Some packet → (get_or words place 0 ≢ 0) × IsPacketAt words place packet
  there packet is =
      let above = first_word-above packet in
      let same : word_at words lane (i.taken + k) 0 ≡ get_or (words_of packet) 0 0 = f.full k 0 packet is (words_some packet) in
      let few = few_words packet (f.good k packet is) in (
        (λ zero. omega (arith, above, same, zero, first)),
        record {
          good = f.good k packet is;
          within = omega arith;
          same = λ j lt. at_word j ∙ f.full k j packet is lt;
        },
      )

  -- one packet more
  pub one_more : (items new : List Packet) (result : Bool) → k ≤ length shown → items ≡ take k shown
      → (get_or words place 0 ≡ 0 → (result ≡ false) × (new ≡ items))
      → ((packet : Packet) → get_or words place 0 ≢ 0 → IsPacketAt words place packet → (result ≡ true) × (new ≡ items ++ packet ∷ []))
      → (result ≡ true → (k + 1 ≤ length shown) × (new ≡ take (k + 1) shown)) × (result ≡ false → (length shown ≤ k) × (new ≡ shown))
  one_more items new result le are empty full = elim (slice_get_cases shown k).1 [
    | inl found ↦ (
        let at = there found.0 found.2 in
        let now = full found.0 at.0 at.1 in (
          (λ is. (
            (let lt = found.1 in omega arith),
            now.1 ∙ (ap (λ (ps : List Packet). ps ++ found.0 ∷ []) are
                ∙ (ap (λ (p : Packet). take k shown ++ p ∷ []) (sym (get_or_from_slice_get shown k found.0 found.0 found.2))
                ∙ sym (take_more shown k found.0 found.1))),
          )),
          (λ is. absurd (apart (sym now.0 ∙ is))),
        ))
    | inr past ↦ (
        let now = empty (none_there past.0) in (
          (λ is. absurd (apart (sym is ∙ now.0))),
          (λ is. (past.0, now.1 ∙ (are ∙ take_all k shown past.0))),
        ))
  ]
    where
      apart : true ≡ false → ⊥
      apart e = cc

-- ---- the lanes so far

-- the number of the cell of a lane to take from
pub turn_there : {Z : Type 0} (nodes lane : ℕ) (inbox_turns : List (Vec ℕ Z)) (v : Vec ℕ Z) → 0 < nodes → lane < lane_count nodes
    → HaveInboxTurns nodes inbox_turns → v ≡ get_or inbox_turns (lane % nodes) v → lane / nodes < length v.items
turn_there nodes lane inbox_turns v some lt each is = grind (arith, mod-lt, inbox_within)

pub lanes_more : {Z : Type 0} (nodes : ℕ) (words : List ℕ) (inbox_turns : List (Vec ℕ Z)) (lanes : List (List Letter)) (v : Vec ℕ Z) (turn : ℕ)
    (letters : List Letter) → 0 < nodes → length lanes < lane_count nodes → HaveInboxTurns nodes inbox_turns
    → v ≡ get_or inbox_turns (length lanes % nodes) v → turn ≡ get_or v.items (length lanes / nodes) turn
    → ((shown : List Packet) (o : Outbound) (i : Inbound) → Fits words (length lanes) shown o i → turn ≡ i.taken % 4 → letters ≡ map letter_of shown)
    → AreLanes nodes words inbox_turns (length lanes) lanes → AreLanes nodes words inbox_turns (length (lanes ++ letters ∷ [])) (lanes ++ letters ∷ [])
lanes_more nodes words inbox_turns lanes v turn letters some less every v_is turn_is read a = grind (
  arith,
  length_push,
  cases_lt,
  get_or_append_left,
  get_or_read,
  turn_there,
  get_or_push,
)
