-- What each kind of step does to the words of a lane and to what its ends know of it.
use Rattle.std.proofs.Common.{◌≡◌, ◌≢◌, ℕ, zero, suc, ◌+◌, ◌-◌, ◌<◌, ◌≤◌, inl, inr, Bool, true, false, eqb, List, [], ◌∷◌, ◌++◌, length, get_or, set, take}
use Rattle.std.proofs.Common.{Some, refl, sym, ap, subst, ◌∙◌, arith}
use Rattle.std.proofs.lemmas.Bool.{cases_lt, eqb-true, eqb-false, ne_eqb}
use Rattle.std.proofs.lemmas.{List.{length-take-le, length_push, get_or-take}, Option.{slice_get_within}}
use Rattle.std.specs.Prelude.{slice_get}
use Rattle.sci_packets.specs.{declared.packet.Packet.{Packet}, Spelling.{IsPacket, words_of}}
use Rattle.sci_packets.proofs.WordLaws.{few_words, first_word-above}
use Rattle.sci_lanes.specs.{declared.view.{Outbound.{Outbound}, Inbound.{Inbound}}, Cells.{cell_place, word_at}}
use Rattle.sci_lanes.specs.Shown.{Fits}
use Rattle.sci_lanes.specs.Knowing.{looked_out, looked_in, filled_out, read_in, published_out, freed_in, found_first}
use Rattle.sci_lanes.proofs.TableWords.{one_more, other_lane, other_cell, other_index, same_cell, stored_else, stored_here}
use Rattle.sci_core.proofs.Basics.Options.{at_end}

-- ---- other words in place of these

-- They are the same in each full cell, in the first words of the others, and in what was filled and found.
pub record Agrees (words others : List ℕ) (lane : ℕ) (packets : List Packet) (o : Outbound) (i : Inbound) : Type 0 where
  pub full : (k j : ℕ) → k < length packets → j < 11 → word_at others lane (i.taken + k) j ≡ word_at words lane (i.taken + k) j
  pub empty : (k : ℕ) → length packets ≤ k → k < 4 → word_at others lane (i.taken + k) 0 ≡ word_at words lane (i.taken + k) 0
  pub filled : (j : ℕ) → j < length o.filled → word_at others lane o.sent (suc j) ≡ word_at words lane o.sent (suc j)
  pub found : (j : ℕ) → j < length i.found → word_at others lane i.taken j ≡ word_at words lane i.taken j

pub below_eleven : {words : List ℕ} {lane : ℕ} {packets : List Packet} {o : Outbound} {i : Inbound} (f : Fits words lane packets o i) (k j : ℕ) (p : Packet)
    → slice_get packets k ≡ Some p → j < length (words_of p) → j < 11
below_eleven f k j p e lt = let few = few_words p (f.good k p e) in omega arith

pub agreeing : (words others : List ℕ) (lane : ℕ) (packets : List Packet) (o : Outbound) (i : Inbound) → Agrees words others lane packets o i
    → Fits words lane packets o i → Fits others lane packets o i
agreeing words others lane packets o i a f = record {
  good = f.good;
  counted = f.counted;
  room = f.room;
  full = λ k j p e lt. a.full k j (slice_get_within packets k p e) (below_eleven f k j p e lt) ∙ f.full k j p e lt;
  empty = λ k le lt. a.empty k le lt ∙ f.empty k le lt;
  vacant = f.vacant;
  unfilled = f.unfilled;
  few_filled = f.few_filled;
  filled = λ j lt. a.filled j lt ∙ f.filled j lt;
  few_found = f.few_found;
  there = f.there;
  found = λ j lt. a.found j lt ∙ f.found j lt;
}

-- a store into a cell of another lane
pub stored_elsewhere : (words : List ℕ) (lane other turn index value : ℕ) (packets : List Packet) (o : Outbound) (i : Inbound) → other ≢ lane → index < 11
    → Fits words other packets o i → Fits (set words (cell_place lane turn + index) value) other packets o i
stored_elsewhere words lane other turn index value packets o i apart few f =
    agreeing words (set words (cell_place lane turn + index) value) other packets o i
    (record {
      full = λ k j lt less. stored_else words (cell_place lane turn + index) (cell_place other (i.taken + k) + j) value
          (other_lane lane other turn (i.taken + k) index j apart few less);
      empty = λ k le lt. stored_else words (cell_place lane turn + index) (cell_place other (i.taken + k) + 0) value
          (other_lane lane other turn (i.taken + k) index 0 apart few (omega arith));
      filled = λ j lt. let most = f.few_filled in
          stored_else words (cell_place lane turn + index) (cell_place other o.sent + suc j) value
          (other_lane lane other turn o.sent index (suc j) apart few (omega arith));
      found = λ j lt. let most = f.few_found in
          stored_else words (cell_place lane turn + index) (cell_place other i.taken + j) value
          (other_lane lane other turn i.taken index j apart few (omega arith));
    })
    f

-- ---- what is known

-- what the sender knows, in place of what it knew
sender_knows : {words : List ℕ} {lane : ℕ} {packets : List Packet} {o : Outbound} {i : Inbound} (f : Fits words lane packets o i) (vacant : Bool)
    (filled : List ℕ) → (vacant ≡ true → length packets < 4) → (vacant ≡ false → filled ≡ []) → length filled < 11
    → ((j : ℕ) → j < length filled → word_at words lane o.sent (suc j) ≡ get_or filled j 0)
    → Fits words lane packets (record { sent = o.sent; vacant = vacant; filled = filled }) i
sender_knows f vacant filled room none few same = grind arith

-- and the receiver
receiver_knows : {words : List ℕ} {lane : ℕ} {packets : List Packet} {o : Outbound} {i : Inbound} (f : Fits words lane packets o i) (found : List ℕ)
    → length found ≤ 11 → (0 < length found → 0 < length packets) → ((j : ℕ) → j < length found → word_at words lane i.taken j ≡ get_or found j 0)
    → Fits words lane packets o (record { taken = i.taken; found = found })
receiver_knows f found few there same = grind arith

-- fewer words filled
forget_filled : (words : List ℕ) (lane n : ℕ) (packets : List Packet) (o : Outbound) (i : Inbound) → n ≤ length o.filled → Fits words lane packets o i
    → Fits words lane packets (record o { filled = take n o.filled }) i
forget_filled words lane n packets o i le f = grind (arith, length-take-le, sender_knows, get_or-take)

-- one word more filled
more_filled : (words : List ℕ) (lane word : ℕ) (packets : List Packet) (o : Outbound) (i : Inbound) → o.vacant ≡ true → length o.filled < 10
    → word_at words lane o.sent (suc (length o.filled)) ≡ word
    → Fits words lane packets o i → Fits words lane packets (record o { filled = o.filled ++ word ∷ [] }) i
more_filled words lane word packets o i vacant few here f =
    let count : length (o.filled ++ word ∷ []) ≡ length o.filled + 1 = length_push o.filled word in
    sender_knows f o.vacant (o.filled ++ word ∷ []) f.vacant (λ not. cc) (omega arith)
    (one_more (λ j. word_at words lane o.sent (suc j)) o.filled word here f.filled)

-- fewer words found
forget_found : (words : List ℕ) (lane n : ℕ) (packets : List Packet) (o : Outbound) (i : Inbound) → n ≤ length i.found → Fits words lane packets o i
    → Fits words lane packets o (record i { found = take n i.found })
forget_found words lane n packets o i le f = grind (arith, length-take-le, receiver_knows, get_or-take)

-- one word more found
more_found : (words : List ℕ) (lane word : ℕ) (packets : List Packet) (o : Outbound) (i : Inbound) → 0 < length packets → length i.found < 11
    → word_at words lane i.taken (length i.found) ≡ word
    → Fits words lane packets o i → Fits words lane packets o (record i { found = i.found ++ word ∷ [] })
more_found words lane word packets o i some few here f =
    let count : length (i.found ++ word ∷ []) ≡ length i.found + 1 = length_push i.found word in
    receiver_knows f (i.found ++ word ∷ []) (omega arith) (λ lt. some) (one_more (λ j. word_at words lane i.taken j) i.found word here f.found)

-- ---- looks

first_empty : {words : List ℕ} {lane : ℕ} {packets : List Packet} {o : Outbound} {i : Inbound} (f : Fits words lane packets o i) (k : ℕ) → length packets ≤ k
    → k < 4 → (turn : ℕ) → turn ≡ i.taken + k → word_at words lane turn 0 ≡ 0
first_empty {words = words} {lane = lane} f k le lt turn is = ap (λ (t : ℕ). word_at words lane t 0) is ∙ f.empty k le lt

pub words_some : (p : Packet) → 0 < length (words_of p)
unfolding words_of
words_some p = omega arith

-- the first word of the oldest packet is not 0
pub first_full : (words : List ℕ) (lane : ℕ) (packets : List Packet) (o : Outbound) (i : Inbound) → Fits words lane packets o i → 0 < length packets
    → 0 < word_at words lane i.taken 0
first_full words lane [] o i f some = absurd (omega arith)
first_full words lane (p ∷ packets) o i f some =
    let here : word_at words lane (i.taken + 0) 0 ≡ get_or (words_of p) 0 0 = f.full 0 0 p refl (omega (arith, words_some p)) in
    let turn : i.taken + 0 ≡ i.taken = omega arith in
    let above = first_word-above p in
    let same : word_at words lane i.taken 0 ≡ get_or (words_of p) 0 0 = ap (λ (t : ℕ). word_at words lane t 0) (sym turn) ∙ here in
    omega arith

-- a sender's next cell is full exactly if its lane has four packets
pub sender_finds_empty : (words : List ℕ) (lane : ℕ) (packets : List Packet) (o : Outbound) (i : Inbound) → Fits words lane packets o i → length packets < 4
    → word_at words lane o.sent 0 ≡ 0
sender_finds_empty words lane packets o i f less = first_empty f (length packets) (omega arith) less o.sent f.counted

pub sender_finds_full : (words : List ℕ) (lane : ℕ) (packets : List Packet) (o : Outbound) (i : Inbound) → Fits words lane packets o i → length packets ≡ 4
    → 0 < word_at words lane o.sent 0
sender_finds_full words lane packets o i f four = grind (arith, same_cell, first_full)

pub out_looked : (words : List ℕ) (lane : ℕ) (packets : List Packet) (o : Outbound) (i : Inbound) → Fits words lane packets o i
    → Fits words lane packets (looked_out (word_at words lane o.sent 0) o) i
out_looked words lane packets o i f =
    let most = f.room in
    sender_knows f (looked_out (word_at words lane o.sent 0) o).vacant o.filled
    (λ is. elim (cases_lt (length packets) 4) [
      | inl less ↦ less
      | inr le ↦ (let full = sender_finds_full words lane packets o i f (omega arith) in let zero = eqb-true (word_at words lane o.sent 0) 0 is in
          absurd (omega arith))
    ])
    (λ not. nothing_filled f.unfilled
    (λ is. not_vacant (word_at words lane o.sent 0) (sender_finds_empty words lane packets o i f (f.vacant is)) not))
    f.few_filled f.filled
  where
    not_vacant : (word : ℕ) → word ≡ 0 → eqb word 0 ≡ false → ⊥
    not_vacant word e not = eqb-false word 0 not e

    nothing_filled : {vacant : Bool} {filled : List ℕ} → (vacant ≡ false → filled ≡ []) → (vacant ≡ true → ⊥) → filled ≡ []
    nothing_filled {vacant = true} h k = absurd (k refl)
    nothing_filled {vacant = false} h k = h refl

-- ---- the other steps

pub in_looked : (words : List ℕ) (lane : ℕ) (packets : List Packet) (o : Outbound) (i : Inbound) (sure : Bool) → (sure ≡ true → 0 < length packets)
    → Fits words lane packets o i → Fits words lane packets o (looked_in sure (word_at words lane i.taken 0) i)
in_looked words lane packets o i sure there f = by_word sure there (word_at words lane i.taken 0) refl
  where
    none : Fits words lane packets o (record i { found = [] })
    none = forget_found words lane 0 packets o i (omega arith) f

    some : (word : ℕ) → word_at words lane i.taken 0 ≡ suc word → 0 < length packets
    some word is = elim (cases_lt 0 (length packets)) [
      | inl lt ↦ lt
      | inr le ↦ (let empty = first_empty f 0 le (omega arith) i.taken (omega arith) in absurd (omega arith))
    ]

    by_word : (s : Bool) → (s ≡ true → 0 < length packets) → (word : ℕ) → word_at words lane i.taken 0 ≡ word
        → Fits words lane packets o (record i { found = found_first s word })
    by_word true full zero is = more_found words lane 0 packets o (record i { found = [] }) (full refl) (omega arith) is none
    by_word false full zero is = none
    by_word s full (suc word) is =
        rw (ne_eqb (suc word) 0 (λ e. omega arith)) (more_found words lane (suc word) packets o (record i { found = [] }) (some word is) (omega arith) is none)

pub out_filled : (words : List ℕ) (lane index word : ℕ) (packets : List Packet) (o : Outbound) (i : Inbound) → o.vacant ≡ true → 0 < index → index < 11
    → index ≤ length o.filled + 1
    → cell_place lane o.sent + index < length words
    → Fits words lane packets o i → Fits (set words (cell_place lane o.sent + index) word) lane packets (filled_out index word o) i
out_filled words lane index word packets o i vacant above few next within f =
    let place = cell_place lane o.sent + index in
    let others = set words place word in
    let less = f.vacant vacant in
    let counted = f.counted in
    let count : length (take (index - 1) o.filled) ≡ index - 1 = length-take-le (index - 1) o.filled (omega arith) in
    let before : Fits words lane packets (record o { filled = take (index - 1) o.filled }) i =
    forget_filled words lane (index - 1) packets o i (omega arith) f in
    let kept : Fits others lane packets (record o { filled = take (index - 1) o.filled }) i =
    agreeing words others lane packets (record o { filled = take (index - 1) o.filled }) i
    (record {
      full = λ k j lt small. stored_else words place (cell_place lane (i.taken + k) + j) word
          (other_cell lane o.sent (i.taken + k) index j (λ e. omega arith) few small);
      empty = λ k le lt. stored_else words place (cell_place lane (i.taken + k) + 0) word
          (other_index lane o.sent (i.taken + k) index 0 (λ e. omega arith) few (omega arith));
      filled = λ j lt. stored_else words place (cell_place lane o.sent + suc j) word
          (other_index lane o.sent o.sent index (suc j) (λ e. omega arith) few (omega arith));
      found = λ j lt. let there = f.there (omega arith) in let most = f.few_found in
          stored_else words place (cell_place lane i.taken + j) word (other_cell lane o.sent i.taken index j (λ e. omega arith) few (omega arith));
    })
    before in
    let at : suc (length (take (index - 1) o.filled)) ≡ index = omega arith in
    more_filled others lane word packets (record o { filled = take (index - 1) o.filled }) i vacant (omega arith)
    (ap (λ (k : ℕ). word_at others lane o.sent k) at ∙ stored_here words place word within) kept

pub in_read : (words : List ℕ) (lane index : ℕ) (packets : List Packet) (o : Outbound) (i : Inbound) → 0 < index → index < 11 → index ≤ length i.found
    → Fits words lane packets o i → Fits words lane packets o (read_in index (word_at words lane i.taken index) i)
in_read words lane index packets o i above few next f =
    let count : length (take index i.found) ≡ index = length-take-le index i.found next in
    more_found words lane (word_at words lane i.taken index) packets o (record i { found = take index i.found }) (f.there (omega arith)) (omega arith)
    (ap (λ (k : ℕ). word_at words lane i.taken k) count)
    (forget_found words lane index packets o i next f)

-- the packet leaves the lane, and its cell is empty
pub in_freed : (words : List ℕ) (lane : ℕ) (p : Packet) (packets : List Packet) (o : Outbound) (i : Inbound) → cell_place lane i.taken + 0 < length words
    → Fits words lane (p ∷ packets) o i → Fits (set words (cell_place lane i.taken + 0) 0) lane packets o (freed_in i)
in_freed words lane p packets o i within f =
    let place = cell_place lane i.taken + 0 in
    let others = set words place 0 in
    let room = f.room in
    let counted = f.counted in
    let later : (k : ℕ) → i.taken + suc k ≡ i.taken + 1 + k = λ k. omega arith in
    record {
      good = λ k q e. f.good (suc k) q e;
      counted = omega arith;
      room = omega arith;
      full = λ k j q e lt.
          let at = slice_get_within packets k q e in
          stored_else words place (cell_place lane (i.taken + 1 + k) + j) 0
          (other_cell lane i.taken (i.taken + 1 + k) 0 j (λ s. omega arith) (omega arith) (below_eleven f (suc k) j q e lt))
          ∙ (ap (λ (t : ℕ). word_at words lane t j) (sym (later k)) ∙ f.full (suc k) j q e lt);
      empty = λ k le lt. elim (cases_lt k 3) [
        | inl less ↦ stored_else words place (cell_place lane (i.taken + 1 + k) + 0) 0
            (other_cell lane i.taken (i.taken + 1 + k) 0 0 (λ s. omega arith) (omega arith) (omega arith))
            ∙ (ap (λ (t : ℕ). word_at words lane t 0) (sym (later k)) ∙ f.empty (suc k) (omega arith) (omega arith))
        | inr most ↦ ap (λ (c : ℕ). get_or others (c + 0) 0) (same_cell lane (i.taken + 1 + k) i.taken (omega arith)) ∙ stored_here words place 0 within
      ];
      vacant = λ is. let less = f.vacant is in omega arith;
      unfilled = f.unfilled;
      few_filled = f.few_filled;
      filled = λ j lt. let most = f.few_filled in
          stored_else words place (cell_place lane o.sent + suc j) 0 (other_index lane i.taken o.sent 0 (suc j) (λ s. omega arith) (omega arith) (omega arith))
          ∙ f.filled j lt;
      few_found = omega arith;
      there = λ lt. absurd (omega arith);
      found = λ j lt. absurd (omega arith);
    }

-- the packet ends the lane
pub out_published : (words : List ℕ) (lane first : ℕ) (p : Packet) (packets : List Packet) (o : Outbound) (i : Inbound) → o.vacant ≡ true → IsPacket p
    → words_of p ≡ first ∷ o.filled
    → cell_place lane o.sent + 0 < length words
    → Fits words lane packets o i → Fits (set words (cell_place lane o.sent + 0) first) lane (packets ++ p ∷ []) (published_out o) i
out_published words lane first p packets o i vacant good spelled within f =
    let place = cell_place lane o.sent + 0 in
    let others = set words place first in
    let less = f.vacant vacant in
    let counted = f.counted in
    let count : length (packets ++ p ∷ []) ≡ length packets + 1 = length_push packets p in
    record {
      good = λ k q e. elim (at_end packets p k q e) [ inl h ↦ f.good k q h.1 | inr h ↦ subst IsPacket h.1 good ];
      counted = omega arith;
      room = omega arith;
      full = λ k j q e lt. elim (at_end packets p k q e) [
        | inl h ↦ (let at = h.0 in stored_else words place (cell_place lane (i.taken + k) + j) first
            (other_cell lane o.sent (i.taken + k) 0 j (λ s. omega arith) (omega arith) (below_eleven f k j q h.1 lt)) ∙ f.full k j q h.1 lt)
        | inr h ↦ (let turn : o.sent ≡ i.taken + k = (let at = h.0 in omega arith) in
            subst (λ (t : ℕ). word_at others lane t j ≡ get_or (words_of q) j 0) turn
            (subst (λ (r : Packet). word_at others lane o.sent j ≡ get_or (words_of r) j 0) h.1
            (new_word j (subst (λ (r : Packet). j < length (words_of r)) (sym h.1) lt))))
      ];
      empty = λ k le lt. stored_else words place (cell_place lane (i.taken + k) + 0) first
          (other_cell lane o.sent (i.taken + k) 0 0 (λ s. omega arith) (omega arith) (omega arith)) ∙ f.empty k (omega arith) lt;
      vacant = λ is. cc;
      unfilled = λ not. refl;
      few_filled = omega arith;
      filled = λ j lt. absurd (omega arith);
      few_found = f.few_found;
      there = λ lt. omega arith;
      found = λ j lt. let there = f.there (omega arith) in let most = f.few_found in
          stored_else words place (cell_place lane i.taken + j) first (other_cell lane o.sent i.taken 0 j (λ s. omega arith) (omega arith) (omega arith))
          ∙ f.found j lt;
    }
  where
    new_word : (j : ℕ) → j < length (words_of p) → word_at (set words (cell_place lane o.sent + 0) first) lane o.sent j ≡ get_or (words_of p) j 0
    new_word zero lt = stored_here words (cell_place lane o.sent + 0) first within ∙ ap (λ (ws : List ℕ). get_or ws 0 0) (sym spelled)
    new_word (suc j) lt =
        let size : length (words_of p) ≡ suc (length o.filled) = ap (λ (ws : List ℕ). length ws) spelled in
        let most = f.few_filled in
        stored_else words (cell_place lane o.sent + 0) (cell_place lane o.sent + suc j) first
        (other_index lane o.sent o.sent 0 (suc j) (λ s. omega arith) (omega arith) (omega arith))
        ∙ (f.filled j (omega arith) ∙ ap (λ (ws : List ℕ). get_or ws (suc j) 0) (sym spelled))
