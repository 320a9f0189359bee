-- Words that are those of a packet.
use Rattle.std.proofs.Common.{◌≡◌, ℕ, ◌+◌, ◌<◌, ◌≤◌, List, [], ◌∷◌, ◌++◌, length, get_or, set, take, drop, refl, sym, ap, subst, ◌∙◌, arith, inl, inr}
use Rattle.std.proofs.{Math.Seq.{take-append_seam}, lemmas.List.{ext_get_or, take_more_set, take-take}}
use Rattle.std.specs.Prelude.{Result, Ok, Err}
use Rattle.sci_packets.specs.declared.{fault.PacketFault.{PacketFault}, packet.Packet.{Packet}}
use Rattle.sci_packets.specs.Spelling.{CountsWords, SpellsInWords, words_of}
use Rattle.sci_packets.proofs.WordLaws.{count_of}
use Rattle.sci_cache.specs.Cache.{Letter}
use Rattle.sci_lanes.specs.Telling.{IsFront}

-- ---- filling

-- the first word and those after it
pub whole_words : (words rest ws : List ℕ) (n : ℕ) → length words ≡ n + 1 → ws ≡ words ++ rest → get_or ws 0 0 ∷ take n (drop 1 ws) ≡ words
whole_words [] rest ws n long is = absurd (omega arith)
whole_words (w ∷ words) rest ws n long is =
    let count : n ≡ length words = omega arith in
    subst (λ (xs : List ℕ). get_or xs 0 0 ∷ take n (drop 1 xs) ≡ w ∷ words) (sym is)
    (subst (λ (k : ℕ). w ∷ take k (words ++ rest) ≡ w ∷ words) (sym count) (ap (λ (xs : List ℕ). w ∷ xs) (take-append_seam words rest)))

-- ---- reading

-- a word more is found
pub found_more : (found words : List ℕ) (index word : ℕ) → index < length words → found ≡ take index words
    → take index found ++ word ∷ [] ≡ take (index + 1) (set words index word)
found_more found words index word lt is = grind (arith, take-take, take_more_set)

-- the words that were found are all those of the oldest packet
pub front_spelled : (lane : List Letter) (found : List ℕ) (first count : ℕ) → (front : IsFront lane found) → length found ≡ count → 1 ≤ count
    → get_or found 0 0 ≡ first → CountsWords first count → SpellsInWords front.packet found
front_spelled lane found first count front long some begins counts = go (words_of front.packet) refl
  where
    q : Packet
    q = front.packet

    go : (ws : List ℕ) → words_of q ≡ ws → SpellsInWords q found
    go [] is = absurd (let e = ap (λ (xs : List ℕ). length xs) is in elim (count_of q front.good) [ inl two ↦ omega arith | inr eleven ↦ omega arith ])
    go (w ∷ rest) is =
        let above : 0 < length (words_of q) = let e = ap (λ (xs : List ℕ). length xs) is in omega arith in
        let same : w ≡ first = sym (sym begins ∙ (front.agrees 0 (omega arith) above ∙ ap (λ (xs : List ℕ). get_or xs 0 0) is)) in
        let whole : SpellsInWords q (first ∷ rest) = record { packet = front.good; spelled_so = ap (λ (v : ℕ). v ∷ rest) (sym same) ∙ sym is } in
        let counted : count ≡ length (words_of q) = counts q rest whole ∙ ap (λ (xs : List ℕ). length xs) whole.spelled_so in
        record {
          packet = front.good;
          spelled_so = ext_get_or 0 found (words_of q) (long ∙ counted) (λ k lt. front.agrees k lt (omega arith));
        }

-- what is read at the beginning of the words, if those of a packet stand there
abbrev pub Only : List ℕ → Result (Packet × ℕ) PacketFault → Type 0
Only words result = (p : Packet) (k : ℕ) → k ≤ length words → SpellsInWords p (take k words) → result ≡ Ok (p, k)

-- they are decoded
pub never_refused : (q : Packet) (count : ℕ) (words found : List ℕ) (e : PacketFault) (result : Result (Packet × ℕ) PacketFault) → SpellsInWords q found
    → found ≡ take count words → count ≤ length words → Only words result → result ≡ Err e → ⊥
never_refused q count words found e result spelled is within only fails = grind arith

-- as that packet
pub only_that : (q packet : Packet) (count k : ℕ) (words found : List ℕ) (result : Result (Packet × ℕ) PacketFault) → SpellsInWords q found
    → found ≡ take count words → count ≤ length words → Only words result → result ≡ Ok (packet, k) → SpellsInWords packet found
only_that q packet count k words found result spelled is within only read = grind arith
