-- The laws of the spellings.
use Rattle.std.proofs.Common.{◌≡◌, ℕ, ◌<◌, ◌≤◌, List, [], ◌++◌, length, get_or, take, drop, sym, ap, subst, ◌∙◌, arith, inl, inr}
use Rattle.std.proofs.lemmas.Bool.{cases_lt}
use Rattle.std.proofs.lemmas.List.{append-nil, append_cancel_left, ext_get_or, get_or-take, length-take-le, take-append-drop}
use Rattle.std.proofs.lemmas.List.Concat.{flat_map-append}
use Rattle.sci_packets.specs.{declared.packet.Packet.{Packet}, Fields.{field, word_bytes}}
use Rattle.sci_packets.specs.Spelling.{IsPacket, Spells, SpellsInWords, spelling, words_of}
use Rattle.sci_packets.proofs.{Packets.{spelling_cancel}, WordLaws.{first_word-above, word_bytes-words_of}}

pub no_prefix : (p q : Packet) (bytes more : List ℕ) → Spells p bytes → Spells q (bytes ++ more) → more ≡ []
no_prefix p q bytes more h k =
    let e : spelling p ++ more ≡ spelling q ++ [] = ap (λ (b : List ℕ). b ++ more) (sym h.spelled_so) ∙ k.spelled_so ∙ sym (append-nil (spelling q)) in
    (spelling_cancel p q more [] h.packet k.packet e).1

pub one : (p q : Packet) (bytes : List ℕ) → Spells p bytes → Spells q bytes → p ≡ q
one p q bytes h k =
    (spelling_cancel p q [] [] h.packet k.packet (ap (λ (b : List ℕ). b ++ []) (sym h.spelled_so ∙ k.spelled_so))).0

pub above_zero : (p : Packet) (words : List ℕ) → SpellsInWords p words → 0 < get_or words 0 0
above_zero p words h = subst (λ (w : List ℕ). 0 < get_or w 0 0) (sym h.spelled_so) (first_word-above p)

-- the words of a packet and others, as bytes
bytes_and : (p : Packet) (more : List ℕ) → IsPacket p → word_bytes (words_of p ++ more) ≡ spelling p ++ word_bytes more
bytes_and p more h = flat_map-append (field 8) (words_of p) more ∙ ap (λ (b : List ℕ). b ++ word_bytes more) (word_bytes-words_of p h)

pub back : (p q : Packet) (more others : List ℕ) → IsPacket p → IsPacket q → words_of p ++ more ≡ words_of q ++ others → (p ≡ q) × (more ≡ others)
back p q more others h k e =
    let bytes : spelling p ++ word_bytes more ≡ spelling q ++ word_bytes others =
    sym (bytes_and p more h) ∙ ap (λ (w : List ℕ). word_bytes w) e ∙ bytes_and q others k in
    let same = (spelling_cancel p q (word_bytes more) (word_bytes others) h k bytes).0 in
    (same, append_cancel_left (words_of q) more others (ap (λ (x : Packet). words_of x ++ more) (sym same) ∙ e))

-- if the shorter packet's words begin the longer one's
one_by_shorter : (p q : Packet) → IsPacket p → IsPacket q → length (words_of p) ≤ length (words_of q)
    → ((i : ℕ) → i < length (words_of p) → i < length (words_of q) → get_or (words_of p) i 0 ≡ get_or (words_of q) i 0) → p ≡ q
one_by_shorter p q h k le agree =
    let n = length (words_of p) in
    let long : length (words_of p) ≡ length (take n (words_of q)) = sym (length-take-le n (words_of q) le) in
    let front : words_of p ≡ take n (words_of q) =
    ext_get_or 0 (words_of p) (take n (words_of q)) long (λ i lt. agree i lt (omega arith) ∙ sym (get_or-take n (words_of q) i 0 lt)) in
    let whole : words_of p ++ drop n (words_of q) ≡ words_of q ++ [] =
    ap (λ (w : List ℕ). w ++ drop n (words_of q)) front ∙ take-append-drop n (words_of q) ∙ sym (append-nil (words_of q)) in
    (back p q (drop n (words_of q)) [] h k whole).0

pub one_by_words : (p q : Packet) → IsPacket p → IsPacket q
    → ((i : ℕ) → i < length (words_of p) → i < length (words_of q) → get_or (words_of p) i 0 ≡ get_or (words_of q) i 0) → p ≡ q
one_by_words p q h k agree =
    elim (cases_lt (length (words_of p)) (length (words_of q))) [
      | inl lt ↦ one_by_shorter p q h k (omega arith) agree
      | inr le ↦ sym (one_by_shorter q p k h le (λ i a b. sym (agree i b a)))
    ]
