-- Lists of eight words, and what the words of a packet are.
use Rattle.std.proofs.Common.{◌≡◌, ℕ, ◌+◌, ◌*◌, ◌/◌, ◌<◌, ◌^◌, ◌==◌, ◌∷◌, ◌++◌, [], List, length, drop, get_or, Option, Some, None, refl, sym, ap, ◌∙◌}
use Rattle.std.proofs.{Common.{arith}, lemmas.List.{append-nil}}
use Rattle.std.specs.Prelude.{if◌then◌else◌, IfSome, ◌≤◌, Bool, true, false}
use lib.Dec.{eqb}
use mir.Val.{bool_byte}
use Rattle.sci_words.specs.declared.stamped.Stamped.{Stamped}
use Rattle.sci_packets.specs.{declared.packet.Packet.{Packet}, Fields.{contents_words}}
use Rattle.sci_packets.specs.Spelling.{IsContents, IsPacket, header_of, first_word, second_word, words_of}
use Rattle.sci_packets.specs.Table.{parts_of}
use Rattle.sci_packets.proofs.Packets.{header_fits}
use Rattle.sci_c_values.specs.{declared.packet.SciPacket.{SciPacket}, Packet.{SaysPacket, first_of, second_of}}

-- the words of a line, one by one
abbrev pub eight_from : ℕ → List ℕ → List ℕ
eight_from k xs =
    get_or xs k 0 ∷ get_or xs (k + 1) 0 ∷ get_or xs (k + 2) 0 ∷ get_or xs (k + 3) 0 ∷ get_or xs (k + 4) 0 ∷ get_or xs (k + 5) 0 ∷ get_or xs (k + 6) 0
    ∷ get_or xs (k + 7) 0 ∷ []

eight_first : (xs more : List ℕ) → length xs ≡ 8 → eight_from 0 (xs ++ more) ≡ xs
eight_first (a ∷ b ∷ c ∷ d ∷ f ∷ g ∷ h ∷ i ∷ []) more e = refl
eight_first (a ∷ []) more e = absurd (omega arith)
eight_first _ more e = absurd (omega arith)

pub eight : (xs : List ℕ) → length xs ≡ 8 → eight_from 0 xs ≡ xs
eight xs e = ap (λ (ys : List ℕ). eight_from 0 ys) (sym (append-nil xs)) ∙ eight_first xs [] e

-- what stands behind the header
behind : (o : Option Stamped) (c : SciPacket) (f s count : ℕ) (zeros : List ℕ) → IfSome o IsContents → count ≡ length (f ∷ s ∷ contents_words o)
    → c.has_contents ≡ bool_byte (eqb count 11) → c.version ≡ get_or (f ∷ s ∷ (contents_words o ++ drop count zeros)) 2 0
    → c.words ≡ eight_from 3 (f ∷ s ∷ (contents_words o ++ drop count zeros))
    → (if c.has_contents == 0 then [] else c.version ∷ c.words) ≡ contents_words o
behind None c f s count zeros ok counted flag version words = rw flag (rw counted refl)
behind (Some stamped) c f s count zeros ok counted flag version words =
    let eleven : count ≡ 11 = omega (arith, counted, ok.width) in
    rw flag (rw eleven (ap (λ (v : ℕ). v ∷ c.words) version ∙ ap (λ (ws : List ℕ). stamped.version ∷ ws) (words ∙
    eight_first stamped.line (drop count zeros) ok.width)))

flag_low : (b : Bool) (n : ℕ) → n ≡ bool_byte b → n ≤ 1
flag_low true n e = omega (arith, e)
flag_low false n e = omega (arith, e)

joined : {a b a' b' : ℕ} {r r' : List ℕ} → a ≡ a' → b ≡ b' → r ≡ r' → a ∷ b ∷ r ≡ a' ∷ b' ∷ r'
joined p q r = cc

pub says_out : (c : SciPacket) (p : Packet) (to zeros : List ℕ) (count : ℕ) → IsPacket p → to ≡ words_of p ++ drop count zeros → count ≡ length (words_of p)
    → first_of c ≡ get_or to 0 0 → second_of c ≡ get_or to 1 0 → c.line < 2 ^ 42 → c.has_contents ≡ bool_byte (eqb count 11)
    → c.version ≡ get_or to 2 0 → c.words ≡ eight_from 3 to → SaysPacket c p
unfolding words_of
says_out c p to zeros count packet written counted first second low flag version words =
    let f = first_word (header_of p) in let s = second_word (header_of p) in let o = (parts_of p.body).contents in
    let one : first_of c ≡ f = first ∙ ap (λ (ws : List ℕ). get_or ws 0 0) written in
    let two : second_of c ≡ s = second ∙ ap (λ (ws : List ℕ). get_or ws 1 0) written in
    let rest = behind o c f s count zeros packet.contents counted flag (version ∙ ap (λ (ws : List ℕ). get_or ws 2 0) written)
    (words ∙ ap (λ (ws : List ℕ). eight_from 3 ws) written) in
    record {
      within = record { line = low; flag = flag_low (eqb count 11) c.has_contents flag };
      words = record { packet = packet; spelled_so = joined one two rest };
    }

-- the offset is a multiple of 64
pub second_again : (p : Packet) (to zeros : List ℕ) (count offset identifier : ℕ) → IsPacket p → to ≡ words_of p ++ drop count zeros
    → get_or to 1 0 ≡ offset * 2 ^ 16 + identifier → identifier < 2 ^ 16 → offset / 64 * 64 * 2 ^ 16 + identifier ≡ get_or to 1 0
unfolding words_of
second_again p to zeros count offset identifier packet written parted low =
    let h = header_of p in let fits = header_fits p packet in
    let word : get_or to 1 0 ≡ p.line * 64 * 2 ^ 16 + h.identifier = ap (λ (ws : List ℕ). get_or ws 1 0) written in
    omega (arith, word, parted, low, fits.identifier)
